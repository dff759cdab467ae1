-- The law at worked runs: a request that was asked for, with a tick at which nothing was due, and its replay with noise in place of that tick.
use Rattle.std.specs.Prelude.{◌≡◌, ℕ, List, [], ◌∷◌, Some, None, refl}
use Rattle.srm_names.specs.Names.{named, first_page}
use Rattle.srm_names.specs.declared.page_msg.PageMsg.TheVariants.{Open, Draw}
use Rattle.srm_codec.specs.declared.datagram.Datagram.TheVariants.{Request}
use Rattle.srm_codec.specs.declared.fault.DecodeFault.TheVariants as decoding
use Rattle.srm_entries.specs.declared.entry.Entry.{Entry}
use Rattle.srm_entries.specs.declared.entry.Input.TheVariants.{Noise}
use Rattle.srm_entries.specs.declared.entry.Verdict.TheVariants.{Ignored}
use Rattle.srm_entries.specs.declared.cause.Cause.TheVariants as causes
use Rattle.srm_entries.specs.declared.state.AgentState.TheVariants.{Active}
use Rattle.srm_entries.specs.Giving.{GiveRight}
use Rattle.srm_entries.specs.Sample.{in_roster, first_stream, first_drawop, quiet, entry, draws, ticks, gives, ask_arm, gap}
use Rattle.srm_replays.specs.Law.{IsReplayOf, acting, but_noise, IsUnseen}

-- member 1 hears the second drawop, misses the first, and asks for it when its timer has expired
abbrev pub asks : Entry
asks = ticks 1 1400000 (named first_stream 1 ∷ []) [] (ask_arm 1 1 400000 ∷ []) (Request 1 (named first_stream 1) 0 ∷ [])

-- nothing was due
abbrev too_early : Entry
too_early = ticks 1 1100000 [] [] [] []

abbrev pub noise : ℕ → Entry
noise now = record (entry 1 now Noise (quiet Active)) { verdict = Ignored (causes.Decode decoding.Magic) }

abbrev done : List Entry
done = gap ∷ too_early ∷ asks ∷ []

abbrev replayed : List Entry
replayed = noise 1000000 ∷ gap ∷ noise 1300000 ∷ asks ∷ noise 1500000 ∷ []

it_replays : IsReplayOf done replayed
it_replays = refl

does_the_same : acting replayed ≡ acting done
does_the_same = refl

both_calls_act : acting done ≡ gap ∷ asks ∷ []
both_calls_act = refl

-- an idle tick is no noise: no replay of `done` has one
idle_ticks_count : but_noise done ≡ done
idle_ticks_count = refl

-- nobody can tell of the idle tick
unseen : IsUnseen too_early
unseen = record { heard = refl; sent = refl; given = λ slot. refl }

-- Where a member isn't in its roster, the law doesn't hold: after its own drawop and the opening of the page, the next Give may bring the drawop, and it may bring nothing.
abbrev opened : List Entry
opened = draws 0 1 first_drawop ∷ gives 0 1 (Some (Open first_page)) ∷ []

may_bring_it : GiveRight (in_roster 0 0 4204) opened 0 (Some (Draw first_drawop))
may_bring_it = (refl, refl, refl, refl)

may_bring_nothing : GiveRight (in_roster 0 0 4204) opened 0 None
may_bring_nothing = ((λ gone. gone), refl)
