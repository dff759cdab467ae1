-- What a world and a recorder keep, on small examples.
use Rattle.std.specs.Prelude.{◌≡◌, List, [], ◌∷◌, map, replicate, Some, None, Ok, Err, refl}
use Rattle.std.proofs.Common.{inl, inr, lit<}
use Rattle.srm_names.specs.declared.page_msg.PageMsg.TheVariants.{Close, Left}
use Rattle.srm_names.specs.Names.{first_page}
use Rattle.srm_entries.specs.declared.fault.AgentFault.TheVariants.{Memory, Leaving}
use Rattle.srm_entries.specs.declared.entry.Entry.{Entry}
use Rattle.srm_entries.specs.declared.entry.Input.TheVariants.{Showed, AskedLeave, Noise}
use Rattle.srm_entries.specs.declared.entry.Verdict.TheVariants.{Done, Ignored, Refused}
use Rattle.srm_entries.specs.declared.cause.Cause.TheVariants.{Decode}
use Rattle.srm_codec.specs.declared.fault.DecodeFault.{DecodeFault}
use Rattle.srm_codec.specs.declared.fault.DecodeFault.TheVariants.{Short, Magic}
use Rattle.srm_codec.specs.Judging.{judge, magic_at, prefix_at}
use Rattle.srm_entries.specs.declared.state.AgentState.TheVariants.{Active}
use Rattle.srm_entries.specs.declared.state.AgentState.TheVariants as states
use Rattle.srm_entries.specs.Still.{entry_without_effects}
use Rattle.srm_entries.specs.Sample.{in_roster}
use Rattle.srm_world.specs.declared.start.Start.{Start}
use Rattle.srm_world.specs.Traces.{Journal, started}
use Rattle.srm_world.specs.Lanes.{in_lane}
use Rattle.srm_world.specs.Participants.{last_with}
use Rattle.srm_world.specs.Recording.{Grows, Records, IsHearing, HearsEach, RecordsAll, with_entry}

-- members begin at moment 0
begins : started (in_roster 0 2 4204 ∷ in_roster 1 2 4204 ∷ []) ≡ record { config = in_roster 0 2 4204; made = 0 } ∷ record { config = in_roster 1 2 4204; made = 0 } ∷ []
begins = refl

-- messages of slot 3, by slot
by_slot : map (in_lane 3 (Left 0 ∷ Close ∷ [])) (2 ∷ 3 ∷ 4 ∷ []) ≡ [] ∷ (Left 0 ∷ Close ∷ []) ∷ [] ∷ []
by_slot = refl

-- the moment of a call that failed doesn't count
counted : last_with 5 Done 9 ∷ last_with 5 (Refused Leaving) 9 ∷ [] ≡ 9 ∷ 5 ∷ []
counted = refl

-- a journal
abbrev start : Start
start = record { config = in_roster 0 2 4204; made = 3 }

abbrev shows : Entry
shows = entry_without_effects 0 7 (Showed first_page) Done None Active

abbrev leaves : Entry
leaves = entry_without_effects 0 7 AskedLeave Done None states.Leaving

abbrev journal : List Entry → Journal
journal es = record { start = start; entries = es }

-- a call before the last moment is at the last moment
grows : Grows (Some 2) (journal (shows ∷ [])) (journal (shows ∷ leaves ∷ [])) leaves
grows = record { moment = refl; grown = refl }

recorded : Records {A = Unit {0}} (Some 2) AskedLeave (λ _ _. Unit {0}) (journal (shows ∷ [])) (journal (shows ∷ leaves ∷ [])) (Ok tt)
recorded = inl (leaves, grows, refl, tt)

unrecorded : Records {A = Unit {0}} (Some 2) AskedLeave (λ _ _. Unit {0}) (journal (shows ∷ [])) (journal (shows ∷ [])) (Err Memory)
unrecorded = inr (refl, refl)

-- bytes that encode nothing, one after another: each has its entry, at the last moment that counted
abbrev noise : DecodeFault → Entry
noise fault = entry_without_effects 0 7 Noise (Ignored (Decode fault)) None Active

abbrev shown : Journal
shown = journal (shows ∷ [])

nothing_comes : IsHearing 2 shown [] (noise Short)
unfolding judge magic_at prefix_at
nothing_comes = record { moment = refl; heard = refl }

others_come : IsHearing 2 (with_entry shown (noise Short)) (replicate 4096 255) (noise Magic)
unfolding judge magic_at prefix_at
others_come = record { moment = refl; heard = refl }

both_heard : RecordsAll 2 ([] ∷ replicate 4096 255 ∷ []) shown (journal (shows ∷ noise Short ∷ noise Magic ∷ [])) (Ok tt)
both_heard = record { entries = noise Short ∷ noise Magic ∷ []; grown = refl; each = (nothing_comes, (others_come, tt)) }

-- none is left out
none_left_out : HearsEach 2 shown ([] ∷ replicate 4096 255 ∷ []) (noise Short ∷ []) → ⊥
none_left_out h = h.1

-- memory ran out at the second
one_heard : RecordsAll 2 ([] ∷ replicate 4096 255 ∷ []) shown (journal (shows ∷ noise Short ∷ [])) (Err Memory)
one_heard = (refl, record { count = 1; few = lit< tt; prefix = record { entries = noise Short ∷ []; grown = refl; each = (nothing_comes, tt) } })
