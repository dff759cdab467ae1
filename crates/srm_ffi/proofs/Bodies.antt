-- The body of what is given is whole in front of the room: a member gives what it holds, and what it holds can be spelled, so it is short.
use Rattle.std.proofs.Common.{◌≡◌, ℕ, ◌+◌, ◌≤◌, List, [], ◌∷◌, ◌++◌, length, map, refl, ap, sym, ◌∙◌, subst, inl, inr, arith}
use Rattle.std.specs.Prelude.{Option, Some, None, Result, Ok, Err, slice_get, drop, if◌then◌else◌}
use Rattle.std.specs.List.{AllByRecursion}
use Rattle.std.proofs.lemmas.Bool.{le-leb}
use Rattle.srm_names.specs.declared.limits.TheConstants.{LONGEST_BODY}
use Rattle.srm_names.specs.declared.page.Page.{Page}
use Rattle.srm_names.specs.declared.stream.Stream.{Stream}
use Rattle.srm_names.specs.declared.drawop.Drawop.{Drawop}
use Rattle.srm_names.specs.declared.page_msg.PageMsg.{PageMsg}
use Rattle.srm_names.specs.declared.page_msg.PageMsg.TheVariants.{Open, Draw, Left, Close}
use Rattle.srm_names.specs.Histories.{Step, steps}
use Rattle.srm_names.specs.Names.{named, stream_on}
use Rattle.srm_names.specs.PageFeeds.{drawops_of}
use Rattle.srm_names.proofs.Lists.{AllByRecursion-parts, All-Has, Has, find-Has, until_none-at}
use Rattle.srm_names.proofs.Snoc.{steps-snoc}
use Rattle.srm_codec.specs.Spelling.{is_drawop}
use Rattle.srm_store.specs.Held as store
use Rattle.srm_entries.specs.declared.fault.AgentFault.{AgentFault}
use Rattle.srm_entries.specs.declared.entry.Entry.{Entry}
use Rattle.srm_entries.specs.declared.entry.Verdict.{Verdict}
use Rattle.srm_entries.specs.declared.entry.Verdict.TheVariants.{Done, Ignored, Refused}
use Rattle.srm_entries.specs.Configs.{Config}
use Rattle.srm_entries.specs.Entries.{held, released, slots}
use Rattle.srm_entries.specs.Giving.{given, GiveRight, GivesAfter, MessageRight}
use Rattle.srm_entries.specs.Runs.{EntryRight}
use Rattle.srm_agent.specs.Fits.{AgentFits}
use Rattle.srm_agent.specs.Noting.{AnswersAs}
use Rattle.srm_seat.specs.Seats.{SeatContent}
use Rattle.srm_seat.specs.Calls.{Gives, laid_over}
use Rattle.srm_ffi.specs.declared.shapes.RawMessage.{RawMessage}
use Rattle.srm_ffi.specs.Shapes.{body_of}
use Rattle.srm_ffi.specs.declared.codes.TheConstants.{EMPTY}
use Rattle.srm_ffi.specs.Calls.{BodyIsWhole, GiveCall, OnSeat, TellsMessage}

-- a released drawop is held
released_held : (past : List Entry) (s : Stream) (k : ℕ) (d : Drawop) → slice_get (released past s) k ≡ Some d → Has d (held past)
released_held past s k d e =
    (find-Has (store.has_name (named s (1 + k))) (held past) d (until_none-at (λ n. store.held_at (held past) (named s n)) 1 (store.greatest_in (map (λ (x : Drawop). x.name) (held past)) s) k d e).0).0

-- what may be given is short, where what is held can be spelled
given_short : (c : Config) (past : List Entry) (j : ℕ) (message : PageMsg) → AllByRecursion is_drawop (held past) → GiveRight c past j (Some message) → length (body_of message) ≤ LONGEST_BODY
given_short c past j message spelled right = go message (slice_get (slots past) j) right
  where
    go : (m : PageMsg) (page : Option Page) → GivesAfter c past (given past j) page (Some m) → length (body_of m) ≤ LONGEST_BODY
    go (Open p) page h = omega arith
    go (Left s) page h = omega arith
    go Close page h = omega arith
    go (Draw d) None h = absurd h
    go (Draw d) (Some page) h =
        (All-Has is_drawop d (held past) spelled (released_held past (stream_on d.name.stream.source page) (length (drawops_of d.name.stream.source (given past j))) d h.2)).2

never_both : {f : AgentFault} {message : Option PageMsg} (a : Result (Option PageMsg) AgentFault) → a ≡ Err f → a ≡ Ok message → ⊥
never_both a p q = cc

-- what a give answers is what its entry says
answered : (e : Entry) (v : Verdict) (message : Option PageMsg) → AnswersAs (λ (m : Option PageMsg). m ≡ e.effects.message) v (Ok message) → message ≡ e.effects.message
answered e Done message h = h
answered e (Ignored cause) message h = absurd h
answered e (Refused fault) message h = absurd (never_both (Ok message) h refl)

newest_right : (c : Config) (made : ℕ) (past : List Entry) (e : Entry) → AllByRecursion (EntryRight c made) (steps (past ++ e ∷ [])) → EntryRight c made (record { before = past; this = e })
newest_right c made past e all =
    (AllByRecursion-parts (EntryRight c made) (steps past) (record { before = past; this = e } ∷ []) (subst (λ (w : List (Step Entry)). AllByRecursion (EntryRight c made) w) (steps-snoc past e) all)).1.0

is_short : (slot : ℕ) (old new : SeatContent) (message : PageMsg) → Gives slot old new (Ok (Some message)) → (c : Config) (made : ℕ) (past : List Entry) → AgentFits c made past old.agent → length (body_of message) ≤ LONGEST_BODY
is_short slot old new message (inr refused, stays) c made past fits = absurd (never_both (Ok (Some message)) refused.0 refl)
is_short slot old new message (inl (e, enters, answers), stays) c made past fits =
    let right : EntryRight c made (record { before = past; this = e }) = newest_right c made past e (enters.fits c made past fits).run in
    given_short c past slot message fits.spelled
    (subst (λ (o : Option PageMsg). GiveRight c past slot o) (sym (answered e e.verdict (Some message) answers)) (subst (λ i. MessageRight c past i e.effects.message) enters.input_is right.message))

lies_whole : (body room : List ℕ) → length body ≤ length room → laid_over body room ≡ body ++ drop (length body) room
lies_whole body room fits = ap (λ b. if b then body ++ drop (length body) room else room) (le-leb (length body) (length room) fits)

whole : (slot code : ℕ) (old new : SeatContent) (answer : Result (Option PageMsg) AgentFault) (room filled : List ℕ) (before after : RawMessage) → LONGEST_BODY ≤ length room → Gives slot old new answer
    → TellsMessage answer code room filled before after → BodyIsWhole old.agent answer room filled
whole slot code old new (Ok (Some message)) room filled before after long gives tells =
    λ c made past fits. tells.1 ∙ lies_whole (body_of message) room (omega (arith, long, is_short slot old new message gives c made past fits))
whole slot code old new (Ok None) room filled before after long gives tells = tt
whole slot code old new (Err fault) room filled before after long gives tells = tt

-- what a give is to do, but that its body is whole
abbrev GiveTold : ℕ → ℕ → List ℕ → List ℕ → RawMessage → RawMessage → Option SeatContent → Option SeatContent → Type 0
GiveTold slot code room filled before after =
    OnSeat (λ old new. (answer : Result (Option PageMsg) AgentFault) × Gives slot old new answer × TellsMessage answer code room filled before after)
    ((code ≡ EMPTY) × (filled ≡ room) × (after ≡ before))

pub with_body : (slot code : ℕ) (room filled : List ℕ) (before after : RawMessage) (old new : Option SeatContent) → LONGEST_BODY ≤ length room → GiveTold slot code room filled before after old new → GiveCall slot code room filled before after old new
with_body slot code room filled before after (Some old) (Some new) long (answer, gives, tells) = (answer, gives, tells, whole slot code old new answer room filled before after long gives tells)
with_body slot code room filled before after None None long told = told
with_body slot code room filled before after (Some old) None long told = absurd told
with_body slot code room filled before after None (Some new) long told = absurd told
