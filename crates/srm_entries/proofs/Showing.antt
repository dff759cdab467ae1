-- What kinds of entries show something: one that drew, and one that heard.
use Rattle.std.proofs.Common.{◌≡◌, ℕ, ◌==◌, ◌+◌, ◌≤◌, Bool, true, false, ◌||◌, List, [], ◌∷◌, ◌++◌, map, length, refl, ap, sym, ◌∙◌, subst, inl, inr, arith}
use Rattle.std.specs.Prelude.{◌⊎◌, Option, Some, None, if◌then◌else◌, nat_lt, nat_le, option_to_list}
use Rattle.std.specs.List.{flat_map, list_any}
use Rattle.std.proofs.lemmas.Option.{none-some, same_Some}
use Rattle.std.proofs.lemmas.Bool.{or_parts}
use Rattle.srm_names.specs.declared.page.Page.{Page}
use Rattle.srm_names.specs.declared.stream.Stream.{Stream}
use Rattle.srm_names.specs.declared.drawop.Drawop.{Drawop}
use Rattle.srm_names.specs.declared.limits.TheConstants.{DRAWOPS, LONGEST_BODY}
use Rattle.srm_names.specs.FullName.{FullName}
use Rattle.srm_names.specs.Histories.{greatest}
use Rattle.srm_names.specs.Names.{named, same_stream, stream_on}
use Rattle.srm_names.proofs.Lists.{Has, Has-append, Has-front, Has-back, map-Has, Has-flat_map, flat_map-Has}
use Rattle.srm_names.proofs.Snoc.{last_of-snoc, flat_map-snoc}
use Rattle.srm_names.proofs.Same.{same_stream-itself}
use Rattle.srm_codec.specs.declared.datagram.Datagram.{Datagram}
use Rattle.srm_codec.specs.declared.datagram.Datagram.TheVariants.{Data, Request, Repair, Session}
use Rattle.srm_codec.specs.Spelling.{sender_of, names_in}
use Rattle.srm_entries.specs.Configs.{Config}
use Rattle.srm_entries.specs.declared.entry.Entry.{Entry}
use Rattle.srm_entries.specs.declared.cause.Cause.TheVariants as causes
use Rattle.srm_entries.specs.declared.fault.AgentFault.TheVariants as faults
use Rattle.srm_entries.specs.declared.entry.Input.{Input}
use Rattle.srm_entries.specs.declared.entry.Input.TheVariants.{Drew, Heard, Noise, Ticked, Showed, AskedLeave, Gave, Took}
use Rattle.srm_entries.specs.declared.entry.Verdict.{Verdict}
use Rattle.srm_entries.specs.declared.entry.Verdict.TheVariants.{Done, Ignored, Refused}
use Rattle.srm_store.specs.Held.{number_in, greatest_in}
use Rattle.srm_entries.specs.Entries.{done, done_input, accepted, heard_in, state, is_gone, is_leaving, drawn, held, held_by, held_at, evidence_by, evidence_in, names_heard, drawops_in, known}
use Rattle.srm_entries.specs.Verdicts.{first_cause, verdict_of, VerdictRight, is_stranger, lacks_slots_for, is_beyond, says_too_little, differs, drawn_in}
use Rattle.srm_entries.specs.Runs.{EntryRight, expected_drawop}

-- the entry is done, and its input is this one
pub done_is : (v : Verdict) (i j : Input) → done_input v i ≡ Some j → (v ≡ Done) × (i ≡ j)
done_is Done i j e = (refl, same_Some i j e)
done_is (Ignored cause) i j e = absurd (none-some j e)
done_is (Refused fault) i j e = absurd (none-some j e)

-- the drawop that a draw makes
abbrev pub made_by : Config → List Entry → ℕ → Page → List ℕ → Drawop
made_by c before now page body = record { name = named (stream_on c.me page) (drawn_in before (stream_on c.me page) + 1); stamp = now; body = body }

abbrev pub IsDrawing : Config → List Entry → Entry → Type 0
IsDrawing c before e = (page : Page) × (body : List ℕ) × (done e ≡ Some (Drew page body)) × (e.effects.drawn ≡ Some (made_by c before e.moment page body))

abbrev pub IsHearing : Entry → Type 0
IsHearing e = (g : Datagram) × (done e ≡ Some (Heard g)) × (e.effects.drawn ≡ None)

abbrev pub IsQuiet : Entry → Type 0
IsQuiet e = (accepted e ≡ None) × (e.effects.drawn ≡ None)

kind_of : (c : Config) (before : List Entry) (e : Entry) (o : Option Input) → done e ≡ o → e.effects.drawn ≡ expected_drawop c before e.moment o → IsDrawing c before e ⊎ (IsHearing e ⊎ IsQuiet e)
kind_of c before e None d k = inr (inr (ap heard_in d, k))
kind_of c before e (Some (Drew page body)) d k = inl (page, body, d, k)
kind_of c before e (Some (Heard g)) d k = inr (inl (g, d, k))
kind_of c before e (Some Noise) d k = inr (inr (ap heard_in d, k))
kind_of c before e (Some Ticked) d k = inr (inr (ap heard_in d, k))
kind_of c before e (Some (Showed page)) d k = inr (inr (ap heard_in d, k))
kind_of c before e (Some AskedLeave) d k = inr (inr (ap heard_in d, k))
kind_of c before e (Some (Gave j)) d k = inr (inr (ap heard_in d, k))
kind_of c before e (Some (Took j)) d k = inr (inr (ap heard_in d, k))

pub kind : (c : Config) (made : ℕ) (before : List Entry) (e : Entry) → EntryRight c made (record { before = before; this = e }) → IsDrawing c before e ⊎ (IsHearing e ⊎ IsQuiet e)
kind c made before e right = kind_of c before e (done e) refl right.drawn

-- a first cause that holds is answered
pub no_cause : (b : Bool) (v : Verdict) (rest : List (Bool × Verdict)) → (v ≡ Done → ⊥) → Done ≡ first_cause ((b, v) ∷ rest) → (b ≡ false) × (Done ≡ first_cause rest)
no_cause true v rest other e = absurd (other (sym e))
no_cause false v rest other e = (refl, e)

abbrev done_test : Verdict → Type 0
done_test Done = Unit {0}
done_test (Ignored c) = ⊥
done_test (Refused f) = ⊥

pub ignored_is_not_done : (c : _) → Ignored c ≡ Done → ⊥
ignored_is_not_done c e = subst done_test (sym e) tt

pub refused_is_not_done : (f : _) → Refused f ≡ Done → ⊥
refused_is_not_done f e = subst done_test (sym e) tt

-- what the verdict on a datagram that was heard says
pub record HeardFine (c : Config) (es : List Entry) (g : Datagram) : Type 0 where
  pub other : (sender_of g == c.me) ≡ false
  pub inside : list_any (λ n. nat_le c.members n.stream.source) (names_in g) ≡ false
  pub not_beyond : list_any (is_beyond c.me es) (names_in g) ≡ false
  pub not_short : says_too_little es g ≡ false

-- the causes to ignore a datagram from the sixth, the fifth, .. on
abbrev from_conflict : List Entry → Datagram → List (Bool × Verdict)
from_conflict es g = (list_any (λ d. differs d (held_at es d.name)) (drawops_in (Some g)), Ignored causes.Conflict) ∷ []

abbrev from_beyond : Config → List Entry → Datagram → List (Bool × Verdict)
from_beyond c es g = (list_any (is_beyond c.me es) (names_in g) || says_too_little es g, Ignored causes.BeyondFinal) ∷ from_conflict es g

abbrev from_limit : Config → List Entry → Datagram → List (Bool × Verdict)
from_limit c es g = (lacks_slots_for es (map (λ (n : FullName). n.stream.page) (names_in g)), Ignored causes.PageLimit) ∷ from_beyond c es g

abbrev from_stranger : Config → List Entry → Datagram → List (Bool × Verdict)
from_stranger c es g = (is_stranger c g, Ignored causes.Stranger) ∷ from_limit c es g

abbrev from_own : Config → List Entry → Datagram → List (Bool × Verdict)
from_own c es g = (sender_of g == c.me, Ignored causes.Own) ∷ from_stranger c es g

heard_fine : (c : Config) (es : List Entry) (g : Datagram) → Done ≡ verdict_of c es (Heard g) → HeardFine c es g
heard_fine c es g e =
    let a = no_cause (is_gone (state es)) (Ignored causes.Gone) (from_own c es g) (ignored_is_not_done _) e in
    let b = no_cause (sender_of g == c.me) (Ignored causes.Own) (from_stranger c es g) (ignored_is_not_done _) a.1 in
    let d = no_cause (is_stranger c g) (Ignored causes.Stranger) (from_limit c es g) (ignored_is_not_done _) b.1 in
    let f = no_cause (lacks_slots_for es (map (λ (n : FullName). n.stream.page) (names_in g))) (Ignored causes.PageLimit) (from_beyond c es g) (ignored_is_not_done _) d.1 in
    let h = no_cause (list_any (is_beyond c.me es) (names_in g) || says_too_little es g) (Ignored causes.BeyondFinal) (from_conflict es g) (ignored_is_not_done _) f.1 in
    let parts = or_parts (list_any (is_beyond c.me es) (names_in g)) (says_too_little es g) h.0 in
    record { other = b.0; inside = (or_parts (nat_le c.members (sender_of g)) (list_any (λ n. nat_le c.members n.stream.source) (names_in g)) d.0).1; not_beyond = parts.0; not_short = parts.1 }

verdict_done : (c : Config) (before : List Entry) (e : Entry) (i : Input) → VerdictRight c before e.input e.verdict → done e ≡ Some i → VerdictRight c before i Done
verdict_done c before e i right d = let (v, k) = done_is e.verdict e.input i d in subst (λ j. VerdictRight c before j Done) k (subst (λ w. VerdictRight c before e.input w) v right)

pub hearing_fine : (c : Config) (made : ℕ) (before : List Entry) (e : Entry) (g : Datagram) → EntryRight c made (record { before = before; this = e }) → done e ≡ Some (Heard g) → HeardFine c before g
hearing_fine c made before e g right d = heard_fine c before g (verdict_done c before e (Heard g) right.verdict d).1

pub drawing_not_gone : (c : Config) (made : ℕ) (before : List Entry) (e : Entry) (page : Page) (body : List ℕ) → EntryRight c made (record { before = before; this = e }) → done e ≡ Some (Drew page body) → is_gone (state before) ≡ false
drawing_not_gone c made before e page body right d =
    (no_cause (is_gone (state before)) (Refused faults.Gone)
    ((is_leaving (state before), Refused faults.Leaving) ∷ (nat_lt LONGEST_BODY (length body), Refused faults.BodyLong) ∷ (lacks_slots_for before (page ∷ []), Refused faults.PageLimit) ∷ (nat_le DRAWOPS (drawn_in before (stream_on c.me page)), Refused faults.StreamFull) ∷ [])
    (refused_is_not_done _) (verdict_done c before e (Drew page body) right.verdict d)).0

pub leaving_not_gone : (c : Config) (made : ℕ) (before : List Entry) (e : Entry) → EntryRight c made (record { before = before; this = e }) → done e ≡ Some AskedLeave → is_gone (state before) ≡ false
leaving_not_gone c made before e right d =
    (no_cause (is_gone (state before)) (Refused faults.Gone) ((is_leaving (state before), Refused faults.Leaving) ∷ []) (refused_is_not_done _) (verdict_done c before e AskedLeave right.verdict d)).0

pub state-snoc : (es : List Entry) (e : Entry) → state (es ++ e ∷ []) ≡ e.effects.state
state-snoc es e = rw (last_of-snoc (λ (x : Entry). Some x.effects.state) es e) refl

-- what is known of a stream is the greatest number of a name that was shown
greatest_has : (k : ℕ) (ns : List ℕ) → Has k ns → k ≤ greatest ns
greatest_has k [] h = absurd h
greatest_has k (n ∷ ns) (inl e) = omega arith
greatest_has k (n ∷ ns) (inr h) = let l : k ≤ greatest ns = greatest_has k ns h in omega arith

number_there : (s : Stream) (n : FullName) → n.stream ≡ s → Has n.number (number_in s n)
number_there s n e = subst (λ b. Has n.number (if b then n.number ∷ [] else [])) (sym (ap (λ t. same_stream t n.stream) (sym e) ∙ same_stream-itself n.stream)) (inl refl)

pub greatest_in_has : (names : List FullName) (n : FullName) → Has n names → n.number ≤ greatest_in names n.stream
greatest_in_has names n h = greatest_has n.number (flat_map (number_in n.stream) names) (flat_map-Has (number_in n.stream) n.number n names h (number_there n.stream n refl))

pub known_has : (es : List Entry) (n : FullName) → Has n (evidence_in es) → n.number ≤ known es n.stream
known_has es n h = greatest_in_has (evidence_in es) n h

pub shown-snoc : (es : List Entry) (e : Entry) → evidence_in (es ++ e ∷ []) ≡ evidence_in es ++ evidence_by e
shown-snoc es e = flat_map-snoc evidence_by es e

pub drawn-snoc : (es : List Entry) (e : Entry) → drawn (es ++ e ∷ []) ≡ drawn es ++ option_to_list e.effects.drawn
drawn-snoc es e = flat_map-snoc (λ (x : Entry). option_to_list x.effects.drawn) es e

-- the names shown by an entry of each kind
pub shown_drawing : (c : Config) (before : List Entry) (e : Entry) (d : IsDrawing c before e) → evidence_by e ≡ (made_by c before e.moment d.0 d.1).name ∷ []
shown_drawing c before e (page, body, d, k) = ap (λ o. map (λ (x : Drawop). x.name) (option_to_list o) ++ names_heard (accepted e)) k ∙ ap (λ o. (made_by c before e.moment page body).name ∷ names_heard (heard_in o)) d

pub shown_hearing : (e : Entry) (d : IsHearing e) → evidence_by e ≡ names_in d.0
shown_hearing e (g, d, k) = ap (λ o. map (λ (x : Drawop). x.name) (option_to_list o) ++ names_heard (accepted e)) k ∙ ap (λ o. names_heard (heard_in o)) d

pub shown_quiet : (e : Entry) → IsQuiet e → evidence_by e ≡ []
shown_quiet e (d, k) = ap (λ o. map (λ (x : Drawop). x.name) (option_to_list o) ++ names_heard (accepted e)) k ∙ ap names_heard d

-- what is held was shown to exist
pub held_in_shown : (g : Option Datagram) (d : Drawop) → Has d (drawops_in g) → Has d.name (names_heard g)
held_in_shown None d h = absurd h
held_in_shown (Some (Data x)) d (inl e) = inl (ap (λ (y : Drawop). y.name) e)
held_in_shown (Some (Data x)) d (inr h) = absurd h
held_in_shown (Some (Repair s x)) d (inl e) = inl (ap (λ (y : Drawop). y.name) e)
held_in_shown (Some (Repair s x)) d (inr h) = absurd h
held_in_shown (Some (Request s n m)) d h = absurd h
held_in_shown (Some (Session a b f p r x)) d h = absurd h

pub held_by_shown : (e : Entry) (d : Drawop) → Has d (held_by e) → Has d.name (evidence_by e)
held_by_shown e d h = elim (Has-append d (option_to_list e.effects.drawn) (drawops_in (accepted e)) h) [
  | inl l ↦ Has-front d.name (map (λ (x : Drawop). x.name) (option_to_list e.effects.drawn)) (names_heard (accepted e)) (map-Has (λ (x : Drawop). x.name) d (option_to_list e.effects.drawn) l)
  | inr r ↦ Has-back d.name (map (λ (x : Drawop). x.name) (option_to_list e.effects.drawn)) (names_heard (accepted e)) (held_in_shown (accepted e) d r)
]

pub held_is_shown : (es : List Entry) (d : Drawop) → Has d (held es) → Has d.name (evidence_in es)
held_is_shown es d h = let (e, k, m) = Has-flat_map held_by d es h in flat_map-Has evidence_by d.name e es k (held_by_shown e d m)

pub held-snoc : (es : List Entry) (e : Entry) → held (es ++ e ∷ []) ≡ held es ++ held_by e
held-snoc es e = flat_map-snoc held_by es e
