-- What becomes of one datagram after another, where a limit is set to what may be missing.
use Rattle.std.proofs.Common.{◌≡◌, ◌⊎◌, ℕ, zero, suc, ◌+◌, ◌<◌, ◌≤◌, true, false, List, [], ◌∷◌, ◌++◌, refl, ap, sym, ◌∙◌, subst, inl, inr, append_assoc, arith}
use Rattle.std.specs.Prelude.{◌↔◌, Bool, IsTrue, Option, Some, None, Result, Ok, Err, MatchResult}
use Rattle.std.proofs.lemmas.Bool.{cases_lt}
use Rattle.std.proofs.lemmas.List.Elements.{filter_map-append}
use Rattle.srm_entries.specs.declared.entry.Entry.{Entry}
use Rattle.srm_entries.specs.declared.fault.AgentFault.{AgentFault}
use Rattle.srm_agent.specs.declared.heard.Heard.{Heard as HeardAs}
use Rattle.srm_entries.specs.Outstanding.{missing_in_all, WouldMiss}
use Rattle.srm_world.specs.Traces.{Journal}
use Rattle.srm_world.specs.Recording.{RecordsHeard, HearsEach, with_entry, with_entries}
use Rattle.srm_world.proofs.HearsAll.{at, grows_nothing, grown_on}
use Rattle.srm_node.specs.declared.missing_limit.MissingLimit.{MissingLimit}
use Rattle.srm_node.specs.declared.missing_limit.Judged.TheVariants.{Within, Excess, Unjudged}
use Rattle.srm_node.specs.Limits.{AllIsHeard, Becomes, BecomesEach, HearsOne, Judges, Outcome, Heard, TooMuch, NotJudged, TakesOne, counting, counting_each, entries_of, entry_of, journal_after, one_excess, one_unjudged}

-- WHAT THE LIMIT SAYS

-- by what the member misses, and how much more it would
pub judges_excess : (limit : Option ℕ) (j : Journal) (bytes : List ℕ) (most missing more : ℕ) (exceeds : Bool) → limit ≡ Some most → WouldMiss j.start.config j.entries bytes more → missing ≡ missing_in_all j.entries → IsTrue exceeds ↔ ((0 < more) × (most < missing + more)) → exceeds ≡ true → Judges limit j bytes Excess
judges_excess limit j bytes most missing more exceeds is makes missing_is tells so =
    let many : (0 < more) × (most < missing + more) = tells.0 so in
    subst (λ l. Judges l j bytes Excess) (sym is) (record { more = more; would_miss = makes; some = many.0; many = subst (λ n. most < n + more) missing_is many.1 })

within : (most missing more : ℕ) (exceeds : Bool) → IsTrue exceeds ↔ ((0 < more) × (most < missing + more)) → exceeds ≡ false → (more ≡ 0) ⊎ (missing + more ≤ most)
within most missing zero exceeds tells not = inl refl
within most missing (suc more) exceeds tells not = which (cases_lt most (missing + suc more))
  where
    which : ((most < missing + suc more) ⊎ (missing + suc more ≤ most)) → (suc more ≡ 0) ⊎ (missing + suc more ≤ most)
    which (inl many) = let so : exceeds ≡ true = tells.1 (omega arith, many) in let k : true ≡ false = sym so ∙ not in cc
    which (inr few) = inr few

pub judges_within : (limit : Option ℕ) (j : Journal) (bytes : List ℕ) (most missing more : ℕ) (exceeds : Bool) → limit ≡ Some most → WouldMiss j.start.config j.entries bytes more → missing ≡ missing_in_all j.entries → IsTrue exceeds ↔ ((0 < more) × (most < missing + more)) → exceeds ≡ false → Judges limit j bytes Within
judges_within limit j bytes most missing more exceeds is makes missing_is tells not =
    subst (λ l. Judges l j bytes Within) (sym is) (record { more = more; would_miss = makes; within = subst (λ n. (more ≡ 0) ⊎ (n + more ≤ most)) missing_is (within most missing more exceeds tells not) })

-- ONE DATAGRAM

-- what the recorder did with it
pub hears_one : (now : ℕ) (bytes : List ℕ) (a b : Journal) (heard : HeardAs) → RecordsHeard now bytes a b (Ok heard) → HearsOne now bytes a b
hears_one now bytes a b heard (inl (e, grows, hearing, answers)) = record { entry = e; grown = grows.grown; is_hearing = record { moment = grows.moment; heard = hearing } }
hears_one now bytes a b heard (inr (wrong, same)) = absurd (is_ok wrong)
  where
    is_ok : {A B : Type 0} {x : A} {y : B} → Ok x ≡ Err y → ⊥
    is_ok e = cc

-- memory ran out: nothing was heard
pub hears_nothing : (now : ℕ) (bytes : List ℕ) (a b : Journal) (fault : AgentFault) → RecordsHeard now bytes a b (Err fault) → b ≡ a
hears_nothing now bytes a b fault (inl (e, grows, hearing, answers)) = absurd answers
hears_nothing now bytes a b fault (inr (is, same)) = same

-- it was to be heard, and was, or memory ran out
pub takes_heard : {T E : Type 0} (now : ℕ) (bytes : List ℕ) (l : MissingLimit) (a b : Journal) (r : Result T E) → Judges l.most a bytes Within → MatchResult r (λ _. HearsOne now bytes a b) (λ _. b ≡ a)
    → MatchResult r (λ _. TakesOne now bytes l l a b) (λ _. (b ≡ a) × (l ≡ l))
takes_heard now bytes l a b (Ok t) within h = record { outcome = Heard h.entry; becomes = (within, h.is_hearing); grown = h.grown; counted = refl }
takes_heard now bytes l a b (Err e) within h = (h, refl)

pub takes_excess : (now : ℕ) (bytes : List ℕ) (l k : MissingLimit) (a : Journal) → Judges l.most a bytes Excess → k ≡ one_excess l → TakesOne now bytes l k a a
takes_excess now bytes l k a judged counted = record { outcome = TooMuch; becomes = judged; grown = refl; counted = counted }

pub takes_unjudged : (now : ℕ) (bytes : List ℕ) (l k : MissingLimit) (a : Journal) → Judges l.most a bytes Unjudged → k ≡ one_unjudged l → TakesOne now bytes l k a a
takes_unjudged now bytes l k a judged counted = record { outcome = NotJudged; becomes = judged; grown = refl; counted = counted }

-- ONE AFTER ANOTHER

after_is : (j : Journal) (o : Outcome) → journal_after j o ≡ with_entries j (entries_of (o ∷ []))
after_is j (Heard e) = refl
after_is j TooMuch = grows_nothing j
after_is j NotJudged = grows_nothing j

pub grown_by : (a b c : Journal) (os : List Outcome) (o : Outcome) → b ≡ with_entries a (entries_of os) → c ≡ journal_after b o → c ≡ with_entries a (entries_of (os ++ o ∷ []))
grown_by a b c os o h k = grown_on a b c (entries_of os) (entries_of (o ∷ [])) h (k ∙ after_is b o) ∙ ap (with_entries a) (sym (filter_map-append entry_of os (o ∷ [])))

along : (j : Journal) (o : Outcome) (os : List Outcome) → with_entries j (entries_of (o ∷ os)) ≡ with_entries (journal_after j o) (entries_of os)
along j (Heard e) os = ap (at j) (sym (append_assoc j.entries (e ∷ []) (entries_of os)))
along j TooMuch os = refl
along j NotJudged os = refl

pub becomes-snoc : (now : ℕ) (most : Option ℕ) (j : Journal) (came : List (List ℕ)) (os : List Outcome) (bytes : List ℕ) (o : Outcome) → BecomesEach now most j came os → Becomes now most (with_entries j (entries_of os)) bytes o → BecomesEach now most j (came ++ bytes ∷ []) (os ++ o ∷ [])
becomes-snoc now most j [] [] bytes o h k = (subst (λ x. Becomes now most x bytes o) (sym (grows_nothing j)) k, tt)
becomes-snoc now most j [] (p ∷ os) bytes o h k = absurd h
becomes-snoc now most j (b ∷ bs) [] bytes o h k = absurd h
becomes-snoc now most j (b ∷ bs) (p ∷ os) bytes o h k = (h.0, becomes-snoc now most (journal_after j p) bs os bytes o h.1 (subst (λ x. Becomes now most x bytes o) (along j p os) k))

-- the limit stays, whatever is dropped
pub most_stays : (os : List Outcome) (l : MissingLimit) → (counting_each os l).most ≡ l.most
most_stays [] l = refl
most_stays (Heard e ∷ os) l = most_stays os l
most_stays (TooMuch ∷ os) l = most_stays os (one_excess l)
most_stays (NotJudged ∷ os) l = most_stays os (one_unjudged l)

pub counting-snoc : (os : List Outcome) (o : Outcome) (l : MissingLimit) → counting_each (os ++ o ∷ []) l ≡ counting o (counting_each os l)
counting-snoc [] o l = refl
counting-snoc (p ∷ os) o l = counting-snoc os o (counting p l)

-- those that were heard
pub heard_of : List (List ℕ) → List Outcome → List (List ℕ)
heard_of [] os = []
heard_of (b ∷ bs) [] = []
heard_of (b ∷ bs) (Heard e ∷ os) = b ∷ heard_of bs os
heard_of (b ∷ bs) (TooMuch ∷ os) = heard_of bs os
heard_of (b ∷ bs) (NotJudged ∷ os) = heard_of bs os

pub heard_each : (now : ℕ) (most : Option ℕ) (j : Journal) (came : List (List ℕ)) (os : List Outcome) → BecomesEach now most j came os → HearsEach now j (heard_of came os) (entries_of os)
unfolding heard_of
heard_each now most j [] [] h = tt
heard_each now most j [] (o ∷ os) h = absurd h
heard_each now most j (b ∷ bs) [] h = absurd h
heard_each now most j (b ∷ bs) (Heard e ∷ os) h = (h.0.1, heard_each now most (with_entry j e) bs os h.1)
heard_each now most j (b ∷ bs) (TooMuch ∷ os) h = heard_each now most j bs os h.1
heard_each now most j (b ∷ bs) (NotJudged ∷ os) h = heard_each now most j bs os h.1

-- WITHOUT A LIMIT

pub all_heard : (now : ℕ) (j : Journal) (came : List (List ℕ)) (os : List Outcome) → BecomesEach now None j came os → HearsEach now j came (entries_of os)
all_heard now j [] [] h = tt
all_heard now j [] (o ∷ os) h = absurd h
all_heard now j (b ∷ bs) [] h = absurd h
all_heard now j (b ∷ bs) (Heard e ∷ os) h = (h.0.1, all_heard now (with_entry j e) bs os h.1)
all_heard now j (b ∷ bs) (TooMuch ∷ os) h = absurd h.0
all_heard now j (b ∷ bs) (NotJudged ∷ os) h = absurd h.0

pub none_counted : (now : ℕ) (j : Journal) (came : List (List ℕ)) (os : List Outcome) (l : MissingLimit) → BecomesEach now None j came os → counting_each os l ≡ l
none_counted now j [] [] l h = refl
none_counted now j [] (o ∷ os) l h = absurd h
none_counted now j (b ∷ bs) [] l h = absurd h
none_counted now j (b ∷ bs) (Heard e ∷ os) l h = none_counted now (with_entry j e) bs os l h.1
none_counted now j (b ∷ bs) (TooMuch ∷ os) l h = absurd h.0
none_counted now j (b ∷ bs) (NotJudged ∷ os) l h = absurd h.0
