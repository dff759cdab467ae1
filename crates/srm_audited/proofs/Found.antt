-- What page workers of a run took, by the records that its members wrote, is what its members gave.
use Rattle.std.proofs.Common.{◌≡◌, ◌≢◌, ℕ, suc, ◌==◌, ◌+◌, ◌≤◌, ◌<◌, Bool, true, false, ◌&&◌, ◌||◌, List, [], ◌∷◌, ◌++◌, length, refl, ap, sym, ◌∙◌, subst, inl, inr, arith}
use Rattle.std.specs.Prelude.{Option, Some, option_map, unwrap_or, slice_get}
use Rattle.std.specs.List.{AllByRecursion, flat_map, list_any}
use Rattle.std.proofs.lemmas.Bool.{ne_eqb}
use Rattle.std.proofs.lemmas.List.Folds.{list_any-append}
use Rattle.std.proofs.lemmas.Option.{slice_get_within}
use Rattle.srm_names.specs.declared.limits.TheConstants.{PAGES}
use Rattle.srm_names.specs.declared.page_msg.PageMsg.{PageMsg}
use Rattle.srm_names.specs.Histories.{IsPrefix, steps, steps_after}
use Rattle.srm_names.proofs.Lists.{Has, map-Has, All-Has, AllByRecursion-append, steps_after-append, at_parts}
use Rattle.srm_names.proofs.Snoc.{list_any-snoc}
use Rattle.srm_entries.specs.declared.entry.Entry.{Entry}
use Rattle.srm_entries.specs.Giving.{given}
use Rattle.srm_world.specs.Traces.{Trace, Journal}
use Rattle.srm_audit.specs.declared.got.Got.{Got}
use Rattle.srm_audit.specs.Audits.{InOrder, entries_at, is_of, IsFound, AreFound, IsForeign}
use Rattle.srm_gaps.specs.Gaps.{journals_of, IsAnother, AreOfOneSession}
use Rattle.srm_gaps.proofs.Rostered.{told_at}
use Rattle.srm_audited.specs.Sessions.{Replay, gots_from, gots_of}
use Rattle.srm_audited.proofs.Writing.{IsIn, tolds}

-- the lists of one member

of_one_member : (m slot : ℕ) (lists : List (List PageMsg)) → AllByRecursion (λ (got : Got). got.member ≡ m) (gots_from m slot lists)
of_one_member m slot [] = tt
of_one_member m slot (list ∷ lists) = (refl, of_one_member m (slot + 1) lists)

none_of_another : (n m j : ℕ) (gots : List Got) → n ≢ m → AllByRecursion (λ (got : Got). got.member ≡ m) gots → list_any (is_of n j) gots ≡ false
none_of_another n m j [] differ all = refl
none_of_another n m j (got ∷ gots) differ all =
    let another : (got.member == n) ≡ false = ne_eqb got.member n (λ e. differ (sym e ∙ all.0)) in
    ap (λ (b : Bool). (b && (got.slot == j)) || list_any (is_of n j) gots) another ∙ none_of_another n m j gots differ all.1

and_false : (a b : Bool) → b ≡ false → (a && b) ≡ false
and_false true b e = e
and_false false b e = refl

one_member : (q : List Journal) (m slot : ℕ) (lists : List (List PageMsg)) (before : List Got) → m < length q → slot + length lists ≤ PAGES → ((j : ℕ) → slot ≤ j → list_any (is_of m j) before ≡ false)
    → ((i : ℕ) (list : List PageMsg) → slice_get lists i ≡ Some list → IsPrefix list (given (entries_at q m) (slot + i))) → AllByRecursion (IsFound q) (steps_after before (gots_from m slot lists))
one_member q m slot [] before inside few fresh prefix = tt
one_member q m slot (list ∷ lists) before inside few fresh prefix = (
  record {
    member = inside;
    slot = omega (arith, few);
    once = fresh slot (omega arith);
    prefix = subst (λ k. IsPrefix list (given (entries_at q m) k)) (omega arith) (prefix 0 list refl);
  },
  one_member q m (slot + 1) lists (before ++ record { member = m; slot = slot; list = list } ∷ []) inside (omega (arith, few)) later (λ i other at. subst (λ k. IsPrefix other (given (entries_at q m) k)) (omega arith) (prefix (suc i) other at)),
)
  where
    later : (j : ℕ) → slot + 1 ≤ j → list_any (is_of m j) (before ++ record { member = m; slot = slot; list = list } ∷ []) ≡ false
    later j l =
        let another : (slot == j) ≡ false = ne_eqb slot j (λ e. absurd (omega (arith, l, e))) in
        list_any-snoc (is_of m j) before (record { member = m; slot = slot; list = list }) ∙ ap (λ (b : Bool). b || ((m == m) && (slot == j))) (fresh j (omega (arith, l))) ∙ and_false (m == m) (slot == j) another

-- of all members

-- what page workers took is of a member of these journals, and a prefix of what this one gave
pub record IsTakenIn (q : List Journal) (p : Replay) : Type 0 where
  pub inside : p.told.journal.start.config.me < length q
  pub slots : length p.lists ≡ PAGES
  pub prefix : (slot : ℕ) (list : List PageMsg) → slice_get p.lists slot ≡ Some list → IsPrefix list (given (entries_at q p.told.journal.start.config.me) slot)

pub all_found : (q : List Journal) (ps : List Replay) (before : List Got) → AllByRecursion (IsTakenIn q) ps → AreOfOneSession (tolds ps)
    → ((p : Replay) → Has p ps → (j : ℕ) → list_any (is_of p.told.journal.start.config.me j) before ≡ false) → AllByRecursion (IsFound q) (steps_after before (flat_map gots_of ps))
all_found q [] before all apart fresh = tt
all_found q (p ∷ ps) before all apart fresh =
    let m = p.told.journal.start.config.me in
    subst (AllByRecursion (IsFound q)) (sym (steps_after-append before (gots_of p) (flat_map gots_of ps)))
    (AllByRecursion-append (IsFound q) (steps_after before (gots_of p)) (steps_after (before ++ gots_of p) (flat_map gots_of ps))
    (one_member q m 0 p.lists before all.0.inside (let long : length p.lists ≡ PAGES = all.0.slots in omega (arith, long)) (λ j l. fresh p (inl refl) j) (λ i list at. subst (λ k. IsPrefix list (given (entries_at q m) k)) (omega arith) (all.0.prefix i list at)))
    (all_found q ps (before ++ gots_of p) all.1 apart.1 (λ r has j.
    let other : r.told.journal.start.config.me ≢ m = (All-Has (IsAnother p.told) r.told (tolds ps) apart.0 (map-Has (λ (x : Replay). x.told) r ps has)).other in
    list_any-append (is_of r.told.journal.start.config.me j) before (gots_of p)
    ∙ ap (λ (b : Bool). b || list_any (is_of r.told.journal.start.config.me j) (gots_of p)) (fresh r (inr has) j)
    ∙ none_of_another r.told.journal.start.config.me m j (gots_of p) other (of_one_member m 0 p.lists))))

abbrev entries_in : Option Journal → List Entry
entries_in o = unwrap_or (option_map (λ (j : Journal). j.entries) o) []

taken_in : (t : Trace) (ps : List Replay) (q : List Journal) → InOrder (journals_of (tolds ps)) q → (rs : List Replay) → ((p : Replay) → Has p rs → Has p ps) → AllByRecursion (IsIn t) rs → AllByRecursion (IsTakenIn q) rs
taken_in t ps q order [] there all = tt
taken_in t ps q order (p ∷ rs) there all =
    let at : slice_get q p.told.journal.start.config.me ≡ Some p.told.journal = told_at (tolds ps) q order p.told (map-Has (λ (x : Replay). x.told) p ps (there p (inl refl))) in (
      record {
        inside = slice_get_within q p.told.journal.start.config.me p.told.journal at;
        slots = all.0.slots;
        prefix = λ slot list here. subst (λ es. IsPrefix list (given es slot)) (ap entries_in (sym at)) (all.0.taken slot list here);
      },
      taken_in t ps q order rs (λ r h. there r (inr h)) all.1,
    )

pub are_found : (t : Trace) (ps : List Replay) (q : List Journal) → AllByRecursion (IsIn t) ps → AreOfOneSession (tolds ps) → InOrder (journals_of (tolds ps)) q → AreFound q (flat_map gots_of ps)
are_found t ps q all apart order = all_found q ps [] (taken_in t ps q order ps (λ p h. h) all) apart (λ p h j. refl)

-- where all lists are found, none is foreign
pub none_foreign : (q : List Journal) (gots : List Got) (member slot : ℕ) → AreFound q gots → ¬ (IsForeign q gots member slot)
none_foreign q gots member slot found f =
    f.foreign (at_parts (IsFound q) f.before (f.got ∷ f.after) (subst (λ xs. AllByRecursion (IsFound q) (steps xs)) f.split found)).1.0
