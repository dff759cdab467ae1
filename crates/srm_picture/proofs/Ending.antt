-- How timers end: what each entry does to one, and the first that ends it.
use Rattle.std.proofs.Common.{◌≡◌, ℕ, zero, suc, ◌+◌, ◌<◌, ◌≤◌, Bool, true, false, List, [], ◌∷◌, ◌++◌, length, get_or, take, refl, ap, sym, ◌∙◌, subst, inl, inr, arith}
use Rattle.std.specs.Prelude.{Option, Some, None, MatchOption, map, option_map, slice_get, ◌==◌, nat_lt}
use Rattle.std.proofs.lemmas.Bool.{both_ways, cases_order, ltb-true, ltb-false, eqb-true, eqb-false}
use Rattle.std.proofs.lemmas.List.{map-append}
use Rattle.std.proofs.lemmas.Option.{same_Some, slice_get_read, slice_get_within}
use Rattle.srm_names.proofs.Lists.{AllByRecursion-append}
use Rattle.srm_names.specs.FullName.{FullName}
use Rattle.srm_timers.specs.declared.arm.Arm.{Arm}
use Rattle.srm_timers.specs.declared.arm.ArmKind.{ArmKind}
use Rattle.srm_entries.specs.declared.entry.Entry.{Entry}
use Rattle.srm_entries.specs.Entries.{is_gone}
use Rattle.srm_picture.specs.declared.bracket.TimerEnd.{TimerEnd}
use Rattle.srm_picture.specs.declared.bracket.TimerEnd.TheVariants.{RanOut, BackedOff, Cancelled}
use Rattle.srm_picture.specs.declared.bracket.BracketEnd.{BracketEnd}
use Rattle.srm_picture.specs.declared.bracket.Bracket.{Bracket}
use Rattle.srm_picture.specs.declared.point.Point.{Point}
use Rattle.srm_picture.specs.ByEntry.{by_entry, point_of}
use Rattle.srm_picture.specs.OneThat.{IsOneThat}
use Rattle.srm_picture.specs.Brackets.{Timer, hands_out, sets_anew, cancels, EndsLater, EndsItself, EndsIn, NoneEnds, Ends, EndIs, EndsRight, AreBracketsOf, numbered_timer, timers_of, timers_in, numbered}
use Rattle.srm_picture.proofs.ByEntry.{entry_more, each_more}

-- a later entry

pub none_later : (kind : ArmKind) (n : FullName) (e : Entry) → hands_out kind n e ≡ false → sets_anew kind n e ≡ false → cancels kind n e ≡ false → (how : TimerEnd) → ¬ (EndsLater kind n e how)
none_later kind n e out anew cancel RanOut h = both_ways (hands_out kind n e) out h
none_later kind n e out anew cancel BackedOff h = both_ways (sets_anew kind n e) anew h.1
none_later kind n e out anew cancel Cancelled h = both_ways (cancels kind n e) cancel h.2

-- in which way, by what the entry does
abbrev pub way_of : Bool → Bool → Bool → Option TimerEnd
way_of true anew cancel = Some RanOut
way_of false true cancel = Some BackedOff
way_of false false true = Some Cancelled
way_of false false false = None

abbrev pub later_way : ArmKind → FullName → Entry → Option TimerEnd
later_way kind n e = way_of (hands_out kind n e) (sets_anew kind n e) (cancels kind n e)

pub later_is : (kind : ArmKind) (n : FullName) (e : Entry) → IsOneThat (EndsLater kind n e) (later_way kind n e)
later_is kind n e = which (hands_out kind n e) (sets_anew kind n e) (cancels kind n e) refl refl refl
  where
    which : (out anew cancel : Bool) → hands_out kind n e ≡ out → sets_anew kind n e ≡ anew → cancels kind n e ≡ cancel → IsOneThat (EndsLater kind n e) (way_of out anew cancel)
    which true anew cancel o a c = o
    which false true cancel o a c = (o, a)
    which false false true o a c = (o, a, c)
    which false false false o a c = none_later kind n e o a c

later_told : (kind : ArmKind) (n : FullName) (e : Entry) (how : TimerEnd) → EndsLater kind n e how → later_way kind n e ≡ Some how
later_told kind n e RanOut h = ap (λ b. way_of b (sets_anew kind n e) (cancels kind n e)) h
later_told kind n e BackedOff h = ap (λ b. way_of b (sets_anew kind n e) (cancels kind n e)) h.0 ∙ ap (λ b. way_of false b (cancels kind n e)) h.1
later_told kind n e Cancelled h = ap (λ b. way_of b (sets_anew kind n e) (cancels kind n e)) h.0 ∙ ap (λ b. way_of false b (cancels kind n e)) h.1 ∙ ap (λ b. way_of false false b) h.2

same_later : (kind : ArmKind) (n : FullName) (e : Entry) (how other : TimerEnd) → EndsLater kind n e how → EndsLater kind n e other → how ≡ other
same_later kind n e how other h k = same_Some how other (sym (later_told kind n e how h) ∙ later_told kind n e other k)

-- the entry that sets it

pub none_itself : (e : Entry) → is_gone e.effects.state ≡ false → (how : TimerEnd) → ¬ (EndsItself e how)
none_itself e stays how h = both_ways (is_gone e.effects.state) stays h.0

abbrev pub itself_way : Bool → Option TimerEnd
itself_way true = Some Cancelled
itself_way false = None

pub itself_is : (e : Entry) → IsOneThat (EndsItself e) (itself_way (is_gone e.effects.state))
itself_is e = which (is_gone e.effects.state) refl
  where
    which : (gone : Bool) → is_gone e.effects.state ≡ gone → IsOneThat (EndsItself e) (itself_way gone)
    which true g = (g, refl)
    which false g = none_itself e g

-- an entry at an index

pub too_early : (t : Timer) (index : ℕ) (e : Entry) → index < t.from.entry → (how : TimerEnd) → ¬ (EndsIn t index e how)
too_early t index e early how h = elim h.so [ inl l ↦ (let after = l.0 in omega arith) | inr i ↦ (let here = i.0 in omega arith) ]

pub of_another : (t : Timer) (index : ℕ) (e : Entry) → ¬ (e.member ≡ t.from.member) → (how : TimerEnd) → ¬ (EndsIn t index e how)
of_another t index e other how h = other h.member

pub in_later : (t : Timer) (index : ℕ) (e : Entry) (o : Option TimerEnd) → e.member ≡ t.from.member → t.from.entry < index → IsOneThat (EndsLater t.kind t.name e) o → IsOneThat (EndsIn t index e) o
in_later t index e (Some how) member after is = record { member = member; so = inl (after, is) }
in_later t index e None member after is = λ how h. elim h.so [ inl l ↦ is how l.1 | inr i ↦ (let here = i.0 in omega arith) ]

pub in_itself : (t : Timer) (index : ℕ) (e : Entry) (o : Option TimerEnd) → e.member ≡ t.from.member → index ≡ t.from.entry → IsOneThat (EndsItself e) o → IsOneThat (EndsIn t index e) o
in_itself t index e (Some how) member here is = record { member = member; so = inr (here, is) }
in_itself t index e None member here is = λ how h. elim h.so [ inl l ↦ (let after = l.0 in omega arith) | inr i ↦ is how i.1 ]

abbrev pub way_in : Bool → Bool → Bool → Option TimerEnd → Option TimerEnd → Option TimerEnd
way_in false after here later itself = None
way_in true true here later itself = later
way_in true false true later itself = itself
way_in true false false later itself = None

abbrev pub entry_way : Timer → ℕ → Entry → Option TimerEnd
entry_way t index e = way_in (e.member == t.from.member) (nat_lt t.from.entry index) (index == t.from.entry) (later_way t.kind t.name e) (itself_way (is_gone e.effects.state))

placed : (t : Timer) (index : ℕ) (e : Entry) (later itself : Option TimerEnd) (after here : Bool) → e.member ≡ t.from.member → nat_lt t.from.entry index ≡ after → (index == t.from.entry) ≡ here → IsOneThat (EndsLater t.kind t.name e) later → IsOneThat (EndsItself e) itself
    → IsOneThat (EndsIn t index e) (way_in true after here later itself)
placed t index e later itself true here member a h l i = in_later t index e later member (ltb-true t.from.entry index a) l
placed t index e later itself false true member a h l i = in_itself t index e itself member (eqb-true index t.from.entry h) i
placed t index e later itself false false member a h l i =
    let upper = ltb-false t.from.entry index a in
    let other = eqb-false index t.from.entry h in
    too_early t index e (omega (arith, upper, other))

pub entry_is : (t : Timer) (index : ℕ) (e : Entry) → IsOneThat (EndsIn t index e) (entry_way t index e)
entry_is t index e = which (e.member == t.from.member) refl
  where
    which : (same : Bool) → (e.member == t.from.member) ≡ same → IsOneThat (EndsIn t index e) (way_in same (nat_lt t.from.entry index) (index == t.from.entry) (later_way t.kind t.name e) (itself_way (is_gone e.effects.state)))
    which true s = placed t index e (later_way t.kind t.name e) (itself_way (is_gone e.effects.state)) (nat_lt t.from.entry index) (index == t.from.entry) (eqb-true e.member t.from.member s) refl refl (later_is t.kind t.name e) (itself_is e)
    which false s = of_another t index e (eqb-false e.member t.from.member s)

same_in : (t : Timer) (index : ℕ) (e : Entry) (how other : TimerEnd) → EndsIn t index e how → EndsIn t index e other → how ≡ other
same_in t index e how other h k = elim h.so [
  | inl l ↦ elim k.so [ inl m ↦ same_later t.kind t.name e how other l.1 m.1 | inr j ↦ (let after = l.0 in let here = j.0 in absurd (omega arith)) ]
  | inr i ↦ elim k.so [ inl m ↦ (let after = m.0 in let here = i.0 in absurd (omega arith)) | inr j ↦ i.1.1 ∙ sym j.1.1 ]
]

-- the first that ends it

pub none_yet : (es : List Entry) (t : Timer) → NoneEnds es t 0
none_yet es t index e how l at h = absurd (omega arith)

pub none_more : (es : List Entry) (t : Timer) (n m : ℕ) (e : Entry) → m ≡ n + 1 → slice_get es n ≡ Some e → NoneEnds es t n → ((how : TimerEnd) → ¬ (EndsIn t n e how)) → NoneEnds es t m
none_more es t n m e next there none quiet index x how l at h = elim (cases_order index n) [
  | inl same ↦ quiet how (subst (λ (y : Entry). EndsIn t n y how) (same_Some x e (sym at ∙ ap (slice_get es) same ∙ there)) (subst (λ k. EndsIn t k x how) same h))
  | inr other ↦ elim other [ inl before ↦ none index x how before at h | inr after ↦ omega (arith, after, l, next) ]
]

pub none_past : (es : List Entry) (t : Timer) (n m : ℕ) → slice_get es n ≡ None → m ≡ n + 1 → NoneEnds es t n → NoneEnds es t m
none_past es t n m gone next none index x how l at h = elim (cases_order index n) [
  | inl same ↦ (let e : None ≡ Some x = sym gone ∙ ap (slice_get es) (sym same) ∙ at in cc)
  | inr other ↦ elim other [ inl before ↦ none index x how before at h | inr after ↦ omega (arith, after, l, next) ]
]

pub none_at : (es : List Entry) (t : Timer) (n : ℕ) (e : Entry) (o : Option TimerEnd) → n < length es → e ≡ get_or es n e → NoneEnds es t n → IsOneThat (EndsIn t n e) o → o ≡ None → NoneEnds es t (n + 1)
none_at es t n e o l at none quiet is = none_more es t n (n + 1) e refl (slice_get_read es (length es) n e refl l at) none (subst (IsOneThat (EndsIn t n e)) is quiet)

pub none_of_all : (es : List Entry) (t : Timer) (n : ℕ) → length es ≤ n → NoneEnds es t n → EndIs es t None
none_of_all es t n all none index e how l at h = none index e how (omega (arith, l, all)) at h

abbrev pub end_at : ℕ → TimerEnd → BracketEnd
end_at index how = record { entry = index; ending = how }

pub found_at : (es : List Entry) (t : Timer) (n : ℕ) (e : Entry) (how : TimerEnd) → n < length es → e ≡ get_or es n e → NoneEnds es t n → IsOneThat (EndsIn t n e) (Some how) → EndIs es t (Some (end_at n how))
found_at es t n e how l at none is = record { entry = e; at = slice_get_read es (length es) n e refl l at; so = is; first = none }

abbrev pub or_here : Option BracketEnd → Timer → ℕ → Option Entry → Option BracketEnd
or_here (Some end) t n o = Some end
or_here None t n None = None
or_here None t n (Some e) = option_map (end_at n) (entry_way t n e)

-- the first of the first n entries that ends it
abbrev pub end_before : List Entry → Timer → ℕ → Option BracketEnd
end_before es t zero = None
end_before es t (suc n) = or_here (end_before es t n) t n (slice_get es n)

pub end_so_far : (es : List Entry) (t : Timer) (n : ℕ) → MatchOption (end_before es t n) (NoneEnds es t n) (Ends es t)
end_so_far es t zero = none_yet es t
end_so_far es t (suc n) = which (end_before es t n) (end_so_far es t n)
  where
    step : (e : Entry) (o : Option TimerEnd) → slice_get es n ≡ Some e → NoneEnds es t n → IsOneThat (EndsIn t n e) o → MatchOption (option_map (end_at n) o) (NoneEnds es t (suc n)) (Ends es t)
    step e None there none is = none_more es t n (suc n) e (omega arith) there none is
    step e (Some how) there none is = record { entry = e; at = there; so = is; first = none }

    here : (o : Option Entry) → slice_get es n ≡ o → NoneEnds es t n → MatchOption (or_here None t n o) (NoneEnds es t (suc n)) (Ends es t)
    here None gone none = none_past es t n (suc n) gone (omega arith) none
    here (Some e) there none = step e (entry_way t n e) there none (entry_is t n e)

    which : (o : Option BracketEnd) → MatchOption o (NoneEnds es t n) (Ends es t) → MatchOption (or_here o t n (slice_get es n)) (NoneEnds es t (suc n)) (Ends es t)
    which (Some end) is = is
    which None none = here (slice_get es n) refl none

pub end_is : (es : List Entry) (t : Timer) → EndIs es t (end_before es t (length es))
end_is es t = end_so_far es t (length es)

same_end_at : (i j : ℕ) (how other : TimerEnd) → i ≡ j → how ≡ other → end_at i how ≡ end_at j other
same_end_at i j how other e f = cc

pub same_end : (es : List Entry) (t : Timer) (a b : Option BracketEnd) → EndIs es t a → EndIs es t b → a ≡ b
same_end es t None None h k = refl
same_end es t None (Some b) h k = absurd (h b.entry k.entry b.ending (slice_get_within es b.entry k.entry k.at) k.at k.so)
same_end es t (Some a) None h k = absurd (k a.entry h.entry a.ending (slice_get_within es a.entry h.entry h.at) h.at h.so)
same_end es t (Some a) (Some b) h k = elim (cases_order a.entry b.entry) [
  | inl same ↦ ap Some (same_end_at a.entry b.entry a.ending b.ending same (same_in t b.entry k.entry a.ending b.ending (moved same) k.so))
  | inr other ↦ elim other [ inl before ↦ absurd (k.first a.entry h.entry a.ending before h.at h.so) | inr after ↦ absurd (h.first b.entry k.entry b.ending after k.at k.so) ]
]
  where
    moved : a.entry ≡ b.entry → EndsIn t b.entry k.entry a.ending
    moved same = subst (λ (e : Entry). EndsIn t b.entry e a.ending) (same_Some h.entry k.entry (sym h.at ∙ ap (slice_get es) same ∙ k.at)) (subst (λ i. EndsIn t i h.entry a.ending) same h.so)

-- brackets one by one

pub brackets_more : (es : List Entry) (ts us : List (ℕ × Timer)) (bs cs : List Bracket) → AreBracketsOf es ts bs → AreBracketsOf es us cs → AreBracketsOf es (ts ++ us) (bs ++ cs)
brackets_more es ts us bs cs h k = record {
  are = map-append numbered bs cs ∙ ap (λ xs. xs ++ map numbered cs) h.are ∙ ap (λ xs. ts ++ xs) k.are;
  ends = AllByRecursion-append (EndsRight es) bs cs h.ends k.ends;
}

pub bracket_more : (es : List Entry) (place : Point) (arms : List Arm) (i : ℕ) (arm : Arm) (bs : List Bracket) (b : Bracket) → i < length arms → arm ≡ get_or arms i arm → AreBracketsOf es (timers_of place (take i arms)) bs
    → numbered b ≡ numbered_timer place (i, arm) → EndsRight es b → AreBracketsOf es (timers_of place (take (i + 1) arms)) (bs ++ b ∷ [])
bracket_more es place arms i arm bs b l at so_far is ends =
    subst (λ ts. AreBracketsOf es ts (bs ++ b ∷ [])) (each_more (numbered_timer place) arms i arm (timers_of place (take i arms)) (numbered b) l at refl is)
    (brackets_more es (timers_of place (take i arms)) (numbered b ∷ []) bs (b ∷ []) so_far (record { are = refl; ends = (ends, tt) }))

pub entry_brackets : (es : List Entry) (i : ℕ) (e : Entry) (bs cs : List Bracket) → i < length es → e ≡ get_or es i e → AreBracketsOf es (by_entry timers_in (take i es)) bs → AreBracketsOf es (timers_of (point_of (i, e)) e.effects.arms) cs
    → AreBracketsOf es (by_entry timers_in (take (i + 1) es)) (bs ++ cs)
entry_brackets es i e bs cs l at so_far here =
    subst (λ ts. AreBracketsOf es ts (bs ++ cs)) (entry_more timers_in es i e (by_entry timers_in (take i es)) (timers_in (i, e)) l at refl refl) (brackets_more es (by_entry timers_in (take i es)) (timers_in (i, e)) bs cs so_far here)
