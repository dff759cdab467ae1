-- What a front of a record's lines tells: some of the calls, or all of them and some of what was taken.
use Rattle.std.proofs.Common.{◌≡◌, ℕ, zero, suc, ◌+◌, List, [], ◌∷◌, ◌++◌, length, map, refl, ap, sym, ◌∙◌, subst, inl, inr, append-nil}
use Rattle.std.specs.Prelude.{◌⊎◌, Option, Some, None, slice_get}
use Rattle.std.specs.List.{flat_map, cons_option, enumerate_from}
use Rattle.std.proofs.lemmas.Option.{none-some, same_Some}
use Rattle.srm_names.specs.declared.page_msg.PageMsg.{PageMsg}
use Rattle.srm_names.specs.Histories.{IsPrefix}
use Rattle.srm_names.proofs.Lists.{map-split}
use Rattle.srm_entries.specs.declared.entry.Entry.{Entry}
use Rattle.srm_frames.specs.declared.line.Line.{Line}
use Rattle.srm_record.specs.Calls.{line_of, lines_of}
use Rattle.srm_record.specs.Takes.{take_at, slot_lines, listed_lines, takes_at}

-- ---- one list, put together in two ways

-- the first front of the two holds the second one, and more
pub record Holds {X : Type 0} (xs ys us vs : List X) : Type 0 where
  pub more : List X
  pub front : xs ≡ us ++ more
  pub rest : more ++ ys ≡ vs

-- or it is a shorter one
pub record IsShort {X : Type 0} (xs us : List X) : Type 0 where
  pub more : List X
  pub front : us ≡ xs ++ more
  pub some : more ≡ [] → ⊥

pub fronts : {X : Type 0} (xs ys us vs : List X) → xs ++ ys ≡ us ++ vs → Holds xs ys us vs ⊎ IsShort xs us
fronts [] ys [] vs e = inl (record { more = []; front = refl; rest = e })
fronts [] ys (u ∷ us) vs e = inr (record { more = u ∷ us; front = refl; some = λ n. cc })
fronts (x ∷ xs) ys [] vs e = inl (record { more = x ∷ xs; front = refl; rest = e })
fronts {X} (x ∷ xs) ys (u ∷ us) vs e = elim (fronts xs ys us vs (tail e)) [
  | inl h ↦ inl (record { more = h.more; front = ap (λ w. x ∷ w) h.front ∙ ap (λ w. w ∷ (us ++ h.more)) (head e); rest = h.rest })
  | inr s ↦ inr (record { more = s.more; front = ap (λ w. u ∷ w) s.front ∙ ap (λ w. w ∷ (xs ++ s.more)) (sym (head e)); some = s.some })
]
  where
    head : {a b : X} {ps qs : List X} → a ∷ ps ≡ b ∷ qs → a ≡ b
    head e = cc

    tail : {a b : X} {ps qs : List X} → a ∷ ps ≡ b ∷ qs → ps ≡ qs
    tail e = cc

-- ---- calls

-- the first of these calls have these lines
pub record HaveLines (session : ℕ) (es : List Entry) (ls : List Line) : Type 0 where
  pub calls : List Entry
  pub front : IsPrefix calls es
  pub lines : lines_of session calls ≡ ls

pub nothing_more : {X : Type 0} (xs ys : List X) → [] ≡ xs ++ ys → xs ≡ []
nothing_more [] ys e = refl
nothing_more (x ∷ xs) ys e = cc

one_more : (session : ℕ) (e : Entry) (es : List Entry) (ls : List Line) (o : Option Line) → line_of session e ≡ o → HaveLines session es ls → HaveLines session (e ∷ es) (cons_option o ls)
one_more session e es ls o is h = record {
  calls = e ∷ h.calls;
  front = (h.front.0, ap (λ w. e ∷ w) h.front.1);
  lines = ap (λ (x : Option Line). cons_option x (lines_of session h.calls)) is ∙ ap (cons_option o) h.lines;
}

pub first_calls : (session : ℕ) (es : List Entry) (ls more : List Line) → lines_of session es ≡ ls ++ more → HaveLines session es ls
first_calls session [] ls more e = record { calls = []; front = ([], refl); lines = sym (nothing_more ls more e) }
first_calls session (x ∷ es) ls more e = go (line_of session x) refl ls (λ ls h. first_calls session es ls more h) e
  where
    go : (o : Option Line) → line_of session x ≡ o → (ls : List Line) → ((ls : List Line) → lines_of session es ≡ ls ++ more → HaveLines session es ls) → cons_option o (lines_of session es) ≡ ls ++ more
        → HaveLines session (x ∷ es) ls
    go None is ls rest e = one_more session x es ls None is (rest ls e)
    go (Some l) is [] rest e = record { calls = []; front = (x ∷ es, refl); lines = refl }
    go (Some l) is (m ∷ ls) rest e =
        let h : HaveLines session (x ∷ es) (l ∷ ls) = one_more session x es ls (Some l) is (rest ls (let k : lines_of session es ≡ ls ++ more = cc in k)) in
        let same : l ≡ m = cc in
        subst (λ w. HaveLines session (x ∷ es) (w ∷ ls)) same h

-- ---- takes

-- each list is a prefix of the one in its place
abbrev pub AreFronts : List (List PageMsg) → List (List PageMsg) → Type 0
AreFronts [] [] = Unit {0}
AreFronts (x ∷ xs) (y ∷ ys) = IsPrefix x y × AreFronts xs ys
AreFronts _ _ = ⊥

pub as_long : (xs ys : List (List PageMsg)) → AreFronts xs ys → length xs ≡ length ys
as_long [] [] are = refl
as_long [] (y ∷ ys) are = absurd are
as_long (x ∷ xs) [] are = absurd are
as_long (x ∷ xs) (y ∷ ys) are = ap suc (as_long xs ys are.1)

pub record IsFrontAt (ys : List (List PageMsg)) (k : ℕ) (x : List PageMsg) : Type 0 where
  pub all : List PageMsg
  pub at : slice_get ys k ≡ Some all
  pub front : IsPrefix x all

pub front_at : (xs ys : List (List PageMsg)) (k : ℕ) (x : List PageMsg) → AreFronts xs ys → slice_get xs k ≡ Some x → IsFrontAt ys k x
front_at [] ys k x are e = absurd (none-some x e)
front_at (z ∷ xs) [] k x are e = absurd are
front_at (z ∷ xs) (y ∷ ys) zero x are e = record { all = y; at = refl; front = subst (λ w. IsPrefix w y) (same_Some z x e) are.0 }
front_at (z ∷ xs) (y ∷ ys) (suc k) x are e = let h = front_at xs ys k x are.1 e in record { all = h.all; at = h.at; front = h.front }

-- no list has anything
abbrev pub emptied : List (List PageMsg) → List (List PageMsg)
emptied lists = map (λ _. []) lists

pub empty_fronts : (lists : List (List PageMsg)) → AreFronts (emptied lists) lists
empty_fronts [] = tt
empty_fronts (ms ∷ lists) = ((ms, refl), empty_fronts lists)

pub all_fronts : (lists : List (List PageMsg)) → AreFronts lists lists
all_fronts [] = tt
all_fronts (ms ∷ lists) = (([], append-nil ms), all_fronts lists)

abbrev pub takes_from : ℕ → ℕ → List (List PageMsg) → List Line
takes_from last from lists = flat_map (listed_lines last) (enumerate_from from lists)

none_taken : (last from : ℕ) (lists : List (List PageMsg)) → takes_from last from (emptied lists) ≡ []
none_taken last from [] = refl
none_taken last from (ms ∷ lists) = none_taken last (from + 1) lists

pub nothing_taken : (last : ℕ) (lists : List (List PageMsg)) → takes_at last (emptied lists) ≡ []
nothing_taken last lists = none_taken last 0 lists

-- fronts of these lists have these lines
pub record HaveTakes (last from : ℕ) (lists : List (List PageMsg)) (ls : List Line) : Type 0 where
  pub took : List (List PageMsg)
  pub fronts : AreFronts took lists
  pub lines : takes_from last from took ≡ ls

first_takes_from : (last from : ℕ) (lists : List (List PageMsg)) (ls more : List Line) → ls ++ more ≡ takes_from last from lists → HaveTakes last from lists ls
first_takes_from last from [] ls more e = record { took = []; fronts = tt; lines = sym (nothing_more ls more (sym e)) }
first_takes_from last from (ms ∷ lists) ls more e = elim (fronts ls more (slot_lines last from ms) (takes_from last (from + 1) lists) e) [
  | inl h ↦
      (let k = first_takes_from last (from + 1) lists h.more more h.rest in
      record { took = ms ∷ k.took; fronts = (([], append-nil ms), k.fronts); lines = ap (λ w. slot_lines last from ms ++ w) k.lines ∙ sym h.front })
  | inr s ↦
      (let (us, vs, p, q, r) = map-split (take_at last from) ms ls s.more s.front in
      record {
        took = us ∷ emptied lists;
        fronts = ((vs, sym p), empty_fronts lists);
        lines = ap (λ w. slot_lines last from us ++ w) (none_taken last (from + 1) lists) ∙ append-nil (slot_lines last from us) ∙ q;
      })
]

pub first_takes : (last : ℕ) (lists : List (List PageMsg)) (ls more : List Line) → ls ++ more ≡ takes_at last lists → HaveTakes last 0 lists ls
first_takes last lists ls more e = first_takes_from last 0 lists ls more e
