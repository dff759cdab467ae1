-- Hearing one datagram after another.
use Rattle.std.proofs.Common.{◌≡◌, ℕ, ◌+◌, ◌<◌, List, [], ◌∷◌, ◌++◌, length, take, get_or, ap, sym, ◌∙◌, subst, inl, inr, arith, append_assoc}
use Rattle.std.specs.Prelude.{Ok, Err, map}
use Rattle.std.proofs.lemmas.List.{append-nil, length-map, take_more, get_or-map}
use Rattle.srm_entries.specs.declared.entry.Entry.{Entry}
use Rattle.srm_agent.specs.declared.heard.Heard.{Heard}
use Rattle.srm_world.specs.Traces.{Journal}
use Rattle.srm_world.specs.declared.start.Start.{Start}
use Rattle.srm_world.specs.WaitWords.{RecorderView, AreByWords, RecordsByWords}
use Rattle.srm_world.specs.Recording.{RecordsHeard, IsHearing, EntersEach, HearsAll, with_entry, with_entries}
use Rattle.srm_world.proofs.Wording.{by_more}

abbrev pub at : Journal → List Entry → Journal
at j es = record { start = j.start; entries = es }

pub grows_nothing : (j : Journal) → j ≡ with_entries j []
grows_nothing j = ap (at j) (sym (append-nil j.entries))

pub grown_on : (a b c : Journal) (es fs : List Entry) → b ≡ with_entries a es → c ≡ with_entries b fs → c ≡ with_entries a (es ++ fs)
grown_on a b c es fs h k = k ∙ ap (λ j. with_entries j fs) h ∙ ap (at a) (append_assoc a.entries es fs)

-- one more, at the end
pub enters-snoc : {X : Type 0} (Is : Journal → X → Entry → Type 0) (j : Journal) (xs : List X) (es : List Entry) (x : X) (e : Entry) → EntersEach Is j xs es → Is (with_entries j es) x e → EntersEach Is j (xs ++ x ∷ []) (es ++ e ∷ [])
enters-snoc Is j [] [] x e h k = (subst (λ ys. Is (at j ys) x e) (append-nil j.entries) k, tt)
enters-snoc Is j [] (y ∷ es) x e h k = absurd h
enters-snoc Is j (z ∷ xs) [] x e h k = absurd h
enters-snoc Is j (z ∷ xs) (y ∷ es) x e h k = (h.0, enters-snoc Is (with_entry j y) xs es x e h.1 (subst (λ ys. Is (at j ys) x e) (sym (append_assoc j.entries (y ∷ []) es)) k))

pub hears_none : (now : ℕ) (j : Journal) → HearsAll now [] j j
hears_none now j = record { entries = []; grown = grows_nothing j; each = tt }

hears_one_more : (now : ℕ) (bs : List (List ℕ)) (bytes : List ℕ) (a b c : Journal) (e : Entry) → HearsAll now bs a b → c ≡ with_entry b e → IsHearing now b bytes e → HearsAll now (bs ++ bytes ∷ []) a c
hears_one_more now bs bytes a b c e h grown hearing = record {
  entries = h.entries ++ e ∷ [];
  grown = grown_on a b c h.entries (e ∷ []) h.grown grown;
  each = enters-snoc (IsHearing now) a bs h.entries bytes e h.each (subst (λ j. IsHearing now j bytes e) h.grown hearing);
}

hears_more : (now : ℕ) (bs : List (List ℕ)) (bytes : List ℕ) (a b c : Journal) (heard : Heard) → HearsAll now bs a b → RecordsHeard now bytes b c (Ok heard) → HearsAll now (bs ++ bytes ∷ []) a c
hears_more now bs bytes a b c heard h (inl (e, grows, says, answers)) = hears_one_more now bs bytes a b c e h grows.grown (record { moment = grows.moment; heard = says })
hears_more now bs bytes a b c heard h (inr (wrong, same)) = absurd (is_ok wrong)
  where
    is_ok : {A B : Type 0} {x : A} {y : B} → Ok x ≡ Err y → ⊥
    is_ok e = cc

-- and the generator goes on
pub words_go_on : {W : Type 0} (next_word : W → ℕ × W) (a b c : RecorderView W) → b.journal.start ≡ a.journal.start → RecordsByWords next_word a b → RecordsByWords next_word b c → RecordsByWords next_word a c
words_go_on next_word a b c same h k = record {
  added = h.added ++ k.added;
  grown = k.grown ∙ ap (λ es. es ++ k.added) h.grown ∙ append_assoc a.journal.entries h.added k.added;
  words = by_more next_word a.journal.start.config a.words b.words c.words h.added k.added h.words (subst (λ (t : Start). AreByWords next_word t.config b.words k.added c.words) same k.words);
  begins = k.begins ∙ h.begins;
}

-- one more of those that are gone through
take_one_more : {V : Type 0} (f : V → List ℕ) (xs : List V) (i : ℕ) (v : V) → v ≡ get_or xs i v → i < length xs → take (i + 1) (map f xs) ≡ take i (map f xs) ++ f v ∷ []
take_one_more f xs i v is lt = take_more (map f xs) i (f v) (omega (arith, lt, length-map xs f)) ∙ ap (λ y. take i (map f xs) ++ y ∷ []) (get_or-map f xs i v (f v) lt ∙ ap f (sym is))

pub hears_next : {V : Type 0} (now : ℕ) (f : V → List ℕ) (xs : List V) (i : ℕ) (v : V) (a b c : Journal) (heard : Heard) → v ≡ get_or xs i v → i < length xs → HearsAll now (take i (map f xs)) a b → RecordsHeard now (f v) b c (Ok heard)
    → HearsAll now (take (i + 1) (map f xs)) a c
hears_next now f xs i v a b c heard is lt h r = subst (λ bs. HearsAll now bs a c) (sym (take_one_more f xs i v is lt)) (hears_more now (take i (map f xs)) (f v) a b c heard h r)

pub same_start : (now : ℕ) (all : List (List ℕ)) (a b : Journal) → HearsAll now all a b → b.start ≡ a.start
same_start now all a b h = ap (λ (j : Journal). j.start) h.grown
