-- Places in blocks: what a longer list and a write change.
use Rattle.std.proofs.Common.{◌≡◌, ◌≢◌, ℕ, zero, suc, ◌+◌, ◌/◌, ◌%◌, ◌<◌, ◌≤◌, ◌⊎◌, List, [], ◌∷◌, ◌++◌, Option, Some, None, true, false, length, get_or, set, refl, sym, ap, ◌∙◌, subst, arith, inl, inr}
use Rattle.std.specs.Prelude.{IsSome, is_some, nat_lt, if◌then◌else◌, ◌==◌}
use Rattle.std.proofs.lemmas.Bool.{cases_Bool, eq-eqb, ne_eqb, cases_eq}
use Rattle.std.proofs.lemmas.List.{get_or_past, get_or-set_same, get_or-set_other, length-set, length-append, get_or_default}
use Rattle.std.specs.Option.{option_copied}
use denote.Ref.{Bor}
use Rattle.std.proofs.lemmas.Bool.Decides.{nat_tests}
use Rattle.srm_names.specs.declared.limits.TheConstants.{DRAWOPS}
use Rattle.srm_names.specs.declared.drawop.Drawop.{Drawop}
use Rattle.srm_store.specs.Places.{place_at, has_place, SamePlaces, StillHas, Grown, Writes, FilledTo, EndsInTime}

-- one more at the end, which is the default
pub get_or-default_pushed : {X : Type 0} (xs : List X) (i : ℕ) (d : X) → get_or (xs ++ d ∷ []) i d ≡ get_or xs i d
get_or-default_pushed [] zero d = refl
get_or-default_pushed [] (suc i) d = refl
get_or-default_pushed (x ∷ xs) zero d = refl
get_or-default_pushed (x ∷ xs) (suc i) d = get_or-default_pushed xs i d

pub grown_itself : (b : List (Option Drawop)) → Grown b b
grown_itself b = record { same = λ i. refl; longer = omega arith }

pub grown_more : (a b c : List (Option Drawop)) → Grown a b → c ≡ b ++ None ∷ [] → Grown a c
grown_more a b c h e = record {
  same = λ i. ap (λ x. get_or x i None) e ∙ get_or-default_pushed b i None ∙ h.same i;
  longer = omega (arith, h.longer, ap length e, length-append b (None ∷ []));
}

pub grown_same : (a b c : List (Option Drawop)) → Grown a b → c ≡ b → Grown a c
grown_same a b c h e = subst (Grown a) (sym e) h

pub place_at-blank : (n : ℕ) → place_at [] n ≡ None
unfolding place_at
place_at-blank n = refl

pub ends_blank : EndsInTime []
ends_blank = record { past = λ n lt. place_at-blank n }

pub same_places : (bs : List (List (Option Drawop))) → SamePlaces bs bs
same_places bs = record { each = λ n. refl }

pub same_places_on : (a b c : List (List (Option Drawop))) → SamePlaces a b → SamePlaces b c → SamePlaces a c
same_places_on a b c h k = record { each = λ n. k.each n ∙ h.each n }

pub still_has : (bs : List (List (Option Drawop))) → StillHas bs bs
still_has bs = record { each = λ n h. h }

pub still_has_on : (a b c : List (List (Option Drawop))) → StillHas a b → StillHas b c → StillHas a c
still_has_on a b c h k = record { each = λ n at. k.each n (h.each n at) }

-- one more block, with no place yet
pub same_pushed : (bs cs : List (List (Option Drawop))) → cs ≡ bs ++ [] ∷ [] → SamePlaces bs cs
unfolding place_at
same_pushed bs cs e = record { each = λ n. ap (λ (xs : List (List (Option Drawop))). get_or (get_or xs (n / 256) []) (n % 256) None) e ∙ ap (λ (b : List (Option Drawop)). get_or b (n % 256) None) (get_or-default_pushed bs (n / 256) []) }

pub still_pushed : (bs cs : List (List (Option Drawop))) → cs ≡ bs ++ [] ∷ [] → StillHas bs cs
unfolding has_place
still_pushed bs cs e = record { each = λ n at. ap (λ (xs : List (List (Option Drawop))). nat_lt (n % 256) (length (get_or xs (n / 256) []))) e ∙ ap (λ (b : List (Option Drawop)). nat_lt (n % 256) (length b)) (get_or-default_pushed bs (n / 256) []) ∙ at }

-- where there is a place there is its block
pub place_inside : (bs : List (List (Option Drawop))) (n : ℕ) → has_place bs n ≡ true → n % 256 < length (get_or bs (n / 256) [])
unfolding has_place
place_inside bs n h = grind (arith, nat_tests)

pub inside_place : (bs : List (List (Option Drawop))) (n : ℕ) → n % 256 < length (get_or bs (n / 256) []) → has_place bs n ≡ true
unfolding has_place
inside_place bs n h = grind (arith, nat_tests)

pub block_there : (bs : List (List (Option Drawop))) (n : ℕ) → has_place bs n ≡ true → n / 256 < length bs
block_there bs n h = go (cases_Bool (nat_lt (n / 256) (length bs)))
  where
    go : ((nat_lt (n / 256) (length bs) ≡ true) ⊎ (nat_lt (n / 256) (length bs) ≡ false)) → n / 256 < length bs
    go (inl below) = grind (arith, nat_tests)
    go (inr past) =
        let e : length bs ≤ n / 256 = grind (arith, nat_tests) in
        let f : length (get_or bs (n / 256) []) ≡ 0 = ap length (get_or_past bs (n / 256) [] e) in
        absurd (omega (arith, f, place_inside bs n h))

-- a block is replaced by one that has grown
pub same_grown : (bs : List (List (Option Drawop))) (k : ℕ) (b : List (Option Drawop)) → k < length bs → Grown (get_or bs k []) b → SamePlaces bs (set bs k b)
unfolding place_at
same_grown bs k b lt g = record { each = λ n. go n (cases_eq (n / 256) k) }
  where
    go : (n : ℕ) → ((n / 256 ≡ k) ⊎ (n / 256 ≢ k)) → get_or (get_or (set bs k b) (n / 256) []) (n % 256) None ≡ get_or (get_or bs (n / 256) []) (n % 256) None
    go n (inl e) = rw e (ap (λ (x : List (Option Drawop)). get_or x (n % 256) None) (get_or-set_same bs k b [] lt) ∙ g.same (n % 256))
    go n (inr ne) = ap (λ (x : List (Option Drawop)). get_or x (n % 256) None) (get_or-set_other bs k (n / 256) b [] ne)

pub still_longer : (bs : List (List (Option Drawop))) (k : ℕ) (b : List (Option Drawop)) → k < length bs → length (get_or bs k []) ≤ length b → StillHas bs (set bs k b)
still_longer bs k b lt longer = record { each = λ n at. inside_place (set bs k b) n (go n (place_inside bs n at) (cases_eq (n / 256) k)) }
  where
    go : (n : ℕ) → n % 256 < length (get_or bs (n / 256) []) → ((n / 256 ≡ k) ⊎ (n / 256 ≢ k)) → n % 256 < length (get_or (set bs k b) (n / 256) [])
    go n at (inl e) = omega (arith, ap length (ap (λ i. get_or (set bs k b) i []) e ∙ get_or-set_same bs k b [] lt), longer, ap (λ i. length (get_or bs i [])) e, at)
    go n at (inr ne) = omega (arith, ap length (get_or-set_other bs k (n / 256) b [] ne), at)

pub has_made : (bs : List (List (Option Drawop))) (n : ℕ) (b : List (Option Drawop)) → n / 256 < length bs → n % 256 < length b → has_place (set bs (n / 256) b) n ≡ true
has_made bs n b lt inside = inside_place (set bs (n / 256) b) n (omega (arith, ap length (get_or-set_same bs (n / 256) b [] lt), inside))

-- a place is written
pub writes_set : (bs : List (List (Option Drawop))) (n : ℕ) (v : Option Drawop) → has_place bs n ≡ true → Writes n v bs (set bs (n / 256) (set (get_or bs (n / 256) []) (n % 256) v))
unfolding place_at
writes_set bs n v h = record { each = λ m. go m (cases_eq (m / 256) (n / 256)) (cases_eq (m % 256) (n % 256)) }
  where
    b : List (Option Drawop)
    b = set (get_or bs (n / 256) []) (n % 256) v

    go : (m : ℕ) → ((m / 256 ≡ n / 256) ⊎ (m / 256 ≢ n / 256)) → ((m % 256 ≡ n % 256) ⊎ (m % 256 ≢ n % 256))
        → get_or (get_or (set bs (n / 256) b) (m / 256) []) (m % 256) None ≡ (if m == n then v else get_or (get_or bs (m / 256) []) (m % 256) None)
    go m (inl e) (inl f) =
        let same : m ≡ n = omega arith in
        rw (eq-eqb m n same, e, f) (ap (λ (x : List (Option Drawop)). get_or x (n % 256) None) (get_or-set_same bs (n / 256) b [] (block_there bs n h)) ∙ get_or-set_same (get_or bs (n / 256) []) (n % 256) v None (place_inside bs n h))
    go m (inl e) (inr ne) =
        let other : m ≢ n = λ same. ne (ap (λ k. k % 256) same) in
        rw (ne_eqb m n other, e) (ap (λ (x : List (Option Drawop)). get_or x (m % 256) None) (get_or-set_same bs (n / 256) b [] (block_there bs n h)) ∙ get_or-set_other (get_or bs (n / 256) []) (n % 256) (m % 256) v None ne)
    go m (inr ne) f =
        let other : m ≢ n = λ same. ne (ap (λ k. k / 256) same) in
        rw (ne_eqb m n other) (ap (λ (x : List (Option Drawop)). get_or x (m % 256) None) (get_or-set_other bs (n / 256) (m / 256) b [] ne))

pub ends_same : (bs cs : List (List (Option Drawop))) → EndsInTime bs → SamePlaces bs cs → EndsInTime cs
ends_same bs cs h same = record { past = λ n lt. same.each n ∙ h.past n lt }

pub ends_written : (bs cs : List (List (Option Drawop))) (n : ℕ) (v : Option Drawop) → n ≤ DRAWOPS → EndsInTime bs → Writes n v bs cs → EndsInTime cs
ends_written bs cs n v le h w = record { past = λ m lt. w.each m ∙ rw (ne_eqb m n (λ e. absurd (omega arith))) (h.past m lt) }

pub copied_some : {X : Type 0} (o : Option (Bor X)) (p : Option X) → option_copied o ≡ p → is_some p ≡ is_some o
copied_some None p e = ap is_some (sym e)
copied_some (Some x) p e = ap is_some (sym e)

-- one more filled place
pub filled_more : (bs : List (List (Option Drawop))) (last : ℕ) → ((n : ℕ) → 1 ≤ n → n ≤ last → IsSome (place_at bs n)) → IsSome (place_at bs (last + 1)) → (n : ℕ) → 1 ≤ n → n ≤ last + 1 → IsSome (place_at bs n)
filled_more bs last before here n low high = go (cases_eq n (last + 1))
  where
    go : ((n ≡ last + 1) ⊎ (n ≢ last + 1)) → IsSome (place_at bs n)
    go (inl e) = subst (λ k. IsSome (place_at bs k)) (sym e) here
    go (inr ne) = before n low (omega arith)

-- what a look into a block that is not there says
pub place_past : (bs : List (List (Option Drawop))) (n : ℕ) → length bs ≤ n / 256 → place_at bs n ≡ None
unfolding place_at
place_past bs n past = ap (λ (b : List (Option Drawop)). get_or b (n % 256) None) (get_or_past bs (n / 256) [] past)

pub place_inside_block : (bs : List (List (Option Drawop))) (n : ℕ) (b : List (Option Drawop)) → b ≡ get_or bs (n / 256) b → n / 256 < length bs → get_or b (n % 256) None ≡ place_at bs n
unfolding place_at
place_inside_block bs n b e lt = ap (λ (x : List (Option Drawop)). get_or x (n % 256) None) (e ∙ get_or_default bs (n / 256) b [] lt)

-- The same, in the words of a method: the fields are the value, and the block is the one at its place.
module _ (bs zs : List (List (Option Drawop))) (n : ℕ) (b c : List (Option Drawop)) (v : Option Drawop) (is : bs ≡ zs) (there : has_place zs n ≡ true) (at : b ≡ get_or bs (n / 256) b) (wrote : c ≡ set b (n % 256) v) where
  there_in : has_place bs n ≡ true
  there_in = ap (λ xs. has_place xs n) is ∙ there

  block_in : b ≡ get_or bs (n / 256) []
  block_in = at ∙ get_or_default bs (n / 256) b [] (block_there bs n there_in)

  whole_in : set bs (n / 256) c ≡ set bs (n / 256) (set (get_or bs (n / 256) []) (n % 256) v)
  whole_in = ap (set bs (n / 256)) (wrote ∙ ap (λ x. set x (n % 256) v) block_in)

  pub writes_in : Writes n v zs (set bs (n / 256) c)
  writes_in = subst (λ xs. Writes n v zs xs) (sym whole_in) (subst (λ xs. Writes n v xs (set bs (n / 256) (set (get_or bs (n / 256) []) (n % 256) v))) is (writes_set bs n v there_in))

  pub still_in : StillHas zs (set bs (n / 256) c)
  still_in = subst (λ xs. StillHas xs (set bs (n / 256) c)) is (still_longer bs (n / 256) c (block_there bs n there_in) (omega (arith, ap length (wrote ∙ ap (λ x. set x (n % 256) v) block_in), length-set (get_or bs (n / 256) []) (n % 256) v)))

  pub inside_in : n % 256 < length b
  inside_in = omega (arith, place_inside bs n there_in, ap length block_in)

module _ (old bs : List (List (Option Drawop))) where
  pub same_after : (cs : List (List (Option Drawop))) → SamePlaces old bs → cs ≡ bs → SamePlaces old cs
  same_after cs h e = subst (SamePlaces old) (sym e) h

  pub still_after : (cs : List (List (Option Drawop))) → StillHas old bs → cs ≡ bs → StillHas old cs
  still_after cs h e = subst (StillHas old) (sym e) h

  pub same_more : (cs : List (List (Option Drawop))) → SamePlaces old bs → cs ≡ bs ++ [] ∷ [] → SamePlaces old cs
  same_more cs h e = same_places_on old bs cs h (same_pushed bs cs e)

  pub still_more : (cs : List (List (Option Drawop))) → StillHas old bs → cs ≡ bs ++ [] ∷ [] → StillHas old cs
  still_more cs h e = still_has_on old bs cs h (still_pushed bs cs e)

  -- the block of a number grows
  module _ (n : ℕ) (b c : List (Option Drawop)) (lt : n / 256 < length bs) (at : b ≡ get_or bs (n / 256) b) (grown : Grown b c) where
    here : Grown (get_or bs (n / 256) []) c
    here = subst (λ x. Grown x c) (at ∙ get_or_default bs (n / 256) b [] lt) grown

    pub grown_same_places : SamePlaces bs (set bs (n / 256) c)
    grown_same_places = same_grown bs (n / 256) c lt here

    pub same_made : SamePlaces old bs → SamePlaces old (set bs (n / 256) c)
    same_made h = same_places_on old bs _ h grown_same_places

    pub still_made : StillHas old bs → StillHas old (set bs (n / 256) c)
    still_made h = still_has_on old bs _ h (still_longer bs (n / 256) c lt here.longer)

    pub again_made : StillHas old bs → has_place old n ≡ true → n % 256 < length b
    again_made h was = omega (arith, place_inside bs n (h.each n was), ap length (at ∙ get_or_default bs (n / 256) b [] lt))

    pub ok_made : n % 256 < length c → has_place (set bs (n / 256) c) n ≡ true
    ok_made inside = has_made bs n c lt inside

pub filled_blank : FilledTo [] 0
filled_blank = record { filled = λ n low high. absurd (omega arith); gap = place_at-blank 1 }
