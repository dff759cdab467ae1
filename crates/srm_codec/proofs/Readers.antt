-- Readers that undo a spelling, and how they are put together.
use Rattle.std.proofs.Common.{◌≡◌, ℕ, ◌+◌, ◌<◌, Bool, true, false, List, [], ◌++◌, length, get_or, take, drop, Result, Ok, Err, refl, sym, ap, subst, ◌∙◌, append_assoc, arith, inl, inr}
use Rattle.std.specs.Prelude.{◌==◌}
use Rattle.std.proofs.lemmas.Bool.{eqb-true, cases_lt}
use Rattle.std.proofs.lemmas.List.{append-nil, nil_from_length, length-take, get_or-drop, get_or-take, get_or_past}
use Rattle.srm_codec.specs.declared.fault.DecodeFault.{DecodeFault}
use Rattle.srm_codec.specs.declared.fault.DecodeFault.TheVariants.{Length}
use Rattle.srm_codec.specs.Judging.{◌>>=◌, Read, check, nothing_after}

abbrev pub IsBytes : List ℕ → Type 0
IsBytes bytes = (i : ℕ) → get_or bytes i 0 < 256

pub IsBytes-drop : (n : ℕ) (bytes : List ℕ) → IsBytes bytes → IsBytes (drop n bytes)
IsBytes-drop n bytes h i = rw get_or-drop (h (n + i))

pub IsBytes-take : (n : ℕ) (bytes : List ℕ) → IsBytes bytes → IsBytes (take n bytes)
IsBytes-take n bytes h i =
    elim (cases_lt i n) [
      | inl lt ↦ rw (get_or-take n bytes i 0 lt) (h i)
      | inr le ↦ rw (get_or_past (take n bytes) i 0 (omega (arith, length-take n bytes))) (omega arith)
    ]

-- the value of a step that did not fail
pub bind_ok : {A B : Type 0} (r : Result A DecodeFault) (f : A → Result B DecodeFault) (y : B) → (r >>= f) ≡ Ok y → (x : A) × (r ≡ Ok x) × (f x ≡ Ok y)
bind_ok (Ok x) f y e = (x, refl, e)
bind_ok (Err d) f y e = absurd cc

-- a test that did not fail
pub check_ok : {A : Type 0} (b : Bool) (fault : DecodeFault) (x y : A) → check b fault x ≡ Ok y → (b ≡ true) × (x ≡ y)
check_ok true fault x y e = (refl, cc)
check_ok false fault x y e = absurd cc

pub check-true : {A : Type 0} (b : Bool) (fault : DecodeFault) (x : A) → b ≡ true → check b fault x ≡ Ok x
check-true b fault x e = rw e refl

abbrev done : {A : Type 0} → A → Result A DecodeFault
done x = Ok x

pub ok_is : {A : Type 0} (x y : A) → done x ≡ done y → x ≡ y
ok_is x y e = cc

-- what a reader took from the prefix
pub record Takes (bytes text rest : List ℕ) : Type 0 where
  pub parts : bytes ≡ text ++ rest
  pub rest_fits : IsBytes rest

pub Takes-then : (a x b y c : List ℕ) → Takes a x b → Takes b y c → Takes a (x ++ y) c
Takes-then a x b y c p q = record { parts = p.parts ∙ ap (λ (t : List ℕ). x ++ t) q.parts ∙ sym (append_assoc x y c); rest_fits = q.rest_fits }

-- What is read is written so and fits, and what fits is read as it is written, whatever follows.
pub record Reads {A : Type 0} (read : List ℕ → Read A) (write : A → List ℕ) (Fits : A → Type 0) : Type 0 where
  pub takes : (bytes : List ℕ) (x : A) (rest : List ℕ) → IsBytes bytes → read bytes ≡ Ok (x, rest) → Takes bytes (write x) rest × Fits x
  pub again : (x : A) (rest : List ℕ) → Fits x → read (write x ++ rest) ≡ Ok (x, rest)

-- the same, of a reader that wants nothing to follow
pub record ReadsAll {A : Type 0} (read : List ℕ → Result A DecodeFault) (write : A → List ℕ) (Fits : A → Type 0) : Type 0 where
  pub takes : (bytes : List ℕ) (x : A) → IsBytes bytes → read bytes ≡ Ok x → (bytes ≡ write x) × Fits x
  pub again : (x : A) → Fits x → read (write x) ≡ Ok x

-- what fits, said in another way
pub renamed : {A : Type 0} (read : List ℕ → Read A) (write : A → List ℕ) (F G : A → Type 0) → ((x : A) → F x → G x) → ((x : A) → G x → F x) → Reads read write F → Reads read write G
renamed read write F G there back reads = record {
  takes = λ bytes x rest fits e. (let t = reads.takes bytes x rest fits e in (t.0, there x t.1));
  again = λ x rest g. reads.again x rest (back x g);
}

-- a test behind a reader
pub checked : {A : Type 0} (read : List ℕ → Read A) (write : A → List ℕ) (F : A → Type 0) (good : A → Bool) (fault : DecodeFault)
    → Reads read write F → Reads (λ bytes. read bytes >>= λ x. check (good x.0) fault x) write (λ x. F x × (good x ≡ true))
checked {A} read write F good fault reads = record { takes = taking; again = reading }
  where
    taking : (bytes : List ℕ) (x : A) (rest : List ℕ) → IsBytes bytes → (read bytes >>= λ x. check (good x.0) fault x) ≡ Ok (x, rest) → Takes bytes (write x) rest × (F x × (good x ≡ true))
    taking bytes x rest fits e =
        let a = bind_ok (read bytes) (λ y. check (good y.0) fault y) (x, rest) e in
        let b = check_ok (good a.0.0) fault a.0 (x, rest) a.2 in
        let t = reads.takes bytes a.0.0 a.0.1 fits a.1 in
        subst (λ (y : A × List ℕ). Takes bytes (write y.0) y.1 × (F y.0 × (good y.0 ≡ true))) b.1 (t.0, (t.1, b.0))

    reading : (x : A) (rest : List ℕ) → F x × (good x ≡ true) → (read (write x ++ rest) >>= λ y. check (good y.0) fault y) ≡ Ok (x, rest)
    reading x rest (f, g) = rw (reads.again x rest f) (check-true (good x) fault (x, rest) g)

-- a value that is made of two
pub record IsPair {A B C : Type 0} (make : A → B → C) (first : C → A) (second : C → B) : Type 0 where
  pub whole : (c : C) → make (first c) (second c) ≡ c
  pub first_of : (a : A) (b : B) → first (make a b) ≡ a
  pub second_of : (a : A) (b : B) → second (make a b) ≡ b

-- what is left to read behind the first of two, and behind both
abbrev pub made_of : {A B C : Type 0} → (A → B → C) → A → B × List ℕ → Read C
made_of make x y = Ok (make x y.0, y.1)

abbrev pub behind : {A B C : Type 0} → (A → List ℕ → Read B) → (A → B → C) → A × List ℕ → Read C
behind s make x = s x.0 x.1 >>= made_of make x.0

-- one reader after another
pub joined : {A B C : Type 0} (r : List ℕ → Read A) (w : A → List ℕ) (F : A → Type 0) (s : A → List ℕ → Read B) (v : A → B → List ℕ) (G : A → B → Type 0)
    (make : A → B → C) (first : C → A) (second : C → B) → IsPair make first second → Reads r w F → ((x : A) → F x → Reads (s x) (v x) (G x))
    → Reads (λ bytes. r bytes >>= behind s make) (λ c. w (first c) ++ v (first c) (second c)) (λ c. F (first c) × G (first c) (second c))
joined {A} {B} {C} r w F s v G make first second pair one other = record { takes = taking; again = reading }
  where
    taking : (bytes : List ℕ) (c : C) (rest : List ℕ) → IsBytes bytes → (r bytes >>= behind s make) ≡ Ok (c, rest) → Takes bytes (w (first c) ++ v (first c) (second c)) rest × (F (first c) × G (first c) (second c))
    taking bytes c rest fits e =
        let a = bind_ok (r bytes) (behind s make) (c, rest) e in
        let b = bind_ok (s a.0.0 a.0.1) (made_of make a.0.0) (c, rest) a.2 in
        let t = one.takes bytes a.0.0 a.0.1 fits a.1 in
        let u = (other a.0.0 t.1).takes a.0.1 b.0.0 b.0.1 t.0.rest_fits b.1 in
        let x : A = a.0.0 in
        let y : B = b.0.0 in
        let made : (Takes bytes (w x ++ v x y) b.0.1) × (F x × G x y) = (Takes-then bytes (w x) a.0.1 (v x y) b.0.1 t.0 u.0, (t.1, u.1)) in
        let seen : (Takes bytes (w (first (make x y)) ++ v (first (make x y)) (second (make x y))) b.0.1) × (F (first (make x y)) × G (first (make x y)) (second (make x y))) =
        subst (λ (i : A). (Takes bytes (w i ++ v i (second (make x y))) b.0.1) × (F i × G i (second (make x y)))) (sym (pair.first_of x y))
        (subst (λ (j : B). (Takes bytes (w x ++ v x j) b.0.1) × (F x × G x j)) (sym (pair.second_of x y)) made) in
        subst (λ (z : C × List ℕ). (Takes bytes (w (first z.0) ++ v (first z.0) (second z.0)) z.1) × (F (first z.0) × G (first z.0) (second z.0))) (ok_is (make x y, b.0.1) (c, rest) b.2) seen

    reading : (c : C) (rest : List ℕ) → F (first c) × G (first c) (second c) → (r ((w (first c) ++ v (first c) (second c)) ++ rest) >>= behind s make) ≡ Ok (c, rest)
    reading c rest (f, g) =
        ap (λ bytes. r bytes >>= behind s make) (append_assoc (w (first c)) (v (first c) (second c)) rest)
        ∙ ap (λ (read : Read A). read >>= behind s make) (one.again (first c) (v (first c) (second c) ++ rest) f)
        ∙ ap (λ (read : Read B). read >>= made_of make (first c)) ((other (first c) f).again (second c) rest g)
        ∙ ap (λ d. done (d, rest)) (pair.whole c)

-- a reader behind which nothing may follow
pub closed : {A : Type 0} (read : List ℕ → Read A) (write : A → List ℕ) (F : A → Type 0) → Reads read write F → ReadsAll (λ bytes. read bytes >>= nothing_after) write F
closed {A} read write F reads = record { takes = taking; again = reading }
  where
    taking : (bytes : List ℕ) (x : A) → IsBytes bytes → (read bytes >>= nothing_after) ≡ Ok x → (bytes ≡ write x) × F x
    taking bytes x fits e =
        let a = bind_ok (read bytes) nothing_after x e in
        let b = check_ok (length a.0.1 == 0) Length a.0.0 x a.2 in
        let t = reads.takes bytes a.0.0 a.0.1 fits a.1 in
        let none : a.0.1 ≡ [] = nil_from_length a.0.1 (eqb-true _ _ b.0) in
        subst (λ (y : A). (bytes ≡ write y) × F y) b.1 (t.0.parts ∙ ap (λ (rest : List ℕ). write a.0.0 ++ rest) none ∙ append-nil (write a.0.0), t.1)

    reading : (x : A) → F x → (read (write x) >>= nothing_after) ≡ Ok x
    reading x f = ap (λ bytes. read bytes >>= nothing_after) (sym (append-nil (write x))) ∙ ap (λ r. r >>= nothing_after) (reads.again x [] f)

-- the same reader, said in another way
pub reworded : {A : Type 0} (r s : List ℕ → Read A) (write : A → List ℕ) (F : A → Type 0) → ((bytes : List ℕ) → s bytes ≡ r bytes) → Reads r write F → Reads s write F
reworded r s write F same reads = record {
  takes = λ bytes x rest fits e. reads.takes bytes x rest fits (sym (same bytes) ∙ e);
  again = λ x rest f. same (write x ++ rest) ∙ reads.again x rest f;
}

-- the same spelling, said in another way
pub respelled : {A : Type 0} (read : List ℕ → Read A) (write other : A → List ℕ) (F : A → Type 0) → ((x : A) → write x ≡ other x) → Reads read write F → Reads read other F
respelled read write other F same reads = record {
  takes = λ bytes x rest fits e. (let t = reads.takes bytes x rest fits e in (subst (λ (text : List ℕ). Takes bytes text rest) (same x) t.0, t.1));
  again = λ x rest f. ap (λ (text : List ℕ). read (text ++ rest)) (sym (same x)) ∙ reads.again x rest f;
}

-- three readers in a row
abbrev pair_of : {B C : Type 0} → B → C → B × C
pair_of b c = (b, c)

abbrev with_pair : {A B C D : Type 0} → (A → B → C → D) → A → B × C → D
with_pair make a p = make a p.0 p.1

abbrev pub last_of_three : {A B C D : Type 0} → (List ℕ → Read C) → (A → B → C → D) → A → B × List ℕ → Read D
last_of_three t make a y = t y.1 >>= made_of (make a) y.0

abbrev pub behind_one : {A B C D : Type 0} → (List ℕ → Read B) → (List ℕ → Read C) → (A → B → C → D) → A × List ℕ → Read D
behind_one s t make x = s x.1 >>= last_of_three t make x.0

regrouped : {A B C D : Type 0} (t : List ℕ → Read C) (make : A → B → C → D) (a : A) (u : Read B)
    → (u >>= last_of_three t make a) ≡ ((u >>= behind (λ _. t) pair_of) >>= made_of (with_pair make) a)
regrouped {A} {B} {C} {D} t make a (Err f) = refl
regrouped {A} {B} {C} {D} t make a (Ok y) = inner (t y.1)
  where
    inner : (v : Read C) → (v >>= made_of (make a) y.0) ≡ ((v >>= made_of pair_of y.0) >>= made_of (with_pair make) a)
    inner (Ok z) = refl
    inner (Err f) = refl

regrouped_all : {A B C D : Type 0} (r : Read A) (s : List ℕ → Read B) (t : List ℕ → Read C) (make : A → B → C → D)
    → (r >>= behind_one s t make) ≡ (r >>= behind (λ _ bytes. s bytes >>= behind (λ _. t) pair_of) (with_pair make))
regrouped_all (Ok x) s t make = regrouped t make x.0 (s x.1)
regrouped_all (Err f) s t make = refl

pub three : {A B C D : Type 0} (r : List ℕ → Read A) (w : A → List ℕ) (F : A → Type 0) (s : List ℕ → Read B) (v : B → List ℕ) (G : B → Type 0) (t : List ℕ → Read C) (u : C → List ℕ) (H : C → Type 0)
    (make : A → B → C → D) (first : D → A) (second : D → B) (third : D → C) → IsPair (with_pair make) first (λ d. (second d, third d))
    → Reads r w F → Reads s v G → Reads t u H
    → Reads (λ bytes. r bytes >>= behind_one s t make) (λ d. w (first d) ++ (v (second d) ++ u (third d))) (λ d. F (first d) × (G (second d) × H (third d)))
three {A} {B} {C} {D} r w F s v G t u H make first second third pair one other last =
    let two : Reads (λ bytes. s bytes >>= behind (λ _. t) pair_of) (λ (p : B × C). v p.0 ++ u p.1) (λ (p : B × C). G p.0 × H p.1) =
    joined s v G (λ _. t) (λ _. u) (λ _. H) pair_of (λ p. p.0) (λ p. p.1) (record { whole = λ p. refl; first_of = λ b c. refl; second_of = λ b c. refl }) other (λ _ _. last) in
    reworded (λ bytes. r bytes >>= behind (λ _ bytes. s bytes >>= behind (λ _. t) pair_of) (with_pair make)) (λ bytes. r bytes >>= behind_one s t make)
    (λ d. w (first d) ++ (v (second d) ++ u (third d))) (λ d. F (first d) × (G (second d) × H (third d))) (λ bytes. regrouped_all (r bytes) s t make)
    (joined r w F (λ _ bytes. s bytes >>= behind (λ _. t) pair_of) (λ _ p. v p.0 ++ u p.1) (λ _ p. G p.0 × H p.1) (with_pair make) first (λ d. (second d, third d)) pair one (λ _ _. two))
