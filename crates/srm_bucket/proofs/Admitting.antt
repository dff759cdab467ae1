-- What a bucket admits, from what it keeps.
use Rattle.std.proofs.Common.{◌≡◌, ℕ, ◌+◌, ◌-◌, ◌*◌, ◌≤◌, ◌<◌, ◌==◌, ◌||◌, List, length, Option, Some, None, Bool, true, false, refl, sym, ap, subst, ◌∙◌, arith, mul-le-mul_left}
use Rattle.std.specs.Prelude.{nat_le, IfSome}
use Rattle.std.proofs.lemmas.Bool.{le-leb, lt-leb}
use Rattle.std.proofs.lemmas.Bool.Decides.{nat_tests}
use Rattle.std.proofs.lemmas.Option.{same_Some}
use Rattle.srm_bucket.specs.declared.class.Class.{Class}
use Rattle.srm_bucket.specs.declared.class.Class.TheVariants.{Shown, New, Other}
use Rattle.srm_bucket.specs.declared.item.Item.{Item}
use Rattle.srm_bucket.specs.declared.tokens.Tokens.{Tokens}
use Rattle.srm_bucket.specs.Calls.{BucketCall}
use Rattle.srm_bucket.specs.Classes.{queued}
use Rattle.srm_bucket.specs.Tokens.{IsFirstLevel, cost_of, refilled}
use Rattle.srm_bucket.specs.Ticks.{last_moment}
use Rattle.srm_bucket.specs.Law.{level_at}
use Rattle.srm_bucket.specs.Waiting.{queue}
use Rattle.srm_bucket.specs.Content.{BucketContent}
use Rattle.srm_bucket.specs.Fits.{BucketFits}
use Rattle.srm_bucket.specs.Paying.{rest_after}
use Rattle.srm_names.specs.Moments.{has_come}
use Rattle.srm_bucket.specs.Admitting.{ahead_of, cost_of_all, is_paid, admits, Admits, AdmitsFrom}
use Rattle.srm_bucket.proofs.Going.{left-is, refilled-is}
use Rattle.srm_bucket.proofs.Paying.{rest-covers, rest-short}

ahead-same : {T : Type 0} (class : Class) (f g : Class → List (Item T)) → ((k : Class) → f k ≡ g k) → ahead_of class f ≡ ahead_of class g
ahead-same Shown f g same = same Shown
ahead-same New f g same = rw (same Shown, same New) refl
ahead-same Other f g same = rw (same Shown, same New, same Other) refl

-- what waits, and what is ahead of an item
abbrev ahead_in : {T : Type 0} → Class → BucketContent T → List (Item T)
ahead_in class b = ahead_of class (queue b.waiting)

admits-kept : {T : Type 0} (b : BucketContent T) (class : Class) (bytes now rate depth : ℕ) (calls : List (BucketCall T)) → BucketFits rate depth calls b → admits rate depth calls class bytes now ≡ is_paid (ahead_in class b) bytes (refilled now b.tokens).level
admits-kept b class bytes now rate depth calls f =
    ap (λ xs. is_paid xs bytes (level_at rate depth calls now)) (ahead-same class (queued calls) (queue b.waiting) (left-is calls b.waiting f.waiting_is))
    ∙ ap (λ (t : Tokens). is_paid (ahead_in class b) bytes t.level) (sym (refilled-is b rate depth calls now f))

-- a moment
answers : {T : Type 0} (b : BucketContent T) (class : Class) (bytes now : ℕ) (answer : Bool) → answer ≡ is_paid (ahead_in class b) bytes (refilled now b.tokens).level → Admits class bytes now b answer
answers b class bytes now answer e = record { each = λ rate depth calls f. e ∙ sym (admits-kept b class bytes now rate depth calls f) }

pub admits_clear : {T : Type 0} (b : BucketContent T) (class : Class) (bytes now : ℕ) → (length (ahead_of class (queue b.waiting)) == 0) ≡ true → Admits class bytes now b true
admits_clear b class bytes now clear = answers b class bytes now true (ap (λ (x : Bool). x || nat_le (cost_of_all (ahead_in class b) + cost_of bytes) (refilled now b.tokens).level) (sym clear))

-- where something is ahead, the level decides
only_paid : {T : Type 0} (ahead : List (Item T)) (bytes tokens : ℕ) → (length ahead == 0) ≡ false → is_paid ahead bytes tokens ≡ nat_le (cost_of_all ahead + cost_of bytes) tokens
only_paid ahead bytes tokens some = ap (λ (x : Bool). x || nat_le (cost_of_all ahead + cost_of bytes) tokens) some

same_test : (a b c d : ℕ) → (a ≤ b → c ≤ d) → (b < a → d < c) → nat_le a b ≡ nat_le c d
same_test a b c d low high = go (nat_le a b) refl
  where
    go : (x : Bool) → nat_le a b ≡ x → nat_le a b ≡ nat_le c d
    go true e = let l : a ≤ b = grind (arith, nat_tests) in e ∙ sym (le-leb c d (low l))
    go false e = let l : b < a = grind (arith, nat_tests) in e ∙ sym (lt-leb c d (high l))

-- what a rest says of the costs
record HasRest {T : Type 0} (tokens : ℕ) (items : List (Item T)) (rest : ℕ) : Type 0 where
  pub covers : cost_of_all items ≤ tokens
  pub is : rest ≡ tokens - cost_of_all items

has_rest : {T : Type 0} (tokens : ℕ) (items : List (Item T)) (rest : ℕ) → rest_after tokens items ≡ Some rest → HasRest tokens items rest
has_rest tokens items rest e = go (nat_le (cost_of_all items) tokens) refl
  where
    go : (x : Bool) → nat_le (cost_of_all items) tokens ≡ x → HasRest tokens items rest
    go true t = let l : cost_of_all items ≤ tokens = grind (arith, nat_tests) in record { covers = l; is = same_Some rest (tokens - cost_of_all items) (sym e ∙ rest-covers tokens items l) }
    go false t = let l : tokens < cost_of_all items = grind (arith, nat_tests) in let none : None ≡ Some rest = sym (rest-short tokens items l) ∙ e in absurd (cc)

has_no_rest : {T : Type 0} (tokens : ℕ) (items : List (Item T)) → rest_after tokens items ≡ None → tokens < cost_of_all items
has_no_rest tokens items e = go (nat_le (cost_of_all items) tokens) refl
  where
    go : (x : Bool) → nat_le (cost_of_all items) tokens ≡ x → tokens < cost_of_all items
    go true t = let l : cost_of_all items ≤ tokens = grind (arith, nat_tests) in let some : Some (tokens - cost_of_all items) ≡ None = sym (rest-covers tokens items l) ∙ e in absurd (cc)
    go false t = grind (arith, nat_tests)

pub admits_paid : {T : Type 0} (b : BucketContent T) (class : Class) (bytes now rest : ℕ) → (length (ahead_of class (queue b.waiting)) == 0) ≡ false
    → rest_after (refilled now b.tokens).level (ahead_of class (queue b.waiting)) ≡ Some rest → Admits class bytes now b (nat_le (cost_of bytes) rest)
admits_paid b class bytes now rest some e =
    let h : HasRest (refilled now b.tokens).level (ahead_in class b) rest = has_rest (refilled now b.tokens).level (ahead_in class b) rest e in
    answers b class bytes now (nat_le (cost_of bytes) rest)
    (same_test (cost_of bytes) rest (cost_of_all (ahead_in class b) + cost_of bytes) (refilled now b.tokens).level (λ l. omega (arith, l, h.covers, h.is)) (λ l. omega (arith, l, h.covers, h.is))
    ∙ sym (only_paid (ahead_in class b) bytes (refilled now b.tokens).level some))

pub admits_short : {T : Type 0} (b : BucketContent T) (class : Class) (bytes now : ℕ) → (length (ahead_of class (queue b.waiting)) == 0) ≡ false
    → rest_after (refilled now b.tokens).level (ahead_of class (queue b.waiting)) ≡ None → Admits class bytes now b false
admits_short b class bytes now some e =
    let l : (refilled now b.tokens).level < cost_of_all (ahead_in class b) = has_no_rest (refilled now b.tokens).level (ahead_in class b) e in
    answers b class bytes now false
    (sym (only_paid (ahead_in class b) bytes (refilled now b.tokens).level some ∙ lt-leb (cost_of_all (ahead_in class b) + cost_of bytes) (refilled now b.tokens).level (omega (arith, l))))

-- the first moment
abbrev KeptFrom : {T : Type 0} → BucketContent T → Class → ℕ → Option ℕ → Type 0
KeptFrom b class bytes first = (now : ℕ) → b.tokens.last ≤ now → is_paid (ahead_in class b) bytes (refilled now b.tokens).level ≡ has_come now first

from : {T : Type 0} (b : BucketContent T) (class : Class) (bytes : ℕ) (first : Option ℕ) → IfSome first (λ t. b.tokens.last ≤ t) → KeptFrom b class bytes first → AdmitsFrom class bytes b first
from b class bytes first low kept = record {
  each = λ rate depth calls f.
      let last : b.tokens.last ≡ last_moment calls = ap (λ (t : Tokens). t.last) f.tokens_are in
      record {
        not_before = subst (λ m. IfSome first (λ t. m ≤ t)) last low;
        exactly = λ now l. admits-kept b class bytes now rate depth calls f ∙ kept now (subst (λ m. m ≤ now) (sym last) l);
      };
}

pub from_clear : {T : Type 0} (b : BucketContent T) (class : Class) (bytes : ℕ) → (length (ahead_of class (queue b.waiting)) == 0) ≡ true → AdmitsFrom class bytes b (Some b.tokens.last)
from_clear b class bytes clear = from b class bytes (Some b.tokens.last) (omega arith)
    (λ now l. ap (λ (x : Bool). x || nat_le (cost_of_all (ahead_in class b) + cost_of bytes) (refilled now b.tokens).level) clear ∙ sym (le-leb b.tokens.last now l))

-- no level is higher than the full one
never : {T : Type 0} (b : BucketContent T) (class : Class) (bytes : ℕ) → (length (ahead_of class (queue b.waiting)) == 0) ≡ false → cost_of b.tokens.depth < cost_of_all (ahead_in class b) + cost_of bytes → AdmitsFrom class bytes b None
never b class bytes some high = from b class bytes None tt
    (λ now l. only_paid (ahead_in class b) bytes (refilled now b.tokens).level some ∙ lt-leb (cost_of_all (ahead_in class b) + cost_of bytes) (refilled now b.tokens).level (omega (arith, high)))

pub from_never : {T : Type 0} (b : BucketContent T) (class : Class) (bytes : ℕ) → (length (ahead_of class (queue b.waiting)) == 0) ≡ false
    → rest_after (cost_of b.tokens.depth) (ahead_of class (queue b.waiting)) ≡ None → AdmitsFrom class bytes b None
from_never b class bytes some e = let l : cost_of b.tokens.depth < cost_of_all (ahead_in class b) = has_no_rest (cost_of b.tokens.depth) (ahead_in class b) e in never b class bytes some (omega (arith, l))

pub from_too_much : {T : Type 0} (b : BucketContent T) (class : Class) (bytes full rest price : ℕ) → (length (ahead_of class (queue b.waiting)) == 0) ≡ false → full ≡ cost_of b.tokens.depth → price ≡ cost_of bytes
    → rest_after full (ahead_of class (queue b.waiting)) ≡ Some rest → rest < price → AdmitsFrom class bytes b None
from_too_much b class bytes full rest price some is costs e l =
    let h : HasRest full (ahead_in class b) rest = has_rest full (ahead_in class b) rest e in
    never b class bytes some (omega (arith, l, h.covers, h.is, is, costs))

-- what a level reaches it keeps, while nothing goes
level-keeps : (t : Tokens) (a b : ℕ) → a ≤ b → (refilled a t).level ≤ (refilled b t).level
level-keeps t a b l = let more : t.rate * (a - t.last) ≤ t.rate * (b - t.last) = mul-le-mul_left t.rate (omega (arith, l)) in omega (arith, more)

pub from_first : {T : Type 0} (b : BucketContent T) (class : Class) (bytes full rest price moment : ℕ) → (length (ahead_of class (queue b.waiting)) == 0) ≡ false → full ≡ cost_of b.tokens.depth → price ≡ cost_of bytes
    → rest_after full (ahead_of class (queue b.waiting)) ≡ Some rest → price ≤ rest → IsFirstLevel b.tokens (full - (rest - price)) moment → AdmitsFrom class bytes b (Some moment)
from_first b class bytes full rest price moment some is costs e l first =
    let h : HasRest full (ahead_in class b) rest = has_rest full (ahead_in class b) rest e in
    let all : full - (rest - price) ≡ cost_of_all (ahead_in class b) + cost_of bytes = omega (arith, l, h.covers, h.is, costs) in
    from b class bytes (Some moment) first.not_before (λ now low.
    only_paid (ahead_in class b) bytes (refilled now b.tokens).level some
    ∙ sym (same_test moment now (cost_of_all (ahead_in class b) + cost_of bytes) (refilled now b.tokens).level
    (λ come. let more : (refilled moment b.tokens).level ≤ (refilled now b.tokens).level = level-keeps b.tokens moment now come in let paid : full - (rest - price) ≤ (refilled moment b.tokens).level = first.covered in omega (arith, all, more, paid))
    (λ early. let less : (refilled now b.tokens).level < full - (rest - price) = first.no_sooner now low early in omega (arith, all, less))))
