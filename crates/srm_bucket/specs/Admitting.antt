-- Whether a bucket admits one more item: whether it would go at once, behind all that goes before it.
use Rattle.std.specs.Prelude.{ℕ, ◌+◌, ◌≤◌, ◌≡◌, nat_le, Bool, ◌||◌, List, [], ◌∷◌, ◌++◌, length, ◌==◌, Option, IfSome}
use Rattle.srm_names.specs.Moments.{has_come}
use Rattle.srm_bucket.specs.declared.class.Class.{Class}
use Rattle.srm_bucket.specs.declared.class.Class.TheVariants.{Shown, New, Other}
use Rattle.srm_bucket.specs.declared.item.Item.{Item}
use Rattle.srm_bucket.specs.Calls.{BucketCall}
use Rattle.srm_bucket.specs.Classes.{queued}
use Rattle.srm_bucket.specs.Ticks.{last_moment}
use Rattle.srm_bucket.specs.Tokens.{cost_of}
use Rattle.srm_bucket.specs.Law.{level_at}
use Rattle.srm_bucket.specs.Content.{BucketContent}
use Rattle.srm_bucket.specs.Fits.{BucketFits}

-- what goes before an item that is handed in with a class: all that waits of the class and of higher ones
abbrev pub ahead_of : {T : Type 0} → Class → (Class → List (Item T)) → List (Item T)
ahead_of Shown waits = waits Shown
ahead_of New waits = waits Shown ++ waits New
ahead_of Other waits = waits Shown ++ (waits New ++ waits Other)

-- what so many items cost, in millionths of a byte
abbrev pub cost_of_all : {T : Type 0} → List (Item T) → ℕ
cost_of_all [] = 0
cost_of_all (item ∷ items) = cost_of item.length + cost_of_all items

-- nothing is ahead, or these tokens pay for all that is and for so many bytes more
abbrev pub is_paid : {T : Type 0} → List (Item T) → (bytes tokens : ℕ) → Bool
is_paid ahead bytes tokens = (length ahead == 0) || nat_le (cost_of_all ahead + cost_of bytes) tokens

-- after the calls so far, an item of a class and so many bytes is admitted at a moment
abbrev pub admits : {T : Type 0} → (rate depth : ℕ) → List (BucketCall T) → Class → (bytes now : ℕ) → Bool
admits rate depth calls class bytes now = is_paid (ahead_of class (queued calls)) bytes (level_at rate depth calls now)

-- The first moment, from the last one on, at which the item is admitted, where nothing else is handed in or goes: it is admitted from
-- then on and not before, and never where there is no such moment.
pub record IsAdmittedFrom {T : Type 0} (rate depth : ℕ) (calls : List (BucketCall T)) (class : Class) (bytes : ℕ) (first : Option ℕ) : Type 0 where
  pub not_before : IfSome first (λ t. last_moment calls ≤ t)
  pub exactly : (now : ℕ) → last_moment calls ≤ now → admits rate depth calls class bytes now ≡ has_come now first

-- what a bucket answers, over all calls that it fits
pub record Admits {T : Type 0} (class : Class) (bytes now : ℕ) (b : BucketContent T) (answer : Bool) : Type 0 where
  pub each : (rate depth : ℕ) (calls : List (BucketCall T)) → BucketFits rate depth calls b → answer ≡ admits rate depth calls class bytes now

pub record AdmitsFrom {T : Type 0} (class : Class) (bytes : ℕ) (b : BucketContent T) (answer : Option ℕ) : Type 0 where
  pub each : (rate depth : ℕ) (calls : List (BucketCall T)) → BucketFits rate depth calls b → IsAdmittedFrom rate depth calls class bytes answer
