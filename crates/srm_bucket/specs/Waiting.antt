-- The items that wait, by class.
use Rattle.std.specs.Prelude.{◌≡◌, ℕ, ◌+◌, ◌≤◌, List, length, ◌++◌, Option, Some, None, option_map}
use Rattle.srm_bucket.specs.declared.class.Class.{Class}
use Rattle.srm_bucket.specs.declared.class.Class.TheVariants.{Shown, New, Other}
use Rattle.srm_bucket.specs.declared.item.Item.{Item}
use Rattle.srm_bucket.specs.declared.limits.TheConstants.{LEAST_LENGTH, GREATEST_LENGTH}
use Rattle.srm_bucket.specs.Calls.{Classed}
use Rattle.srm_bucket.specs.Classes.{in_class, first_of_highest}

-- what waits in each class, and how many more items of any class there is room for
pub record Waiting (T : Type 0) : Type 0 where
  pub shown : List (Item T)
  pub new_data : List (Item T)
  pub other : List (Item T)
  pub room : ℕ

abbrev pub queue : {T : Type 0} → Waiting T → Class → List (Item T)
queue w Shown = w.shown
queue w New = w.new_data
queue w Other = w.other

abbrev pub next_in : {T : Type 0} → Waiting T → Option (Classed T)
next_in w = first_of_highest (queue w)

abbrev pub count_of : {T : Type 0} → Waiting T → ℕ
count_of w = length w.shown + length w.new_data + length w.other

-- an item is behind those of its class, and nothing else has changed
abbrev pub Gains : {T : Type 0} → Classed T → Waiting T → Waiting T → Type 0
Gains c old new = (class : Class) → queue new class ≡ queue old class ++ in_class class (Some c)

-- an item has gone from the front of its class, if one did, and nothing else has changed
abbrev pub Loses : {T : Type 0} → Option (Classed T) → Waiting T → Waiting T → Type 0
Loses went old new = (class : Class) → queue old class ≡ in_class class went ++ queue new class

abbrev pub SameQueues : {T : Type 0} → Waiting T → Waiting T → Type 0
SameQueues old new = (class : Class) → queue new class ≡ queue old class

-- what a pop answers has gone from the front of the highest class in which something waited, and nothing else has changed
abbrev pub TakesNext : {T : Type 0} → Waiting T → Option (Item T) → Waiting T → Type 0
TakesNext old None new = SameQueues old new
TakesNext old (Some item) new = (option_map (λ c. c.item) (next_in old) ≡ Some item) × Loses (next_in old) old new

pub record IsLength (bytes : ℕ) : Type 0 where
  pub least : LEAST_LENGTH ≤ bytes
  pub greatest : bytes ≤ GREATEST_LENGTH

pub record HasLength {T : Type 0} (item : Item T) : Type 0 where
  pub is : IsLength item.length
