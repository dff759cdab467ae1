-- What was handed in and what went, by class.
use Rattle.std.specs.Prelude.{ℕ, ◌==◌, List, [], ◌∷◌, length, drop, if◌then◌else◌, Option, Some, None}
use Rattle.std.specs.List.{flat_map}
use Rattle.srm_names.specs.Histories.{or_else}
use Rattle.srm_bucket.specs.declared.class.Class.{Class}
use Rattle.srm_bucket.specs.declared.class.Class.TheVariants.{Shown, New, Other}
use Rattle.srm_bucket.specs.declared.item.Item.{Item}
use Rattle.srm_bucket.specs.Calls.{Classed, BucketCall, Handed, Refilled, Popped}

-- the highest class first
abbrev pub rank : Class → ℕ
rank Shown = 1
rank New = 2
rank Other = 3

-- the item, where it is of the class
abbrev pub in_class : {T : Type 0} → Class → Option (Classed T) → List (Item T)
in_class class None = []
in_class class (Some c) = if rank c.class == rank class then c.item ∷ [] else []

abbrev pub handed_in : {T : Type 0} → Class → BucketCall T → List (Item T)
handed_in class (Handed c) = in_class class (Some c)
handed_in class (Refilled now) = []
handed_in class (Popped now went) = []

abbrev pub departed_in : {T : Type 0} → Class → BucketCall T → List (Item T)
departed_in class (Handed c) = []
departed_in class (Refilled now) = []
departed_in class (Popped now went) = in_class class went

-- the items of a class that were handed in, and those that went, in order
abbrev pub handed : {T : Type 0} → Class → List (BucketCall T) → List (Item T)
handed class calls = flat_map (handed_in class) calls

abbrev pub departed : {T : Type 0} → Class → List (BucketCall T) → List (Item T)
departed class calls = flat_map (departed_in class) calls

-- those that are left
abbrev pub queued : {T : Type 0} → List (BucketCall T) → Class → List (Item T)
queued calls class = drop (length (departed class calls)) (handed class calls)

abbrev pub first_in : {T : Type 0} → Class → List (Item T) → Option (Classed T)
first_in class [] = None
first_in class (item ∷ items) = Some (record { class = class; item = item })

-- of what is left in each class, the first item of the highest class
abbrev pub first_of_highest : {T : Type 0} → (Class → List (Item T)) → Option (Classed T)
first_of_highest items = or_else (first_in Shown (items Shown)) (or_else (first_in New (items New)) (first_in Other (items Other)))

abbrev pub next_queued : {T : Type 0} → List (BucketCall T) → Option (Classed T)
next_queued calls = first_of_highest (queued calls)
