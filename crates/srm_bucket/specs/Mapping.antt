-- Calls over other values: each item is read as what it is for, with the same class and length.
use Rattle.std.specs.Prelude.{option_map}
use Rattle.srm_bucket.specs.declared.item.Item.{Item}
use Rattle.srm_bucket.specs.Calls.{Classed, BucketCall, Handed, Refilled, Popped}

abbrev pub read_item : {T U : Type 0} → (T → U) → Item T → Item U
read_item f i = record { value = f i.value; length = i.length }

abbrev pub read_classed : {T U : Type 0} → (T → U) → Classed T → Classed U
read_classed f c = record { class = c.class; item = read_item f c.item }

abbrev pub read_call : {T U : Type 0} → (T → U) → BucketCall T → BucketCall U
read_call f (Handed entry) = Handed (read_classed f entry)
read_call f (Refilled now) = Refilled now
read_call f (Popped now went) = Popped now (option_map (read_classed f) went)
