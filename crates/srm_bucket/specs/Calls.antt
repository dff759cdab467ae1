-- The calls that change a bucket, and what went.
use Rattle.std.specs.Prelude.{ℕ, Option}
use Rattle.srm_bucket.specs.declared.class.Class.{Class}
use Rattle.srm_bucket.specs.declared.item.Item.{Item}

-- an item, and its class
pub record Classed (T : Type 0) : Type 0 where
  pub class : Class
  pub item : Item T

pub data BucketCall (T : Type 0) : Type 0 where
  Handed : (item : Classed T) → BucketCall T
  Refilled : (now : ℕ) → BucketCall T
  -- a pop at a moment, with the item that went in it, if one did
  Popped : (now : ℕ) (went : Option (Classed T)) → BucketCall T
