-- What a bucket keeps.
use Rattle.std.specs.List.{All}
use Rattle.srm_bucket.specs.declared.class.Class.{Class}
use Rattle.srm_bucket.specs.declared.tokens.Tokens.{Tokens}
use Rattle.srm_bucket.specs.declared.bucket.Bucket.TheInside.{Inside}
use Rattle.srm_bucket.specs.Tokens.{AreInRange}
use Rattle.srm_bucket.specs.Waiting.{Waiting, HasLength, queue}

pub record BucketContent (T : Type 0) : Type 0 where
  pub tokens : Tokens
  pub waiting : Waiting T

abbrev pub content_of : {T : Type 0} → Inside T → BucketContent T
content_of b = record { tokens = b.tokens; waiting = b.queues }

pub record IsBucketInRange {T : Type 0} (b : Inside T) : Type 0 where
  pub tokens : AreInRange b.tokens
  pub lengths : (class : Class) → All HasLength (queue b.queues class)
