-- What is kept fits a list of calls: it is what the definitions say of them, and the bucket law holds.
use Rattle.std.specs.Prelude.{◌≡◌, ℕ, List, [], ◌∷◌, ◌++◌, Option, None, MatchOption, option_map}
use Rattle.srm_bucket.specs.declared.class.Class.{Class}
use Rattle.srm_bucket.specs.declared.item.Item.{Item}
use Rattle.srm_bucket.specs.declared.tokens.Tokens.{Tokens}
use Rattle.srm_bucket.specs.Calls.{BucketCall, Popped}
use Rattle.srm_bucket.specs.Classes.{handed, departed, next_queued}
use Rattle.srm_bucket.specs.Ticks.{last_moment, ticks, level, IsWithin}
use Rattle.srm_bucket.specs.Law.{BucketLaw, may_go, IsFirstToGo}
use Rattle.srm_bucket.specs.Waiting.{queue}
use Rattle.srm_bucket.specs.Content.{BucketContent}

-- the tokens at a moment, after the calls so far
abbrev pub tokens_at : {T : Type 0} → ℕ → ℕ → List (BucketCall T) → ℕ → Tokens
tokens_at rate depth calls now = record { rate = rate; depth = depth; level = level rate depth now (ticks calls); last = now }

pub record BucketFits {T : Type 0} (rate depth : ℕ) (calls : List (BucketCall T)) (b : BucketContent T) : Type 0 where
  pub tokens_are : b.tokens ≡ tokens_at rate depth calls (last_moment calls)
  pub waiting_is : (class : Class) → departed class calls ++ queue b.waiting class ≡ handed class calls
  pub within : IsWithin rate depth (last_moment calls) (ticks calls)
  pub law : BucketLaw rate depth calls

-- what fitted the calls so far still does
pub record BucketStays {T : Type 0} (old new : BucketContent T) : Type 0 where
  pub fits : (rate depth : ℕ) (calls : List (BucketCall T)) → BucketFits rate depth calls old → BucketFits rate depth calls new

-- one more call: what fitted the calls so far fits them with this one
pub record BucketAdds {T : Type 0} (call : BucketCall T) (old new : BucketContent T) : Type 0 where
  pub fits : (rate depth : ℕ) (calls : List (BucketCall T)) → BucketFits rate depth calls old → BucketFits rate depth (calls ++ call ∷ []) new

-- a pop answers what may go, and this is what went in it
pub record Pops {T : Type 0} (now : ℕ) (old : BucketContent T) (answer : Option (Item T)) (new : BucketContent T) : Type 0 where
  pub value : (rate depth : ℕ) (calls : List (BucketCall T)) → BucketFits rate depth calls old
      → answer ≡ option_map (λ c. c.item) (may_go rate depth calls now)
  pub fits : (rate depth : ℕ) (calls : List (BucketCall T)) → BucketFits rate depth calls old
      → BucketFits rate depth (calls ++ Popped now (may_go rate depth calls now) ∷ []) new

-- the first moment at which an item can go, and None where nothing is left
pub record IsNextDeparture {T : Type 0} (b : BucketContent T) (answer : Option ℕ) : Type 0 where
  pub until : (rate depth : ℕ) (calls : List (BucketCall T)) → BucketFits rate depth calls b
      → MatchOption answer (next_queued calls ≡ None) (IsFirstToGo rate depth calls)
