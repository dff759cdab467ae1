-- What handing in and letting go do to a bucket, for every list of calls that it fits, and what went.
use Rattle.std.specs.Prelude.{◌≡◌, ℕ, ◌+◌, ◌<◌, List, [], ◌∷◌, ◌++◌, map, length, None}
use Rattle.std.specs.List.{AllByRecursion}
use Rattle.srm_codec.specs.declared.datagram.Datagram.{Datagram}
use Rattle.srm_bucket.specs.Calls.{Classed, BucketCall, Handed, Popped}
use Rattle.srm_bucket.specs.Content.{BucketContent}
use Rattle.srm_bucket.specs.Fits.{BucketFits}
use Rattle.srm_bucket.specs.Law.{may_go}
use Rattle.srm_bucket.specs.Waiting.{count_of}
use Rattle.srm_entries.specs.Bucket.{pops}
use Rattle.srm_outbox.specs.declared.due_items.DueItem.{DueItem}
use Rattle.srm_outbox.specs.declared.out.Out.{Out}
use Rattle.srm_outbox.specs.declared.out.Outgoing.{Outgoing}
use Rattle.srm_outbox.specs.Outs.{IsOwn, AreOwn}
use Rattle.srm_outbox.specs.DueItems.{classed_of}

-- what went, and for how much more there is room
pub record WentContent : Type 0 where
  pub outs : List Out
  pub noted : List Datagram
  pub room : ℕ

pub record NothingWent (w : WentContent) : Type 0 where
  pub outs : w.outs ≡ []
  pub noted : w.noted ≡ []

-- these requests and repairs were handed in, in order
pub record HandsIn (due_items : List DueItem) (old new : BucketContent Outgoing) : Type 0 where
  pub fits : (rate depth : ℕ) (calls : List (BucketCall Outgoing)) → BucketFits rate depth calls old → BucketFits rate depth (calls ++ map Handed (map classed_of due_items)) new
  pub own : (me session : ℕ) → AreOwn me session old.waiting → AllByRecursion (λ a. IsOwn me session a.item.value) due_items → AreOwn me session new.waiting
  pub count : count_of new.waiting ≡ count_of old.waiting + length due_items

-- the bucket fits the calls so far, and then the pops that let these go
pub record Goes (rate depth now : ℕ) (calls : List (BucketCall Outgoing)) (items : List Outgoing) (new : BucketContent Outgoing) : Type 0 where
  pub goes : List (Classed Outgoing)
  pub items_are : map (λ i. i.item.value) goes ≡ items
  pub fits : BucketFits rate depth (calls ++ pops now goes) new

-- pops until nothing goes; there is room for one more
pub record LetsGo (now : ℕ) (old new : BucketContent Outgoing) (went : WentContent) : Type 0 where
  pub items : List Outgoing
  pub outs : went.outs ≡ map (λ o. o.out) items
  pub noted : went.noted ≡ map (λ o. o.noted) items
  pub fits : (rate depth : ℕ) (calls : List (BucketCall Outgoing)) → BucketFits rate depth calls old → Goes rate depth now calls items new
  pub own : (me session : ℕ) → AreOwn me session old.waiting → AllByRecursion (IsOwn me session) items
  pub left : (me session : ℕ) → AreOwn me session old.waiting → AreOwn me session new.waiting
  pub room : 0 < went.room

-- a moment at which nothing may go has passed
pub record Passes (now : ℕ) (old new : BucketContent Outgoing) : Type 0 where
  pub fits : (rate depth : ℕ) (calls : List (BucketCall Outgoing)) → BucketFits rate depth calls old → may_go rate depth calls now ≡ None → BucketFits rate depth (calls ++ Popped now None ∷ []) new
  pub left : (me session : ℕ) → AreOwn me session old.waiting → AreOwn me session new.waiting
