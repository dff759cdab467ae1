-- Whether the rate lets a draw go at once, behind all that goes before it.
use Rattle.std.specs.Prelude.{◌≡◌, ℕ, ◌+◌, ◌≤◌, min, max, Bool, List, Option, IfSome}
use Rattle.srm_bucket.specs.declared.limits.TheConstants.{GREATEST_LENGTH}
use Rattle.srm_bucket.specs.declared.class.Class.TheVariants.{New}
use Rattle.srm_names.specs.Moments.{has_come}
use Rattle.srm_bucket.specs.Admitting.{admits}
use Rattle.srm_codec.specs.declared.format.TheConstants.{HEAD_BYTES, DRAWOP_BYTES}
use Rattle.srm_entries.specs.Configs.{Config}
use Rattle.srm_entries.specs.declared.entry.Entry.{Entry}
use Rattle.srm_entries.specs.Entries.{last_moment}
use Rattle.srm_entries.specs.Bucket.{Going, BucketRight, entries_of, bucket_calls}

-- what the datagram of a draw is charged, by the length of its body; a body that is too long counts as the longest
abbrev pub draw_length : ℕ → ℕ
draw_length body = min GREATEST_LENGTH (HEAD_BYTES + DRAWOP_BYTES + body)

-- Whether a draw of a body of so many bytes is admitted at a moment: nothing waits of requests and repairs for the page shown and of new data, or
-- the level covers all of these and the draw. A moment below the last one counts as the last.
abbrev pub admits_draw : Config → ℕ → List Going → (body now : ℕ) → Bool
admits_draw c made gs body now = admits c.rate c.depth (bucket_calls c.me gs) New (draw_length body) (max now (last_moment made (entries_of gs)))

-- the same of entries: they are marked with what the bucket let go in them, as they can be in one way alone
pub record AdmitsDraw (c : Config) (made : ℕ) (es : List Entry) (body now : ℕ) (answer : Bool) : Type 0 where
  pub goings : BucketRight c es
  pub is : answer ≡ admits_draw c made goings.0 body now

-- The first moment, from the last one on, at which a draw is admitted, if there is no entry before: it is admitted from then on and not
-- before, and never where there is no such moment.
pub record AdmitsDrawFrom (c : Config) (made : ℕ) (es : List Entry) (body : ℕ) (first : Option ℕ) : Type 0 where
  pub goings : BucketRight c es
  pub not_before : IfSome first (λ t. last_moment made es ≤ t)
  pub exactly : (now : ℕ) → last_moment made es ≤ now → admits_draw c made goings.0 body now ≡ has_come now first
