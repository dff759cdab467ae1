-- The entries of a run so far are a run.
use Rattle.std.proofs.Common.{◌≡◌, ℕ, List, [], ◌∷◌, ◌++◌, subst, ap, ◌∙◌}
use Rattle.std.specs.List.{AllByRecursion, flat_map}
use Rattle.std.proofs.lemmas.Grind.{flat_map-append}
use Rattle.srm_names.specs.Histories.{steps, steps_after}
use Rattle.srm_names.proofs.Lists.{at_parts, map-split, steps-append}
use Rattle.srm_codec.specs.declared.datagram.Datagram.{Datagram}
use Rattle.srm_bucket.specs.Calls.{BucketCall}
use Rattle.srm_bucket.specs.Law.{BucketLaw, GoesRight as CallRight}
use Rattle.srm_entries.specs.Configs.{Config}
use Rattle.srm_entries.specs.declared.entry.Entry.{Entry}
use Rattle.srm_entries.specs.Bucket.{Going, GoesAsCharged, BucketRight, calls_by, bucket_calls}
use Rattle.srm_entries.specs.Runs.{EntryRight, IsMemberRun}

pub bucket_calls-append : (me : ℕ) (us vs : List Going) → bucket_calls me (us ++ vs) ≡ bucket_calls me us ++ flat_map (calls_by me) (steps_after us vs)
bucket_calls-append me us vs = ap (flat_map (calls_by me)) (steps-append us vs) ∙ flat_map-append (calls_by me) (steps us) (steps_after us vs)

-- the law holds of the calls so far
pub law_part : (rate depth : ℕ) (calls more : List (BucketCall Datagram)) → BucketLaw rate depth (calls ++ more) → BucketLaw rate depth calls
law_part rate depth calls more law = (at_parts (λ s. CallRight rate depth s.before (s.before ++ s.this ∷ []) s.this) calls more law).0

bucket_part : (c : Config) (xs ys : List Entry) → BucketRight c (xs ++ ys) → BucketRight c xs
bucket_part c xs ys (gs, e, all, law) =
    let (us, vs, p, q, r) = map-split (λ (g : Going). g.entry) gs xs ys e in (
      us,
      q,
      (at_parts GoesAsCharged us vs (subst (λ w. AllByRecursion GoesAsCharged (steps w)) p all)).0,
      law_part c.rate c.depth (bucket_calls c.me us) (flat_map (calls_by c.me) (steps_after us vs))
          (subst (λ w. BucketLaw c.rate c.depth w) (ap (bucket_calls c.me) p ∙ bucket_calls-append c.me us vs) law),
    )

pub run_part : (c : Config) (made : ℕ) (xs ys : List Entry) → IsMemberRun c made (xs ++ ys) → IsMemberRun c made xs
run_part c made xs ys run = record { each = (at_parts (EntryRight c made) xs ys run.each).0; bucket = bucket_part c xs ys run.bucket }
