-- What is admitted after calls over some values is admitted after these read as over others.
use Rattle.std.proofs.Common.{◌≡◌, ℕ, ◌+◌, max, List, [], ◌∷◌, ◌++◌, map, length, refl, ap, sym, ◌∙◌}
use Rattle.std.proofs.lemmas.List.{map-append, length-map}
use Rattle.srm_bucket.specs.declared.class.Class.{Class}
use Rattle.srm_bucket.specs.declared.class.Class.TheVariants.{Shown, New, Other}
use Rattle.srm_bucket.specs.declared.item.Item.{Item}
use Rattle.srm_bucket.specs.Calls.{BucketCall}
use Rattle.srm_bucket.specs.Classes.{queued}
use Rattle.srm_bucket.specs.Ticks.{last_moment, ticks, level}
use Rattle.srm_bucket.specs.Tokens.{cost_of}
use Rattle.srm_bucket.specs.Law.{level_at}
use Rattle.srm_bucket.specs.Mapping.{read_item, read_call}
use Rattle.srm_bucket.specs.Admitting.{ahead_of, cost_of_all, is_paid, admits}
use Rattle.srm_bucket.proofs.Mapping.{left-read, last_moment-read, ticks-read}

module _ {T U : Type 0} (f : T → U) where
  ahead-map : (class : Class) (w : Class → List (Item U)) (v : Class → List (Item T)) → ((k : Class) → w k ≡ map (read_item f) (v k)) → ahead_of class w ≡ map (read_item f) (ahead_of class v)
  ahead-map Shown w v each = each Shown
  ahead-map New w v each = rw (each Shown, each New) (sym (map-append (read_item f) (v Shown) (v New)))
  ahead-map Other w v each =
      rw (each Shown, each New, each Other)
      (ap (λ xs. map (read_item f) (v Shown) ++ xs) (sym (map-append (read_item f) (v New) (v Other))) ∙ sym (map-append (read_item f) (v Shown) (v New ++ v Other)))

  cost-map : (xs : List (Item T)) → cost_of_all (map (read_item f) xs) ≡ cost_of_all xs
  cost-map [] = refl
  cost-map (x ∷ xs) = ap (λ n. cost_of x.length + n) (cost-map xs)

  paid-map : (xs : List (Item T)) (bytes tokens : ℕ) → is_paid (map (read_item f) xs) bytes tokens ≡ is_paid xs bytes tokens
  paid-map xs bytes tokens = rw (length-map xs (read_item f), cost-map xs) refl

  pub admits-read : (rate depth : ℕ) (calls : List (BucketCall T)) (class : Class) (bytes now : ℕ) → admits rate depth (map (read_call f) calls) class bytes now ≡ admits rate depth calls class bytes now
  admits-read rate depth calls class bytes now =
      ap (λ xs. is_paid xs bytes (level_at rate depth (map (read_call f) calls) now)) (ahead-map class (queued (map (read_call f) calls)) (queued calls) (λ k. left-read f k calls))
      ∙ paid-map (ahead_of class (queued calls)) bytes (level_at rate depth (map (read_call f) calls) now)
      ∙ ap (λ m. is_paid (ahead_of class (queued calls)) bytes (level rate depth (max m now) (ticks (map (read_call f) calls)))) (last_moment-read f calls)
      ∙ ap (λ ts. is_paid (ahead_of class (queued calls)) bytes (level rate depth (max (last_moment calls) now) ts)) (ticks-read f calls)
