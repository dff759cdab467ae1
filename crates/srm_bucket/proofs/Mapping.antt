-- The law of calls over some values is that of the calls read as over others: it speaks of classes, lengths and moments alone.
use Rattle.std.proofs.Common.{◌≡◌, ℕ, ◌<◌, ◌==◌, max, Bool, true, false, List, [], ◌∷◌, ◌++◌, map, length, drop, refl, ap, sym, ◌∙◌, subst}
use Rattle.std.specs.Prelude.{Option, Some, None, if◌then◌else◌, option_map, nat_le, IfSome}
use Rattle.std.specs.Bool.{OnTrue}
use Rattle.std.specs.List.{flat_map, AllByRecursion}
use Rattle.std.proofs.lemmas.List.{map-append, length-map, drop-map}
use Rattle.srm_names.specs.Histories.{steps_after, or_else}
use Rattle.srm_names.proofs.Lists.{is_some_map}
use Rattle.srm_bucket.specs.declared.class.Class.{Class}
use Rattle.srm_bucket.specs.declared.class.Class.TheVariants.{Shown, New, Other}
use Rattle.srm_bucket.specs.declared.item.Item.{Item}
use Rattle.srm_bucket.specs.Calls.{Classed, BucketCall, Handed, Refilled, Popped}
use Rattle.srm_bucket.specs.Mapping.{read_item, read_classed, read_call}
use Rattle.srm_bucket.specs.Classes.{rank, in_class, handed_in, departed_in, handed, departed, queued, first_in, next_queued}
use Rattle.srm_bucket.specs.Ticks.{Tick, moment_of, last_moment, Pop, popped_in, popped_at, pops, cost, joined, parted, ticks, level}
use Rattle.srm_bucket.specs.Law.{went_in, ends_tick, NoneHigher, level_at, GoesRight, BucketLaw, covered, may_go}

abbrev read_pop : {T U : Type 0} → (T → U) → Pop T → Pop U
read_pop f p = record { moment = p.moment; went = option_map (read_classed f) p.went }

module _ {T U : Type 0} (f : T → U) where
  in_class-read : (class : Class) (o : Option (Classed T)) → in_class class (option_map (read_classed f) o) ≡ map (read_item f) (in_class class o)
  in_class-read class None = refl
  in_class-read class (Some c) = go (rank c.class == rank class)
    where
      go : (b : Bool) → (if b then read_item f c.item ∷ [] else []) ≡ map (read_item f) (if b then c.item ∷ [] else [])
      go true = refl
      go false = refl

  handed_in-read : (class : Class) (call : BucketCall T) → handed_in class (read_call f call) ≡ map (read_item f) (handed_in class call)
  handed_in-read class (Handed c) = in_class-read class (Some c)
  handed_in-read class (Refilled now) = refl
  handed_in-read class (Popped now went) = refl

  departed_in-read : (class : Class) (call : BucketCall T) → departed_in class (read_call f call) ≡ map (read_item f) (departed_in class call)
  departed_in-read class (Handed c) = refl
  departed_in-read class (Refilled now) = refl
  departed_in-read class (Popped now went) = in_class-read class went

  flat_map-read : (h : BucketCall U → List (Item U)) (k : BucketCall T → List (Item T)) → ((call : BucketCall T) → h (read_call f call) ≡ map (read_item f) (k call)) → (calls : List (BucketCall T)) → flat_map h (map (read_call f) calls) ≡ map (read_item f) (flat_map k calls)
  flat_map-read h k same [] = refl
  flat_map-read h k same (call ∷ calls) =
      ap (λ xs. xs ++ flat_map h (map (read_call f) calls)) (same call) ∙ ap (λ xs. map (read_item f) (k call) ++ xs) (flat_map-read h k same calls)
      ∙ sym (map-append (read_item f) (k call) (flat_map k calls))

  pub handed-read : (class : Class) (calls : List (BucketCall T)) → handed class (map (read_call f) calls) ≡ map (read_item f) (handed class calls)
  handed-read class calls = flat_map-read (handed_in class) (handed_in class) (handed_in-read class) calls

  pub gone-read : (class : Class) (calls : List (BucketCall T)) → departed class (map (read_call f) calls) ≡ map (read_item f) (departed class calls)
  gone-read class calls = flat_map-read (departed_in class) (departed_in class) (departed_in-read class) calls

  pub left-read : (class : Class) (calls : List (BucketCall T)) → queued (map (read_call f) calls) class ≡ map (read_item f) (queued calls class)
  left-read class calls =
      ap (λ n. drop n (handed class (map (read_call f) calls))) (ap length (gone-read class calls) ∙ length-map (departed class calls) (read_item f))
      ∙ ap (drop (length (departed class calls))) (handed-read class calls) ∙ drop-map (read_item f) (length (departed class calls)) (handed class calls)

  first_in-read : (class : Class) (xs : List (Item T)) → first_in class (map (read_item f) xs) ≡ option_map (read_classed f) (first_in class xs)
  first_in-read class [] = refl
  first_in-read class (x ∷ xs) = refl

  else-read : (a b : Option (Classed T)) → or_else (option_map (read_classed f) a) (option_map (read_classed f) b) ≡ option_map (read_classed f) (or_else a b)
  else-read None b = refl
  else-read (Some c) b = refl

  next_of-read : (calls : List (BucketCall T)) → next_queued (map (read_call f) calls) ≡ option_map (read_classed f) (next_queued calls)
  next_of-read calls =
      ap (λ xs. or_else (first_in Shown xs) (or_else (first_in New (queued (map (read_call f) calls) New)) (first_in Other (queued (map (read_call f) calls) Other)))) (left-read Shown calls)
      ∙ ap (λ xs. or_else (first_in Shown (map (read_item f) (queued calls Shown))) (or_else (first_in New xs) (first_in Other (queued (map (read_call f) calls) Other)))) (left-read New calls)
      ∙ ap (λ xs. or_else (first_in Shown (map (read_item f) (queued calls Shown))) (or_else (first_in New (map (read_item f) (queued calls New))) (first_in Other xs))) (left-read Other calls)
      ∙ ap (λ o. or_else o (or_else (first_in New (map (read_item f) (queued calls New))) (first_in Other (map (read_item f) (queued calls Other))))) (first_in-read Shown (queued calls Shown))
      ∙ ap (λ o. or_else (option_map (read_classed f) (first_in Shown (queued calls Shown))) (or_else o (first_in Other (map (read_item f) (queued calls Other))))) (first_in-read New (queued calls New))
      ∙ ap (λ o. or_else (option_map (read_classed f) (first_in Shown (queued calls Shown))) (or_else (option_map (read_classed f) (first_in New (queued calls New))) o)) (first_in-read Other (queued calls Other))
      ∙ ap (or_else (option_map (read_classed f) (first_in Shown (queued calls Shown)))) (else-read (first_in New (queued calls New)) (first_in Other (queued calls Other)))
      ∙ else-read (first_in Shown (queued calls Shown)) (or_else (first_in New (queued calls New)) (first_in Other (queued calls Other)))

  moment_of-read : (call : BucketCall T) → moment_of (read_call f call) ≡ moment_of call
  moment_of-read (Handed c) = refl
  moment_of-read (Refilled now) = refl
  moment_of-read (Popped now went) = refl

  pub last_moment-read : (calls : List (BucketCall T)) → last_moment (map (read_call f) calls) ≡ last_moment calls
  last_moment-read [] = refl
  last_moment-read (call ∷ calls) = ap (λ n. max n (last_moment (map (read_call f) calls))) (moment_of-read call) ∙ ap (max (moment_of call)) (last_moment-read calls)

  popped_in-read : (before : List (BucketCall T)) (call : BucketCall T) → popped_in (map (read_call f) before) (read_call f call) ≡ map (read_pop f) (popped_in before call)
  popped_in-read before (Handed c) = refl
  popped_in-read before (Refilled now) = refl
  popped_in-read before (Popped now went) = ap (λ n. record { moment = max n now; went = option_map (read_classed f) went } ∷ []) (last_moment-read before)

  pops_after-read : (before calls : List (BucketCall T)) → flat_map popped_at (steps_after (map (read_call f) before) (map (read_call f) calls)) ≡ map (read_pop f) (flat_map popped_at (steps_after before calls))
  pops_after-read before [] = refl
  pops_after-read before (call ∷ calls) =
      ap (λ ps. ps ++ flat_map popped_at (steps_after (map (read_call f) before ++ read_call f call ∷ []) (map (read_call f) calls))) (popped_in-read before call)
      ∙ ap (λ w. map (read_pop f) (popped_in before call) ++ flat_map popped_at (steps_after w (map (read_call f) calls))) (sym (map-append (read_call f) before (call ∷ [])))
      ∙ ap (λ ps. map (read_pop f) (popped_in before call) ++ ps) (pops_after-read (before ++ call ∷ []) calls)
      ∙ sym (map-append (read_pop f) (popped_in before call) (flat_map popped_at (steps_after (before ++ call ∷ []) calls)))

  cost-read : (o : Option (Classed T)) → cost (option_map (read_classed f) o) ≡ cost o
  cost-read None = refl
  cost-read (Some c) = refl

  joined-read : (p : Pop T) (ts : List Tick) → joined (read_pop f p) ts ≡ joined p ts
  joined-read p [] = ap (λ n. record { moment = p.moment; cost = n } ∷ []) (cost-read p.went)
  joined-read p (t ∷ ts) = rw (is_some_map (read_classed f) p.went, cost-read p.went) refl

  parted-read : (ps : List (Pop T)) → parted (map (read_pop f) ps) ≡ parted ps
  parted-read [] = refl
  parted-read (p ∷ ps) = ap (joined (read_pop f p)) (parted-read ps) ∙ joined-read p (parted ps)

  pub ticks-read : (calls : List (BucketCall T)) → ticks (map (read_call f) calls) ≡ ticks calls
  ticks-read calls = ap parted (pops_after-read [] calls) ∙ parted-read (pops calls)

  covered-read : (tokens : ℕ) (o : Option (Classed T)) → covered tokens (option_map (read_classed f) o) ≡ option_map (read_classed f) (covered tokens o)
  covered-read tokens None = refl
  covered-read tokens (Some c) = go (nat_le (cost (Some c)) tokens)
    where
      go : (b : Bool) → (if b then Some (read_classed f c) else None) ≡ option_map (read_classed f) (if b then Some c else None)
      go true = refl
      go false = refl

  pub may_go-read : (rate depth : ℕ) (calls : List (BucketCall T)) (now : ℕ) → may_go rate depth (map (read_call f) calls) now ≡ option_map (read_classed f) (may_go rate depth calls now)
  may_go-read rate depth calls now =
      ap (λ ts. covered (level rate depth (max (last_moment (map (read_call f) calls)) now) ts) (next_queued (map (read_call f) calls))) (ticks-read calls)
      ∙ ap (λ n. covered (level rate depth (max n now) (ticks calls)) (next_queued (map (read_call f) calls))) (last_moment-read calls)
      ∙ ap (covered (level_at rate depth calls now)) (next_of-read calls) ∙ covered-read (level_at rate depth calls now) (next_queued calls)

  ends-read : (call : BucketCall T) → ends_tick (read_call f call) ≡ ends_tick call
  ends-read (Handed c) = refl
  ends-read (Refilled now) = refl
  ends-read (Popped now None) = refl
  ends-read (Popped now (Some c)) = refl

  none_higher-read : (before : List (BucketCall T)) (c : Classed T) → NoneHigher before c → NoneHigher (map (read_call f) before) (read_classed f c)
  none_higher-read before c none class l = gone-read class before ∙ ap (map (read_item f)) (none class l) ∙ sym (handed-read class before)

  highest-read : (before : List (BucketCall T)) (o : Option (Classed T)) → IfSome o (NoneHigher before) → IfSome (option_map (read_classed f) o) (NoneHigher (map (read_call f) before))
  highest-read before None none = tt
  highest-read before (Some c) none = none_higher-read before c none

  went-read : (call : BucketCall T) → went_in (read_call f call) ≡ option_map (read_classed f) (went_in call)
  went-read (Handed c) = refl
  went-read (Refilled now) = refl
  went-read (Popped now went) = refl

  less-read : (most : ℕ) (o : Option (Classed T)) → IfSome o (λ c. most < cost (Some c)) → IfSome (option_map (read_classed f) o) (λ c. most < cost (Some c))
  less-read most None l = tt
  less-read most (Some c) l = l

  on_true : (b : Bool) (P Q : Type 0) → (P → Q) → OnTrue b P → OnTrue b Q
  on_true true P Q step p = step p
  on_true false P Q step p = tt

  goes-read : (rate depth : ℕ) (before upto : List (BucketCall T)) (call : BucketCall T) → GoesRight rate depth before upto call → GoesRight rate depth (map (read_call f) before) (map (read_call f) upto) (read_call f call)
  goes-read rate depth before upto call right = record {
    in_order = λ class. (let (rest, e) = right.in_order class in (
      map (read_item f) rest,
      ap (λ xs. xs ++ map (read_item f) rest) (gone-read class upto) ∙ sym (map-append (read_item f) (departed class upto) rest) ∙ ap (map (read_item f)) e ∙ sym (handed-read class upto),
    ));
    highest_first = subst (λ o. IfSome o (NoneHigher (map (read_call f) before))) (sym (went-read call)) (highest-read before (went_in call) right.highest_first);
    not_too_much = rw (last_moment-read upto, ticks-read upto) right.not_too_much;
    all_that_may = subst (λ b. OnTrue b (IfSome (next_queued (map (read_call f) upto)) (λ c. level_at rate depth (map (read_call f) upto) (last_moment (map (read_call f) upto)) < cost (Some c)))) (sym (ends-read call))
        (on_true (ends_tick call) _ _ (λ l. subst (λ o. IfSome o (λ c. level_at rate depth (map (read_call f) upto) (last_moment (map (read_call f) upto)) < cost (Some c))) (sym (next_of-read upto))
        (subst (λ n. IfSome (option_map (read_classed f) (next_queued upto)) (λ c. n < cost (Some c))) (sym (level-read rate depth upto)) (less-read (level_at rate depth upto (last_moment upto)) (next_queued upto) l))) right.all_that_may);
  }
    where
      level-read : (rate depth : ℕ) (cs : List (BucketCall T)) → level_at rate depth (map (read_call f) cs) (last_moment (map (read_call f) cs)) ≡ level_at rate depth cs (last_moment cs)
      level-read rate depth cs = rw (last_moment-read cs, ticks-read cs) refl

  law_after-read : (rate depth : ℕ) (before calls : List (BucketCall T)) → AllByRecursion (λ s. GoesRight rate depth s.before (s.before ++ s.this ∷ []) s.this) (steps_after before calls)
      → AllByRecursion (λ s. GoesRight rate depth s.before (s.before ++ s.this ∷ []) s.this) (steps_after (map (read_call f) before) (map (read_call f) calls))
  law_after-read rate depth before [] all = tt
  law_after-read rate depth before (call ∷ calls) all = (
    subst (λ w. GoesRight rate depth (map (read_call f) before) w (read_call f call)) (map-append (read_call f) before (call ∷ [])) (goes-read rate depth before (before ++ call ∷ []) call all.0),
    subst (λ w. AllByRecursion (λ s. GoesRight rate depth s.before (s.before ++ s.this ∷ []) s.this) (steps_after w (map (read_call f) calls))) (map-append (read_call f) before (call ∷ [])) (law_after-read rate depth (before ++ call ∷ []) calls all.1),
  )

  pub law-read : (rate depth : ℕ) (calls : List (BucketCall T)) → BucketLaw rate depth calls → BucketLaw rate depth (map (read_call f) calls)
  law-read rate depth calls law = law_after-read rate depth [] calls law
