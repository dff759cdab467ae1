-- Pops that let nothing go: after which calls there may be one, and what it says of them.
use Rattle.std.proofs.Common.{◌≡◌, ℕ, ◌+◌, ◌-◌, ◌*◌, ◌≤◌, ◌<◌, max, min, List, [], ◌∷◌, ◌++◌, length, drop, Option, Some, None, Bool, true, false, refl, sym, ap, subst, ◌∙◌, arith}
use Rattle.std.specs.Prelude.{if◌then◌else◌, nat_le, IfSome}
use Rattle.std.proofs.lemmas.List.{append-nil}
use Rattle.std.proofs.lemmas.Bool.Decides.{nat_tests}
use Rattle.std.proofs.lemmas.Grind.{flat_map-append}
use Rattle.srm_bucket.specs.Calls.{Classed, BucketCall, Popped}
use Rattle.srm_bucket.specs.Classes.{handed_in, departed_in, handed, departed, queued, next_queued}
use Rattle.srm_bucket.specs.Tokens.{cost_of}
use Rattle.srm_bucket.specs.Ticks.{Tick, last_moment, ticks, cost, level, IsWithin}
use Rattle.srm_bucket.specs.Law.{GoesRight, BucketLaw, level_at, covered, may_go}
use Rattle.srm_bucket.specs.Content.{BucketContent}
use Rattle.srm_bucket.specs.Fits.{BucketFits}
use Rattle.srm_bucket.proofs.Windows.{level-later}
use Rattle.srm_bucket.proofs.Steps.{last-snoc, law-snoc, within-at, level-popped, popped-within}
use Rattle.srm_bucket.proofs.Highest.{next-same}
use Rattle.srm_bucket.proofs.Going.{covers, covers_not, pop-right}

-- a pop at a moment at which nothing may go
pub law-paused : {T : Type 0} (rate depth : ℕ) (calls : List (BucketCall T)) (b : BucketContent T) (now : ℕ) → BucketFits rate depth calls b → may_go rate depth calls now ≡ None → BucketLaw rate depth (calls ++ Popped now None ∷ [])
law-paused rate depth calls b now f none =
    law-snoc rate depth calls (Popped now None) f.law (pop-right rate depth calls now None b.waiting b.waiting f.within f.waiting_is (sym none) (λ k. refl))

-- what is next stays
next-paused : {T : Type 0} (calls : List (BucketCall T)) (now : ℕ) → next_queued (calls ++ Popped now None ∷ []) ≡ next_queued calls
next-paused {T = T} calls now =
    let c : BucketCall T = Popped now None in
    next-same (queued (calls ++ c ∷ [])) (queued calls) (λ k.
    ap (λ xs. drop (length xs) (handed k (calls ++ c ∷ []))) (flat_map-append (departed_in k) calls (c ∷ []) ∙ append-nil (departed k calls))
    ∙ ap (drop (length (departed k calls))) (flat_map-append (handed_in k) calls (c ∷ []) ∙ append-nil (handed k calls)))

none_covered : {T : Type 0} (tokens : ℕ) (next : Option (Classed T)) → IfSome next (λ c. tokens < cost (Some c)) → covered tokens next ≡ None
none_covered tokens None h = refl
none_covered tokens (Some c) h = covers_not tokens c h

-- where such a pop is right, nothing may go at its moment
pub paused-none : {T : Type 0} (rate depth : ℕ) (calls : List (BucketCall T)) (now : ℕ) → GoesRight rate depth calls (calls ++ Popped now None ∷ []) (Popped now None) → may_go rate depth calls now ≡ None
paused-none {T = T} rate depth calls now right =
    let c : BucketCall T = Popped now None in
    let nothing : Option (Classed T) = None in
    let at : last_moment (calls ++ c ∷ []) ≡ max (last_moment calls) now = last-snoc calls c in
    let twice : max (last_moment (calls ++ c ∷ [])) (last_moment (calls ++ c ∷ [])) ≡ max (last_moment calls) now = omega (arith, at) in
    let spent : level rate depth (max (last_moment calls) now) (ticks (calls ++ c ∷ [])) ≡ level_at rate depth calls now - 0 = level-popped rate depth calls now nothing in
    let same : level_at rate depth (calls ++ c ∷ []) (last_moment (calls ++ c ∷ [])) ≡ level_at rate depth calls now = ap (λ m. level rate depth m (ticks (calls ++ c ∷ []))) twice ∙ omega (arith, spent) in
    none_covered (level_at rate depth calls now) (next_queued calls)
    (subst (λ n. IfSome (next_queued calls) (λ d. n < cost (Some d))) same
    (subst (λ (o : Option (Classed T)). IfSome o (λ d. level_at rate depth (calls ++ c ∷ []) (last_moment (calls ++ c ∷ [])) < cost (Some d))) (next-paused calls now) right.all_that_may))

-- and what goes in a right pop may go
pub popped-may_go : {T : Type 0} (rate depth : ℕ) (calls : List (BucketCall T)) (now : ℕ) (i : Classed T) → GoesRight rate depth calls (calls ++ Popped now (Some i) ∷ []) (Popped now (Some i)) → next_queued calls ≡ Some i
    → may_go rate depth calls now ≡ Some i
popped-may_go rate depth calls now i right next =
    ap (covered (level_at rate depth calls now)) next
    ∙ covers (level_at rate depth calls now) i (popped-within rate depth calls now (Some i) (subst (λ m. IsWithin rate depth m (ticks (calls ++ Popped now (Some i) ∷ []))) (last-snoc calls (Popped now (Some i))) right.not_too_much))

-- what may go at a moment may go later

at_most_full : (rate depth now : ℕ) (ts : List Tick) → level rate depth now ts ≤ cost_of depth
at_most_full rate depth now [] = omega arith
at_most_full rate depth now (t ∷ ts) = let rest : level rate depth now ts ≤ cost_of depth = at_most_full rate depth now ts in omega (arith, rest)

level-grows : (rate depth now later : ℕ) (ts : List Tick) → now ≤ later → IsWithin rate depth now ts → level rate depth now ts ≤ level rate depth later ts
level-grows rate depth now later ts l within =
    let apart : now + (later - now) ≡ later = omega arith in
    let grown : level rate depth later ts ≡ min (cost_of depth) (level rate depth now ts + rate * (later - now)) =
    subst (λ n. level rate depth n ts ≡ min (cost_of depth) (level rate depth now ts + rate * (later - now))) apart (level-later rate depth now (later - now) ts within) in
    let most : level rate depth now ts ≤ cost_of depth = at_most_full rate depth now ts in
    omega (arith, grown, most)

covered_too : {T : Type 0} (less more : ℕ) (next : Option (Classed T)) → less ≤ more → covered more next ≡ None → covered less next ≡ None
covered_too less more None l none = refl
covered_too less more (Some c) l none = go (nat_le (cost (Some c)) more) refl none
  where
    go : (b : Bool) → nat_le (cost (Some c)) more ≡ b → (if b then Some c else None) ≡ None → covered less (Some c) ≡ None
    go true t e = absurd (cc)
    go false t e = covers_not less c (grind (arith, nat_tests))

pub none-before : {T : Type 0} (rate depth : ℕ) (calls : List (BucketCall T)) (now later : ℕ) → IsWithin rate depth (last_moment calls) (ticks calls) → now ≤ later → may_go rate depth calls later ≡ None → may_go rate depth calls now ≡ None
none-before rate depth calls now later within l none =
    covered_too (level_at rate depth calls now) (level_at rate depth calls later) (next_queued calls)
    (level-grows rate depth (max (last_moment calls) now) (max (last_moment calls) later) (ticks calls) (omega arith) (within-at rate depth (last_moment calls) now (ticks calls) within)) none
