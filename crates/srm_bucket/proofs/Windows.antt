-- How much may go: what time brings, and what one more tick takes.
use Rattle.std.proofs.Common.{◌≡◌, ℕ, ◌+◌, ◌*◌, ◌-◌, ◌≤◌, min, List, [], ◌∷◌, ◌++◌, ap, ◌∙◌, arith, mul-zero}
use Rattle.std.proofs.Math.Nat.{mul-add}
use Rattle.srm_bucket.specs.Tokens.{cost_of}
use Rattle.srm_bucket.specs.Ticks.{Tick, charge, allowance, level, IsWithin}

pub charge-snoc : (ts : List Tick) (t : Tick) → charge (ts ++ t ∷ []) ≡ charge ts + t.cost
charge-snoc [] t = omega arith
charge-snoc (u ∷ ts) t = let more : charge (ts ++ t ∷ []) ≡ charge ts + t.cost = charge-snoc ts t in omega arith

-- the allowance grows with time, by the rate
allowance-later : (rate depth from now more : ℕ) → from ≤ now → allowance rate depth from (now + more) ≡ allowance rate depth from now + rate * more
allowance-later rate depth from now more le =
    let apart : now + more - from ≡ (now - from) + more = omega arith in
    let both : rate * (now + more - from) ≡ rate * (now - from) + rate * more = ap (λ k. rate * k) apart ∙ mul-add rate (now - from) more in
    omega arith

nothing_gained : (rate from now : ℕ) → now ≤ from → rate * (now - from) ≡ 0
nothing_gained rate from now le = let none : now - from ≡ 0 = omega arith in ap (λ k. rate * k) none ∙ mul-zero rate

least_later : (full now later gone rest rest_later gained : ℕ) → later ≡ now + gained → gone ≤ now → rest_later ≡ min full (rest + gained)
    → min (later - gone) rest_later ≡ min full (min (now - gone) rest + gained)
least_later full now later gone rest rest_later gained e le r = omega arith

-- what time brings
pub level-later : (rate depth now more : ℕ) (ts : List Tick) → IsWithin rate depth now ts
    → level rate depth (now + more) ts ≡ min (cost_of depth) (level rate depth now ts + rate * more)
level-later rate depth now more [] within = omega arith
level-later rate depth now more (t ∷ ts) within =
    least_later (cost_of depth) (allowance rate depth t.moment now) (allowance rate depth t.moment (now + more)) (charge (t ∷ ts)) (level rate depth now ts) (level rate depth (now + more) ts) (rate * more)
    (allowance-later rate depth t.moment now more within.0) within.1 (level-later rate depth now more ts within.2)

pub within-later : (rate depth now more : ℕ) (ts : List Tick) → IsWithin rate depth now ts → IsWithin rate depth (now + more) ts
within-later rate depth now more [] within = tt
within-later rate depth now more (t ∷ ts) within =
    let grown : allowance rate depth t.moment (now + more) ≡ allowance rate depth t.moment now + rate * more = allowance-later rate depth t.moment now more within.0 in
    (omega (arith, within.0), omega (arith, within.1, grown), within-later rate depth now more ts within.2)

-- what one more tick takes, at its moment
pub level-spent : (rate depth : ℕ) (ts : List Tick) (t : Tick) → level rate depth t.moment (ts ++ t ∷ []) ≡ level rate depth t.moment ts - t.cost
level-spent rate depth [] t = let none : rate * (t.moment - t.moment) ≡ 0 = nothing_gained rate t.moment t.moment (omega arith) in omega arith
level-spent rate depth (u ∷ ts) t =
    let rest : level rate depth t.moment (ts ++ t ∷ []) ≡ level rate depth t.moment ts - t.cost = level-spent rate depth ts t in
    let more : charge (ts ++ t ∷ []) ≡ charge ts + t.cost = charge-snoc ts t in
    less (allowance rate depth u.moment t.moment) (charge (u ∷ ts ++ t ∷ [])) (charge (u ∷ ts)) (level rate depth t.moment (ts ++ t ∷ [])) (level rate depth t.moment ts) t.cost (omega arith) rest
  where
    less : (a more gone rest_more rest cost : ℕ) → more ≡ gone + cost → rest_more ≡ rest - cost → min (a - more) rest_more ≡ min (a - gone) rest - cost
    less a more gone rest_more rest cost e r = omega arith

pub within-spent : (rate depth : ℕ) (ts : List Tick) (t : Tick) → IsWithin rate depth t.moment ts → t.cost ≤ level rate depth t.moment ts → IsWithin rate depth t.moment (ts ++ t ∷ [])
within-spent rate depth [] t within le = (omega arith, omega arith, tt)
within-spent rate depth (u ∷ ts) t within le =
    let more : charge (ts ++ t ∷ []) ≡ charge ts + t.cost = charge-snoc ts t in
    (within.0, omega (arith, within.1), within-spent rate depth ts t within.2 (omega arith))

-- where the tick is within the allowance, there were tokens for it
pub spent-within : (rate depth : ℕ) (ts : List Tick) (t : Tick) → IsWithin rate depth t.moment (ts ++ t ∷ []) → t.cost ≤ level rate depth t.moment ts
spent-within rate depth [] t within =
    let none : rate * (t.moment - t.moment) ≡ 0 = nothing_gained rate t.moment t.moment (omega arith) in
    let k : t.cost + 0 ≤ allowance rate depth t.moment t.moment = within.1 in
    omega arith
spent-within rate depth (u ∷ ts) t within =
    let rest : t.cost ≤ level rate depth t.moment ts = spent-within rate depth ts t within.2 in
    let more : charge (ts ++ t ∷ []) ≡ charge ts + t.cost = charge-snoc ts t in
    fits (allowance rate depth u.moment t.moment) u.cost (charge ts) (charge (ts ++ t ∷ [])) (level rate depth t.moment ts) t.cost more within.1 rest
  where
    fits : (a first gone more rest cost : ℕ) → more ≡ gone + cost → first + more ≤ a → cost ≤ rest → cost ≤ min (a - (first + gone)) rest
    fits a first gone more rest cost e f r = omega arith
