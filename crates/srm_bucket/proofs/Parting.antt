-- Each pop, taken for a tick, allows and charges as the ticks do.
use Rattle.std.proofs.Common.{◌≡◌, ℕ, ◌+◌, ◌-◌, min, List, [], ◌∷◌, map, Bool, true, false, ◌&&◌, refl, ap, ◌∙◌, arith, add_assoc}
use Rattle.std.specs.Prelude.{◌==◌, if◌then◌else◌, is_some}
use Rattle.std.proofs.lemmas.Bool.{and_parts, eqb-true}
use Rattle.srm_bucket.specs.Ticks.{Pop, Tick, cost, alone, joined, parted, charge, allowance, level, IsWithin}

-- a tick with one more pop in front of it
abbrev with_one : {T : Type 0} → Pop T → Tick → List Tick → Bool → List Tick
with_one p t ts together = if together then record { moment = t.moment; cost = cost p.went + t.cost } ∷ ts else alone p ∷ t ∷ ts

same_moment : {T : Type 0} (p : Pop T) (t : Tick) → is_some p.went && (p.moment == t.moment) ≡ true → p.moment ≡ t.moment
same_moment p t e = eqb-true p.moment t.moment (and_parts (is_some p.went) (p.moment == t.moment) e).1

charge-with : {T : Type 0} (p : Pop T) (t : Tick) (ts : List Tick) (b : Bool) → charge (with_one p t ts b) ≡ cost p.went + charge (t ∷ ts)
charge-with p t ts true = add_assoc (cost p.went) t.cost (charge ts)
charge-with p t ts false = refl

charge-joined : {T : Type 0} (p : Pop T) (ts : List Tick) → charge (joined p ts) ≡ cost p.went + charge ts
charge-joined p [] = refl
charge-joined p (t ∷ ts) = charge-with p t ts (is_some p.went && (p.moment == t.moment))

pub charge-parted : {T : Type 0} (ps : List (Pop T)) → charge (parted ps) ≡ charge (map alone ps)
charge-parted [] = refl
charge-parted (p ∷ ps) = charge-joined p (parted ps) ∙ ap (λ n. cost p.went + n) (charge-parted ps)

level-with : {T : Type 0} (rate depth now : ℕ) (p : Pop T) (t : Tick) (ts : List Tick) (b : Bool) → (b ≡ true → p.moment ≡ t.moment)
    → level rate depth now (with_one p t ts b) ≡ level rate depth now (alone p ∷ t ∷ ts)
level-with rate depth now p t ts true same =
    let at : allowance rate depth p.moment now ≡ allowance rate depth t.moment now = ap (λ m. allowance rate depth m now) (same refl) in
    one (allowance rate depth t.moment now) (allowance rate depth p.moment now) (cost p.went) t.cost (charge ts) (level rate depth now ts) at
  where
    one : (a b c d e rest : ℕ) → b ≡ a → min (a - (c + d + e)) rest ≡ min (b - (c + (d + e))) (min (a - (d + e)) rest)
    one a b c d e rest h = omega arith
level-with rate depth now p t ts false same = refl

level-joined : {T : Type 0} (rate depth now : ℕ) (p : Pop T) (ts : List Tick) → level rate depth now (joined p ts) ≡ level rate depth now (alone p ∷ ts)
level-joined rate depth now p [] = refl
level-joined rate depth now p (t ∷ ts) = level-with rate depth now p t ts (is_some p.went && (p.moment == t.moment)) (same_moment p t)

pub level-parted : {T : Type 0} (rate depth now : ℕ) (ps : List (Pop T)) → level rate depth now (parted ps) ≡ level rate depth now (map alone ps)
level-parted rate depth now [] = refl
level-parted rate depth now (p ∷ ps) =
    level-joined rate depth now p (parted ps)
    ∙ ap (λ n. min (allowance rate depth p.moment now - (cost p.went + n)) (level rate depth now (parted ps))) (charge-parted ps)
    ∙ ap (min (allowance rate depth p.moment now - (cost p.went + charge (map alone ps)))) (level-parted rate depth now ps)

-- from pops to ticks, and back
within-with : {T : Type 0} (rate depth now : ℕ) (p : Pop T) (t : Tick) (ts : List Tick) (b : Bool) → (b ≡ true → p.moment ≡ t.moment)
    → IsWithin rate depth now (alone p ∷ t ∷ ts) → IsWithin rate depth now (with_one p t ts b)
within-with rate depth now p t ts true same within =
    let at : allowance rate depth p.moment now ≡ allowance rate depth t.moment now = ap (λ m. allowance rate depth m now) (same refl) in
    (within.2.0, omega (arith, within.1, at), within.2.2)
within-with rate depth now p t ts false same within = within

with-within : {T : Type 0} (rate depth now : ℕ) (p : Pop T) (t : Tick) (ts : List Tick) (b : Bool) → (b ≡ true → p.moment ≡ t.moment)
    → IsWithin rate depth now (with_one p t ts b) → IsWithin rate depth now (alone p ∷ t ∷ ts)
with-within rate depth now p t ts true same within =
    let at : allowance rate depth p.moment now ≡ allowance rate depth t.moment now = ap (λ m. allowance rate depth m now) (same refl) in
    let moment : p.moment ≡ t.moment = same refl in
    (omega (arith, within.0, moment), omega (arith, within.1, at), (within.0, omega (arith, within.1), within.2))
with-within rate depth now p t ts false same within = within

within-joined : {T : Type 0} (rate depth now : ℕ) (p : Pop T) (ts : List Tick) → IsWithin rate depth now (alone p ∷ ts) → IsWithin rate depth now (joined p ts)
within-joined rate depth now p [] within = within
within-joined rate depth now p (t ∷ ts) within = within-with rate depth now p t ts (is_some p.went && (p.moment == t.moment)) (same_moment p t) within

joined-within : {T : Type 0} (rate depth now : ℕ) (p : Pop T) (ts : List Tick) → IsWithin rate depth now (joined p ts) → IsWithin rate depth now (alone p ∷ ts)
joined-within rate depth now p [] within = within
joined-within rate depth now p (t ∷ ts) within = with-within rate depth now p t ts (is_some p.went && (p.moment == t.moment)) (same_moment p t) within

pub within-parted : {T : Type 0} (rate depth now : ℕ) (ps : List (Pop T)) → IsWithin rate depth now (map alone ps) → IsWithin rate depth now (parted ps)
within-parted rate depth now [] within = tt
within-parted rate depth now (p ∷ ps) within =
    let same : charge (parted ps) ≡ charge (map alone ps) = charge-parted ps in
    within-joined rate depth now p (parted ps) (within.0, omega (arith, within.1, same), within-parted rate depth now ps within.2)

pub parted-within : {T : Type 0} (rate depth now : ℕ) (ps : List (Pop T)) → IsWithin rate depth now (parted ps) → IsWithin rate depth now (map alone ps)
parted-within rate depth now [] within = tt
parted-within rate depth now (p ∷ ps) within =
    let same : charge (parted ps) ≡ charge (map alone ps) = charge-parted ps in
    let split : IsWithin rate depth now (alone p ∷ parted ps) = joined-within rate depth now p (parted ps) within in
    (split.0, omega (arith, split.1, same), parted-within rate depth now ps split.2)
