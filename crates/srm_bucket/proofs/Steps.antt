-- What one more call does to what the calls say.
use Rattle.std.proofs.Common.{◌≡◌, ℕ, ◌+◌, ◌*◌, ◌-◌, ◌≤◌, min, max, List, [], ◌∷◌, ◌++◌, map, Option, sym, ap, subst, ◌∙◌, arith, append_assoc}
use Rattle.std.specs.List.{flat_map, AllByRecursion}
use Rattle.std.proofs.lemmas.List.{append-nil, map-append, map_push}
use Rattle.srm_names.specs.Histories.{Step, steps, greatest}
use Rattle.srm_names.proofs.Snoc.{steps-snoc, greatest-snoc, flat_map-snoc}
use Rattle.srm_names.proofs.Lists.{AllByRecursion-snoc}
use Rattle.srm_bucket.specs.declared.class.Class.{Class}
use Rattle.srm_bucket.specs.Calls.{Classed, BucketCall, Popped}
use Rattle.srm_bucket.specs.Classes.{handed_in, departed_in, handed, departed}
use Rattle.srm_bucket.specs.Tokens.{cost_of}
use Rattle.srm_bucket.specs.Ticks.{Pop, Tick, moment_of, last_moment, popped_in, popped_at, pops, cost, alone, parted, ticks, level, IsWithin}
use Rattle.srm_bucket.specs.Law.{GoesRight, BucketLaw, level_at}
use Rattle.srm_bucket.specs.Waiting.{Waiting, queue}
use Rattle.srm_bucket.proofs.Windows.{level-later, within-later, level-spent, within-spent, spent-within}
use Rattle.srm_bucket.proofs.Parting.{level-parted, within-parted, parted-within}

pub last-snoc : {T : Type 0} (calls : List (BucketCall T)) (c : BucketCall T) → last_moment (calls ++ c ∷ []) ≡ max (last_moment calls) (moment_of c)
last-snoc calls c = ap greatest (map-append moment_of calls (c ∷ [])) ∙ greatest-snoc (map moment_of calls) (moment_of c)

pops-snoc : {T : Type 0} (calls : List (BucketCall T)) (c : BucketCall T) → pops (calls ++ c ∷ []) ≡ pops calls ++ popped_in calls c
pops-snoc calls c =
    ap (flat_map popped_at) (steps-snoc calls c)
    ∙ flat_map-snoc popped_at (steps calls) (record { before = calls; this = c })

pub ticks-same : {T : Type 0} (calls : List (BucketCall T)) (c : BucketCall T) → popped_in calls c ≡ [] → ticks (calls ++ c ∷ []) ≡ ticks calls
ticks-same calls c none = ap parted (pops-snoc calls c ∙ ap (λ ps. pops calls ++ ps) none ∙ append-nil (pops calls))

-- what a call hands in and lets go ties what waits before it to what waits after it
abbrev pub Moves : {T : Type 0} → BucketCall T → Waiting T → Waiting T → Type 0
Moves c old new = (k : Class) → departed_in k c ++ queue new k ≡ queue old k ++ handed_in k c

pub waiting-snoc : {T : Type 0} (calls : List (BucketCall T)) (c : BucketCall T) (old new : Waiting T) → Moves c old new
    → ((k : Class) → departed k calls ++ queue old k ≡ handed k calls)
    → (k : Class) → departed k (calls ++ c ∷ []) ++ queue new k ≡ handed k (calls ++ c ∷ [])
waiting-snoc calls c old new moves are k =
    ap (λ xs. xs ++ queue new k) (flat_map-snoc (departed_in k) calls c)
    ∙ append_assoc (departed k calls) (departed_in k c) (queue new k)
    ∙ ap (λ xs. departed k calls ++ xs) (moves k)
    ∙ sym (append_assoc (departed k calls) (queue old k) (handed_in k c))
    ∙ ap (λ xs. xs ++ handed_in k c) (are k)
    ∙ sym (flat_map-snoc (handed_in k) calls c)

pub law-snoc : {T : Type 0} (rate depth : ℕ) (calls : List (BucketCall T)) (c : BucketCall T) → BucketLaw rate depth calls
    → GoesRight rate depth calls (calls ++ c ∷ []) c → BucketLaw rate depth (calls ++ c ∷ [])
law-snoc {T = T} rate depth calls c law right =
    let P : Step (BucketCall T) → Type 0 = λ s. GoesRight rate depth s.before (s.before ++ s.this ∷ []) s.this in
    subst (AllByRecursion P) (sym (steps-snoc calls c)) (AllByRecursion-snoc P (steps calls) (record { before = calls; this = c }) law right)

-- time goes on to a moment; one below the last counts as the last
pub level-at : (rate depth last now : ℕ) (ts : List Tick) → IsWithin rate depth last ts
    → min (cost_of depth) (level rate depth last ts + rate * (now - last)) ≡ level rate depth (max last now) ts
level-at rate depth last now ts within =
    let later : last + (now - last) ≡ max last now = omega arith in
    sym (level-later rate depth last (now - last) ts within) ∙ ap (λ m. level rate depth m ts) later

pub within-at : (rate depth last now : ℕ) (ts : List Tick) → IsWithin rate depth last ts → IsWithin rate depth (max last now) ts
within-at rate depth last now ts within =
    let later : last + (now - last) ≡ max last now = omega arith in
    subst (λ m. IsWithin rate depth m ts) later (within-later rate depth last (now - last) ts within)

-- one more pop
pub level-popped : {T : Type 0} (rate depth : ℕ) (calls : List (BucketCall T)) (now : ℕ) (went : Option (Classed T))
    → level rate depth (max (last_moment calls) now) (ticks (calls ++ Popped now went ∷ [])) ≡ level_at rate depth calls now - cost went
level-popped {T = T} rate depth calls now went =
    let m : ℕ = max (last_moment calls) now in
    let p : Pop T = record { moment = m; went = went } in
    ap (λ ps. level rate depth m (parted ps)) (pops-snoc calls (Popped now went))
    ∙ level-parted rate depth m (pops calls ++ p ∷ [])
    ∙ ap (level rate depth m) (map_push alone (pops calls) p)
    ∙ level-spent rate depth (map alone (pops calls)) (alone p)
    ∙ ap (λ n. n - cost went) (sym (level-parted rate depth m (pops calls)))

pub within-popped : {T : Type 0} (rate depth : ℕ) (calls : List (BucketCall T)) (now : ℕ) (went : Option (Classed T))
    → IsWithin rate depth (last_moment calls) (ticks calls) → cost went ≤ level_at rate depth calls now
    → IsWithin rate depth (max (last_moment calls) now) (ticks (calls ++ Popped now went ∷ []))
within-popped {T = T} rate depth calls now went within le =
    let m : ℕ = max (last_moment calls) now in
    let p : Pop T = record { moment = m; went = went } in
    let before : IsWithin rate depth m (map alone (pops calls)) = parted-within rate depth m (pops calls) (within-at rate depth (last_moment calls) now (ticks calls) within) in
    let le_alone : cost went ≤ level rate depth m (map alone (pops calls)) = subst (λ n. cost went ≤ n) (level-parted rate depth m (pops calls)) le in
    subst (λ ps. IsWithin rate depth m (parted ps)) (sym (pops-snoc calls (Popped now went)))
    (within-parted rate depth m (pops calls ++ p ∷ [])
    (subst (IsWithin rate depth m) (sym (map_push alone (pops calls) p)) (within-spent rate depth (map alone (pops calls)) (alone p) before le_alone)))

-- what went had its tokens
pub popped-within : {T : Type 0} (rate depth : ℕ) (calls : List (BucketCall T)) (now : ℕ) (went : Option (Classed T))
    → IsWithin rate depth (max (last_moment calls) now) (ticks (calls ++ Popped now went ∷ [])) → cost went ≤ level_at rate depth calls now
popped-within {T = T} rate depth calls now went within =
    let m : ℕ = max (last_moment calls) now in
    let p : Pop T = record { moment = m; went = went } in
    let apart : IsWithin rate depth m (map alone (pops calls) ++ alone p ∷ []) =
    subst (IsWithin rate depth m) (map_push alone (pops calls) p) (parted-within rate depth m (pops calls ++ p ∷ []) (subst (λ ps. IsWithin rate depth m (parted ps)) (pops-snoc calls (Popped now went)) within)) in
    subst (λ n. cost went ≤ n) (sym (level-parted rate depth m (pops calls))) (spent-within rate depth (map alone (pops calls)) (alone p) apart)
