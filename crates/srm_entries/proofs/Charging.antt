-- What the calls of a bucket leave of its tokens is what the entries leave of them.
use Rattle.std.proofs.Common.{◌≡◌, ℕ, ◌+◌, ◌-◌, ◌*◌, ◌≤◌, max, min, List, [], ◌∷◌, ◌++◌, map, refl, ap, sym, ◌∙◌, subst, arith, append_assoc}
use Rattle.std.specs.Prelude.{Some, None}
use Rattle.std.proofs.lemmas.List.{append-nil}
use Rattle.std.proofs.Math.Nat.{max-zero}
use Rattle.srm_names.specs.Histories.{Step}
use Rattle.srm_names.proofs.Lists.{at_parts}
use Rattle.srm_codec.specs.declared.datagram.Datagram.{Datagram}
use Rattle.srm_bucket.specs.Calls.{Classed, BucketCall, Handed, Popped}
use Rattle.srm_bucket.specs.Tokens.{cost_of}
use Rattle.srm_bucket.specs.Ticks.{Tick, last_moment, ticks, cost, level, IsWithin}
use Rattle.srm_bucket.specs.Law.{BucketLaw, GoesRight as CallRight}
use Rattle.srm_bucket.proofs.Steps.{last-snoc, ticks-same, level-popped, popped-within}
use Rattle.srm_bucket.proofs.Windows.{level-later, within-later}
use Rattle.srm_entries.specs.Bucket.{pops}

-- hand-ins change neither ticks nor the last moment

pub handed_ticks : (calls : List (BucketCall Datagram)) (items : List (Classed Datagram)) → ticks (calls ++ map Handed items) ≡ ticks calls
handed_ticks calls [] = ap ticks (append-nil calls)
handed_ticks calls (i ∷ items) =
    ap ticks (sym (append_assoc calls (Handed i ∷ []) (map Handed items))) ∙ handed_ticks (calls ++ Handed i ∷ []) items ∙ ticks-same calls (Handed i) refl

pub handed_last : (calls : List (BucketCall Datagram)) (items : List (Classed Datagram)) → last_moment (calls ++ map Handed items) ≡ last_moment calls
handed_last calls [] = ap last_moment (append-nil calls)
handed_last calls (i ∷ items) =
    ap last_moment (sym (append_assoc calls (Handed i ∷ []) (map Handed items))) ∙ handed_last (calls ++ Handed i ∷ []) items ∙ last-snoc calls (Handed i) ∙ max-zero (last_moment calls)

-- what goes in a tick

abbrev CallsRight : ℕ → ℕ → Step (BucketCall Datagram) → Type 0
CallsRight rate depth s = CallRight rate depth s.before (s.before ++ s.this ∷ []) s.this

-- the law at a call
pub law_at : (rate depth : ℕ) (calls more : List (BucketCall Datagram)) (call : BucketCall Datagram) → BucketLaw rate depth (calls ++ call ∷ more) → CallRight rate depth calls (calls ++ call ∷ []) call
law_at rate depth calls more call law = (at_parts (CallsRight rate depth) calls (call ∷ more) law).1.0

pub pops_last : (calls : List (BucketCall Datagram)) (now : ℕ) (goes : List (Classed Datagram)) → last_moment calls ≤ now → last_moment (calls ++ pops now goes) ≡ now
pops_last calls now [] l = last-snoc calls (Popped now None) ∙ omega arith
pops_last calls now (i ∷ goes) l =
    let at : last_moment (calls ++ Popped now (Some i) ∷ []) ≡ max (last_moment calls) now = last-snoc calls (Popped now (Some i)) in
    ap last_moment (sym (append_assoc calls (Popped now (Some i) ∷ []) (pops now goes))) ∙ pops_last (calls ++ Popped now (Some i) ∷ []) now goes (omega arith)

-- after a pop the level is lower by what went
pub popped_level : (rate depth now : ℕ) (calls more : List (BucketCall Datagram)) (i : Classed Datagram) → last_moment calls ≤ now → BucketLaw rate depth (calls ++ Popped now (Some i) ∷ more)
    → level rate depth now (ticks (calls ++ Popped now (Some i) ∷ [])) + cost (Some i) ≡ level rate depth now (ticks calls)
popped_level rate depth now calls more i l law =
    let m : max (last_moment calls) now ≡ now = omega arith in
    let at : last_moment (calls ++ Popped now (Some i) ∷ []) ≡ max (last_moment calls) now = last-snoc calls (Popped now (Some i)) in
    let within : IsWithin rate depth (max (last_moment calls) now) (ticks (calls ++ Popped now (Some i) ∷ [])) =
    subst (λ n. IsWithin rate depth n (ticks (calls ++ Popped now (Some i) ∷ []))) at (law_at rate depth calls more (Popped now (Some i)) law).not_too_much in
    let enough : cost (Some i) ≤ level rate depth now (ticks calls) =
    subst (λ n. cost (Some i) ≤ level rate depth n (ticks calls)) m (popped-within rate depth calls now (Some i) within) in
    let less : level rate depth now (ticks (calls ++ Popped now (Some i) ∷ [])) ≡ level rate depth now (ticks calls) - cost (Some i) =
    subst (λ n. level rate depth n (ticks (calls ++ Popped now (Some i) ∷ [])) ≡ level rate depth n (ticks calls) - cost (Some i)) m (level-popped rate depth calls now (Some i)) in
    omega arith

-- what the items cost
abbrev pub cost_of_items : List (Classed Datagram) → ℕ
cost_of_items [] = 0
cost_of_items (i ∷ items) = cost (Some i) + cost_of_items items

-- after the pops of a tick it is lower by all that went
pub pops_level : (rate depth now : ℕ) (calls : List (BucketCall Datagram)) (goes : List (Classed Datagram)) → last_moment calls ≤ now → BucketLaw rate depth (calls ++ pops now goes)
    → level rate depth now (ticks (calls ++ pops now goes)) + cost_of_items goes ≡ level rate depth now (ticks calls)
pops_level rate depth now calls [] l law =
    let m : max (last_moment calls) now ≡ now = omega arith in
    let same : level rate depth now (ticks (calls ++ Popped now None ∷ [])) ≡ level rate depth now (ticks calls) - 0 =
    subst (λ n. level rate depth n (ticks (calls ++ Popped now None ∷ [])) ≡ level rate depth n (ticks calls) - 0) m (level-popped rate depth calls now None) in
    omega arith
pops_level rate depth now calls (i ∷ goes) l law =
    let at : last_moment (calls ++ Popped now (Some i) ∷ []) ≡ max (last_moment calls) now = last-snoc calls (Popped now (Some i)) in
    let split : calls ++ pops now (i ∷ goes) ≡ (calls ++ Popped now (Some i) ∷ []) ++ pops now goes = sym (append_assoc calls (Popped now (Some i) ∷ []) (pops now goes)) in
    let one : level rate depth now (ticks (calls ++ Popped now (Some i) ∷ [])) + cost (Some i) ≡ level rate depth now (ticks calls) = popped_level rate depth now calls (pops now goes) i l law in
    let rest : level rate depth now (ticks ((calls ++ Popped now (Some i) ∷ []) ++ pops now goes)) + cost_of_items goes ≡ level rate depth now (ticks (calls ++ Popped now (Some i) ∷ [])) =
    pops_level rate depth now (calls ++ Popped now (Some i) ∷ []) goes (omega arith) (subst (BucketLaw rate depth) split law) in
    let same : level rate depth now (ticks (calls ++ pops now (i ∷ goes))) ≡ level rate depth now (ticks ((calls ++ Popped now (Some i) ∷ []) ++ pops now goes)) = ap (λ cs. level rate depth now (ticks cs)) split in
    omega arith

-- two lists of ticks that leave the same level do so later too
pub later_same : (rate depth now later : ℕ) (ts us : List Tick) → now ≤ later → IsWithin rate depth now ts → IsWithin rate depth now us
    → level rate depth now ts ≡ level rate depth now us → level rate depth later ts ≡ level rate depth later us
later_same rate depth now later ts us l p q e =
    let apart : now + (later - now) ≡ later = omega arith in
    subst (λ n. level rate depth n ts ≡ level rate depth n us) apart
    (level-later rate depth now (later - now) ts p ∙ ap (λ n. min (cost_of depth) (n + rate * (later - now))) e ∙ sym (level-later rate depth now (later - now) us q))

pub within_later : (rate depth now later : ℕ) (ts : List Tick) → now ≤ later → IsWithin rate depth now ts → IsWithin rate depth later ts
within_later rate depth now later ts l p =
    let apart : now + (later - now) ≡ later = omega arith in
    subst (λ n. IsWithin rate depth n ts) apart (within-later rate depth now (later - now) ts p)
