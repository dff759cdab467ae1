-- What a guard's calls open.
use Rattle.std.proofs.Common.{◌≡◌, ℕ, List, [], ◌∷◌, ◌++◌, length, ◌⊎◌, Bool, true, false, refl, ap, sym, ◌∙◌, subst, inl, inr}
use Rattle.std.specs.Prelude.{Option, Some, None, MatchBool}
use Rattle.srm_window.specs.Senders.{numbered}
use Rattle.srm_wire.specs.declared.sent.Sent.{Sent}
use Rattle.srm_wire.specs.Wires.{bytes_to, one_more}
use Rattle.srm_guard.specs.declared.seal.Opened.{Opened}
use Rattle.srm_guard.specs.declared.seal.Opened.TheVariants.{Datagram}
use Rattle.srm_guard.specs.Seals.{SealView, Opens, sealed, next_to, one_sent}
use Rattle.srm_guard.specs.Runs.{Opening, OpensEach}
use Rattle.srm_guard.specs.Guards.{GuardView, BehindSeal, DropsEach, Passes, SendsBehind, cannot_seal}
use Rattle.srm_guard.specs.Receives.{IsBroughtBy, ReceivesOpen, SendsKeep}

-- one more was opened
opens_on : (all : List Opening) (one : Opening) (s t u : SealView) → OpensEach all s t → Opens one.opened one.bytes t u → OpensEach (all ++ one ∷ []) s u
opens_on [] one s t u same opens = (t, u, same, opens, refl)
opens_on (first ∷ all) one s t u (between, after, same, opened, rest) opens = (between, after, same, opened, opens_on all one after t u rest opens)

-- behind a seal
behind : (seal after : Option SealView) (bytes : List ℕ) (opened : Opened) (s : SealView) → seal ≡ Some s → BehindSeal seal bytes opened after → (t : SealView) × (after ≡ Some t) × Opens opened bytes s t
behind seal after bytes opened s is opens = subst (λ o. BehindSeal o bytes opened after → (t : SealView) × (after ≡ Some t) × Opens opened bytes s t) (sym is) (λ h. h) opens

-- what was dropped
drops_open : {W : Type 0} (Below : W → ℕ → List (Option (List ℕ)) → W → Type 0) (room : ℕ) (dropped : List (List ℕ)) (g h : GuardView W) (s : SealView) → g.seal ≡ Some s → DropsEach Below room dropped g h
    → (all : List Opening) × (t : SealView) × (h.seal ≡ Some t) × OpensEach all s t
drops_open {W} Below room [] g h s is same = ([], s, ap (λ (v : GuardView W). v.seal) same ∙ is, refl)
drops_open {W} Below room (bytes ∷ more) g h s is (between, came, drops, rest) =
    let first : (t : SealView) × (between.seal ≡ Some t) × Opens drops.1 bytes s t = behind g.seal between.seal bytes drops.1 s is drops.2 in
    let others : (all : List Opening) × (t : SealView) × (h.seal ≡ Some t) × OpensEach all first.0 t = drops_open Below room more between h first.0 first.1 rest in
    (record { bytes = bytes; opened = drops.1 } ∷ others.0, others.1, others.2, (s, first.0, refl, first.2, others.3))

-- and what is brought
passes_open : {W : Type 0} (Below : W → ℕ → List (Option (List ℕ)) → W → Type 0) (room : ℕ) (answer : List (Option (List ℕ))) (g h : GuardView W) (s t : SealView) (all : List Opening) → g.seal ≡ Some t → OpensEach all s t → Passes Below room answer g h
    → (more : List Opening) × (u : SealView) × (h.seal ≡ Some u) × OpensEach more s u × IsBroughtBy answer more
passes_open {W} Below room [] g h s t all is opens (came, same) = (all, t, ap (λ (v : GuardView W). v.seal) same ∙ is, opens, tt)
passes_open {W} Below room (None ∷ _) g h s t all is opens (came, same) = (all, t, ap (λ (v : GuardView W). v.seal) same ∙ is, opens, tt)
passes_open {W} Below room (Some datagram ∷ _) g h s t all is opens (bytes, came, count, brought, few, opened, same) =
    let last : (u : SealView) × (h.seal ≡ Some u) × Opens (Datagram count) bytes t u = behind g.seal h.seal bytes (Datagram count) t is opened in
    (all ++ record { bytes = bytes; opened = Datagram count } ∷ [], last.0, last.1, opens_on all (record { bytes = bytes; opened = Datagram count }) s t last.0 opens last.2, (all, bytes, count, refl, brought))

nothing_brought : (answer : List (Option (List ℕ))) (all : List Opening) → answer ≡ None ∷ [] → IsBroughtBy answer all
nothing_brought answer all is = subst (λ a. IsBroughtBy a all) (sym is) tt

pub receives_open : {W : Type 0} (Below : W → ℕ → List (Option (List ℕ)) → W → Type 0) → ReceivesOpen Below
receives_open {W} Below room answer g h s is receives =
    let dropped : (all : List Opening) × (t : SealView) × (receives.between.seal ≡ Some t) × OpensEach all s t = drops_open Below room receives.dropped g receives.between s is receives.drops in
    brought dropped.0 dropped.1 dropped.2 dropped.3 receives.brings
  where
    brought : (all : List Opening) (t : SealView) → receives.between.seal ≡ Some t → OpensEach all s t → ((length receives.dropped ≡ 64) × (answer ≡ None ∷ []) × (h ≡ receives.between)) ⊎ Passes Below room answer receives.between h
        → (more : List Opening) × (u : SealView) × (h.seal ≡ Some u) × OpensEach more s u × IsBroughtBy answer more
    brought all t at opens (inl (spent, nothing, same)) = (all, t, ap (λ (v : GuardView W). v.seal) same ∙ at, opens, nothing_brought answer all nothing)
    brought all t at opens (inr passes) = passes_open Below room answer receives.between h s t all at opens passes

pub sends_keep : {W : Type 0} (Below : W → Sent → Bool → W → Type 0) → SendsKeep Below
sends_keep {W} Below sent failed g h s is sends = kept (cannot_seal s sent) (subst (λ o. SendsBehind Below o g sent failed h) is sends)
  where
    kept : (b : Bool) → MatchBool b ((failed ≡ true) × (h ≡ record g { own = one_more g.own })) ((h ≡ record g { wire = h.wire; seal = Some (one_sent sent.to s) }) × Below g.wire (bytes_to sent.to (sealed s.key sent.to (numbered s.me (next_to sent.to s)) sent.bytes)) failed h.wire)
        → (t : SealView) × (h.seal ≡ Some t) × OpensEach [] s t
    kept true (lost, same) = (s, ap (λ (v : GuardView W). v.seal) same ∙ is, refl)
    kept false (same, went) = (one_sent sent.to s, ap (λ (v : GuardView W). v.seal) same, refl)
