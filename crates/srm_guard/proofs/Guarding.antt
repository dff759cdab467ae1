-- One receive of the wire below after another, and what a guard makes of them.
use Rattle.std.proofs.Common.{◌≡◌, ℕ, ◌+◌, ◌≤◌, List, [], ◌∷◌, ◌++◌, length, take, refl, ap, sym, ◌∙◌, subst, inl, inr, arith}
use Rattle.std.specs.Prelude.{Option, Some, Ok, Err, Bool, true}
use Rattle.std.proofs.lemmas.List.{length-append, length-take, take-take}
use Rattle.std.specs.Prelude.{MatchBool, nat_lt, ◌==◌}
use Rattle.std.proofs.lemmas.Bool.{or_from, le-ltb, ne_eqb}
use Rattle.srm_window.specs.Senders.{numbered}
use Rattle.srm_wire.specs.declared.sent.Sent.{Sent}
use Rattle.srm_guard.specs.Seals.{SealView, sealed, next_to, one_sent}
use Rattle.srm_wire.specs.Wires.{counted_with, one_more, bytes_to, answered_with, none_there}
use Rattle.srm_guard.specs.declared.dropped.Cause.{Cause}
use Rattle.srm_guard.specs.Guards.{GuardView, DropsOne, DropsEach, Judges, ReceivesTagged, SendsBehind, SendsTagged, one_dropped, Passes}

-- so many came and were dropped
pub record HasDropped {W : Type 0} (Below : W → ℕ → List (Option (List ℕ)) → W → Type 0) (room count : ℕ) (g h : GuardView W) : Type 0 where
  pub dropped : List (List ℕ)
  pub all : length dropped ≡ count
  pub each : DropsEach Below room dropped g h

drops_on : {W : Type 0} (Below : W → ℕ → List (Option (List ℕ)) → W → Type 0) (room : ℕ) (all : List (List ℕ)) (bytes : List ℕ) (f g h : GuardView W) → DropsEach Below room all f g → Below g.wire room (answered_with bytes) h.wire → DropsOne g bytes h → DropsEach Below room (all ++ bytes ∷ []) f h
drops_on Below room [] bytes f g h is came drops = subst (λ v. DropsEach Below room (bytes ∷ []) v h) is (h, came, drops, refl)
drops_on Below room (first ∷ all) bytes f g h (between, was, did, rest) came drops = (between, was, did, drops_on Below room all bytes between g h rest came drops)

-- one more came and was dropped
pub dropped_more : {W : Type 0} (Below : W → ℕ → List (Option (List ℕ)) → W → Type 0) (room count : ℕ) (buffer bytes : List ℕ) (f g h : GuardView W) → length buffer ≡ room → HasDropped Below room count f g
    → Below g.wire (length buffer) (answered_with bytes) h.wire → DropsOne g bytes h → HasDropped Below room (count + 1) f h
dropped_more Below room count buffer bytes f g h is had came drops = record {
  dropped = had.dropped ++ bytes ∷ [];
  all = length-append had.dropped (bytes ∷ []) ∙ ap (λ n. n + 1) had.all;
  each = drops_on Below room had.dropped bytes f g h had.each (subst (λ n. Below g.wire n (answered_with bytes) h.wire) is came) drops;
}

-- what the wire below returns then ends the receive: a failure, None, or a datagram
pub ends_passing : {W : Type 0} (Below : W → ℕ → List (Option (List ℕ)) → W → Type 0) (room count : ℕ) (answer : List (Option (List ℕ))) (buffer : List ℕ) (f g h : GuardView W)
    → length buffer ≡ room → count ≤ 64 → HasDropped Below room count f g → Passes Below (length buffer) answer g h → ReceivesTagged Below (length buffer) answer f h
ends_passing Below room count answer buffer f g h same few had passes = record {
  dropped = had.dropped;
  few = omega (arith, had.all);
  between = g;
  drops = subst (λ n. DropsEach Below n had.dropped f g) (sym same) had.each;
  brings = inr passes;
}

-- a failure or None is passed on
pub passes_failure : {W : Type 0} (Below : W → ℕ → List (Option (List ℕ)) → W → Type 0) (v now : GuardView W) (w : W) (room : ℕ) → v ≡ now → Below v.wire room [] w → Passes Below room [] now (record v { wire = w })
passes_failure {W} Below v now w room is came = subst (λ (g : GuardView W). Passes Below room [] g (record v { wire = w })) is (came, refl)

pub passes_nothing : {W : Type 0} (Below : W → ℕ → List (Option (List ℕ)) → W → Type 0) (v now : GuardView W) (w : W) (room : ℕ) → v ≡ now → Below v.wire room none_there w → Passes Below room none_there now (record v { wire = w })
passes_nothing {W} Below v now w room is came = subst (λ (g : GuardView W). Passes Below room none_there g (record v { wire = w })) is (came, refl)

-- a datagram that came and was judged to be one is passed on
pub passes_datagram : {W : Type 0} (Below : W → ℕ → List (Option (List ℕ)) → W → Type 0) (v now h : GuardView W) (w : W) (room length_of count : ℕ) (buffer : List ℕ) → v ≡ now → Below v.wire room (answered_with (take length_of buffer)) w
    → Judges (take length_of buffer) (Ok count) (record v { wire = w }) h → Passes Below room (answered_with (take count buffer)) now h
passes_datagram {W} Below v now h w room length_of count buffer is came (few, behind, same) =
    subst (λ (g : GuardView W). Passes Below room (answered_with (take count buffer)) g h) is
    (take length_of buffer, subst (λ x. Below v.wire room (answered_with (take length_of buffer)) x) (sym (ap (λ (x : GuardView W). x.wire) same)) came, count, shorter, few, behind, same ∙ sym (ap (λ (x : W). record v { wire = x; seal = h.seal }) (ap (λ (x : GuardView W). x.wire) same)))
  where
    shorter : take count buffer ≡ take count (take length_of buffer)
    shorter = sym (take-take count length_of buffer (omega (arith, length-take length_of buffer, few)))

-- and behind 64 that were dropped nothing is asked
pub ends_spent : {W : Type 0} (Below : W → ℕ → List (Option (List ℕ)) → W → Type 0) (room now count : ℕ) (f g : GuardView W) → now ≡ room → count ≡ 64 → HasDropped Below room count f g → ReceivesTagged Below now none_there f g
ends_spent Below room now count f g same all had = record {
  dropped = had.dropped;
  few = omega (arith, had.all);
  between = g;
  drops = subst (λ n. DropsEach Below n had.dropped f g) (sym same) had.each;
  brings = inl (had.all ∙ all, refl, refl);
}

-- bytes that were judged to be dropped, behind a receive, and counted
pub drops_counted : {W : Type 0} (v now h k : GuardView W) (w : W) (bytes : List ℕ) (cause : Cause) → v ≡ now → Judges bytes (Err cause) (record v { wire = w }) h → k ≡ record h { dropped = one_dropped cause h.dropped } → DropsOne now bytes k
drops_counted {W} v now h k w bytes cause is (opened, behind, causes, same) counted =
    subst (λ (g : GuardView W). DropsOne g bytes k) is
    (subst (λ (x : GuardView W). DropsOne v bytes x) (sym (counted ∙ ap (λ (x : GuardView W). record x { dropped = one_dropped cause x.dropped }) same))
    (cause, opened, behind, causes, refl))

-- so one more came and was dropped, and the wire below failed no less
pub dropped_judged : {W : Type 0} (Below : W → ℕ → List (Option (List ℕ)) → W → Type 0) (room count : ℕ) (buffer bytes : List ℕ) (cause : Cause) (f v now h k : GuardView W) (w : W) → length buffer ≡ room → HasDropped Below room count f now → v ≡ now
    → Below v.wire (length buffer) (answered_with bytes) w → Judges bytes (Err cause) (record v { wire = w }) h → k ≡ record h { dropped = one_dropped cause h.dropped } → HasDropped Below room (count + 1) f k
dropped_judged {W} Below room count buffer bytes cause f v now h k w all had is came judged counted =
    let to : k.wire ≡ w = ap (λ (x : GuardView W). x.wire) counted ∙ ap (λ (x : GuardView W). x.wire) judged.3 in
    let from : v.wire ≡ now.wire = ap (λ (x : GuardView W). x.wire) is in
    dropped_more Below room count buffer bytes f now k all had (subst (λ x. Below x (length buffer) (answered_with bytes) k.wire) from (subst (λ x. Below v.wire (length buffer) (answered_with bytes) x) (sym to) came))
    (drops_counted v now h k w bytes cause is judged counted)

pub counts_judged : {W : Type 0} (failed : W → ℕ) (least : ℕ) (bytes : List ℕ) (cause : Cause) (v now h k : GuardView W) (w : W) → v ≡ now → least ≤ counted_with (failed now.wire) now.own → failed v.wire ≤ failed w
    → Judges bytes (Err cause) (record v { wire = w }) h → k ≡ record h { dropped = one_dropped cause h.dropped } → least ≤ counted_with (failed k.wire) k.own
counts_judged {W} failed least bytes cause v now h k w is so_far more judged counted =
    let to : failed k.wire ≡ failed w = ap failed (ap (λ (x : GuardView W). x.wire) counted ∙ ap (λ (x : GuardView W). x.wire) judged.3) in
    let from : failed v.wire ≡ failed now.wire = ap failed (ap (λ (x : GuardView W). x.wire) is) in
    let own : k.own ≡ now.own = ap (λ (x : GuardView W). x.own) counted ∙ ap (λ (x : GuardView W). x.own) judged.3 ∙ ap (λ (x : GuardView W). x.own) is in
    omega (arith, to, from, own, so_far, more)

-- a datagram that was sealed, and sent
pub sends_sealed : {W : Type 0} (Below : W → Sent → Bool → W → Type 0) (v now h : GuardView W) (w : W) (s t : SealView) (to : ℕ) (datagram raw : List ℕ) (failed : Bool)
    → v ≡ now → v.seal ≡ Some s → length datagram ≤ 65535 → raw ≡ sealed s.key to (numbered s.me (next_to to s)) datagram → (next_to to s ≡ 18446744073709551615 → ⊥) → t ≡ one_sent to s
    → Below v.wire (bytes_to to raw) failed w → h ≡ record v { wire = w; seal = Some t } → SendsTagged Below now (bytes_to to datagram) failed h
sends_sealed {W} Below v now h w s t to datagram raw failed is has short whole left counted sends same =
    subst (λ (g : GuardView W). SendsTagged Below g (bytes_to to datagram) failed h) is
    (subst (λ o. SendsBehind Below o v (bytes_to to datagram) failed h) (sym has)
    (subst (λ b. MatchBool b ((failed ≡ true) × (h ≡ record v { own = one_more v.own })) ((h ≡ record v { wire = h.wire; seal = Some (one_sent to s) }) × Below v.wire (bytes_to to (sealed s.key to (numbered s.me (next_to to s)) datagram)) failed h.wire))
    (sym (or_from (nat_lt 65535 (length datagram)) (next_to to s == 18446744073709551615) (le-ltb 65535 (length datagram) short) (ne_eqb (next_to to s) 18446744073709551615 left)))
    (subst (λ (x : GuardView W). (x ≡ record v { wire = x.wire; seal = Some (one_sent to s) }) × Below v.wire (bytes_to to (sealed s.key to (numbered s.me (next_to to s)) datagram)) failed x.wire) (sym same)
    (ap (λ (u : SealView). record v { wire = w; seal = Some u }) counted, subst (λ b. Below v.wire (bytes_to to b) failed w) whole sends))))
