-- Sends one after another, each as the wire's relation says.
use Rattle.std.proofs.Common.{ℕ, ◌+◌, ◌||◌, Bool, false, List, [], ◌∷◌, ◌++◌, refl, ap, sym, ◌∙◌, subst}
use Rattle.std.proofs.Math.Bool.{or-false, or_assoc}
use Rattle.srm_wire.specs.declared.sent.Sent.{Sent}
use Rattle.srm_wire.specs.Wires.{SendsEach, but, others, sends_to}
use Rattle.srm_wire.proofs.Telling.{sends_more}

pub each_none : {W : Type 0} (S : W → Sent → Bool → W → Type 0) (w : W) → SendsEach S false [] w w
each_none S w = (refl, refl)

pub each_one : {W : Type 0} (S : W → Sent → Bool → W → Type 0) (failed : Bool) (sent : Sent) (v w : W) → S v sent failed w → SendsEach S failed (sent ∷ []) v w
each_one S failed sent v w h = (w, failed, false, sym (or-false failed), h, (refl, refl))

-- some, and then more
pub each_on : {W : Type 0} (S : W → Sent → Bool → W → Type 0) (a b : Bool) (went more : List Sent) (u v w : W) → SendsEach S a went u v → SendsEach S b more v w → SendsEach S (a || b) (went ++ more) u w
each_on S a b [] more u v w h k = subst (λ f. SendsEach S (f || b) more u w) (sym h.0) (subst (λ x. SendsEach S b more x w) h.1 k)
each_on S a b (sent ∷ went) more u v w (between, lost, later, is, did, rest) k = (between, lost, later || b, ap (λ f. f || b) is ∙ or_assoc lost later b, did, each_on S later b went more between v w rest k)

-- one member more
pub each_to_more : {W : Type 0} (S : W → Sent → Bool → W → Type 0) (a b : Bool) (me n : ℕ) (bytes : List ℕ) (u v w : W) → SendsEach S a (sends_to (others me n) bytes) u v → SendsEach S b (sends_to (but me (n ∷ [])) bytes) v w → SendsEach S (a || b) (sends_to (others me (n + 1)) bytes) u w
each_to_more S a b me n bytes u v w h k = subst (λ went. SendsEach S (a || b) went u w) (sym (sends_more me n bytes)) (each_on S a b (sends_to (others me n) bytes) (sends_to (but me (n ∷ [])) bytes) u v w h k)
