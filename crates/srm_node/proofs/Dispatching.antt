-- Sending one datagram after another.
use Rattle.std.proofs.Common.{◌≡◌, ℕ, ◌+◌, ◌<◌, ◌||◌, Bool, List, [], ◌∷◌, ◌++◌, length, get_or, take, ap, sym, ◌∙◌, subst}
use Rattle.std.specs.Prelude.{Option, map}
use Rattle.std.proofs.lemmas.List.{append-nil, map-append, take_more}
use Rattle.std.proofs.lemmas.Grind.{flat_map-append}
use Rattle.srm_outbox.specs.declared.out.Out.{Out}
use Rattle.srm_wire.specs.declared.sent.Sent.{Sent}
use Rattle.srm_wire.specs.Wires.{Told, Sends, SendsEach, others, sends_to, dispatched}
use Rattle.srm_wire.proofs.Dispatching.{each_on}
use Rattle.srm_wire.proofs.Telling.{sends_on}

-- one datagram more
dispatched_more : (me members n : ℕ) (outs : List Out) (o : Out) → n < length outs → dispatched me members (map (λ (x : Out). x.bytes) (take (n + 1) outs))
    ≡ dispatched me members (map (λ (x : Out). x.bytes) (take n outs)) ++ sends_to (others me members) (get_or outs n o).bytes
dispatched_more me members n outs o below =
    ap (λ xs. dispatched me members (map (λ (x : Out). x.bytes) xs)) (take_more outs n o below)
    ∙ ap (dispatched me members) (map-append (λ (x : Out). x.bytes) (take n outs) (get_or outs n o ∷ []))
    ∙ flat_map-append (sends_to (others me members)) (map (λ (x : Out). x.bytes) (take n outs)) ((get_or outs n o).bytes ∷ [])
    ∙ ap (λ xs. dispatched me members (map (λ (x : Out). x.bytes) (take n outs)) ++ xs) (append-nil (sends_to (others me members) (get_or outs n o).bytes))

pub sends_all_more : (a b : Bool) (me members n : ℕ) (outs : List Out) (o : Out) (bytes : List ℕ) (x y z : ℕ) (s t u : Option Told) → n < length outs → o ≡ get_or outs n o → bytes ≡ o.bytes
    → Sends a (dispatched me members (map (λ (w : Out). w.bytes) (take n outs))) x y s t → Sends b (sends_to (others me members) bytes) y z t u
    → Sends (a || b) (dispatched me members (map (λ (w : Out). w.bytes) (take (n + 1) outs))) x z s u
sends_all_more a b me members n outs o bytes x y z s t u below is spelled h k =
    subst (λ went. Sends (a || b) went x z s u) (sym (dispatched_more me members n outs o below ∙ ap (λ (w : Out). dispatched me members (map (λ (v : Out). v.bytes) (take n outs)) ++ sends_to (others me members) w.bytes) (sym is)))
    (sends_on a b (dispatched me members (map (λ (w : Out). w.bytes) (take n outs))) (sends_to (others me members) o.bytes) x y z s t u h (subst (λ bs. Sends b (sends_to (others me members) bs) y z t u) spelled k))

-- the same as the wire's own relation has it
pub each_all_more : {W : Type 0} (S : W → Sent → Bool → W → Type 0) (a b : Bool) (me members n : ℕ) (outs : List Out) (o : Out) (bytes : List ℕ) (u v w : W) → n < length outs → o ≡ get_or outs n o → bytes ≡ o.bytes
    → SendsEach S a (dispatched me members (map (λ (x : Out). x.bytes) (take n outs))) u v → SendsEach S b (sends_to (others me members) bytes) v w
    → SendsEach S (a || b) (dispatched me members (map (λ (x : Out). x.bytes) (take (n + 1) outs))) u w
each_all_more S a b me members n outs o bytes u v w below is spelled h k =
    subst (λ went. SendsEach S (a || b) went u w) (sym (dispatched_more me members n outs o below ∙ ap (λ (x : Out). dispatched me members (map (λ (y : Out). y.bytes) (take n outs)) ++ sends_to (others me members) x.bytes) (sym is)))
    (each_on S a b (dispatched me members (map (λ (x : Out). x.bytes) (take n outs))) (sends_to (others me members) o.bytes) u v w h (subst (λ bs. SendsEach S b (sends_to (others me members) bs) v w) spelled k))
