-- Hearing one datagram after another.
use Rattle.std.proofs.Common.{◌≡◌, ℕ, ◌+◌, ◌<◌, true, false, List, [], ◌∷◌, ◌++◌, refl, ap, sym, ◌∙◌, subst, inl, inr}
use Rattle.std.specs.Prelude.{Option, Some, map}
use Rattle.std.proofs.lemmas.List.{append-nil, map-append, length-append}
use Rattle.srm_world.specs.Traces.{Journal}
use Rattle.srm_world.proofs.HearsAll.{grows_nothing}
use Rattle.srm_node.specs.declared.missing_limit.MissingLimit.{MissingLimit}
use Rattle.srm_node.specs.Limits.{Becomes, TakesOne, counting}
use Rattle.srm_node.proofs.Limiting.{grown_by, becomes-snoc, most_stays, counting-snoc}
use Rattle.srm_node.specs.declared.limits.TheConstants.{BUFFER_BYTES, DATAGRAMS_A_TURN}
use Rattle.srm_wire.specs.Wires.{Told, TellsMore, ReceivesEach, answered_with, none_there, it_failed}
use Rattle.srm_node.specs.Parts.{Listens, Listened, ListenedCut}
use Rattle.srm_wire.proofs.Telling.{tells_nothing, tells_on}

abbrev Receiving : Type 0 → Type 1
Receiving X = X → ℕ → List (Option (List ℕ)) → X → Type 0

-- some receives, and then more
receives_on : {X : Type 0} (R : Receiving X) (room : ℕ) (xs ys : List (List (Option (List ℕ)))) (u v w : X) → ReceivesEach R room xs u v → ReceivesEach R room ys v w → ReceivesEach R room (xs ++ ys) u w
receives_on R room [] ys u v w h k = subst (λ x. ReceivesEach R room ys x w) h k
receives_on R room (x ∷ xs) ys u v w (between, did, rest) k = (between, did, receives_on R room xs ys between v w rest k)

pub listens_none : {X : Type 0} (R : Receiving X) (now : ℕ) (l : MissingLimit) (j : Journal) (t : Option Told) (w : X) → Listens R now 0 [] l l j j t t w w
listens_none R now l j t w = record { came = []; outcomes = []; counted = refl; grown = grows_nothing j; each = tt; dropped = refl; told = tells_nothing t; receives = refl }

-- one receive more, after which nothing more is heard
pub listens_last : {X : Type 0} (R : Receiving X) (now n room : ℕ) (last : List (Option (List ℕ))) (l m : MissingLimit) (a b : Journal) (s t u : Option Told) (x y z : X) → room ≡ BUFFER_BYTES → Listens R now n [] l m a b s t x y → TellsMore last [] t u → R y room last z → Listens R now n (last ∷ []) l m a b s u x z
listens_last R now n room last l m a b s t u x y z is h k did = record {
  came = h.came;
  outcomes = h.outcomes;
  counted = h.counted;
  grown = h.grown;
  each = h.each;
  dropped = h.dropped;
  told = subst (λ all. TellsMore all [] s u) (ap (λ all. all ++ last) (append-nil (map (λ b. Some b) h.came)) ∙ ap (λ all. map (λ b. Some b) h.came ++ all) (sym (append-nil last))) (tells_on (map (λ b. Some b) h.came ++ []) last [] [] s t u h.told k);
  receives = subst (λ all. ReceivesEach R BUFFER_BYTES all x z) (ap (λ all. all ++ last ∷ []) (append-nil (map answered_with h.came)))
      (receives_on R BUFFER_BYTES (map answered_with h.came ++ []) (last ∷ []) x y z h.receives (z, subst (λ r. R y r last z) is did, refl));
}

-- one more was heard or dropped
pub listens_more : {X : Type 0} (R : Receiving X) (now n room : ℕ) (bytes : List ℕ) (l m k : MissingLimit) (a b c : Journal) (s t u : Option Told) (x y z : X) → room ≡ BUFFER_BYTES → Listens R now n [] l m a b s t x y → TakesOne now bytes m k b c → TellsMore (answered_with bytes) [] t u → R y room (answered_with bytes) z
    → Listens R now (n + 1) [] l k a c s u x z
listens_more R now n room bytes l m k a b c s t u x y z is h one told did =
    let came : List (Option (List ℕ)) = map (λ b. Some b) h.came in
    record {
      came = h.came ++ bytes ∷ [];
      outcomes = h.outcomes ++ one.outcome ∷ [];
      counted = length-append h.came (bytes ∷ []) ∙ ap (λ k. k + 1) h.counted;
      grown = grown_by a b c h.outcomes one.outcome h.grown one.grown;
      each = becomes-snoc now l.most a h.came h.outcomes bytes one.outcome h.each
          (subst (λ j. Becomes now l.most j bytes one.outcome) h.grown (subst (λ most. Becomes now most b bytes one.outcome) (ap (λ (x : MissingLimit). x.most) h.dropped ∙ most_stays h.outcomes l) one.becomes));
      dropped = one.counted ∙ ap (counting one.outcome) h.dropped ∙ sym (counting-snoc h.outcomes one.outcome l);
      told = subst (λ all. TellsMore all [] s u) (ap (λ all. all ++ Some bytes ∷ []) (append-nil came) ∙ sym (map-append (λ b. Some b) h.came (bytes ∷ [])) ∙ sym (append-nil (map (λ b. Some b) (h.came ++ bytes ∷ []))))
          (tells_on (came ++ []) (Some bytes ∷ []) [] [] s t u h.told told);
      receives = subst (λ all. ReceivesEach R BUFFER_BYTES all x z) (ap (λ all. all ++ answered_with bytes ∷ []) (append-nil (map answered_with h.came)) ∙ sym (map-append answered_with h.came (bytes ∷ [])) ∙ sym (append-nil (map answered_with (h.came ++ bytes ∷ []))))
          (receives_on R BUFFER_BYTES (map answered_with h.came ++ []) (answered_with bytes ∷ []) x y z h.receives (z, subst (λ r. R y r (answered_with bytes) z) is did, refl));
    }

pub listened_fails : {X : Type 0} (R : Receiving X) (now n room : ℕ) (l m : MissingLimit) (a b : Journal) (s t u : Option Told) (x y z : X) → n < DATAGRAMS_A_TURN → room ≡ BUFFER_BYTES → Listens R now n [] l m a b s t x y → TellsMore it_failed [] t u → R y room it_failed z → Listened R now n true l m a b s u x z
listened_fails R now n room l m a b s t u x y z few is h told did = record { last = it_failed ∷ []; listens = listens_last R now n room it_failed l m a b s t u x y z is h told did; ends = (few, refl) }

pub listened_none : {X : Type 0} (R : Receiving X) (now n room : ℕ) (l m : MissingLimit) (a b : Journal) (s t u : Option Told) (x y z : X) → n < DATAGRAMS_A_TURN → room ≡ BUFFER_BYTES → Listens R now n [] l m a b s t x y → TellsMore none_there [] t u → R y room none_there z → Listened R now n false l m a b s u x z
listened_none R now n room l m a b s t u x y z few is h told did = record { last = none_there ∷ []; listens = listens_last R now n room none_there l m a b s t u x y z is h told did; ends = inr (few, refl) }

-- memory ran out, and what came last is lost
pub listened_lost : {X : Type 0} (R : Receiving X) (now n room : ℕ) (bytes : List ℕ) (l m k : MissingLimit) (a b c : Journal) (s t u : Option Told) (x y z : X) → n < DATAGRAMS_A_TURN → room ≡ BUFFER_BYTES → Listens R now n [] l m a b s t x y → (c ≡ b) × (k ≡ m)
    → TellsMore (answered_with bytes) [] t u → R y room (answered_with bytes) z → ListenedCut R now l k a c s u x z
listened_lost R now n room bytes l m k a b c s t u x y z few is h (same, kept) told did = record {
  count = n;
  lost = bytes;
  few = few;
  listens = listens_last R now n room (answered_with bytes) l k a c s t u x y z is (subst (λ i. Listens R now n [] l i a c s t x y) (sym kept) (subst (λ j. Listens R now n [] l m a j s t x y) (sym same) h)) told did;
}
