-- The echoes that are collected member by member.
use Rattle.std.proofs.Common.{◌≡◌, ◌≢◌, ◌+◌, ◌<◌, ◌≤◌, ℕ, List, [], ◌∷◌, ◌++◌, length, Option, Some, None, true, refl, sym, ap, ◌∙◌, arith, length-append}
use Rattle.std.specs.Prelude.{nat_lt}
use Rattle.std.specs.List.{filter_map, cons_option, All}
use Rattle.std.proofs.lemmas.List.{append-nil}
use Rattle.std.proofs.lemmas.List.Elements.{All-push, All-head, All-tail, filter_map-append}
use Rattle.std.proofs.lemmas.Bool.Decides.{nat_tests}
use Rattle.std.proofs.lemmas.Bool.{and_parts, and_from, eq-eqb}
use Rattle.srm_names.specs.declared.echo.Echo.{Echo}
use Rattle.srm_names.specs.Histories.{count_up}
use Rattle.srm_names.specs.Names.{ascending, echo_below}
use Rattle.srm_names.proofs.Snoc.{up_to_more}
use Rattle.srm_distance.specs.Calls.{DistanceCall}
use Rattle.srm_distance.specs.Echoes.{echo_to, CanBeSent}
use Rattle.srm_distance.specs.Content.{DistancesContent}
use Rattle.srm_distance.specs.Fits.{DistancesFit}

-- the echoes to the members below n
pub record Collected (d : DistancesContent) (now n : ℕ) (echoes : List Echo) : Type 0 where
  pub value : (least me : ℕ) (calls : List DistanceCall) → DistancesFit least me calls d → echoes ≡ filter_map (echo_to calls me now) (count_up 0 n)
  pub rising : ascending echo_below echoes ≡ true
  pub each : All (CanBeSent d.me now) echoes
  pub below : All (λ (e : Echo). e.member < n) echoes
  pub few : length echoes ≤ n
  pub fewer : d.me < n → length echoes < n

pub one_more : {X : Type 0} (f : ℕ → Option X) (n : ℕ) → filter_map f (count_up 0 (n + 1)) ≡ filter_map f (count_up 0 n) ++ cons_option (f n) []
one_more f n = ap (filter_map f) (up_to_more n) ∙ filter_map-append f (count_up 0 n) (n ∷ [])

above : (a b n : ℕ) → a < n → n ≤ b → nat_lt a b ≡ true
above a b n low high = grind (arith, nat_tests)

-- a list that rises still does with one more above all of it
rises : (echoes : List Echo) (n : ℕ) (e : Echo) → ascending echo_below echoes ≡ true → All (λ (x : Echo). x.member < n) echoes → n ≤ e.member → ascending echo_below (echoes ++ e ∷ []) ≡ true
rises [] n e up below high = refl
rises (x ∷ []) n e up below high = and_from _ _ (above x.member e.member n (All-head (λ (k : Echo). k.member < n) x [] below) high) refl
rises (x ∷ y ∷ xs) n e up below high =
    let parts = and_parts (echo_below x y) (ascending echo_below (y ∷ xs)) up in
    and_from _ _ parts.0 (rises (y ∷ xs) n e parts.1 (All-tail (λ (k : Echo). k.member < n) x (y ∷ xs) below) high)

wider : (n : ℕ) (echoes : List Echo) → All (λ (e : Echo). e.member < n) echoes → All (λ (e : Echo). e.member < n + 1) echoes
wider n echoes all = λ k d lt. omega (arith, all k d lt)

-- a member to whom no echo is owed
pub collected_none : (d : DistancesContent) (now n : ℕ) (echoes : List Echo) → Collected d now n echoes
    → ((least me : ℕ) (calls : List DistanceCall) → DistancesFit least me calls d → None ≡ echo_to calls me now n)
    → Collected d now (n + 1) echoes
collected_none d now n echoes sofar none = record {
  value = λ least me calls fits. sofar.value least me calls fits ∙ sym (append-nil _)
      ∙ ap (λ o. filter_map (echo_to calls me now) (count_up 0 n) ++ cons_option o []) (none least me calls fits)
      ∙ sym (one_more (echo_to calls me now) n);
  rising = sofar.rising;
  each = sofar.each;
  below = wider n echoes sofar.below;
  few = omega (arith, sofar.few);
  fewer = λ below. omega (arith, sofar.few);
}

-- oneself
pub collected_self : (d : DistancesContent) (now n : ℕ) (echoes : List Echo) → Collected d now n echoes → n ≡ d.me → Collected d now (n + 1) echoes
collected_self d now n echoes sofar same = collected_none d now n echoes sofar (λ least me calls fits. rw (eq-eqb n me (same ∙ fits.me_is)) refl)

-- a member to whom one is owed
pub collected_some : (d : DistancesContent) (now n : ℕ) (echoes : List Echo) (e : Echo) → Collected d now n echoes → n ≢ d.me
    → ((least me : ℕ) (calls : List DistanceCall) → DistancesFit least me calls d → Some e ≡ echo_to calls me now n) → e.member ≡ n → CanBeSent d.me now e
    → Collected d now (n + 1) (echoes ++ e ∷ [])
collected_some d now n echoes e sofar other some member can = record {
  value = λ least me calls fits. ap (λ es. es ++ e ∷ []) (sofar.value least me calls fits)
      ∙ ap (λ o. filter_map (echo_to calls me now) (count_up 0 n) ++ cons_option o []) (some least me calls fits)
      ∙ sym (one_more (echo_to calls me now) n);
  rising = rises echoes n e sofar.rising sofar.below (omega (arith, member));
  each = All-push (CanBeSent d.me now) echoes e sofar.each can;
  below = All-push (λ (x : Echo). x.member < n + 1) echoes e (wider n echoes sofar.below) (omega (arith, member));
  few = omega (arith, length-append echoes (e ∷ []), sofar.few);
  fewer = λ below. let less : length echoes < n = sofar.fewer (omega arith) in omega (arith, length-append echoes (e ∷ []));
}
