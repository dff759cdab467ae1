-- What the sinks of page workers saw that weren't stopped.
use Rattle.std.proofs.Common.{◌≡◌, ℕ, zero, suc, Bool, true, false, ◌||◌, List, [], ◌∷◌, map, refl, ap, sym, ◌∙◌, subst, arith}
use Rattle.std.specs.Prelude.{Option, Some, None, slice_get}
use Rattle.std.specs.List.{list_all, list_any, zip}
use Rattle.std.proofs.lemmas.Option.{same_Some}
use Rattle.srm_names.specs.declared.page_msg.PageMsg.{PageMsg}
use Rattle.srm_names.specs.PageFeeds.{is_close}
use Rattle.srm_pages.specs.Ends.{TapView}
use Rattle.srm_node.specs.declared.working.Worked.{Worked}
use Rattle.srm_node.specs.Hosting.{Kinds, WorkedAs, WorkedEach}
use Rattle.srm_node.specs.Working.{SeesEach, is_stopped}
use Rattle.srm_member.specs.Stations.{AreNewTaps}
use Rattle.srm_member.proofs.WholeTakes.{all_at}
use Rattle.srm_live.specs.LiveRuns.{SawWhole, was_stopped}

-- BY SLOT

map_at : {X Y : Type 0} (f : X → Y) (xs : List X) (k : ℕ) (y : Y) → slice_get (map f xs) k ≡ Some y → (x : X) × (slice_get xs k ≡ Some x) × (f x ≡ y)
map_at f [] k y at = cc
map_at f (x ∷ xs) zero y at = (x, refl, same_Some (f x) y at)
map_at f (x ∷ xs) (suc k) y at = map_at f xs k y at

worked_at : {L S : Type 0} (kinds : Kinds L S) (ts : List TapView) (ss : List S) (ws : List (Worked L)) (k : ℕ) (w : Worked L) → WorkedEach kinds (zip ts ss) ws → slice_get ws k ≡ Some w → (t : TapView) × (s : S) × (slice_get ts k ≡ Some t) × (slice_get ss k ≡ Some s) × WorkedAs kinds (t, s) w
worked_at kinds ts ss [] k w h at = cc
worked_at kinds [] ss (v ∷ ws) k w h at = absurd h
worked_at kinds (t ∷ ts) [] (v ∷ ws) k w h at = absurd h
worked_at kinds (t ∷ ts) (s ∷ ss) (v ∷ ws) zero w h at = (t, s, refl, refl, subst (λ x. WorkedAs kinds (t, s) x) (same_Some v w at) h.0)
worked_at kinds (t ∷ ts) (s ∷ ss) (v ∷ ws) (suc k) w h at = worked_at kinds ts ss ws k w h.1 at

neither : (a b : Bool) → (a || b) ≡ false → (a ≡ false) × (b ≡ false)
neither false b none = (refl, none)
neither true b none = cc

none_at : {X : Type 0} (p : X → Bool) (xs : List X) (k : ℕ) (x : X) → list_any p xs ≡ false → slice_get xs k ≡ Some x → p x ≡ false
none_at p [] k x none at = cc
none_at p (y ∷ xs) zero x none at = ap p (sym (same_Some y x at)) ∙ (neither (p y) (list_any p xs) none).0
none_at p (y ∷ xs) (suc k) x none at = none_at p xs k x (neither (p y) (list_any p xs) none).1 at

-- the sink of each slot saw what its worker took, to its close
pub saw_whole : {L S : Type 0} (kinds : Kinds L S) (taps : List TapView) (sinks : List S) (ws : List (Worked L)) → AreNewTaps taps → WorkedEach kinds (zip taps sinks) ws → list_any was_stopped ws ≡ false → list_all (λ (w : Worked L). list_any is_close (kinds.entries w.list)) ws ≡ true
    → SawWhole kinds.sees sinks (map (λ (w : Worked L). kinds.entries w.list) ws)
saw_whole {L} {S} kinds taps sinks ws new h none all = λ slot s ms at_s at.
    let (w, at_w, list) = map_at (λ (w : Worked L). kinds.entries w.list) ws slot ms at in
    let (t, r, at_t, at_r, worked) = worked_at kinds taps sinks ws slot w h at_w in
    let goes_on : is_stopped w.end ≡ false = none_at was_stopped ws slot w none at_w in
    let first : SeesEach kinds.sees t.slot (is_stopped w.end) (kinds.entries w.list) s worked.last = subst (λ (x : S). SeesEach kinds.sees t.slot (is_stopped w.end) (kinds.entries w.list) x worked.last) (same_Some r s (sym at_r ∙ at_s)) worked.seen in
    let at_slot : SeesEach kinds.sees slot (is_stopped w.end) (kinds.entries w.list) s worked.last = subst (λ (n : ℕ). SeesEach kinds.sees n (is_stopped w.end) (kinds.entries w.list) s worked.last) (new slot t at_t).1 first in
    let unstopped : SeesEach kinds.sees slot false (kinds.entries w.list) s worked.last = subst (λ (b : Bool). SeesEach kinds.sees slot b (kinds.entries w.list) s worked.last) goes_on at_slot in (
      ap (list_any is_close) (sym list) ∙ all_at (λ (w : Worked L). list_any is_close (kinds.entries w.list)) ws slot w all at_w,
      worked.last,
      subst (λ (xs : List PageMsg). SeesEach kinds.sees slot false xs s worked.last) list unstopped,
    )
