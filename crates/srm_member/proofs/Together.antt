-- The ends of lanes, put together one after another.
use Rattle.std.proofs.Common.{◌≡◌, zero, suc, List, ◌∷◌, ◌++◌, map, refl, ap, sym, ◌∙◌, subst}
use Rattle.std.proofs.lemmas.Option.{same_Some}
use Rattle.srm_names.specs.Histories.{IsPrefix}
use Rattle.srm_names.specs.declared.page_msg.PageMsg.{PageMsg}
use Rattle.srm_node.specs.declared.working.Worked.{Worked}
use Rattle.srm_pages.specs.Ends.{FeedView, TapView}
use Rattle.srm_node.specs.Hosting.{AreEndsOfLanes}
use Rattle.srm_member.specs.WholeRuns.{TakePrefixes}

-- the ends of the first lane, and of the others
pub ends_first : (f : FeedView) (fs : List FeedView) (t : TapView) (ts : List TapView) → AreEndsOfLanes (f ∷ fs) (t ∷ ts) → f.lane ≡ t.lane
ends_first f fs t ts h = h zero f t refl refl

pub ends_others : (f : FeedView) (fs : List FeedView) (t : TapView) (ts : List TapView) → AreEndsOfLanes (f ∷ fs) (t ∷ ts) → AreEndsOfLanes fs ts
ends_others f fs t ts h = λ k g u at_g at_u. h (suc k) g u at_g at_u

pub takes_more : (f : FeedView) (fs : List FeedView) (t : TapView) (ts : List TapView) → IsPrefix t.taken f.put → TakePrefixes fs ts → TakePrefixes (f ∷ fs) (t ∷ ts)
takes_more f fs t ts first others zero g u at_g at_u = subst (λ (x : FeedView). IsPrefix u.taken x.put) (same_Some f g at_g) (subst (λ (x : TapView). IsPrefix x.taken f.put) (same_Some t u at_u) first)
takes_more f fs t ts first others (suc k) g u at_g at_u = others k g u at_g at_u

-- OF WHAT IS LEFT

pub first_lane : {L : Type 0} (fs gs : List FeedView) (f : FeedView) (ws vs : List (Worked L)) (w : Worked L) → AreEndsOfLanes fs (map (λ (x : Worked L). x.tap) ws) → fs ≡ f ∷ gs → ws ≡ w ∷ vs → f.lane ≡ w.tap.lane
first_lane {L} fs gs f ws vs w ends feeds workers = ends_first f gs w.tap (map (λ (x : Worked L). x.tap) vs)
    (subst (λ (xs : List FeedView). AreEndsOfLanes xs (w.tap ∷ map (λ (x : Worked L). x.tap) vs)) feeds (subst (λ (xs : List (Worked L)). AreEndsOfLanes fs (map (λ (x : Worked L). x.tap) xs)) workers ends))

pub lanes_left : {L : Type 0} (fs gs : List FeedView) (f : FeedView) (ws vs : List (Worked L)) (w : Worked L) → AreEndsOfLanes fs (map (λ (x : Worked L). x.tap) ws) → fs ≡ f ∷ gs → ws ≡ w ∷ vs → AreEndsOfLanes gs (map (λ (x : Worked L). x.tap) vs)
lanes_left {L} fs gs f ws vs w ends feeds workers = ends_others f gs w.tap (map (λ (x : Worked L). x.tap) vs)
    (subst (λ (xs : List FeedView). AreEndsOfLanes xs (w.tap ∷ map (λ (x : Worked L). x.tap) vs)) feeds (subst (λ (xs : List (Worked L)). AreEndsOfLanes fs (map (λ (x : Worked L). x.tap) xs)) workers ends))

pub takes_left : {L : Type 0} (fs gs : List FeedView) (f : FeedView) (ws vs : List (Worked L)) (w : Worked L) (A : Type 0) (put taken : List PageMsg) → (TakePrefixes fs (map (λ (x : Worked L). x.tap) ws) → A) → fs ≡ f ∷ gs → ws ≡ w ∷ vs → put ≡ f.put → taken ≡ w.tap.taken → (held : List PageMsg) × (put ≡ taken ++ held)
    → TakePrefixes gs (map (λ (x : Worked L). x.tap) vs) → A
takes_left {L} fs gs f ws vs w A put taken whole feeds workers put_is taken_is (held, split) others = whole
    (subst (λ (xs : List (Worked L)). TakePrefixes fs (map (λ (x : Worked L). x.tap) xs)) (sym workers) (subst (λ (xs : List FeedView). TakePrefixes xs (w.tap ∷ map (λ (x : Worked L). x.tap) vs)) (sym feeds)
    (takes_more f gs w.tap (map (λ (x : Worked L). x.tap) vs) (held, ap (λ ms. ms ++ held) (sym taken_is) ∙ sym split ∙ put_is) others)))
