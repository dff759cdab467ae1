-- How lanes and producers are made, one after another.
use Rattle.std.proofs.Common.{◌≡◌, ◌≢◌, ◌⊎◌, ℕ, zero, suc, ◌<◌, List, [], ◌∷◌, ◌++◌, length, Some, refl, sym, ap, ◌∙◌, subst, inl, inr, arith, slice_index_or}
use Rattle.std.specs.Prelude.{slice_get}
use Rattle.std.proofs.lemmas.Option.{slice_get_read}
use Rattle.atomic_table.specs.Seated.{TableId}
use Rattle.srm_names.proofs.Lists.{slice_get-snoc}
use Rattle.srm_pages.specs.Ends.{FeedView, TapView, PenView, AreNewEnds, AreNewLanes, AreLanes, AreNewPens}
use Rattle.srm_pages.specs.Seats.{LookoutView}
use Rattle.srm_names.specs.declared.limits.TheConstants.{PAGES}

inside : {X : Type 0} (xs : List X) (k : ℕ) (x : X) → slice_get xs k ≡ Some x → k ≢ length xs
inside [] k x at = absurd (cc)
inside (y ∷ xs) zero x at = λ e. absurd (omega arith)
inside (y ∷ xs) (suc k) x at = λ e. inside xs k x at (omega arith)

-- the ends at one place of the longer lists
ends_more : (board : TableId) (fs : List FeedView) (ts : List TapView) (slot : ℕ) (f : FeedView) (t : TapView) → length fs ≡ slot → length ts ≡ slot → AreNewLanes board fs ts → AreNewEnds board slot f t
    → (k : ℕ) (g : FeedView) (u : TapView) → (slice_get fs k ≡ Some g) ⊎ ((k ≡ length fs) × (f ≡ g)) → (slice_get ts k ≡ Some u) ⊎ ((k ≡ length ts) × (t ≡ u)) → AreNewEnds board k g u
ends_more board fs ts slot f t many many' new ends k g u (inl a) (inl b) = new.each k g u a b
ends_more board fs ts slot f t many many' new ends k g u (inl a) (inr b) = absurd (inside fs k g a (b.0 ∙ many' ∙ sym many))
ends_more board fs ts slot f t many many' new ends k g u (inr a) (inl b) = absurd (inside ts k u b (a.0 ∙ many ∙ sym many'))
ends_more board fs ts slot f t many many' new ends k g u (inr a) (inr b) =
    subst (λ (x : ℕ × (FeedView × TapView)). AreNewEnds board x.0 x.1.0 x.1.1) (λ i. (sym (a.0 ∙ many) i, (a.1 i, b.1 i))) ends

pub lanes_more : (board : TableId) (fs gs : List FeedView) (ts us : List TapView) (slot : ℕ) (f : FeedView) (t : TapView) → gs ≡ fs ++ f ∷ [] → us ≡ ts ++ t ∷ [] → length fs ≡ slot → length ts ≡ slot
    → AreNewLanes board fs ts → AreNewEnds board slot f t → AreNewLanes board gs us
lanes_more board fs gs ts us slot f t e e' many many' new ends = record {
  each = λ k g u at at'.
      ends_more board fs ts slot f t many many' new ends k g u (slice_get-snoc fs f k g (subst (λ l. slice_get l k ≡ Some g) e at)) (slice_get-snoc ts t k u (subst (λ l. slice_get l k ≡ Some u) e' at'));
}

-- the ends of the lane of a slot, taken out of all
pub ends_at : (asked : ℕ) (fs : List FeedView) (ts : List TapView) (vs : List LookoutView) (slot : ℕ) (f : FeedView) (t : TapView) → AreLanes asked fs ts vs → slot < PAGES
    → f ≡ slice_index_or fs slot f → t ≡ slice_index_or ts slot t → (f.put ≡ []) × (f.lane ≡ t.lane)
ends_at asked fs ts vs slot f t all small at at' =
    let feeds = all.1 in
    let taps = all.2 in
    let ends = all.3.each slot f t (slice_get_read fs (length fs) slot f refl (omega arith) at) (slice_get_read ts (length ts) slot t refl (omega arith) at') in
    (ends.0.0, ends.2)

-- the first producer, taken out of all
pub pen_at : (well : TableId) (pens : List PenView) (p : PenView) → AreNewPens well pens → 0 < length pens → p ≡ slice_index_or pens 0 p → (p.number ≡ 0) × (p.well ≡ well)
pen_at well pens p new some at = let is = new 0 p (slice_get_read pens (length pens) 0 p refl some at) in (ap (λ (q : PenView). q.number) is, ap (λ (q : PenView). q.well) is)
