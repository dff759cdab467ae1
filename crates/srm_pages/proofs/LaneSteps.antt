-- Each step keeps the rule of a lane.
use Rattle.std.proofs.Common.{◌≡◌, ◌≢◌, ℕ, true, false, true≢false, List, [], ◌∷◌, ◌++◌, length, set, sym, refl, ap, ◌∙◌, subst, ⊎_elim, append_assoc}
use mathlib.Core.Option.{some}
use lib.ListN.{get_elem?}
use Rattle.crossbeam_channel.specs.Fifo.{Pushes, Pops, Forks, Merges}
use Rattle.atomic_table.proofs.Lists.{at_set}
use Rattle.srm_names.specs.declared.page_msg.PageMsg.{PageMsg}
use Rattle.srm_names.specs.PageFeeds.{is_page_feed}
use Rattle.srm_pages.specs.declared.lane.LaneView.{LaneView}
use Rattle.srm_pages.specs.Lane.{lane_view, FitsLane, IsLaneState, Puts, Takes}
use Rattle.srm_pages.proofs.Feeds.{front_of}
use Rattle.srm_pages.proofs.Views.{All, all_set, all_one, snoc_cases}

pub begins : IsLaneState [] (lane_view true true [] [] ∷ [])
begins = (0, 0, [], [], refl, refl, all_one (FitsLane 0 0 [] []) (lane_view true true [] []) ((λ _. (refl, refl)), λ _. (refl, refl)))

pub puts : (n id : ℕ) (v : LaneView) (x : PageMsg) → v.puts ≡ true → is_page_feed (v.put ++ x ∷ []) ≡ true → Pushes IsLaneState n id v x (Puts v x)
puts n id v x may feed items views _ h at = let w : LaneView = lane_view v.puts v.takes (v.put ++ x ∷ []) v.taken in let mine = h.6 id v at in let put = h.2 ++ x ∷ [] in
    let feed' : is_page_feed put ≡ true = subst (λ (l : List PageMsg). is_page_feed (l ++ x ∷ []) ≡ true) (mine.0 may).1 feed in (
      w,
      (
        h.0,
        h.1,
        put,
        h.3,
        ap (λ l. l ++ x ∷ []) h.4 ∙ append_assoc h.3 items (x ∷ []),
        feed',
        all_set (FitsLane h.0 h.1 put h.3) views id w ((λ _. ((mine.0 may).0, ap (λ l. l ++ x ∷ []) (mine.0 may).1)), mine.1)
            (λ j u other e. ((λ p. absurd (other (((h.6 j u e).0 p).0 ∙ sym (mine.0 may).0))), (h.6 j u e).1)),
      ),
      refl,
    )

pub takes : (id : ℕ) (v : LaneView) → v.takes ≡ true → Pops IsLaneState id v (Takes v)
takes id v may x items views h at = let w : LaneView = lane_view v.puts v.takes v.put (v.taken ++ x ∷ []) in let mine = h.6 id v at in let taken = h.3 ++ x ∷ [] in
    let so : h.2 ≡ taken ++ items = h.4 ∙ sym (append_assoc h.3 (x ∷ []) items) in
    let feed : is_page_feed taken ≡ true = front_of h.2 taken items so h.5 in (
      w,
      (
        h.0,
        h.1,
        h.2,
        taken,
        so,
        h.5,
        all_set (FitsLane h.0 h.1 h.2 taken) views id w (mine.0, λ _. ((mine.1 may).0, ap (λ l. l ++ x ∷ []) (mine.1 may).1))
            (λ j u other e. ((h.6 j u e).0, λ p. absurd (other (((h.6 j u e).1 p).0 ∙ sym (mine.1 may).0)))),
      ),
      (refl, subst (λ (l : List PageMsg). is_page_feed (l ++ x ∷ []) ≡ true) (sym (mine.1 may).1) feed),
    )

pub forks : (id : ℕ) (v : LaneView) → v.puts ≡ true → v.takes ≡ true → Forks IsLaneState id v (lane_view true false v.put []) (lane_view false true [] v.taken)
forks id v a b items views h at = let l : LaneView = lane_view true false v.put [] in let r : LaneView = lane_view false true [] v.taken in let mine = h.6 id v at in let vs : List LaneView = set views id l in
    let Old : ℕ → LaneView → Type 0 = λ j u. (u.puts ≡ true → (j ≡ h.0) × (u.put ≡ h.2)) × (u.takes ≢ true) in
    let old : All Old vs = all_set Old views id l ((λ _. mine.0 a), λ p. true≢false (sym p)) (λ j u other e. ((h.6 j u e).0, λ p. other (((h.6 j u e).1 p).0 ∙ sym (mine.1 b).0))) in (
      h.0,
      length vs,
      h.2,
      h.3,
      h.4,
      h.5,
      λ j u e. ⊎_elim
          (λ x. ((old j u x).0, λ p. absurd ((old j u x).1 p)))
          (λ (is : (j ≡ length vs) × (r ≡ u)). ((λ p. absurd (true≢false (sym (ap (λ (y : LaneView). y.puts) is.1 ∙ p)))), λ p. (is.0, ap (λ (y : LaneView). y.taken) (sym is.1) ∙ (mine.1 b).1)))
          (snoc_cases vs r u j e),
    )

pub merges : (id : ℕ) (v : LaneView) (other : ℕ) (u : LaneView) → v.puts ≡ true → u.takes ≡ true → Merges IsLaneState id v other u (lane_view true true v.put u.taken) (lane_view false false [] [])
merges id v other u a b items views h at two at' = let both : LaneView = lane_view true true v.put u.taken in let mine = h.6 id v at in let vs : List LaneView = set views id both in
    let was : get_elem? views other ≡ some u = ⊎_elim (λ x. absurd (two x.0)) (λ x. x.1) (at_set views id other both u at') in let theirs = (h.6 other u was).1 b in
    let Now : ℕ → LaneView → Type 0 = λ j y. j ≢ other → FitsLane h.0 id h.2 h.3 j y in
    let now : All Now vs = all_set Now views id both (λ _. ((λ _. mine.0 a), λ _. (refl, theirs.1))) (λ j y _ e apart. ((h.6 j y e).0, λ p. absurd (apart (((h.6 j y e).1 p).0 ∙ sym theirs.0)))) in
    (h.0, id, h.2, h.3, h.4, h.5, all_set (FitsLane h.0 id h.2 h.3) vs other (lane_view false false [] []) ((λ p. absurd (true≢false (sym p))), λ p. absurd (true≢false (sym p))) (λ j y apart e. now j y e apart))
