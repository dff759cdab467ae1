-- Which feeds put their close.
use Rattle.std.proofs.Common.{◌≡◌, ℕ, suc, ◌<◌, ◌||◌, Bool, false, List, [], ◌∷◌, ◌++◌, length, get_or, refl, ap, sym, ◌∙◌, arith}
use Rattle.std.specs.Prelude.{map, option_map, replicate, slice_get, Some, slice_set}
use Rattle.std.specs.List.{list_any}
use Rattle.std.proofs.lemmas.List.{length-map, map-set}
use Rattle.std.proofs.lemmas.Option.{same_Some, slice_get-map, slice_get_read}
use Rattle.srm_names.specs.declared.limits.TheConstants.{PAGES}
use Rattle.srm_names.specs.declared.page_msg.PageMsg.{PageMsg}
use Rattle.srm_names.specs.PageFeeds.{is_close}
use Rattle.srm_names.proofs.Snoc.{list_any-snoc}
use Rattle.srm_pages.specs.Ends.{FeedView}
use Rattle.srm_node.specs.Nodes.{AreNewFeeds, has_closed}

-- nothing was put
pub closed_kept : (b : Bool) (f g : FeedView) → b ≡ has_closed f → g.put ≡ f.put → b ≡ has_closed g
closed_kept b f g h same = h ∙ ap (list_any is_close) (sym same)

-- a message was put
pub closed_put : (b c : Bool) (m : PageMsg) (f g : FeedView) → b ≡ has_closed f → c ≡ is_close m → g ≡ record f { put = f.put ++ m ∷ [] } → (b || c) ≡ has_closed g
closed_put b c m f g h is put = ap (λ x. x || c) h ∙ ap (λ x. has_closed f || x) is ∙ sym (ap has_closed put ∙ list_any-snoc is_close f.put m)

-- as many as there are feeds
pub as_many : (fs : List FeedView) (bs : List Bool) → bs ≡ map has_closed fs → length bs ≡ length fs
as_many fs bs is = ap length is ∙ length-map fs has_closed

-- what is known of the feed at a place
pub closed_at : (i n : ℕ) (fs : List FeedView) (bs : List Bool) (b : Bool) (f : FeedView) → i ≡ n → n < length fs → bs ≡ map has_closed fs → b ≡ get_or bs i b → f ≡ get_or fs i f → b ≡ has_closed f
closed_at i n fs bs b f same below is at_b at_f =
    same_Some b (has_closed f)
    (sym (slice_get_read bs (length bs) n b refl (omega (arith, below, as_many fs bs is)) (at_b ∙ ap (λ k. get_or bs k b) same))
    ∙ ap (λ xs. slice_get xs n) is ∙ slice_get-map has_closed fs n ∙ ap (option_map has_closed) (slice_get_read fs (length fs) n f refl below (at_f ∙ ap (λ k. get_or fs k f) same)))

-- the feed at a place changed
pub closed_set : (i : ℕ) (fs : List FeedView) (bs : List Bool) (b : Bool) (f : FeedView) → bs ≡ map has_closed fs → b ≡ has_closed f → slice_set bs i b ≡ map has_closed (slice_set fs i f)
closed_set i fs bs b f is at_i = ap (λ xs. slice_set xs i b) is ∙ ap (slice_set (map has_closed fs) i) at_i ∙ sym (map-set has_closed fs i f)

-- no new feed put its close
pub none_closed : (feeds : List FeedView) (closed : List Bool) → AreNewFeeds feeds → closed ≡ replicate PAGES false → closed ≡ map has_closed feeds
none_closed feeds closed new is = is ∙ ap (λ n. replicate n false) (sym new.slots) ∙ all_open feeds (λ slot f at_f. (new.each slot f at_f).0)
  where
    all_open : (fs : List FeedView) → ((slot : ℕ) (f : FeedView) → slice_get fs slot ≡ Some f → f.put ≡ []) → replicate (length fs) false ≡ map has_closed fs
    all_open [] h = refl
    all_open (f ∷ fs) h = ap (λ b. b ∷ replicate (length fs) false) (sym (ap (list_any is_close) (h 0 f refl))) ∙ ap (λ bs. has_closed f ∷ bs) (all_open fs (λ slot g at_g. h (suc slot) g at_g))
