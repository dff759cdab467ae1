-- Parts of a page feed.
use Rattle.std.proofs.Common.{◌≡◌, ℕ, ◌==◌, ◌+◌, Bool, true, false, not, ◌&&◌, List, [], ◌∷◌, ◌++◌, length, refl, ap, sym, ◌∙◌, arith, eq-eqb}
use Rattle.std.specs.Prelude.{Some, None, is_some, if◌then◌else◌}
use Rattle.std.specs.List.{list_any, list_all, cons_option}
use Rattle.std.proofs.lemmas.Bool.{eqb-true, and_parts, or_left, both_ways}
use Rattle.std.proofs.lemmas.List.Elements.{filter_map-append}
use Rattle.std.proofs.lemmas.List.Folds.{list_all-append}
use Rattle.std.proofs.lemmas.List.{append-nil}
use Rattle.srm_names.specs.declared.drawop.Drawop.{Drawop}
use Rattle.srm_names.specs.declared.page_msg.PageMsg.{PageMsg}
use Rattle.srm_names.specs.declared.page_msg.PageMsg.TheVariants.{Open, Draw, Left, Close}
use Rattle.srm_names.specs.Histories.{Step, steps, steps_after, IsPrefix}
use Rattle.srm_names.specs.PageFeeds.{continues, is_page_feed, drawops_of, drawop_from, leaves, is_open_at, opened, is_close}
use Rattle.srm_names.proofs.Snoc.{list_any-snoc, is_page_feed-snoc}
use Rattle.srm_names.proofs.Lists.{steps-append}

abbrev goes_on : Step PageMsg → Bool
goes_on s = continues s.before s.this

feed_parts : (xs ys : List PageMsg) → is_page_feed (xs ++ ys) ≡ true → (is_page_feed xs ≡ true) × (list_all goes_on (steps_after xs ys) ≡ true)
feed_parts xs ys fed = and_parts _ _ (sym (list_all-append goes_on (steps xs) (steps_after xs ys)) ∙ ap (list_all goes_on) (sym (steps-append xs ys)) ∙ fed)

-- the last message of a page feed continues it
pub last_continues : (l : List PageMsg) (x : PageMsg) → is_page_feed (l ++ x ∷ []) ≡ true → continues l x ≡ true
last_continues l x fed = (and_parts (continues l x) true (feed_parts l (x ∷ []) fed).1).0

-- a prefix of a page feed is one
pub is_page_feed-front : (xs ys : List PageMsg) → IsPrefix xs ys → is_page_feed ys ≡ true → is_page_feed xs ≡ true
is_page_feed-front xs ys (rest, e) fed = (feed_parts xs rest (ap is_page_feed e ∙ fed)).0

all_four : (a b c d : Bool) → a ≡ true → b ≡ false → c ≡ false → d ≡ true → (a && not b && not c && d) ≡ true
all_four a b c d p q r s = rw (p, q, r, s) refl

-- a page feed of the drawop's page, not ended and not left by its source, goes on by the drawop that has the next number
pub feed_draws : (l : List PageMsg) (d : Drawop) → is_page_feed l ≡ true → is_open_at (opened l) d.name.stream.page ≡ true → list_any is_close l ≡ false → list_any (leaves d.name.stream.source) l ≡ false
    → d.name.number ≡ length (drawops_of d.name.stream.source l) + 1 → is_page_feed (l ++ Draw d ∷ []) ≡ true
feed_draws l d fed at closed left number =
    is_page_feed-snoc l (Draw d) fed
    (all_four (is_open_at (opened l) d.name.stream.page) (list_any is_close l) (list_any (leaves d.name.stream.source) l) (d.name.number == length (drawops_of d.name.stream.source l) + 1) at closed left (eq-eqb _ _ number))

all_three : (a b c : Bool) → a ≡ true → b ≡ false → c ≡ false → (a && not b && not c) ≡ true
all_three a b c p q r = rw (p, q, r) refl

-- and by the leaving of a member that hasn't left
pub feed_leaves : (l : List PageMsg) (member : ℕ) → is_page_feed l ≡ true → is_some (opened l) ≡ true → list_any is_close l ≡ false → list_any (leaves member) l ≡ false → is_page_feed (l ++ Left member ∷ []) ≡ true
feed_leaves l member fed at closed left = is_page_feed-snoc l (Left member) fed (all_three (is_some (opened l)) (list_any is_close l) (list_any (leaves member) l) at closed left)

third : (a b c d : Bool) → (a && b && not c && d) ≡ true → c ≡ false
third a b c d e = grind arith

not_left : (before : List PageMsg) (d : Drawop) → continues before (Draw d) ≡ true → list_any (leaves d.name.stream.source) before ≡ false
not_left before d go = third (is_open_at (opened before) d.name.stream.page) (not (list_any is_close before)) (list_any (leaves d.name.stream.source) before) (d.name.number == length (drawops_of d.name.stream.source before) + 1) go

not_drawn : (s : ℕ) (before : List PageMsg) (m : PageMsg) → continues before m ≡ true → list_any (leaves s) before ≡ true → drawop_from s m ≡ None
not_drawn s before (Open page) go left = refl
not_drawn s before (Left member) go left = refl
not_drawn s before Close go left = refl
not_drawn s before (Draw d) go left = drawn (s == d.name.stream.source) refl
  where
    drawn : (b : Bool) → (s == d.name.stream.source) ≡ b → (if b then Some d else None) ≡ None
    drawn false e = refl
    drawn true e = absurd (both_ways (list_any (leaves s) before) (ap (λ k. list_any (leaves k) before) (eqb-true _ _ e) ∙ not_left before d go) left)

stops : (s : ℕ) (before rest : List PageMsg) → list_all goes_on (steps_after before rest) ≡ true → list_any (leaves s) before ≡ true → drawops_of s rest ≡ []
stops s before [] all left = refl
stops s before (m ∷ rest) all left =
    let k = and_parts (continues before m) (list_all goes_on (steps_after (before ++ m ∷ []) rest)) all in
    ap (λ o. cons_option o (drawops_of s rest)) (not_drawn s before m k.0 left)
    ∙ stops s (before ++ m ∷ []) rest k.1 (list_any-snoc (leaves s) before m ∙ or_left _ _ left)

-- after a source left, no drawop of it comes
pub left_is_last : (s : ℕ) (xs ys : List PageMsg) → IsPrefix xs ys → is_page_feed ys ≡ true → list_any (leaves s) xs ≡ true → drawops_of s xs ≡ drawops_of s ys
left_is_last s xs ys (rest, e) fed left =
    sym (append-nil (drawops_of s xs))
    ∙ ap (λ zs. drawops_of s xs ++ zs) (sym (stops s xs rest (feed_parts xs rest (ap is_page_feed e ∙ fed)).1 left))
    ∙ sym (filter_map-append (drawop_from s) xs rest) ∙ ap (drawops_of s) e
