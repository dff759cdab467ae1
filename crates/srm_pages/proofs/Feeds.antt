-- What holds of a page feed and its last message.
use Rattle.std.proofs.Common.{◌≡◌, ℕ, ◌==◌, ◌+◌, Bool, true, not, ◌&&◌, List, [], ◌∷◌, ◌++◌, length, Some, None, sym, ap, ◌∙◌, eq-eqb, ne_eqb, ◌≢◌, add-zero, length-append, arith}
use Rattle.std.specs.Prelude.{if◌then◌else◌}
use Rattle.std.specs.List.{list_any, cons_option}
use Rattle.std.proofs.lemmas.Bool.{eqb-true}
use Rattle.std.proofs.lemmas.List.Elements.{filter_map-append}
use Rattle.srm_names.specs.declared.drawop.Drawop.{Drawop}
use Rattle.srm_names.specs.declared.page_msg.PageMsg.{PageMsg}
use Rattle.srm_names.specs.declared.page_msg.PageMsg.TheVariants.{Draw}
use Rattle.srm_names.specs.PageFeeds.{is_page_feed, continues, opened, is_open_at, leaves, is_close, drawops_of, drawop_from}
use Rattle.srm_names.proofs.Feeds.{is_page_feed-front}

pub front_of : (put l m : List PageMsg) → put ≡ l ++ m → is_page_feed put ≡ true → is_page_feed l ≡ true
front_of put l m e is = is_page_feed-front l put (m, sym e) is

fourth : (a b c d : Bool) → (a && b && c && d) ≡ true → d ≡ true
fourth a b c d e = grind arith

pub next_number : (l : List PageMsg) (d : Drawop) → continues l (Draw d) ≡ true → d.name.number ≡ length (drawops_of d.name.stream.source l) + 1
next_number l d go =
    let s = d.name.stream.source in
    eqb-true _ _ (fourth (is_open_at (opened l) d.name.stream.page) (not (list_any is_close l)) (not (list_any (leaves s) l)) (d.name.number == length (drawops_of s l) + 1) go)

pub drawn-append : (s : ℕ) (l m : List PageMsg) → length (drawops_of s (l ++ m)) ≡ length (drawops_of s l) + length (drawops_of s m)
drawn-append s l m = ap length (filter_map-append (drawop_from s) l m) ∙ length-append (drawops_of s l) (drawops_of s m)

pub one_more_drawn : (s : ℕ) (l : List PageMsg) (d : Drawop) → s ≡ d.name.stream.source → length (drawops_of s (l ++ Draw d ∷ [])) ≡ length (drawops_of s l) + 1
one_more_drawn s l d e =
    drawn-append s l (Draw d ∷ []) ∙ ap (λ b. length (drawops_of s l) + length (cons_option (if b then Some d else None) [])) (eq-eqb s d.name.stream.source e)

pub same_drawn : (s : ℕ) (l : List PageMsg) (x : PageMsg) → drawop_from s x ≡ None → length (drawops_of s (l ++ x ∷ [])) ≡ length (drawops_of s l)
same_drawn s l x none =
    drawn-append s l (x ∷ []) ∙ ap (λ o. length (drawops_of s l) + length (cons_option o [])) none ∙ add-zero (length (drawops_of s l))

pub not_drawn_by : (s : ℕ) (d : Drawop) → s ≢ d.name.stream.source → drawop_from s (Draw d) ≡ None
not_drawn_by s d ne = ap (λ b. if b then Some d else None) (ne_eqb s d.name.stream.source ne)
