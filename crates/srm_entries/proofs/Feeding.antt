-- What is given in a slot is a page feed, and its part by source a prefix of what is released; what was taken is a prefix of it.
use Rattle.std.proofs.Common.{◌≡◌, ℕ, ◌==◌, ◌+◌, ◌≤◌, Bool, true, false, not, ◌||◌, List, [], ◌∷◌, ◌++◌, length, refl, ap, sym, ◌∙◌, subst, inl, inr, arith}
use Rattle.std.specs.Prelude.{◌⊎◌, map, Option, Some, None, is_some, if◌then◌else◌, slice_get}
use Rattle.std.specs.List.{flat_map, cons_option, list_any, AllByRecursion}
use Rattle.std.proofs.lemmas.Option.{none-some, same_Some}
use Rattle.std.proofs.lemmas.Bool.{eqb-true, and_parts, both_ways, not-true, or_cases}
use Rattle.std.proofs.lemmas.List.{append-nil}
use Rattle.std.proofs.lemmas.List.Elements.{filter_map-append}
use Rattle.srm_names.specs.declared.page.Page.{Page}
use Rattle.srm_names.specs.declared.stream.Stream.{Stream}
use Rattle.srm_names.specs.declared.drawop.Drawop.{Drawop}
use Rattle.srm_names.specs.declared.page_msg.PageMsg.{PageMsg}
use Rattle.srm_names.specs.declared.page_msg.PageMsg.TheVariants.{Open, Draw, Left, Close}
use Rattle.srm_names.specs.FullName.{FullName}
use Rattle.srm_names.specs.Histories.{steps, or_else, firsts, IsPrefix}
use Rattle.srm_names.specs.Names.{named, same_page, first_page, stream_on}
use Rattle.srm_names.specs.PageFeeds.{continues, is_page_feed, drawops_of, drawop_from, leaves, is_open_at, opened, page_opened, is_close}
use Rattle.srm_names.proofs.Snoc.{along, first_of-snoc, or_else-none, list_any-snoc, is_page_feed-snoc, flat_map-snoc}
use Rattle.srm_names.proofs.Feeds.{feed_draws, feed_leaves}
use Rattle.srm_names.proofs.Lists.{Has, front_of_front, front_more, front_next, slice_get-front, firsts-front, until_none-at, find-Has}
use Rattle.srm_names.proofs.Same.{same_name-is, same_page-itself}
use Rattle.srm_entries.specs.Configs.{Config}
use Rattle.srm_entries.specs.declared.entry.Entry.{Entry}
use Rattle.srm_entries.specs.declared.entry.Input.{Input}
use Rattle.srm_entries.specs.declared.entry.Input.TheVariants.{Drew, Heard, Noise, Ticked, Showed, AskedLeave, Gave, Took}
use Rattle.srm_store.specs.Held.{has_name, greatest_in}
use Rattle.srm_entries.specs.Entries.{done, held, held_at, released, slots, pages_in}
use Rattle.srm_store.specs.Finals.{final_in, row_number}
use Rattle.srm_entries.specs.Verdicts.{told, final}
use Rattle.srm_entries.specs.Giving.{given, given_in, taken, taken_in, next_taken, next_drawop, may_leave, is_some_of, GivesAfter, GiveRight, MessageRight}
use Rattle.srm_entries.specs.Runs.{EntryRight}
use Rattle.srm_entries.proofs.Releasing.{released-grows}
use Rattle.srm_entries.proofs.Telling.{ToldRight, told_stays, told_step, told_start}

-- the messages of a slot, with the page that it has
pub record FedRight (es : List Entry) (page : Option Page) (g : List PageMsg) : Type 0 where
  pub fed : is_page_feed g ≡ true
  pub there : (p : Page) → opened g ≡ Some p → page ≡ Some p
  pub part : (source : ℕ) (p : Page) → opened g ≡ Some p → IsPrefix (drawops_of source g) (released es (stream_on source p))
  pub left : (source : ℕ) (p : Page) → opened g ≡ Some p → list_any (leaves source) g ≡ true → final es (stream_on source p) ≡ Some (length (drawops_of source g))
  pub unopened : opened g ≡ None → (source : ℕ) → (drawops_of source g ≡ []) × (list_any (leaves source) g ≡ false)

-- where there is a final, the source was told
pub final_told : (es : List Entry) (s : Stream) (n : ℕ) → final es s ≡ Some n → (rows : List FullName) × (told es s.source ≡ Some rows) × (row_number rows s ≡ n)
final_told es s n e = which (told es s.source) refl e
  where
    which : (o : Option (List FullName)) → told es s.source ≡ o → final_in o s ≡ Some n → (rows : List FullName) × (told es s.source ≡ Some rows) × (row_number rows s ≡ n)
    which None q k = absurd (none-some n k)
    which (Some rows) q k = (rows, q, same_Some (row_number rows s) n k)

final_stays : (es : List Entry) (e : Entry) (s : Stream) (n : ℕ) → final es s ≡ Some n → final (es ++ e ∷ []) s ≡ Some n
final_stays es e s n f = let (rows, t, q) = final_told es s n f in ap (λ o. final_in o s) (told_stays es e s.source rows t) ∙ ap Some q

-- one more entry, and no message
fed_grows : (es : List Entry) (e : Entry) (page more : Option Page) (g : List PageMsg) → ((p : Page) → page ≡ Some p → more ≡ Some p) → FedRight es page g → FedRight (es ++ e ∷ []) more g
fed_grows es e page more g keeps right = record {
  fed = right.fed;
  there = λ p o. keeps p (right.there p o);
  part = λ source p o. front_of_front (drawops_of source g) (released es (stream_on source p)) (released (es ++ e ∷ []) (stream_on source p)) (right.part source p o) (released-grows es e (stream_on source p));
  left = λ source p o l. final_stays es e (stream_on source p) (length (drawops_of source g)) (right.left source p o l);
  unopened = right.unopened;
}

drawops-snoc : (source : ℕ) (g : List PageMsg) (m : PageMsg) → drawops_of source (g ++ m ∷ []) ≡ drawops_of source g ++ cons_option (drawop_from source m) []
drawops-snoc source g m = filter_map-append (drawop_from source) g (m ∷ [])

opened_same : (g : List PageMsg) (m : PageMsg) → page_opened m ≡ None → opened (g ++ m ∷ []) ≡ opened g
opened_same g m e = first_of-snoc page_opened g m ∙ ap (or_else (opened g)) e ∙ or_else-none (opened g)

drawops_same : (source : ℕ) (g : List PageMsg) (m : PageMsg) → drawop_from source m ≡ None → drawops_of source (g ++ m ∷ []) ≡ drawops_of source g
drawops_same source g m e = drawops-snoc source g m ∙ ap (λ o. drawops_of source g ++ cons_option o []) e ∙ append-nil (drawops_of source g)

leaves_same : (source : ℕ) (g : List PageMsg) (m : PageMsg) → leaves source m ≡ false → list_any (leaves source) (g ++ m ∷ []) ≡ list_any (leaves source) g
leaves_same source g m e = list_any-snoc (leaves source) g m ∙ flat (list_any (leaves source) g) (leaves source m) e
  where
    flat : (a b : Bool) → b ≡ false → (a || b) ≡ a
    flat true b e = refl
    flat false b e = e

-- a message that changes nothing of the page, of the drawops and of who left
fed_plain : (es : List Entry) (page : Option Page) (g : List PageMsg) (m : PageMsg) → page_opened m ≡ None → ((source : ℕ) → drawop_from source m ≡ None) → ((source : ℕ) → leaves source m ≡ false)
    → continues g m ≡ true → FedRight es page g → FedRight es page (g ++ m ∷ [])
fed_plain es page g m o d l goes right = record {
  fed = is_page_feed-snoc g m right.fed goes;
  there = λ p q. right.there p (sym (opened_same g m o) ∙ q);
  part = λ source p q. subst (λ w. IsPrefix w (released es (stream_on source p))) (sym (drawops_same source g m (d source))) (right.part source p (sym (opened_same g m o) ∙ q));
  left = λ source p q k. right.left source p (sym (opened_same g m o) ∙ q) (sym (leaves_same source g m (l source)) ∙ k) ∙ ap (λ w. Some (length w)) (sym (drawops_same source g m (d source)));
  unopened = λ q source. let k = right.unopened (sym (opened_same g m o) ∙ q) source in (drawops_same source g m (d source) ∙ k.0, leaves_same source g m (l source) ∙ k.1);
}

fed_open : (es : List Entry) (page : Page) → FedRight es (Some page) (Open page ∷ [])
fed_open es page = record {
  fed = refl;
  there = λ p q. q;
  part = λ source p q. (released es (stream_on source p), refl);
  left = λ source p q k. absurd (grind arith);
  unopened = λ q. absurd (none-some page (sym q));
}

open_at : (es : List Entry) (page : Page) (g : List PageMsg) → FedRight es (Some page) g → is_some (opened g) ≡ true → opened g ≡ Some page
open_at es page g right e = which (opened g) refl e
  where
    which : (o : Option Page) → opened g ≡ o → is_some o ≡ true → opened g ≡ Some page
    which None q k = absurd (grind arith)
    which (Some p) q k = q ∙ sym (right.there p q)

-- a drawop that comes next
record Next (es : List Entry) (page : Page) (g : List PageMsg) (d : Drawop) : Type 0 where
  at_page : opened g ≡ Some page
  name : d.name ≡ named (stream_on d.name.stream.source page) (length (drawops_of d.name.stream.source g) + 1)
  not_left : list_any (leaves d.name.stream.source) g ≡ false

next_name : (es : List Entry) (page : Page) (g : List PageMsg) (source : ℕ) (d : Drawop) → next_drawop es page g source ≡ Some d
    → (d.name ≡ named (stream_on source page) (1 + length (drawops_of source g))) × Has d (held es)
next_name es page g source d e =
    let at = until_none-at (λ k. held_at es (named (stream_on source page) k)) 1 (greatest_in (map (λ (x : Drawop). x.name) (held es)) (stream_on source page)) (length (drawops_of source g)) d e in
    let found = find-Has (has_name (named (stream_on source page) (1 + length (drawops_of source g)))) (held es) d at.0 in
    (same_name-is d.name (named (stream_on source page) (1 + length (drawops_of source g))) found.1, found.0)

next_of : (c : Config) (es : List Entry) (page : Page) (g : List PageMsg) (d : Drawop) → ToldRight c es → FedRight es (Some page) g → is_some (opened g) ≡ true
    → next_drawop es page g d.name.stream.source ≡ Some d → Next es page g d
next_of c es page g d told_right right e next = record {
  at_page = o;
  name = name.0 ∙ ap (named (stream_on d.name.stream.source page)) (omega arith);
  not_left = which (list_any (leaves d.name.stream.source) g) refl;
}
  where
    o : opened g ≡ Some page
    o = open_at es page g right e

    name : (d.name ≡ named (stream_on d.name.stream.source page) (1 + length (drawops_of d.name.stream.source g))) × Has d (held es)
    name = next_name es page g d.name.stream.source d next

    never : list_any (leaves d.name.stream.source) g ≡ true → ⊥
    never l =
        let (rows, t, q) = final_told es (stream_on d.name.stream.source page) (length (drawops_of d.name.stream.source g)) (right.left d.name.stream.source page o l) in
        let b : d.name.number ≤ row_number rows d.name.stream = told_right.bounded d rows name.1 t in
        let s : row_number rows d.name.stream ≡ row_number rows (stream_on d.name.stream.source page) = ap (λ (n : FullName). row_number rows n.stream) name.0 in
        let n : d.name.number ≡ 1 + length (drawops_of d.name.stream.source g) = ap (λ (n : FullName). n.number) name.0 in
        omega arith

    which : (b : Bool) → list_any (leaves d.name.stream.source) g ≡ b → list_any (leaves d.name.stream.source) g ≡ false
    which true q = absurd (never q)
    which false q = q

fed_draw : (es : List Entry) (page : Page) (g : List PageMsg) (d : Drawop) → list_any is_close g ≡ false → next_drawop es page g d.name.stream.source ≡ Some d → Next es page g d
    → FedRight es (Some page) g → FedRight es (Some page) (g ++ Draw d ∷ [])
fed_draw es page g d closed next is right = record {
  fed = feed_draws g d right.fed
      (ap (λ o. is_open_at o d.name.stream.page) is.at_page ∙ ap (λ (n : FullName). same_page page n.stream.page) is.name ∙ same_page-itself page) closed is.not_left
      (ap (λ (n : FullName). n.number) is.name);
  there = λ p q. right.there p (same ∙ q);
  part = λ source p q. part source (source == d.name.stream.source) refl p (same ∙ q);
  left = λ source p q l. left source (source == d.name.stream.source) refl p (same ∙ q) (sym (leaves_same source g (Draw d) refl) ∙ l);
  unopened = λ q. absurd (none-some page (sym q ∙ sym same ∙ is.at_page));
}
  where
    same : opened g ≡ opened (g ++ Draw d ∷ [])
    same = sym (opened_same g (Draw d) refl)

    more : (source : ℕ) (b : Bool) → (source == d.name.stream.source) ≡ b → drawops_of source (g ++ Draw d ∷ []) ≡ drawops_of source g ++ cons_option (if b then Some d else None) []
    more source b q = drawops-snoc source g (Draw d) ∙ ap (λ w. drawops_of source g ++ cons_option (if w then Some d else None) []) q

    next_at : (source : ℕ) (p : Page) → source ≡ d.name.stream.source → p ≡ page → slice_get (released es (stream_on source p)) (length (drawops_of source g)) ≡ Some d
    next_at source p e f = ap (λ w. slice_get (released es (stream_on source w)) (length (drawops_of source g))) f ∙ ap (λ w. slice_get (released es (stream_on w page)) (length (drawops_of w g))) e ∙ next

    part : (source : ℕ) (b : Bool) → (source == d.name.stream.source) ≡ b → (p : Page) → opened g ≡ Some p → IsPrefix (drawops_of source (g ++ Draw d ∷ [])) (released es (stream_on source p))
    part source true q p o = subst (λ w. IsPrefix w (released es (stream_on source p))) (sym (more source true q))
        (front_next (drawops_of source g) (released es (stream_on source p)) d (right.part source p o) (next_at source p (eqb-true source d.name.stream.source q) (same_Some p page (sym o ∙ is.at_page))))
    part source false q p o = subst (λ w. IsPrefix w (released es (stream_on source p))) (sym (more source false q ∙ append-nil (drawops_of source g))) (right.part source p o)

    left : (source : ℕ) (b : Bool) → (source == d.name.stream.source) ≡ b → (p : Page) → opened g ≡ Some p → list_any (leaves source) g ≡ true
        → final es (stream_on source p) ≡ Some (length (drawops_of source (g ++ Draw d ∷ [])))
    left source true q p o l = absurd (both_ways (list_any (leaves source) g) (ap (λ w. list_any (leaves w) g) (eqb-true source d.name.stream.source q) ∙ is.not_left) l)
    left source false q p o l = right.left source p o l ∙ ap (λ w. Some (length w)) (sym (more source false q ∙ append-nil (drawops_of source g)))

final_of_left : (n : ℕ) (o : Option ℕ) → is_some_of n o ≡ true → o ≡ Some n
final_of_left n None e = absurd (grind arith)
final_of_left n (Some m) e = ap Some (sym (eqb-true n m e))

fed_left : (es : List Entry) (page : Page) (g : List PageMsg) (s : ℕ) → is_some (opened g) ≡ true → list_any is_close g ≡ false → may_leave es page g s ≡ true
    → FedRight es (Some page) g → FedRight es (Some page) (g ++ Left s ∷ [])
fed_left es page g s e closed may right = record {
  fed = feed_leaves g s right.fed e closed (not-true (list_any (leaves s) g) parts.1);
  there = λ p q. right.there p (same ∙ q);
  part = λ source p q. subst (λ w. IsPrefix w (released es (stream_on source p))) (sym (drawops_same source g (Left s) refl)) (right.part source p (same ∙ q));
  left = λ source p q l. left source p (same ∙ q) (or_cases (list_any (leaves source) g) (source == s) (sym (list_any-snoc (leaves source) g (Left s)) ∙ l)) ∙ ap (λ w. Some (length w)) (sym (drawops_same source g (Left s) refl));
  unopened = λ q. absurd (none-some page (sym q ∙ sym same ∙ open_at es page g right e));
}
  where
    same : opened g ≡ opened (g ++ Left s ∷ [])
    same = sym (opened_same g (Left s) refl)

    parts : (is_some_of (length (drawops_of s g)) (final es (stream_on s page)) ≡ true) × (not (list_any (leaves s) g) ≡ true)
    parts = and_parts (is_some_of (length (drawops_of s g)) (final es (stream_on s page))) (not (list_any (leaves s) g)) may

    left : (source : ℕ) (p : Page) → opened g ≡ Some p → (list_any (leaves source) g ≡ true) ⊎ ((source == s) ≡ true) → final es (stream_on source p) ≡ Some (length (drawops_of source g))
    left source p o (inl l) = right.left source p o l
    left source p o (inr q) =
        let at : source ≡ s = eqb-true source s q in
        let on : p ≡ page = same_Some p page (sym o ∙ open_at es page g right e) in
        ap (λ w. final es (stream_on source w)) on ∙ ap (λ w. final es (stream_on w page)) at ∙ final_of_left (length (drawops_of s g)) (final es (stream_on s page)) parts.0 ∙ ap (λ w. Some (length (drawops_of w g))) (sym at)

fed_close : (es : List Entry) (page : Option Page) (g : List PageMsg) → list_any is_close g ≡ false → FedRight es page g → FedRight es page (g ++ Close ∷ [])
fed_close es page g closed right = fed_plain es page g Close refl (λ source. refl) (λ source. refl) (rw closed refl) right

pub fed_gives : (c : Config) (es : List Entry) (page : Option Page) (g : List PageMsg) (m : PageMsg) → ToldRight c es → GivesAfter c es g page (Some m) → FedRight es page g → FedRight es page (g ++ m ∷ [])
fed_gives c es None g (Open p) t gives right = absurd gives
fed_gives c es None g (Draw d) t gives right = absurd gives
fed_gives c es None g (Left s) t gives right = absurd gives
fed_gives c es None g Close t gives right = fed_close es None g gives.0 right
fed_gives c es (Some page) g (Open p) t gives right = subst (λ w. FedRight es (Some page) (w ++ Open p ∷ [])) (sym gives.1) (subst (λ w. FedRight es (Some page) (Open w ∷ [])) (sym gives.0) (fed_open es page))
fed_gives c es (Some page) g (Draw d) t gives right = fed_draw es page g d gives.1 gives.2 (next_of c es page g d t right gives.0 gives.2) right
fed_gives c es (Some page) g (Left s) t gives right = fed_left es page g s gives.0 gives.1 gives.2 right
fed_gives c es (Some page) g Close t gives right = fed_close es (Some page) g gives.0 right

-- what a member gave and what was taken
pub record FeedsRight (c : Config) (es : List Entry) : Type 0 where
  pub tells : ToldRight c es
  pub feeds : (j : ℕ) → FedRight es (slice_get (slots es) j) (given es j)
  pub takes : (j : ℕ) → IsPrefix (taken es j) (given es j)

pub given-append : (es fs : List Entry) (j : ℕ) → given (es ++ fs) j ≡ given es j ++ given fs j
given-append es fs j = filter_map-append (λ (x : Entry). given_in j x.input x.effects.message) es fs

pub given-snoc : (es : List Entry) (e : Entry) (j : ℕ) → given (es ++ e ∷ []) j ≡ given es j ++ cons_option (given_in j e.input e.effects.message) []
given-snoc es e j = given-append es (e ∷ []) j

pub taken-snoc : (es : List Entry) (e : Entry) (j : ℕ) → taken (es ++ e ∷ []) j ≡ taken es j ++ cons_option (taken_in j e.input e.effects.message) []
taken-snoc es e j = filter_map-append (λ (x : Entry). taken_in j x.input x.effects.message) es (e ∷ [])

if_some : (b : Bool) (o : Option PageMsg) (m : PageMsg) → (if b then o else None) ≡ Some m → (b ≡ true) × (o ≡ Some m)
if_some true o m e = (refl, e)
if_some false o m e = absurd (none-some m e)

gives_so : (c : Config) (es : List Entry) (i : Input) (message : Option PageMsg) (j : ℕ) (m : PageMsg) → MessageRight c es i message → given_in j i message ≡ Some m → GivesAfter c es (given es j) (slice_get (slots es) j) (Some m)
gives_so c es (Gave slot) message j m right e =
    let k = if_some (j == slot) message m e in
    subst (λ o. GiveRight c es j o) k.1 (subst (λ n. GiveRight c es n message) (sym (eqb-true j slot k.0)) right)
gives_so c es (Took slot) message j m right e = absurd (none-some m e)
gives_so c es (Drew page body) message j m right e = absurd (none-some m e)
gives_so c es (Heard g) message j m right e = absurd (none-some m e)
gives_so c es Noise message j m right e = absurd (none-some m e)
gives_so c es Ticked message j m right e = absurd (none-some m e)
gives_so c es (Showed page) message j m right e = absurd (none-some m e)
gives_so c es AskedLeave message j m right e = absurd (none-some m e)

takes_so : (c : Config) (es : List Entry) (i : Input) (message : Option PageMsg) (j : ℕ) (m : PageMsg) → MessageRight c es i message → taken_in j i message ≡ Some m → next_taken es j ≡ Some m
takes_so c es (Took slot) message j m right e =
    let k = if_some (j == slot) message m e in ap (next_taken es) (eqb-true j slot k.0) ∙ sym right ∙ k.1
takes_so c es (Gave slot) message j m right e = absurd (none-some m e)
takes_so c es (Drew page body) message j m right e = absurd (none-some m e)
takes_so c es (Heard g) message j m right e = absurd (none-some m e)
takes_so c es Noise message j m right e = absurd (none-some m e)
takes_so c es Ticked message j m right e = absurd (none-some m e)
takes_so c es (Showed page) message j m right e = absurd (none-some m e)
takes_so c es AskedLeave message j m right e = absurd (none-some m e)

-- a slot keeps its page
pub slots_keep : (es : List Entry) (e : Entry) (j : ℕ) (page : Page) → slice_get (slots es) j ≡ Some page → slice_get (slots (es ++ e ∷ [])) j ≡ Some page
slots_keep es e j page h =
    slice_get-front (slots es) (slots (es ++ e ∷ [])) j page
    (subst (λ w. IsPrefix (slots es) (firsts same_page (first_page ∷ w))) (sym (flat_map-snoc (λ (x : Entry). pages_in (done x)) es e))
    (firsts-front same_page (first_page ∷ flat_map (λ (x : Entry). pages_in (done x)) es) (pages_in (done e)))) h

feeds_step : (c : Config) (made : ℕ) (es : List Entry) (e : Entry) → FeedsRight c es → EntryRight c made (record { before = es; this = e }) → FeedsRight c (es ++ e ∷ [])
feeds_step c made es e p right = record {
  tells = told_step c made es e p.tells right;
  feeds = λ j. fed_grows es e (slice_get (slots es) j) (slice_get (slots (es ++ e ∷ [])) j) (given (es ++ e ∷ []) j) (λ page q. slots_keep es e j page q)
      (subst (λ w. FedRight es (slice_get (slots es) j) w) (sym (given-snoc es e j)) (feeds j (given_in j e.input e.effects.message) refl));
  takes = λ j. subst (λ w. IsPrefix (taken (es ++ e ∷ []) j) w) (sym (given-snoc es e j)) (front_more (taken (es ++ e ∷ []) j) (given es j) (cons_option (given_in j e.input e.effects.message) [])
      (subst (λ w. IsPrefix w (given es j)) (sym (taken-snoc es e j)) (takes j (taken_in j e.input e.effects.message) refl)));
}
  where
    feeds : (j : ℕ) (o : Option PageMsg) → given_in j e.input e.effects.message ≡ o → FedRight es (slice_get (slots es) j) (given es j ++ cons_option o [])
    feeds j None q = subst (λ w. FedRight es (slice_get (slots es) j) w) (sym (append-nil (given es j))) (p.feeds j)
    feeds j (Some m) q = fed_gives c es (slice_get (slots es) j) (given es j) m p.tells (gives_so c es e.input e.effects.message j m right.message q) (p.feeds j)

    takes : (j : ℕ) (o : Option PageMsg) → taken_in j e.input e.effects.message ≡ o → IsPrefix (taken es j ++ cons_option o []) (given es j)
    takes j None q = subst (λ w. IsPrefix w (given es j)) (sym (append-nil (taken es j))) (p.takes j)
    takes j (Some m) q = front_next (taken es j) (given es j) m (p.takes j) (takes_so c es e.input e.effects.message j m right.message q)

feeds_start : (c : Config) → FeedsRight c []
feeds_start c = record {
  tells = told_start c;
  feeds = λ j. record { fed = refl; there = λ p q. absurd (none-some p q); part = λ source p q. absurd (none-some p q); left = λ source p q l. absurd (none-some p q); unopened = λ q source. (refl, refl) };
  takes = λ j. ([], refl);
}

pub feeds_right : (c : Config) (made : ℕ) (es : List Entry) → AllByRecursion (EntryRight c made) (steps es) → FeedsRight c es
feeds_right c made es all = along (EntryRight c made) (FeedsRight c) (λ before e p right. feeds_step c made before e p right) [] es (feeds_start c) all

-- in a slot of this page the part of a source is a prefix of what is released of it
pub slot_part : (es : List Entry) (page : Page) (g : List PageMsg) (source : ℕ) → FedRight es (Some page) g → IsPrefix (drawops_of source g) (released es (stream_on source page))
slot_part es page g source right = which (opened g) refl
  where
    which : (o : Option Page) → opened g ≡ o → IsPrefix (drawops_of source g) (released es (stream_on source page))
    which None q = subst (λ w. IsPrefix w (released es (stream_on source page))) (sym (right.unopened q source).0) (released es (stream_on source page), refl)
    which (Some p) q = right.part source page (q ∙ ap Some (sym (same_Some page p (right.there p q))))

-- where a leaving was given, the source was told, and its drawops were given as far as its farewell says
pub slot_left : (es : List Entry) (page : Page) (g : List PageMsg) (source : ℕ) → FedRight es (Some page) g → list_any (leaves source) g ≡ true → final es (stream_on source page) ≡ Some (length (drawops_of source g))
slot_left es page g source right l = which (opened g) refl
  where
    which : (o : Option Page) → opened g ≡ o → final es (stream_on source page) ≡ Some (length (drawops_of source g))
    which None q = absurd (both_ways (list_any (leaves source) g) (right.unopened q source).1 l)
    which (Some p) q = right.left source page (q ∙ ap Some (sym (same_Some page p (right.there p q)))) l
