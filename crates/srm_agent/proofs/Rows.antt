-- The rows of session messages and farewells.
use Rattle.std.proofs.Common.{◌≡◌, ℕ, zero, suc, ◌+◌, ◌<◌, ◌≤◌, ◌==◌, Bool, true, false, ◌&&◌, ◌||◌, List, [], ◌∷◌, ◌++◌, map, length, take, get_or, refl, ap, sym, ◌∙◌, subst, inl, inr, arith, eq-eqb}
use Rattle.std.specs.Prelude.{◌↔◌, Option, Some, None, IfSome, IsSome, option_map, find, cond, if◌then◌else◌, nat_lt, nat_le}
use Rattle.std.specs.List.{flat_map, filter_map, cons_option, list_any, AllByRecursion}
use Rattle.std.proofs.Math.Bool.{and-false}
use Rattle.std.proofs.lemmas.List.{append-nil, take_more, map-append, length-map}
use Rattle.std.proofs.lemmas.List.Elements.{filter_map-append}
use Rattle.std.proofs.lemmas.Bool.{and_from}
use Rattle.std.proofs.lemmas.Bool.Decides.{nat_tests}
use Rattle.srm_names.specs.declared.limits.TheConstants.{MEMBERS, DRAWOPS}
use Rattle.srm_names.specs.declared.page.Page.{Page}
use Rattle.srm_names.specs.declared.stream.Stream.{Stream}
use Rattle.srm_names.specs.FullName.{FullName}
use Rattle.srm_names.specs.Histories.{steps, count_up, greatest}
use Rattle.srm_names.specs.Names.{named, first_page, same_page, same_stream, page_below, stream_below, ascending, stream_on}
use Rattle.srm_names.proofs.Snoc.{along, up_to_more}
use Rattle.srm_names.proofs.Lists.{Has, none_passes}
use Rattle.srm_names.proofs.Same.{same_stream-is, Has-firsts}
use Rattle.srm_names.proofs.Orders.{and_left, and_right, stream_below_trans}
use Rattle.srm_codec.specs.Spelling.{is_name, is_page, row_below, AreRows}
use Rattle.srm_store.specs.Held.{number_in}
use Rattle.srm_store.specs.Finals.{number_in_rows}
use Rattle.srm_entries.specs.declared.entry.Entry.{Entry}
use Rattle.srm_entries.specs.Configs.{Config}
use Rattle.srm_agent.specs.Contents.{AgentContent}
use Rattle.srm_entries.specs.Entries.{done, pages_in, known, shown, slots, evidence_in}
use Rattle.srm_entries.specs.Runs.{EntryRight}
use Rattle.srm_entries.specs.Sessions.{if_positive}
use Rattle.srm_agent.specs.SessionMessages.{row_for, IsRow, AreRowsInOrder, AreRowsOf, streams_on, AreShown, AreOwnStreams, AreDueRows}
use Rattle.srm_entries.proofs.Telling.{ToldRight, told_step, told_start}

-- ---- one row

positive : (k : ℕ) → nat_lt 0 (suc k) ≡ true
positive k = grind (arith, nat_tests)

none_is_none : IsSome {T = FullName} None → ⊥
none_is_none e = let k : false ≡ true = e in cc

pub row_is : (s : Stream) (k : ℕ) (o : Option FullName) → (IsSome o ↔ ((1 ≤ k) × (k ≤ DRAWOPS))) → k ≤ DRAWOPS → IfSome o (λ n. n ≡ named s k) → o ≡ option_map (named s) (if_positive k)
row_is s zero None tells low value = refl
row_is s (suc k) None tells low value = absurd (none_is_none (tells.1 (omega arith, low)))
row_is s zero (Some n) tells low value = absurd (let l = (tells.0 refl).0 in omega arith)
row_is s (suc k) (Some n) tells low value = ap Some value ∙ sym (ap (λ b. option_map (named s) (if b then Some (suc k) else None)) (positive k))

-- a number that a name can have, and a stream that a datagram can name
pub row_spelled : (s : Stream) (k : ℕ) (o : Option FullName) → s.source < MEMBERS → is_page s.page → k ≤ DRAWOPS → o ≡ option_map (named s) (if_positive k) → IfSome o (λ r. (r.stream ≡ s) × is_name r)
row_spelled s zero o source page low is = subst (λ p. IfSome p (λ r. (r.stream ≡ s) × is_name r)) (sym is) tt
row_spelled s (suc k) o source page low is =
    subst (λ p. IfSome p (λ r. (r.stream ≡ s) × is_name r)) (sym (is ∙ ap (λ b. option_map (named s) (if b then Some (suc k) else None)) (positive k))) (refl, (source, page, omega arith, low))

-- ---- rows of streams

of_none : (ss : List Stream) (s : Stream) (rows : List FullName) → AreRowsInOrder ss rows → AreRowsInOrder (ss ++ s ∷ []) rows
of_none [] s rows e = inl e
of_none (x ∷ ss) s rows (inl h) = inl (of_none ss s rows h)
of_none (x ∷ ss) s rows (inr (r, rest, e, f, n, h)) = inr (r, rest, e, f, n, of_none ss s rest h)

of_some : (ss : List Stream) (s : Stream) (rows : List FullName) (r : FullName) → AreRowsInOrder ss rows → r.stream ≡ s → is_name r → AreRowsInOrder (ss ++ s ∷ []) (rows ++ r ∷ [])
of_some [] s rows r e f n = inr (r, [], ap (λ w. w ++ r ∷ []) e, f, n, refl)
of_some (x ∷ ss) s rows r (inl h) f n = inl (of_some ss s rows r h f n)
of_some (x ∷ ss) s rows r (inr (q, rest, e, g, m, h)) f n = inr (q, rest ++ r ∷ [], ap (λ w. w ++ r ∷ []) e, g, m, of_some ss s rest r h f n)

pub rows_none : {W : Type 0} (a : AgentContent W) (streams : List Stream) (i : ℕ) (s : Stream) (rows more : List FullName) → i < length streams → s ≡ get_or streams i s → more ≡ rows
    → AreRowsOf a (take i streams) rows → IsRow a s None → AreRowsOf a (take (i + 1) streams) more
rows_none a streams i s rows more lt at is sofar one =
    subst (λ ss. AreRowsOf a ss more) (sym (take_more streams i s lt ∙ ap (λ t. take i streams ++ t ∷ []) (sym at)))
    (subst (λ w. AreRowsOf a (take i streams ++ s ∷ []) w) (sym is)
    (record {
      value = λ c made past fits. sofar.value c made past fits ∙ sym (append-nil _) ∙ ap (λ o. filter_map (row_for past) (take i streams) ++ cons_option o []) (one.value c made past fits)
          ∙ sym (filter_map-append (row_for past) (take i streams) (s ∷ []));
      spelled = of_none (take i streams) s rows sofar.spelled;
    }))

pub rows_some : {W : Type 0} (a : AgentContent W) (streams : List Stream) (i : ℕ) (s : Stream) (rows more : List FullName) (r : FullName) → i < length streams → s ≡ get_or streams i s → more ≡ rows ++ r ∷ []
    → AreRowsOf a (take i streams) rows → IsRow a s (Some r) → AreRowsOf a (take (i + 1) streams) more
rows_some a streams i s rows more r lt at is sofar one =
    subst (λ ss. AreRowsOf a ss more) (sym (take_more streams i s lt ∙ ap (λ t. take i streams ++ t ∷ []) (sym at)))
    (subst (λ w. AreRowsOf a (take i streams ++ s ∷ []) w) (sym is)
    (record {
      value = λ c made past fits. ap (λ w. w ++ r ∷ []) (sofar.value c made past fits) ∙ ap (λ o. filter_map (row_for past) (take i streams) ++ cons_option o []) (one.value c made past fits)
          ∙ sym (filter_map-append (row_for past) (take i streams) (s ∷ []));
      spelled = of_some (take i streams) s rows r sofar.spelled one.spelled.0 one.spelled.1;
    }))

-- ---- they rise as their streams do

skipped : (s t : Stream) (ss : List Stream) → ascending stream_below (s ∷ t ∷ ss) ≡ true → ascending stream_below (s ∷ ss) ≡ true
skipped s t [] up = refl
skipped s t (u ∷ ss) up =
    let tail : ascending stream_below (t ∷ u ∷ ss) ≡ true = and_right _ _ up in
    and_from _ _ (stream_below_trans s t u (and_left _ _ up) (and_left _ _ tail)) (and_right _ _ tail)

rise_after : (s : Stream) (ss : List Stream) (rows : List FullName) (r : FullName) → ascending stream_below (s ∷ ss) ≡ true → r.stream ≡ s → AreRowsInOrder ss rows → ascending row_below (r ∷ rows) ≡ true
rise_after s [] rows r up q h = ap (λ w. ascending row_below (r ∷ w)) h
rise_after s (t ∷ ss) rows r up q (inl h) = rise_after s ss rows r (skipped s t ss up) q h
rise_after s (t ∷ ss) rows r up q (inr (x, rest, e, f, n, h)) =
    ap (λ w. ascending row_below (r ∷ w)) e
    ∙ and_from _ _ (ap (λ u. stream_below u x.stream) q ∙ ap (stream_below s) f ∙ and_left _ _ up) (rise_after t ss rest x (and_right _ _ up) f h)

rising : (ss : List Stream) (rows : List FullName) → ascending stream_below ss ≡ true → AreRowsInOrder ss rows → ascending row_below rows ≡ true
rising [] rows up h = ap (ascending row_below) h
rising (s ∷ []) rows up (inl h) = rising [] rows refl h
rising (s ∷ t ∷ ss) rows up (inl h) = rising (t ∷ ss) rows (and_right _ _ up) h
rising (s ∷ ss) rows up (inr (r, rest, e, f, n, h)) = ap (ascending row_below) e ∙ rise_after s ss rest r up f h

few_rows : (ss : List Stream) (rows : List FullName) → AreRowsInOrder ss rows → length rows ≤ length ss
few_rows [] rows h = let e : length rows ≡ 0 = ap length h in omega arith
few_rows (s ∷ ss) rows (inl h) = let l = few_rows ss rows h in omega arith
few_rows (s ∷ ss) rows (inr (r, rest, e, f, n, h)) = let l = few_rows ss rest h in let k : length rows ≡ suc (length rest) = ap length e in omega arith

names_of_rows : (ss : List Stream) (rows : List FullName) → AreRowsInOrder ss rows → AllByRecursion is_name rows
names_of_rows [] rows h = subst (AllByRecursion is_name) (sym h) tt
names_of_rows (s ∷ ss) rows (inl h) = names_of_rows ss rows h
names_of_rows (s ∷ ss) rows (inr (r, rest, e, f, n, h)) = subst (AllByRecursion is_name) (sym e) (n, names_of_rows ss rest h)

sources_of_rows : (P : ℕ → Type 0) (ss : List Stream) (rows : List FullName) → AllByRecursion (λ (s : Stream). P s.source) ss → AreRowsInOrder ss rows → AllByRecursion (λ (r : FullName). P r.stream.source) rows
sources_of_rows P [] rows all h = subst (AllByRecursion (λ (r : FullName). P r.stream.source)) (sym h) tt
sources_of_rows P (s ∷ ss) rows all (inl h) = sources_of_rows P ss rows all.1 h
sources_of_rows P (s ∷ ss) rows all (inr (r, rest, e, f, n, h)) =
    subst (AllByRecursion (λ (q : FullName). P q.stream.source)) (sym e) (subst (λ (t : Stream). P t.source) (sym f) all.0, sources_of_rows P ss rest all.1 h)

are_rows : (farewell : Bool) (me : ℕ) (ss : List Stream) (rows : List FullName) → length ss ≤ MEMBERS → ascending stream_below ss ≡ true
    → AllByRecursion (λ (s : Stream). farewell ≡ true → s.source ≡ me) ss → AreRowsInOrder ss rows → AreRows farewell me rows
are_rows farewell me ss rows few up from h = record {
  few = let l = few_rows ss rows h in omega arith;
  names = names_of_rows ss rows h;
  rising = rising ss rows up h;
  sources = sources_of_rows (λ n. farewell ≡ true → n ≡ me) ss rows from h;
}

-- ---- the row of a stream among them

row_among : (past : List Entry) (s t : Stream) (o : Option ℕ) (rest : List FullName) (later : Bool) (b : Bool) → same_stream s t ≡ b → if_positive (known past t) ≡ o
    → number_in_rows rest s ≡ (if later then if_positive (known past s) else None) → number_in_rows (cons_option (option_map (named t) o) rest) s ≡ (if b || later then if_positive (known past s) else None)
row_among past s t None rest later false e f more = more
row_among past s t (Some k) rest later false e f more = ap (λ b. option_map (λ (n : FullName). n.number) (if b then Some (named t k) else find (λ (n : FullName). same_stream s n.stream) rest)) e ∙ more
row_among past s t (Some k) rest later true e f more =
    ap (λ b. option_map (λ (n : FullName). n.number) (if b then Some (named t k) else find (λ (n : FullName). same_stream s n.stream) rest)) e ∙ sym f ∙ ap (λ u. if_positive (known past u)) (sym (same_stream-is s t e))
row_among past s t None rest true true e f more = more
row_among past s t None rest false true e f more = more ∙ sym (ap (λ u. if_positive (known past u)) (same_stream-is s t e) ∙ f)

row_at_is : (past : List Entry) (ss : List Stream) (s : Stream) → number_in_rows (filter_map (row_for past) ss) s ≡ (if list_any (same_stream s) ss then if_positive (known past s) else None)
row_at_is past [] s = refl
row_at_is past (t ∷ ss) s = row_among past s t (if_positive (known past t)) (filter_map (row_for past) ss) (list_any (same_stream s) ss) (same_stream s t) refl refl (row_at_is past ss s)

-- ---- the streams of the page shown

next_up : (x from n : ℕ) → ((x == from) || nat_le (from + 1) x && nat_lt x (from + 1 + n)) ≡ (nat_le from x && nat_lt x (from + suc n))
next_up x from n = grind (arith, nat_tests)

from_zero : (x n : ℕ) → (nat_le 0 x && nat_lt x (0 + n)) ≡ nat_lt x n
from_zero x n = grind (arith, nat_tests)

none_up : (x from : ℕ) → false ≡ (nat_le from x && nat_lt x (from + zero))
none_up x from = grind (arith, nat_tests)

split_same : (x same later page : Bool) → ((x && page) || (page && later)) ≡ (page && (x || later))
split_same true s true true = refl
split_same true s false true = refl
split_same false s l true = refl
split_same true s l false = refl
split_same false s l false = refl

on_page : (s : Stream) (page : Page) (from n : ℕ) → list_any (same_stream s) (map (λ m. stream_on m page) (count_up from n)) ≡ same_page s.page page && (nat_le from s.source && nat_lt s.source (from + n))
on_page s page from zero = sym (ap (λ b. same_page s.page page && b) (sym (none_up s.source from)) ∙ and-false (same_page s.page page))
on_page s page from (suc n) =
    ap (λ b. ((s.source == from) && same_page s.page page) || b) (on_page s page (from + 1) n)
    ∙ split_same (s.source == from) true (nat_le (from + 1) s.source && nat_lt s.source (from + 1 + n)) (same_page s.page page)
    ∙ ap (λ b. same_page s.page page && b) (next_up s.source from n)

up_by_one : (from : ℕ) (page : Page) → stream_below (stream_on from page) (stream_on (from + 1) page) ≡ true
up_by_one from page = grind (arith, nat_tests)

page_rises : (page : Page) (from n : ℕ) → ascending stream_below (map (λ m. stream_on m page) (count_up from n)) ≡ true
page_rises page from zero = refl
page_rises page from (suc zero) = refl
page_rises page from (suc (suc n)) = and_from _ _ (up_by_one from page) (page_rises page (from + 1) (suc n))

count_length : (from n : ℕ) → length (count_up from n) ≡ n
count_length from zero = refl
count_length from (suc n) = ap suc (count_length (from + 1) n)

pub streams_more : (page shown : Page) (number m : ℕ) (streams more : List Stream) → streams ≡ streams_on page number → m ≡ number → shown ≡ page → more ≡ streams ++ stream_on m shown ∷ [] → more ≡ streams_on page (number + 1)
streams_more page shown number m streams more are same on is =
    is ∙ ap (λ s. streams ++ s ∷ []) (ap (λ k. stream_on k shown) same ∙ ap (stream_on number) on) ∙ ap (λ ss. ss ++ stream_on number page ∷ []) are
    ∙ sym (ap (map (λ k. stream_on k page)) (up_to_more number) ∙ map-append (λ k. stream_on k page) (count_up 0 number) (number ∷ []))

any_source : (me : ℕ) (ss : List Stream) → AllByRecursion (λ (s : Stream). false ≡ true → s.source ≡ me) ss
any_source me [] = tt
any_source me (s ∷ ss) = ((λ e. absurd (cc)), any_source me ss)

pub rows_of_page : {W : Type 0} (a : AgentContent W) (streams : List Stream) (rows : List FullName) → AreShown a streams → AreRowsOf a streams rows → AreDueRows a false rows
rows_of_page a streams rows page are = record {
  right = λ c made past now fits. record {
    in_order = rising streams rows up are.spelled;
    exact = λ s. ap (λ w. number_in_rows w s) (are.value c made past fits) ∙ row_at_is past streams s
        ∙ ap (λ b. if b then if_positive (known past s) else None)
        (ap (list_any (same_stream s)) page.are ∙ on_page s a.showing 0 a.config.members ∙ ap (λ b. same_page s.page a.showing && b) (from_zero s.source a.config.members)
        ∙ ap (λ p. same_page s.page p && nat_lt s.source a.config.members) fits.showing ∙ ap (λ (k : Config). same_page s.page (shown past) && nat_lt s.source k.members) fits.config);
  };
  spelled = are_rows false a.config.me streams rows (omega (arith, ap length page.are ∙ length-map (count_up 0 a.config.members) (λ m. stream_on m a.showing) ∙ count_length 0 a.config.members, page.few)) up (any_source a.config.me streams) are.spelled;
}
  where
    up : ascending stream_below streams ≡ true
    up = ap (ascending stream_below) page.are ∙ page_rises a.showing 0 a.config.members

-- ---- the streams of this member

on_own : (me : ℕ) (s : Stream) (pages : List Page) → list_any (same_stream s) (map (stream_on me) pages) ≡ (s.source == me) && list_any (same_page s.page) pages
on_own me s [] = sym (and-false (s.source == me))
on_own me s (p ∷ pages) = ap (λ b. ((s.source == me) && same_page s.page p) || b) (on_own me s pages) ∙ both (s.source == me) (same_page s.page p) (list_any (same_page s.page) pages)
  where
    both : (a b c : Bool) → ((a && b) || (a && c)) ≡ (a && (b || c))
    both true b c = refl
    both false b c = refl

own_rises : (me : ℕ) (pages : List Page) → ascending page_below pages ≡ true → ascending stream_below (map (stream_on me) pages) ≡ true
own_rises me [] up = refl
own_rises me (p ∷ []) up = refl
own_rises me (p ∷ q ∷ pages) up = and_from _ _ (after (nat_lt me me) (me == me) (eq-eqb me me refl) (and_left _ _ up)) (own_rises me (q ∷ pages) (and_right _ _ up))
  where
    after : (lt eq : Bool) → eq ≡ true → page_below p q ≡ true → (lt || eq && page_below p q) ≡ true
    after true eq e b = refl
    after false eq e b = ap (λ c. c && page_below p q) e ∙ b

own_source : (me : ℕ) (pages : List Page) → AllByRecursion (λ (s : Stream). true ≡ true → s.source ≡ me) (map (stream_on me) pages)
own_source me [] = tt
own_source me (p ∷ pages) = ((λ e. refl), own_source me pages)

-- of a stream on a page that isn't in the table nothing is known
none_numbered : (s : Stream) (ns : List FullName) → ((n : FullName) → Has n ns → same_stream s n.stream ≡ false) → greatest (flat_map (number_in s) ns) ≡ 0
none_numbered s [] none = refl
none_numbered s (n ∷ ns) none = ap (λ b. greatest (cond b (n.number ∷ []) [] ++ flat_map (number_in s) ns)) (none n (inl refl)) ∙ none_numbered s ns (λ m h. none m (inr h))

told_right : (c : Config) (made : ℕ) (past : List Entry) → AllByRecursion (EntryRight c made) (steps past) → ToldRight c past
told_right c made past all = along (EntryRight c made) (ToldRight c) (λ before e p r. told_step c made before e p r) [] past (told_start c) all

unknown : (c : Config) (made : ℕ) (past : List Entry) (s : Stream) → AllByRecursion (EntryRight c made) (steps past) → list_any (same_page s.page) (slots past) ≡ false → known past s ≡ 0
unknown c made past s all none = none_numbered s (evidence_in past) (λ n h. by n h (same_stream s n.stream) refl)
  where
    by : (n : FullName) → Has n (evidence_in past) → (b : Bool) → same_stream s n.stream ≡ b → b ≡ false
    by n h false e = refl
    by n h true e =
        let there : Has n.stream.page (slots past) = Has-firsts n.stream.page (first_page ∷ flat_map (λ (e : Entry). pages_in (done e)) past) ((told_right c made past all).paged n h) in
        let not_there : same_page s.page n.stream.page ≡ false = none_passes (same_page s.page) (slots past) n.stream.page none there in
        absurd (let k : true ≡ false = sym (and_right (s.source == n.stream.source) (same_page s.page n.stream.page) e) ∙ not_there in cc)

pub rows_of_own : {W : Type 0} (a : AgentContent W) (streams : List Stream) (rows : List FullName) → AreOwnStreams a streams → AreRowsOf a streams rows → AreDueRows a true rows
rows_of_own a streams rows own are = record {
  right = λ c made past now fits. record {
    in_order = rising streams rows up are.spelled;
    exact = λ s. ap (λ w. number_in_rows w s) (are.value c made past fits) ∙ row_at_is past streams s
        ∙ ap (λ b. if b then if_positive (known past s) else None)
        (ap (list_any (same_stream s)) own.are ∙ on_own a.config.me s own.sorted ∙ ap (λ b. (s.source == a.config.me) && b) (own.pages.exact s.page ∙ ap (list_any (same_page s.page)) fits.pages)
        ∙ ap (λ (k : Config). (s.source == k.me) && list_any (same_page s.page) (slots past)) fits.config)
        ∙ either c made past s fits.run (s.source == c.me) (list_any (same_page s.page) (slots past)) refl;
  };
  spelled = are_rows true a.config.me streams rows (omega (arith, ap length own.are ∙ length-map own.sorted (stream_on a.config.me), own.pages.few)) up
      (subst (AllByRecursion (λ (s : Stream). true ≡ true → s.source ≡ a.config.me)) (sym own.are) (own_source a.config.me own.sorted)) are.spelled;
}
  where
    up : ascending stream_below streams ≡ true
    up = ap (ascending stream_below) own.are ∙ own_rises a.config.me own.sorted own.pages.in_order

    either : (c : Config) (made : ℕ) (past : List Entry) (s : Stream) → AllByRecursion (EntryRight c made) (steps past) → (mine there : Bool) → list_any (same_page s.page) (slots past) ≡ there
        → (if mine && there then if_positive (known past s) else None) ≡ (if mine then if_positive (known past s) else None)
    either c made past s all false there e = refl
    either c made past s all true true e = refl
    either c made past s all true false e = sym (ap if_positive (unknown c made past s all e))
