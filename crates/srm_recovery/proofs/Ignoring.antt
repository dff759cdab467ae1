-- The law of acceptance: the causes to ignore a datagram, one by one.
use Rattle.std.proofs.Common.{◌≡◌, ℕ, ◌==◌, ◌≤◌, ◌<◌, Bool, true, false, not, ◌&&◌, ◌||◌, List, [], ◌∷◌, ◌++◌, length, refl, ap, sym, ◌∙◌, subst, arith, inl, inr, append_assoc, eq-eqb}
use Rattle.std.specs.Prelude.{Option, Some, None, nat_le, nat_lt, option_to_list}
use Rattle.std.specs.List.{list_any, AllByRecursion}
use Rattle.std.specs.Str.{bytes_eq}
use Rattle.std.proofs.lemmas.Bool.{and_parts, false_from_ne_true, ne_eqb, eqb-true}
use Rattle.std.proofs.lemmas.Bool.Decides.{nat_tests}
use Rattle.srm_names.specs.declared.page.Page.{Page}
use Rattle.srm_names.specs.declared.drawop.Drawop.{Drawop}
use Rattle.srm_names.specs.FullName.{FullName}
use Rattle.srm_names.specs.Histories.{steps}
use Rattle.srm_names.specs.Names.{stream_on, same_page, same_stream}
use Rattle.srm_names.proofs.Lists.{Has, Has-back, Has-flat_map, flat_map-Has, Has-kept, Has-contained, Has-split, find-Has, any_Has, at_parts, All-Has, all_by, AllByRecursion-parts, filter_same_on, Has-passes}
use Rattle.srm_names.proofs.Same.{same_name-is}
use Rattle.srm_codec.specs.declared.datagram.Datagram.{Datagram}
use Rattle.srm_codec.specs.declared.datagram.Datagram.TheVariants.{Data, Request, Repair, Session}
use Rattle.srm_codec.specs.Spelling.{sender_of, names_in, is_farewell, is_session, is_name, IsSpellable}
use Rattle.srm_store.specs.Held.{has_name, same_drawop}
use Rattle.srm_store.specs.Finals.{row_number, final_in}
use Rattle.srm_entries.specs.Configs.{Config}
use Rattle.srm_entries.specs.declared.entry.Entry.{Entry}
use Rattle.srm_entries.specs.declared.entry.Input.TheVariants.{Heard}
use Rattle.srm_entries.specs.Entries.{state, is_gone, slots, sent, drawn, drawn_on, drawops_in, held, held_at, known}
use Rattle.srm_entries.specs.Sessions.{charged}
use Rattle.srm_entries.specs.Verdicts.{told, final, drawn_in, exceeds, is_beyond, says_too_little, differs, is_stranger, verdict_of, VerdictRight}
use Rattle.srm_entries.specs.Runs.{EntryRight, IsMemberRun}
use Rattle.srm_entries.proofs.Cutting.{run_part}
use Rattle.srm_entries.proofs.Drawing.{draws_right, drawn_once}
use Rattle.srm_entries.proofs.Knowing.{known_inside}
use Rattle.srm_entries.proofs.Parting.{farewell_sent}
use Rattle.srm_entries.proofs.Sending.{data_sent_was_drawn, repair_sent_was_held}
use Rattle.srm_world.specs.declared.start.Start.{Start}
use Rattle.srm_world.specs.Traces.{Trace, of_member, drawn_by, IsRunOfMember, IsRunOf, IsHonest}
use Rattle.srm_world.proofs.Members.{of_member-append, of_member-own, Has-of_member}
use Rattle.srm_world.proofs.Honesty.{IsHonestStep, held_was_drawn, told_is_true}
use Rattle.srm_recovery.specs.Hearing.{AcceptingLaw}
use Rattle.srm_recovery.proofs.Ordering.{Own, own_of, right_at}
use Rattle.srm_recovery.proofs.Asking.{true_false}
use Rattle.srm_recovery.proofs.Reading.{drawn_held}
use Rattle.srm_recovery.proofs.Accepting.{named_known, known_was_drawn}

-- a run so far

run_prefix : (starts : List Start) (xs ys : List Entry) → IsRunOf starts (xs ++ ys) → IsRunOf starts xs
run_prefix starts xs ys r = record {
  roster = r.roster;
  inside = (AllByRecursion-parts (λ (e : Entry). e.member < length starts) xs ys r.inside).0;
  each = all_by (IsRunOfMember (xs ++ ys)) (IsRunOfMember xs) starts (λ (a : Start) h.
      run_part a.config a.made (of_member a.config.me xs) (of_member a.config.me ys) (subst (λ w. IsMemberRun a.config a.made w) (of_member-append a.config.me xs ys) h)) r.each;
}

-- names that are spelled count from 1
positive_names : (g : Datagram) (n : FullName) → IsSpellable g → Has n (names_in g) → 1 ≤ n.number
positive_names (Data d) n s (inl e) = subst (λ (x : FullName). 1 ≤ x.number) (sym e) s.0.2
positive_names (Data d) n s (inr f) = absurd f
positive_names (Request from first mask) n s h = (All-Has is_name n (names_in (Request from first mask)) s.2 h).2
positive_names (Repair from d) n s (inl e) = subst (λ (x : FullName). 1 ≤ x.number) (sym e) s.1.0.2
positive_names (Repair from d) n s (inr f) = absurd f
positive_names (Session from at farewell page rows echoes) n s h = (All-Has is_name n rows s.3.names h).2

either_false : (a b : Bool) → a ≡ false → b ≡ false → (a || b) ≡ false
either_false a b p q = ap (λ x. x || b) p ∙ q

not_above : (a b : ℕ) → b ≤ a → nat_lt a b ≡ false
not_above a b l = grind (arith, nat_tests)

not_within : (a b : ℕ) → b < a → nat_le a b ≡ false
not_within a b l = grind (arith, nat_tests)

bytes_same : (bs : List ℕ) → bytes_eq bs bs ≡ true
bytes_same [] = refl
bytes_same (b ∷ bs) = ap (λ x. x && bytes_eq bs bs) (eq-eqb b b refl) ∙ bytes_same bs

drawop_same : (d : Drawop) → same_drawop d d ≡ true
drawop_same d = ap (λ x. x && bytes_eq d.body d.body) (eq-eqb d.stamp d.stamp refl) ∙ bytes_same d.body

counted : (c : Config) (es : List Entry) (page : Page) → ((d : Drawop) → Has d (drawn es) → d.name.stream.source ≡ c.me) → drawn_in es (stream_on c.me page) ≡ length (drawn_on page es)
counted c es page own = ap length (filter_same_on (λ (d : Drawop). same_stream (stream_on c.me page) d.name.stream) (λ (d : Drawop). same_page page d.name.stream.page) (drawn es)
    (λ d h. sym (ap (λ b. b && same_page page d.name.stream.page) (eq-eqb c.me d.name.stream.source (sym (own d h))))))

pub accepting_law : AcceptingLaw
accepting_law t before after e g run honest split input was other fits =
    verdict.1 ∙ sym (rw (verdict.0, not_own, no_stranger, fits, either_false _ _ none_beyond enough, no_conflict) refl)
  where
    run_before : IsRunOf t.starts before
    run_before = run_prefix t.starts before (e ∷ after) (subst (λ w. IsRunOf t.starts w) split run)

    honest_before : IsHonest before
    honest_before = (at_parts IsHonestStep before (e ∷ after) (subst (λ w. AllByRecursion IsHonestStep (steps w)) split honest)).0

    now : Trace
    now = record { starts = t.starts; entries = before }

    run_with : IsRunOf t.starts (before ++ e ∷ [])
    run_with = run_prefix t.starts (before ++ e ∷ []) after (subst (λ w. IsRunOf t.starts w) (split ∙ sym (append_assoc before (e ∷ []) after)) run)

    o : Own (record { starts = t.starts; entries = before ++ e ∷ [] }) e.member
    o = own_of (record { starts = t.starts; entries = before ++ e ∷ [] }) e.member run_with (All-Has (λ (x : Entry). x.member < length t.starts) e (before ++ e ∷ []) run_with.inside (Has-back e before (e ∷ []) (inl refl)))

    c : Config
    c = o.start.config

    es : List Entry
    es = of_member e.member before

    right : EntryRight c o.start.made (record { before = es; this = e })
    right = right_at c o.start.made (of_member e.member (before ++ e ∷ [])) es [] e o.run.each (of_member-own e.member before e refl)

    verdict : (is_gone (state es) ≡ false) × (e.verdict ≡ verdict_of c es (Heard g))
    verdict = subst (λ i. VerdictRight c es i e.verdict) input right.verdict

    -- who sent it
    sending : (x : Entry) × Has x before × Has g x.effects.outs
    sending = Has-flat_map (λ (x : Entry). x.effects.outs) g before (Has-contained g (sent before) was)

    x : Entry
    x = sending.0

    ox : Own now x.member
    ox = own_of now x.member run_before (All-Has (λ (y : Entry). y.member < length t.starts) x before run_before.inside sending.1)

    xs : List Entry
    xs = of_member x.member before

    place : (one : List Entry) × (two : List Entry) × (xs ≡ one ++ x ∷ two)
    place = Has-split x xs (Has-of_member x before sending.1)

    x_right : EntryRight ox.start.config ox.start.made (record { before = place.0; this = x })
    x_right = right_at ox.start.config ox.start.made xs place.0 place.1 x ox.run.each place.2

    sender : sender_of g ≡ x.member
    sender = All-Has (λ (y : Datagram). sender_of y ≡ ox.start.config.me) g x.effects.outs x_right.senders sending.2 ∙ ox.me

    inside : x.member < length t.starts
    inside = All-Has (λ (y : Entry). y.member < length t.starts) x before run_before.inside sending.1

    known_there : (n : FullName) → Has n (names_in g) → n.number ≤ known xs n.stream
    known_there n h = named_known ox.start.config ox.start.made xs place.0 place.1 x g n ox.run place.2 sending.2 h

    drawn_there : (n : FullName) → Has n (names_in g) → n.number ≤ length (drawn_by before n.stream.source n.stream.page)
    drawn_there n h =
        let a = known_there n h in
        let b : known xs n.stream ≤ length (drawn_by before n.stream.source n.stream.page) = known_was_drawn t.starts before run_before honest_before x.member n.stream in
        omega (arith, a, b)

    not_own : (sender_of g == c.me) ≡ false
    not_own = ne_eqb (sender_of g) c.me (λ q. other (q ∙ o.me))

    within : (many k : ℕ) → k ≡ length t.starts → many < length t.starts → nat_le k many ≡ false
    within many k q l = not_within k many (subst (λ w. many < w) (sym q) l)

    source_inside : (n : FullName) → Has n (names_in g) → nat_le c.members n.stream.source ≡ true → ⊥
    source_inside n h q =
        let same : c.members ≡ ox.start.config.members = o.members ∙ sym ox.members in
        let none : known xs n.stream ≡ 0 = known_inside ox.start.config ox.start.made xs n.stream (subst (λ w. nat_le ox.start.config.members w ≡ false) (sym ox.me) (within x.member ox.start.config.members ox.members inside))
        (subst (λ w. nat_le w n.stream.source ≡ true) same q) ox.run.each in
        let a = known_there n h in
        let one = positive_names g n (All-Has IsSpellable g x.effects.outs x_right.spelled sending.2) h in
        omega (arith, a, one, none)

    no_stranger : is_stranger c g ≡ false
    no_stranger = either_false (nat_le c.members (sender_of g)) (list_any (λ (n : FullName). nat_le c.members n.stream.source) (names_in g))
        (subst (λ w. nat_le c.members w ≡ false) (sym sender) (within x.member c.members o.members inside))
        (false_from_ne_true _ (λ any. (let (n, h, q) = any_Has (λ (n : FullName). nat_le c.members n.stream.source) (names_in g) any in source_inside n h q)))

    within_final : (n : FullName) → Has n (names_in g) → (r : Option (List FullName)) → told es n.stream.source ≡ r → exceeds n.number (final es n.stream) ≡ false
    within_final n h None q = ap (λ w. exceeds n.number (final_in w n.stream)) q
    within_final n h (Some rows) q =
        let a = drawn_there n h in
        let b : length (drawn_by before n.stream.source n.stream.page) ≤ row_number rows n.stream = told_is_true t.starts before run_before honest_before e.member n.stream.source rows q n.stream.page in
        let l : n.number ≤ row_number rows n.stream = omega (arith, a, b) in
        ap (λ w. exceeds n.number (final_in w n.stream)) q ∙ not_above (row_number rows n.stream) n.number l

    past : AllByRecursion (EntryRight c o.start.made) (steps es)
    past = (at_parts (EntryRight c o.start.made) es (e ∷ []) (subst (λ w. AllByRecursion (EntryRight c o.start.made) (steps w)) (of_member-own e.member before e refl) o.run.each)).0

    own_fine : (n : FullName) → Has n (names_in g) → (b : Bool) → (n.stream.source == c.me) ≡ b → ((n.stream.source == c.me) && nat_lt (drawn_in es n.stream) n.number) ≡ false
    own_fine n h false q = ap (λ w. w && nat_lt (drawn_in es n.stream) n.number) q
    own_fine n h true q =
        let mine : n.stream.source ≡ c.me = eqb-true n.stream.source c.me q in
        let d : n.number ≤ length (drawn_on n.stream.page es) = subst (λ w. n.number ≤ length (drawn_by before w n.stream.page)) (mine ∙ o.me) (drawn_there n h) in
        let k : drawn_in es n.stream ≡ length (drawn_on n.stream.page es) =
        subst (λ w. drawn_in es (stream_on w n.stream.page) ≡ length (drawn_on n.stream.page es)) (sym mine) (counted c es n.stream.page (draws_right c o.start.made es past).own) in
        let l : n.number ≤ drawn_in es n.stream = omega (arith, d, k) in
        ap (λ w. w && nat_lt (drawn_in es n.stream) n.number) q ∙ not_above (drawn_in es n.stream) n.number l

    none_beyond : list_any (is_beyond c.me es) (names_in g) ≡ false
    none_beyond = false_from_ne_true _ (λ any. (let (n, h, q) = any_Has (is_beyond c.me es) (names_in g) any in
        true_false (is_beyond c.me es n) q (either_false _ _ (within_final n h (told es n.stream.source) refl) (own_fine n h (n.stream.source == c.me) refl))))

    farewell_row : (y : Datagram) → Has y (sent xs) → is_farewell y ≡ true → (page : Page) → length (drawn_on page xs) ≤ row_number (names_in y) (stream_on ox.start.config.me page)
    farewell_row (Data d) h f page = absurd (cc)
    farewell_row (Request from first mask) h f page = absurd (cc)
    farewell_row (Repair from d) h f page = absurd (cc)
    farewell_row (Session from at false shown rows echoes) h f page = absurd (cc)
    farewell_row (Session from at true shown rows echoes) h f page = farewell_sent ox.start.config ox.start.made xs from at shown rows echoes ox.run.each h page

    says_enough : is_farewell g ≡ true → (page : Page) → known es (stream_on (sender_of g) page) ≤ row_number (names_in g) (stream_on (sender_of g) page)
    says_enough f page =
        let out : Has g (sent xs) = flat_map-Has (λ (y : Entry). y.effects.outs) g x xs (Has-of_member x before sending.1) sending.2 in
        let a : length (drawn_on page xs) ≤ row_number (names_in g) (stream_on x.member page) = subst (λ w. length (drawn_on page xs) ≤ row_number (names_in g) (stream_on w page)) ox.me (farewell_row g out f page) in
        let b : known es (stream_on x.member page) ≤ length (drawn_on page xs) = known_was_drawn t.starts before run_before honest_before e.member (stream_on x.member page) in
        let l : known es (stream_on x.member page) ≤ row_number (names_in g) (stream_on x.member page) = omega (arith, a, b) in
        subst (λ w. known es (stream_on w page) ≤ row_number (names_in g) (stream_on w page)) (sym sender) l

    enough : says_too_little es g ≡ false
    enough = false_from_ne_true _ (λ too. (let p = and_parts (is_farewell g) (list_any (λ page. nat_lt (row_number (names_in g) (stream_on (sender_of g) page)) (known es (stream_on (sender_of g) page))) (slots es)) too in
        let (page, h, q) = any_Has (λ page. nat_lt (row_number (names_in g) (stream_on (sender_of g) page)) (known es (stream_on (sender_of g) page))) (slots es) p.1 in
        true_false (nat_lt (row_number (names_in g) (stream_on (sender_of g) page)) (known es (stream_on (sender_of g) page))) q (not_above _ _ (says_enough p.0 page))))

    sender_held : (y : Datagram) (d : Drawop) → Has y x.effects.outs → Has d (drawops_in (Some y)) → Has d (held xs)
    sender_held (Data z) d out (inl q) = subst (λ w. Has w (held xs)) (sym q) (drawn_held xs z (data_sent_was_drawn ox.start.config xs z ox.run.bucket (flat_map-Has charged (Data z) x xs (Has-of_member x before sending.1) (Has-kept (λ (w : Datagram). not (is_session w)) (Data z) x.effects.outs refl out))))
    sender_held (Data z) d out (inr f) = absurd f
    sender_held (Repair from z) d out (inl q) = subst (λ w. Has w (held xs)) (sym q) (repair_sent_was_held ox.start.config xs from z ox.run.bucket (flat_map-Has charged (Repair from z) x xs (Has-of_member x before sending.1) (Has-kept (λ (w : Datagram). not (is_session w)) (Repair from z) x.effects.outs refl out)))
    sender_held (Repair from z) d out (inr f) = absurd f
    sender_held (Request from first mask) d out h = absurd h
    sender_held (Session from at farewell page rows echoes) d out h = absurd h

    same_held : (d : Drawop) → Has d (drawops_in (Some g)) → (r : Option Drawop) → held_at es d.name ≡ r → differs d (held_at es d.name) ≡ false
    same_held d h None q = ap (differs d) q
    same_held d h (Some y) q =
        let found = find-Has (has_name d.name) (held es) y q in
        let name : y.name ≡ d.name = same_name-is y.name d.name found.1 in
        let y_drawn : Has y (drawn (of_member d.name.stream.source before)) = subst (λ (n : FullName). Has y (drawn (of_member n.stream.source before))) name (held_was_drawn t.starts before run_before honest_before e.member y found.0) in
        let d_drawn : Has d (drawn (of_member d.name.stream.source before)) = held_was_drawn t.starts before run_before honest_before x.member d (sender_held g d sending.2 h) in
        let (w, k, made) = Has-flat_map (λ (z : Entry). option_to_list z.effects.drawn) d (of_member d.name.stream.source before) d_drawn in
        let passes = Has-passes (λ (z : Entry). z.member == d.name.stream.source) w before k in
        let l : d.name.stream.source < length t.starts = subst (λ n. n < length t.starts) (eqb-true w.member d.name.stream.source passes.1) (All-Has (λ (z : Entry). z.member < length t.starts) w before run_before.inside passes.0) in
        let oy = own_of now d.name.stream.source run_before l in
        let same : d ≡ y = drawn_once oy.start.config oy.start.made (of_member d.name.stream.source before) d y oy.run.each d_drawn y_drawn (sym name) in
        ap (differs d) (q ∙ ap Some (sym same)) ∙ ap not (drawop_same d)

    no_conflict : list_any (λ d. differs d (held_at es d.name)) (drawops_in (Some g)) ≡ false
    no_conflict = false_from_ne_true _ (λ any. (let (d, h, q) = any_Has (λ d. differs d (held_at es d.name)) (drawops_in (Some g)) any in true_false (differs d (held_at es d.name)) q (same_held d h (held_at es d.name) refl)))
