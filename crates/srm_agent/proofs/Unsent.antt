-- The data that was drawn and not sent is what waits in the bucket as new.
use Rattle.std.proofs.Common.{◌≡◌, ℕ, ◌+◌, ◌==◌, Bool, true, false, not, List, [], ◌∷◌, ◌++◌, length, map, refl, ap, sym, ◌∙◌, subst, inl, inr, arith, length-append, eqb-true}
use Rattle.std.specs.Prelude.{Option, Some, None, cond, count_by, filter, option_map, option_to_list, nat_le, if◌then◌else◌}
use Rattle.std.specs.List.{flat_map, filter_map, cons_option, AllByRecursion}
use Rattle.std.proofs.lemmas.Bool.Decides.{nat_tests}
use Rattle.std.proofs.lemmas.List.{length-map}
use Rattle.std.proofs.lemmas.List.Sums.{sum_by-append, sum_by-cons}
use Rattle.std.proofs.lemmas.Grind.{flat_map-append}
use Rattle.srm_names.specs.declared.page.Page.{Page}
use Rattle.srm_names.specs.declared.drawop.Drawop.{Drawop}
use Rattle.srm_names.specs.FullName.{FullName}
use Rattle.srm_names.specs.Histories.{Step, steps, steps_after}
use Rattle.srm_names.specs.Names.{same_page}
use Rattle.srm_names.proofs.Lists.{Has, Has-append, Has-map, Has-flat_map, flat_map-Has, Has-front}
use Rattle.srm_codec.specs.declared.datagram.Datagram.{Datagram}
use Rattle.srm_codec.specs.declared.datagram.Datagram.TheVariants.{Data, Request, Repair, Session}
use Rattle.srm_bucket.specs.declared.class.Class.{Class}
use Rattle.srm_bucket.specs.declared.class.Class.TheVariants.{Shown, New, Other}
use Rattle.srm_bucket.specs.declared.item.Item.{Item}
use Rattle.srm_bucket.specs.Calls.{Classed}
use Rattle.srm_bucket.specs.Classes.{rank, in_class, handed, departed}
use Rattle.srm_bucket.specs.Content.{BucketContent}
use Rattle.srm_bucket.specs.Law.{BucketLaw}
use Rattle.srm_bucket.specs.Mapping.{read_item}
use Rattle.srm_bucket.specs.Waiting.{queue}
use Rattle.srm_bucket.proofs.Mapping.{law-read, gone-read, handed-read}
use Rattle.srm_entries.specs.Configs.{Config}
use Rattle.srm_entries.specs.declared.entry.Entry.{Entry}
use Rattle.srm_outbox.specs.declared.out.Outgoing.{Outgoing}
use Rattle.srm_entries.specs.Entries.{shown, drawn, sent, held_at}
use Rattle.srm_codec.specs.Spelling.{is_data, is_session}
use Rattle.srm_entries.specs.Sessions.{charged, all_data_sent}
use Rattle.srm_entries.specs.Packing.{is_covered_by, packed_after, packed, mask_of}
use Rattle.srm_entries.specs.Bucket.{Going, GoesAsCharged, class_for, page_of, due_item, data_item, requests_and_repairs, handed_in_by, repair_for, entries_of, bucket_calls, datagrams_of}
use Rattle.srm_entries.specs.Rates.{one_of_class, of_class, handed_so_far, departed_so_far}
use Rattle.srm_agent.specs.Fits.{BucketFitsPast}
use Rattle.srm_outbox.specs.Outs.{datagram_of}
use Rattle.srm_entries.proofs.Marking.{gone_is, handed_is}
use Rattle.srm_entries.proofs.Sending.{went_first, went_is_charged, in_its_class}

-- what is added as new is data, and nothing else is

abbrev is_new : Classed Datagram → Bool
is_new i = rank i.class == rank New

abbrev IsMarked : Classed Datagram → Type 0
IsMarked i = is_new i ≡ is_data i.item.value

not_new : (showing : Page) (o : Option Page) → (rank (class_for showing o) == rank New) ≡ false
not_new showing None = refl
not_new showing (Some page) = go (same_page page showing)
  where
    go : (b : Bool) → (rank (if b then Shown else Other) == rank New) ≡ false
    go true = refl
    go false = refl

request_no_data : (me : ℕ) (g : Datagram) (n : FullName) (ns : List FullName) (xs ys : List Datagram) (b : Bool) → (Has g xs → is_data g ≡ false) → (Has g ys → is_data g ≡ false) → Has g (if b then xs else Request me n (mask_of n ns) ∷ ys) → is_data g ≡ false
request_no_data me g n ns xs ys true p q h = p h
request_no_data me g n ns xs ys false p q (inl e) = ap is_data e
request_no_data me g n ns xs ys false p q (inr h) = q h

packed_no_data : (me : ℕ) (g : Datagram) (last : Option FullName) (asks : List FullName) → Has g (packed_after me last asks) → is_data g ≡ false
packed_no_data me g last [] h = absurd h
packed_no_data me g last (n ∷ ns) h = request_no_data me g n ns (packed_after me last ns) (packed_after me (Some n) ns) (is_covered_by last n) (packed_no_data me g last ns) (packed_no_data me g (Some n) ns) h

repair_no_data : (me : ℕ) (g : Datagram) (others : List Datagram) (o : Option Drawop) → (Has g others → is_data g ≡ false) → Has g (cons_option (option_map (Repair me) o) others) → is_data g ≡ false
repair_no_data me g others None more h = more h
repair_no_data me g others (Some d) more (inl e) = ap is_data e
repair_no_data me g others (Some d) more (inr h) = more h

repairs_no_data : (me : ℕ) (before : List Entry) (g : Datagram) (fixes : List FullName) → Has g (filter_map (repair_for me before) fixes) → is_data g ≡ false
repairs_no_data me before g [] h = absurd h
repairs_no_data me before g (n ∷ ns) h = repair_no_data me g (filter_map (repair_for me before) ns) (held_at before n) (repairs_no_data me before g ns) h

handed_marked : (me : ℕ) (s : Step Entry) (j : Classed Datagram) → Has j (handed_in_by me s) → IsMarked j
handed_marked me s j h = elim (Has-append j (data_item s.this.effects.drawn) (map (due_item (shown s.before)) (requests_and_repairs me s)) h) [
  | inl l ↦ of_data s.this.effects.drawn l
  | inr r ↦ of_answers (Has-map (due_item (shown s.before)) j (requests_and_repairs me s) r)
]
  where
    of_data : (o : Option Drawop) → Has j (data_item o) → IsMarked j
    of_data None k = absurd k
    of_data (Some d) (inl e) = subst IsMarked (sym e) refl
    of_data (Some d) (inr k) = absurd k

    of_answers : ((g : Datagram) × Has g (requests_and_repairs me s) × (j ≡ due_item (shown s.before) g)) → IsMarked j
    of_answers (g, k, e) =
        let none : is_data g ≡ false = elim (Has-append g (packed me s.this.effects.asks) (filter_map (repair_for me s.before) s.this.effects.fixes) k) [
          | inl l ↦ packed_no_data me g None s.this.effects.asks l
          | inr r ↦ repairs_no_data me s.before g s.this.effects.fixes r
        ] in
        subst IsMarked (sym e) (not_new (shown s.before) (page_of g) ∙ sym none)

in_class_both : (class : Class) (x : Item Datagram) (j : Classed Datagram) → Has x (in_class class (Some j)) → (rank j.class ≡ rank class) × (x ≡ j.item)
in_class_both class x j h = go (rank j.class == rank class) refl h
  where
    go : (b : Bool) → (rank j.class == rank class) ≡ b → Has x (if b then j.item ∷ [] else []) → (rank j.class ≡ rank class) × (x ≡ j.item)
    go true e (inl q) = (eqb-true (rank j.class) (rank class) e, q)
    go true e (inr q) = absurd q
    go false e q = absurd q

-- so what goes as new is data, and nothing else is
went_marked : (c : Config) (gs : List Going) → AllByRecursion GoesAsCharged (steps gs) → BucketLaw c.rate c.depth (bucket_calls c.me gs) → (i : Classed Datagram) → Has i (departed_so_far gs) → IsMarked i
went_marked c gs all law i h =
    let (rest, e) = went_first c.rate c.depth (bucket_calls c.me gs) law i.class in
    let here : Has i.item (of_class i.class (departed_so_far gs)) = flat_map-Has (one_of_class i.class) i.item i (departed_so_far gs) h (in_its_class i) in
    let there : Has i.item (of_class i.class (handed_so_far c.me (entries_of gs))) =
    subst (λ xs. Has i.item xs) (e ∙ handed_is c.me i.class gs all) (Has-front i.item (departed i.class (bucket_calls c.me gs)) rest (subst (λ xs. Has i.item xs) (sym (gone_is c.me i.class gs all)) here)) in
    let (j, k, m) = Has-flat_map (one_of_class i.class) i.item (handed_so_far c.me (entries_of gs)) there in
    let (s, at, p) = Has-flat_map (handed_in_by c.me) j (steps (entries_of gs)) k in
    let both = in_class_both i.class i.item j m in
    ap (λ n. n == rank New) (sym both.0) ∙ handed_marked c.me s j p ∙ ap (λ (x : Item Datagram). is_data x.value) (sym both.1)

-- counting

one_counted : (i : Classed Datagram) → length (in_class New (Some i)) ≡ cond (is_new i) 1 0
one_counted i = go (is_new i)
  where
    go : (b : Bool) → length (if b then i.item ∷ [] else []) ≡ cond b 1 0
    go true = refl
    go false = refl

count_marked : (is : List (Classed Datagram)) → ((i : Classed Datagram) → Has i is → IsMarked i) → length (of_class New is) ≡ count_by is_data (datagrams_of is)
count_marked [] h = refl
count_marked (i ∷ is) h =
    let one : length (in_class New (Some i)) ≡ cond (is_data i.item.value) 1 0 = one_counted i ∙ ap (λ b. cond b 1 0) (h i (inl refl)) in
    length-append (in_class New (Some i)) (of_class New is) ∙ ap (λ n. n + length (of_class New is)) one ∙ ap (λ n. cond (is_data i.item.value) 1 0 + n) (count_marked is (λ x k. h x (inr k)))
    ∙ sym (sum_by-cons (λ g. cond (is_data g) 1 0) i.item.value (datagrams_of is))

none_new : (showing : Page) (gs : List Datagram) → of_class New (map (due_item showing) gs) ≡ []
none_new showing [] = refl
none_new showing (g ∷ gs) = ap (λ b. (if b then (due_item showing g).item ∷ [] else []) ++ of_class New (map (due_item showing) gs)) (not_new showing (page_of g)) ∙ none_new showing gs

step_drawn : (me : ℕ) (s : Step Entry) → length (of_class New (handed_in_by me s)) ≡ length (option_to_list s.this.effects.drawn)
step_drawn me s =
    ap length (flat_map-append (one_of_class New) (data_item s.this.effects.drawn) (map (due_item (shown s.before)) (requests_and_repairs me s)) ∙ ap (λ xs. of_class New (data_item s.this.effects.drawn) ++ xs) (none_new (shown s.before) (requests_and_repairs me s)))
    ∙ by_case s.this.effects.drawn
  where
    by_case : (o : Option Drawop) → length (of_class New (data_item o) ++ []) ≡ length (option_to_list o)
    by_case None = refl
    by_case (Some d) = refl

drawn_after : (me : ℕ) (before es : List Entry) → length (of_class New (flat_map (handed_in_by me) (steps_after before es))) ≡ length (drawn es)
drawn_after me before [] = refl
drawn_after me before (e ∷ es) =
    let s : Step Entry = record { before = before; this = e } in
    ap length (flat_map-append (one_of_class New) (handed_in_by me s) (flat_map (handed_in_by me) (steps_after (before ++ e ∷ []) es)))
    ∙ length-append (of_class New (handed_in_by me s)) (of_class New (flat_map (handed_in_by me) (steps_after (before ++ e ∷ []) es)))
    ∙ ap (λ n. n + length (of_class New (flat_map (handed_in_by me) (steps_after (before ++ e ∷ []) es)))) (step_drawn me s)
    ∙ ap (λ n. length (option_to_list e.effects.drawn) + n) (drawn_after me (before ++ e ∷ []) es)
    ∙ sym (length-append (option_to_list e.effects.drawn) (drawn es))

kept_one : (g : Datagram) (rest gs : List Datagram) → count_by is_data rest ≡ count_by is_data gs → count_by is_data (cond (not (is_session g)) (g ∷ rest) rest) ≡ count_by is_data (g ∷ gs)
kept_one g rest gs e = go g ∙ sym (sum_by-cons (λ x. cond (is_data x) 1 0) g gs)
  where
    more : (x : Datagram) → count_by is_data (x ∷ rest) ≡ cond (is_data x) 1 0 + count_by is_data gs
    more x = sum_by-cons (λ y. cond (is_data y) 1 0) x rest ∙ ap (λ n. cond (is_data x) 1 0 + n) e

    go : (x : Datagram) → count_by is_data (cond (not (is_session x)) (x ∷ rest) rest) ≡ cond (is_data x) 1 0 + count_by is_data gs
    go (Data d) = more (Data d)
    go (Request a n m) = more (Request a n m)
    go (Repair a d) = more (Repair a d)
    go (Session sender at farewell page rows echoes) = e ∙ none (count_by is_data gs)
      where
        none : (n : ℕ) → n ≡ 0 + n
        none n = omega arith

pub kept_data : (gs : List Datagram) → count_by is_data (filter (λ g. not (is_session g)) gs) ≡ count_by is_data gs
kept_data [] = refl
kept_data (g ∷ gs) = kept_one g (filter (λ x. not (is_session x)) gs) gs (kept_data gs)

sent_data : (es : List Entry) → count_by is_data (flat_map charged es) ≡ count_by is_data (sent es)
sent_data [] = refl
sent_data (e ∷ es) =
    sum_by-append (λ x. cond (is_data x) 1 0) (charged e) (flat_map charged es) ∙ ap (λ n. n + count_by is_data (flat_map charged es)) (kept_data e.effects.outs)
    ∙ ap (λ n. count_by is_data e.effects.outs + n) (sent_data es) ∙ sym (sum_by-append (λ x. cond (is_data x) 1 0) e.effects.outs (sent es))

nothing_left : (gone_count left drawn_count sent_count : ℕ) → gone_count + left ≡ drawn_count → gone_count ≡ sent_count → nat_le drawn_count sent_count ≡ (left == 0)
nothing_left gone_count left drawn_count sent_count e f = grind (arith, nat_tests)

-- After these entries each drawop that was drawn has been sent exactly where nothing waits as new.
pub all_sent : (c : Config) (es : List Entry) (b : BucketContent Outgoing) → BucketFitsPast c es b → all_data_sent es ≡ (length (queue b.waiting New) == 0)
all_sent c es b h =
    let law : BucketLaw c.rate c.depth (bucket_calls c.me h.goings) = subst (BucketLaw c.rate c.depth) h.read (law-read datagram_of c.rate c.depth h.calls h.fits.law) in
    let went : length (departed New h.calls) ≡ count_by is_data (sent es) =
    sym (length-map (departed New h.calls) (read_item datagram_of)) ∙ ap length (sym (gone-read datagram_of New h.calls)) ∙ ap (λ cs. length (departed New cs)) h.read ∙ ap length (gone_is c.me New h.goings h.goes)
    ∙ count_marked (departed_so_far h.goings) (went_marked c h.goings h.goes law) ∙ ap (count_by is_data) (went_is_charged h.goings h.goes) ∙ sent_data (entries_of h.goings) ∙ ap (λ xs. count_by is_data (sent xs)) h.entries in
    let all : length (handed New h.calls) ≡ length (drawn es) =
    sym (length-map (handed New h.calls) (read_item datagram_of)) ∙ ap length (sym (handed-read datagram_of New h.calls)) ∙ ap (λ cs. length (handed New cs)) h.read ∙ ap length (handed_is c.me New h.goings h.goes)
    ∙ drawn_after c.me [] (entries_of h.goings) ∙ ap (λ xs. length (drawn xs)) h.entries in
    nothing_left (length (departed New h.calls)) (length (queue b.waiting New)) (length (drawn es)) (count_by is_data (sent es))
    (sym (length-append (departed New h.calls) (queue b.waiting New)) ∙ ap length (h.fits.waiting_is New) ∙ all) went
