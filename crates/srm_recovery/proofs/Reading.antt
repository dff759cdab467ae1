-- What a source drew by the moment is released to all in time.
use Rattle.std.proofs.Common.{◌≡◌, ℕ, zero, suc, ◌+◌, ◌≤◌, ◌<◌, true, List, [], ◌∷◌, ◌++◌, length, map, refl, ap, sym, ◌∙◌, subst, arith, inl, inr, append_assoc}
use Rattle.std.specs.Prelude.{Option, Some, None, is_some, option_to_list, filter}
use Rattle.std.specs.List.{AllByRecursion}
use Rattle.std.proofs.lemmas.Bool.{cases_lt}
use Rattle.std.proofs.lemmas.List.{append-nil}
use Rattle.std.proofs.lemmas.List.Elements.{filter-append}
use Rattle.std.proofs.lemmas.Grind.{flat_map-append}
use Rattle.srm_names.specs.declared.page.Page.{Page}
use Rattle.srm_names.specs.declared.stream.Stream.{Stream}
use Rattle.srm_names.specs.declared.drawop.Drawop.{Drawop}
use Rattle.srm_names.specs.FullName.{FullName}
use Rattle.srm_names.specs.Histories.{IsPrefix, steps, count_up, until_none}
use Rattle.srm_names.specs.Names.{named, stream_on, same_page, same_name}
use Rattle.srm_names.proofs.Lists.{Has, Has-front, Has-filter, map-Has, Has-flat_map, flat_map-Has, slice_get-Has, at_place, any_found, list_any-Has, at_parts, front_of_front}
use Rattle.srm_names.proofs.Same.{same_name-itself}
use Rattle.srm_store.specs.Held.{has_name, greatest_in}
use Rattle.srm_entries.specs.declared.entry.Entry.{Entry}
use Rattle.srm_entries.specs.Entries.{accepted, drawn, drawn_on, drawops_in, held, held_by, held_at, is_held, released}
use Rattle.srm_entries.specs.Runs.{EntryRight}
use Rattle.srm_entries.proofs.Drawing.{draws_right}
use Rattle.srm_entries.proofs.Releasing.{released-grows}
use Rattle.srm_entries.proofs.Showing.{greatest_in_has}
use Rattle.srm_world.specs.Traces.{Trace, of_member, drawn_by, IsRun, IsHonest}
use Rattle.srm_world.proofs.Holding.{held_under}
use Rattle.srm_world.proofs.Taking.{released_was_drawn}
use Rattle.srm_recovery.specs.Timing.{Timing, sharing_time}
use Rattle.srm_recovery.specs.Members.{EntryWithin, KeepsUp, HoldsBy, ReleasesBy}
use Rattle.srm_recovery.specs.Recovery.{ReadingLaw}
use Rattle.srm_recovery.proofs.Ordering.{head_same, tail_same, which_first, Own, own_of}
use Rattle.srm_recovery.proofs.Asking.{held_more}
use Rattle.srm_recovery.proofs.Telling.{sharing_law}

-- of two prefixes of one list the shorter is one of the longer
two_fronts : {X : Type 0} (xs ys zs : List X) → IsPrefix xs zs → IsPrefix ys zs → length xs ≤ length ys → IsPrefix xs ys
two_fronts [] ys zs a b l = (ys, refl)
two_fronts (x ∷ xs) [] zs a b l = absurd (omega arith)
two_fronts (x ∷ xs) (y ∷ ys) [] (a, e) b l = absurd (cc)
two_fronts (x ∷ xs) (y ∷ ys) (z ∷ zs) (a, e) (b, f) l =
    let (rest, g) = two_fronts xs ys zs (a, tail_same e) (b, tail_same f) (omega arith) in
    (rest, ap (λ w. x ∷ w) g ∙ ap (λ w. w ∷ ys) (head_same e ∙ sym (head_same f)))

-- where the first so many are there, no fewer stand in front of the first gap
filled : {X : Type 0} (f : ℕ → Option X) (from n many : ℕ) → many ≤ n → ((j : ℕ) → j < many → is_some (f (from + j)) ≡ true) → many ≤ length (until_none (map f (count_up from n)))
filled f from n zero l all = omega arith
filled f from zero (suc many) l all = absurd (omega arith)
filled {X = X} f from (suc n) (suc many) l all = go (f from) (subst (λ k. is_some (f k) ≡ true) (omega arith) (all 0 (omega arith)))
    (filled f (from + 1) n many (omega arith) (λ j k. subst (λ i. is_some (f i) ≡ true) (omega arith) (all (suc j) (omega arith))))
  where
    go : (o : Option X) → is_some o ≡ true → many ≤ length (until_none (map f (count_up (from + 1) n))) → suc many ≤ length (until_none (o ∷ map f (count_up (from + 1) n)))
    go None e more = absurd (cc)
    go (Some x) e more = omega arith

-- what was drawn is held
pub drawn_held : (es : List Entry) (d : Drawop) → Has d (drawn es) → Has d (held es)
drawn_held es d h =
    let (e, k, o) = Has-flat_map (λ (x : Entry). option_to_list x.effects.drawn) d es h in
    flat_map-Has held_by d e es k (Has-front d (option_to_list e.effects.drawn) (drawops_in (accepted e)) o)

-- so many are released, where each of the first so many is held
pub released_many : (es : List Entry) (s : Stream) (many : ℕ) → ((j : ℕ) → j < many → is_held es (named s (1 + j)) ≡ true) → many ≤ length (released es s)
released_many es s many all = filled (λ k. held_at es (named s k)) 1 (greatest_in (map (λ (d : Drawop). d.name) (held es)) s) many (far many all) (λ j l. sym (any_found (has_name (named s (1 + j))) (held es)) ∙ all j l)
  where
    far : (many : ℕ) → ((j : ℕ) → j < many → is_held es (named s (1 + j)) ≡ true) → many ≤ greatest_in (map (λ (d : Drawop). d.name) (held es)) s
    far zero each = omega arith
    far (suc k) each =
        let (d, at) = held_under es (named s (1 + k)) (each k (omega arith)) in
        let l : d.name.number ≤ greatest_in (map (λ (x : Drawop). x.name) (held es)) d.name.stream = greatest_in_has (map (λ (x : Drawop). x.name) (held es)) d.name (map-Has (λ (x : Drawop). x.name) d (held es) at.has) in
        let m : 1 + k ≤ greatest_in (map (λ (x : Drawop). x.name) (held es)) s = subst (λ (n : FullName). n.number ≤ greatest_in (map (λ (x : Drawop). x.name) (held es)) n.stream) at.name l in
        omega arith

-- what a source drew by an entry, it holds there
pub drew_holds : (t : Trace) (p : Timing) (k : ℕ) → Own t k → (page : Page) (from to : ℕ) (h : EntryWithin t p k from to) (j : ℕ) → j < length (drawn_on page (h.before ++ h.this ∷ []))
    → is_held (h.before ++ h.this ∷ []) (named (stream_on k page) (1 + j)) ≡ true
drew_holds t p k o page from to h j l =
    let past : List Entry = h.before ++ h.this ∷ [] in
    let parts : of_member k t.entries ≡ past ++ h.after = h.split ∙ sym (append_assoc h.before (h.this ∷ []) h.after) in
    let (d, at) = at_place (drawn_on page past) j l in
    let right = draws_right o.start.config o.start.made past (at_parts (EntryRight o.start.config o.start.made) past h.after (subst (λ w. AllByRecursion (EntryRight o.start.config o.start.made) (steps w)) parts o.run.each)).0 in
    let name : d.name ≡ named (stream_on k page) (1 + j) = right.placed page j d at ∙ ap (λ w. named (stream_on w page) (j + 1)) o.me ∙ ap (named (stream_on k page)) (turned j) in
    let has : Has d (held past) = drawn_held past d (Has-filter (λ (x : Drawop). same_page page x.name.stream.page) d (drawn past) (slice_get-Has (drawn_on page past) j d at)) in
    list_any-Has (has_name (named (stream_on k page) (1 + j))) d (held past) has (subst (λ w. same_name d.name w ≡ true) name (same_name-itself d.name))
  where
    turned : (j : ℕ) → j + 1 ≡ 1 + j
    turned j = omega arith

-- What is held by a moment, each name by some entry, is held by one entry.

later_holds : (t : Trace) (p : Timing) (m : ℕ) (n : FullName) (now : ℕ) (h k : EntryWithin t p m 0 now) → (mid : List Entry) → k.before ≡ h.before ++ h.this ∷ mid → is_held (h.before ++ h.this ∷ []) n ≡ true → is_held (k.before ++ k.this ∷ []) n ≡ true
later_holds t p m n now h k mid q got =
    held_more k.before (k.this ∷ []) n (subst (λ w. is_held w n ≡ true) (append_assoc h.before (h.this ∷ []) mid ∙ sym q) (held_more (h.before ++ h.this ∷ []) mid n got))

all_held : (t : Trace) (p : Timing) (m : ℕ) (s : Stream) (now many : ℕ) → EntryWithin t p m 0 now → ((j : ℕ) → j < many → HoldsBy t p m (named s (1 + j)) now)
    → (h : EntryWithin t p m 0 now) × ((j : ℕ) → j < many → is_held (h.before ++ h.this ∷ []) (named s (1 + j)) ≡ true)
all_held t p m s now zero some each = (some, λ j l. absurd (omega arith))
all_held t p m s now (suc k) some each =
    let (h, before) = all_held t p m s now k some (λ j l. each j (omega arith)) in
    let (g, last) = each k (omega arith) in
    elim (which_first h.before h.this h.after g.before g.this g.after (sym h.split ∙ g.split)) [
      | inl later ↦ (
        g,
        λ j l. elim (cases_lt j k) [
          | inl less ↦ later_holds t p m (named s (1 + j)) now h g later.0 later.1 (before j less)
          | inr more ↦ subst (λ i. is_held (g.before ++ g.this ∷ []) (named s (1 + i)) ≡ true) (omega arith) last
        ],
      )
      | inr (inl same) ↦ (
        h,
        λ j l. elim (cases_lt j k) [
          | inl less ↦ before j less
          | inr more ↦ subst (λ i. is_held (h.before ++ h.this ∷ []) (named s (1 + i)) ≡ true) (omega arith)
              (subst (λ w. is_held (w ++ h.this ∷ []) (named s (1 + k)) ≡ true) (sym same.0) (subst (λ (e : Entry). is_held (g.before ++ e ∷ []) (named s (1 + k)) ≡ true) (sym same.1) last))
        ],
      )
      | inr (inr sooner) ↦ (
        h,
        λ j l. elim (cases_lt j k) [
          | inl less ↦ before j less
          | inr more ↦ subst (λ i. is_held (h.before ++ h.this ∷ []) (named s (1 + i)) ≡ true) (omega arith) (later_holds t p m (named s (1 + k)) now g h sooner.0 sooner.1 last)
        ],
      )
    ]

released_more : (es more : List Entry) (s : Stream) → IsPrefix (released es s) (released (es ++ more) s)
released_more es [] s = ([], append-nil (released es s) ∙ ap (λ w. released w s) (sym (append-nil es)))
released_more es (e ∷ more) s =
    subst (λ w. IsPrefix (released es s) (released w s)) (append_assoc es (e ∷ []) more)
    (front_of_front (released es s) (released (es ++ e ∷ []) s) (released ((es ++ e ∷ []) ++ more) s) (released-grows es e s) (released_more (es ++ e ∷ []) more s))

-- who holds so many drawops of a source by a moment has released them by then
pub releases : (t : Trace) (p : Timing) → IsRun t → IsHonest t.entries → (m source : ℕ) (page : Page) (drawops : List Drawop) (now : ℕ) → IsPrefix drawops (drawn_by t.entries source page) → EntryWithin t p m 0 now
    → ((j : ℕ) → j < length drawops → HoldsBy t p m (named (stream_on source page) (1 + j)) now) → ReleasesBy t p m (stream_on source page) drawops now
releases t p run honest m source page drawops now front some each =
    let (h, held) = all_held t p m (stream_on source page) now (length drawops) some each in
    let past : List Entry = h.before ++ h.this ∷ [] in
    let whole : of_member m t.entries ≡ past ++ h.after = h.split ∙ sym (append_assoc h.before (h.this ∷ []) h.after) in
    let grown : IsPrefix (released past (stream_on source page)) (released (of_member m t.entries) (stream_on source page)) =
    subst (λ w. IsPrefix (released past (stream_on source page)) (released w (stream_on source page))) (sym whole) (released_more past h.after (stream_on source page)) in (
      h,
      two_fronts drawops (released past (stream_on source page)) (drawn_by t.entries source page) front
          (front_of_front (released past (stream_on source page)) (released (of_member m t.entries) (stream_on source page)) (drawn_by t.entries source page) grown (released_was_drawn t.starts t.entries run honest m source page))
          (released_many past (stream_on source page) (length drawops) held),
    )

-- a member that goes on has an entry
pub some_entry : (t : Trace) (p : Timing) (m from to now : ℕ) → KeepsUp t p m from to → from + p.tick ≤ now → now ≤ to → EntryWithin t p m 0 now
some_entry t p m from to now goes l u =
    let (h, ticks) = goes.ticks from (omega arith) (omega arith) in
    let high : p.clock m + h.this.moment ≤ from + p.tick = h.not_after in
    record { before = h.before; this = h.this; after = h.after; split = h.split; not_before = omega arith; not_after = omega arith }

-- earlier is by a later time too
pub releases_by_later : (t : Trace) (p : Timing) (m : ℕ) (s : Stream) (drawops : List Drawop) (now later : ℕ) → now ≤ later → ReleasesBy t p m s drawops now → ReleasesBy t p m s drawops later
releases_by_later t p m s drawops now later l (h, front) =
    let a : p.clock m + h.this.moment ≤ now = h.not_after in
    (record { before = h.before; this = h.this; after = h.after; split = h.split; not_before = h.not_before; not_after = omega arith }, front)

pub reading_law : ReadingLaw
reading_law t p interval request_wait from to m k page run honest serves limit h =
    releases_by_later t p m (stream_on k page) (drawn_on page past) (from + sharing_time p interval request_wait) _ (omega arith)
    (releases t p run honest m k page (drawn_on page past) (from + sharing_time p interval request_wait) first (some_entry t p m from to (from + sharing_time p interval request_wait) (serves.connected 0).asker (omega arith) (omega arith)) each)
  where
    past : List Entry
    past = h.before ++ h.this ∷ []

    o : Own t k
    o = own_of t k run (serves.connected 0).holder.stays.inside

    parts : of_member k t.entries ≡ past ++ h.after
    parts = h.split ∙ sym (append_assoc h.before (h.this ∷ []) h.after)

    first : IsPrefix (drawn_on page past) (drawn_by t.entries k page)
    first = (
      drawn_on page h.after,
      sym (ap (drawn_on page) parts
          ∙ ap (λ ds. filter_page ds) (flat_map-append (λ (e : Entry). option_to_list e.effects.drawn) past h.after)
          ∙ filter-append (λ (d : Drawop). same_page page d.name.stream.page) (drawn past) (drawn h.after)),
    )
      where
        filter_page : List Drawop → List Drawop
        filter_page ds = filter (λ (d : Drawop). same_page page d.name.stream.page) ds

    each : (j : ℕ) → j < length (drawn_on page past) → HoldsBy t p m (named (stream_on k page) (1 + j)) (from + sharing_time p interval request_wait)
    each j l = sharing_law t p interval request_wait from to m k (named (stream_on k page) (1 + j)) run (serves.connected (1 + j)) serves.told (serves.waits (1 + j)) (omega arith) (omega arith) (h, drew_holds t p k o page 0 from h j l)
