-- Once a source is told, what is held of it goes no further than its farewell says.
use Rattle.std.proofs.Common.{◌≡◌, ℕ, ◌==◌, ◌≤◌, Bool, true, false, ◌&&◌, List, [], ◌∷◌, ◌++◌, refl, ap, sym, ◌∙◌, subst, inl, inr, arith}
use Rattle.std.specs.Prelude.{option_to_list, ◌⊎◌, Option, Some, None, if◌then◌else◌, nat_lt}
use Rattle.std.specs.List.{flat_map, list_any, cons_option}
use Rattle.std.proofs.lemmas.List.{append-nil}
use Rattle.std.proofs.lemmas.List.Elements.{filter_map-append}
use Rattle.std.proofs.lemmas.Option.{none-some, same_Some}
use Rattle.std.proofs.lemmas.Bool.{or_parts, eqb-true, ltb-false}
use Rattle.srm_names.specs.declared.page.Page.{Page}
use Rattle.srm_names.specs.declared.drawop.Drawop.{Drawop}
use Rattle.srm_names.specs.declared.echo.Echo.{Echo}
use Rattle.srm_names.specs.FullName.{FullName}
use Rattle.srm_names.specs.Histories.{or_else}
use Rattle.srm_names.specs.Names.{first_page, stream_on}
use Rattle.srm_names.proofs.Lists.{Has, Has-append, Has-front, Has-back, map-Has, none_passes}
use Rattle.srm_names.proofs.Snoc.{first_of-snoc, or_else-none, flat_map-snoc}
use Rattle.srm_names.proofs.Same.{Has-firsts}
use Rattle.srm_codec.specs.declared.datagram.Datagram.{Datagram}
use Rattle.srm_codec.specs.declared.datagram.Datagram.TheVariants.{Data, Request, Repair, Session}
use Rattle.srm_codec.specs.Spelling.{sender_of, names_in}
use Rattle.srm_entries.specs.Configs.{Config}
use Rattle.srm_entries.specs.declared.entry.Entry.{Entry}
use Rattle.srm_entries.specs.Entries.{held, held_by, drawops_in, done, accepted, heard_in, evidence_by, evidence_in, known, pages_in, slots}
use Rattle.srm_store.specs.Finals.{Settling, rows_for, rows_of, row_number, final_in}
use Rattle.srm_entries.specs.Verdicts.{told, settlings, settling_of, final, exceeds, is_beyond, says_too_little, drawn_in}
use Rattle.srm_entries.specs.Runs.{EntryRight}
use Rattle.srm_entries.proofs.Showing.{held-snoc, held_by_shown, held_in_shown, held_is_shown, made_by, IsDrawing, IsHearing, IsQuiet, kind, known_has, shown-snoc, shown_drawing, shown_hearing, shown_quiet, HeardFine, hearing_fine}

abbrev pages : List Entry → List Page
pages es = first_page ∷ flat_map (λ e. pages_in (done e)) es

pub record ToldRight (c : Config) (es : List Entry) : Type 0 where
  pub paged : (n : FullName) → Has n (evidence_in es) → Has n.stream.page (first_page ∷ flat_map (λ e. pages_in (done e)) es)
  pub others : told es c.me ≡ None
  pub bounded : (d : Drawop) (rows : List FullName) → Has d (held es) → told es d.name.stream.source ≡ Some rows → d.name.number ≤ row_number rows d.name.stream

abbrev pub rows_in : ℕ → Option Settling → Option (List FullName)
rows_in s None = None
rows_in s (Some settling) = rows_for s settling

-- the rows of a farewell of a source
abbrev pub farewell_in : ℕ → Option Datagram → Option (List FullName)
farewell_in s o = rows_in s (settling_of o)

rows_then : (s : ℕ) (settled : List Settling) (o : Option Settling) → rows_of (settled ++ cons_option o []) s ≡ or_else (rows_of settled s) (rows_in s o)
rows_then s settled None = ap (λ w. rows_of w s) (append-nil settled) ∙ sym (or_else-none (rows_of settled s))
rows_then s settled (Some x) = first_of-snoc (rows_for s) settled x

told-snoc : (es : List Entry) (e : Entry) (s : ℕ) → told (es ++ e ∷ []) s ≡ or_else (told es s) (farewell_in s (accepted e))
told-snoc es e s = ap (λ w. rows_of w s) (filter_map-append (λ (x : Entry). settling_of (accepted x)) es (e ∷ [])) ∙ rows_then s (settlings es) (settling_of (accepted e))

-- a source that is told stays so
pub told_stays : (es : List Entry) (e : Entry) (s : ℕ) (rows : List FullName) → told es s ≡ Some rows → told (es ++ e ∷ []) s ≡ Some rows
told_stays es e s rows t = told-snoc es e s ∙ ap (λ o. or_else o (farewell_in s (accepted e))) t

told_same : (es : List Entry) (e : Entry) (s : ℕ) → accepted e ≡ None → told (es ++ e ∷ []) s ≡ told es s
told_same es e s none = told-snoc es e s ∙ ap (λ o. or_else (told es s) (farewell_in s o)) none ∙ or_else-none (told es s)

pages-snoc : (es : List Entry) (e : Entry) → pages (es ++ e ∷ []) ≡ pages es ++ pages_in (done e)
pages-snoc es e = ap (λ w. first_page ∷ w) (flat_map-snoc (λ (x : Entry). pages_in (done x)) es e)

-- the page of each name that an entry shows is among those that it names
paged_step : (c : Config) (es : List Entry) (e : Entry) → ((n : FullName) → Has n (evidence_by e) → Has n.stream.page (pages_in (done e)))
    → ToldRight c es → (n : FullName) → Has n (evidence_in (es ++ e ∷ [])) → Has n.stream.page (pages (es ++ e ∷ []))
paged_step c es e new p n h = subst (λ w. Has n.stream.page w) (sym (pages-snoc es e))
    (elim (Has-append n (evidence_in es) (evidence_by e) (subst (λ w. Has n w) (shown-snoc es e) h)) [
      | inl l ↦ Has-front n.stream.page (pages es) (pages_in (done e)) (p.paged n l)
      | inr r ↦ Has-back n.stream.page (pages es) (pages_in (done e)) (new n r)
    ])

at_quiet : (c : Config) (es : List Entry) (e : Entry) → IsQuiet e → ToldRight c es → ToldRight c (es ++ e ∷ [])
at_quiet c es e quiet p = record {
  paged = paged_step c es e (λ n h. absurd (subst (λ w. Has n w) (shown_quiet e quiet) h)) p;
  others = told_same es e c.me quiet.0 ∙ p.others;
  bounded = λ d rows h t. elim (Has-append d (held es) (held_by e) (subst (λ w. Has d w) (held-snoc es e) h)) [
    | inl l ↦ p.bounded d rows l (sym (told_same es e d.name.stream.source quiet.0) ∙ t)
    | inr r ↦ absurd (subst (λ w. Has d.name w) (shown_quiet e quiet) (held_by_shown e d r))
  ];
}

at_drawing : (c : Config) (es : List Entry) (e : Entry) → IsDrawing c es e → ToldRight c es → ToldRight c (es ++ e ∷ [])
at_drawing c es e drew p = record {
  paged = paged_step c es e page p;
  others = told_same es e c.me silent ∙ p.others;
  bounded = λ d rows h t. elim (Has-append d (held es) (held_by e) (subst (λ w. Has d w) (held-snoc es e) h)) [
    | inl l ↦ p.bounded d rows l (sym (told_same es e d.name.stream.source silent) ∙ t)
    | inr r ↦ absurd (none-some rows (sym p.others ∙ ap (told es) (sym (own d.name (held_by_shown e d r))) ∙ sym (told_same es e d.name.stream.source silent) ∙ t))
  ];
}
  where
    silent : accepted e ≡ None
    silent = ap heard_in drew.2

    is : (n : FullName) → Has n (evidence_by e) → n ≡ (made_by c es e.moment drew.0 drew.1).name
    is n h = elim (subst (λ w. Has n w) (shown_drawing c es e drew) h) [ inl q ↦ q | inr q ↦ absurd q ]

    own : (n : FullName) → Has n (evidence_by e) → n.stream.source ≡ c.me
    own n h = ap (λ (m : FullName). m.stream.source) (is n h)

    page : (n : FullName) → Has n (evidence_by e) → Has n.stream.page (pages_in (done e))
    page n h = subst (λ w. Has n.stream.page (pages_in w)) (sym drew.2) (inl (ap (λ (m : FullName). m.stream.page) (is n h)))

no_farewell_if : (f : Bool) (s sender : ℕ) (rows : List FullName) → (sender == s) ≡ false → rows_in s (if f then Some (record { member = sender; rows = rows }) else None) ≡ None
no_farewell_if true s sender rows e = ap (λ b. if b then Some rows else None) e
no_farewell_if false s sender rows e = refl

no_farewell : (s : ℕ) (g : Datagram) → (sender_of g == s) ≡ false → farewell_in s (Some g) ≡ None
no_farewell s (Data d) e = refl
no_farewell s (Request a n m) e = refl
no_farewell s (Repair a d) e = refl
no_farewell s (Session sender sent farewell shown rows echoes) e = no_farewell_if farewell s sender rows e

-- what a farewell of a source is
abbrev pub IsFarewell : ℕ → List FullName → Datagram → Type 0
IsFarewell s rows g = (sent : ℕ) × (shown : Page) × (echoes : List Echo) × (g ≡ Session s sent true shown rows echoes)

pub farewell_is : (s : ℕ) (g : Datagram) (rows : List FullName) → farewell_in s (Some g) ≡ Some rows → IsFarewell s rows g
farewell_is s (Data d) rows e = absurd (none-some rows e)
farewell_is s (Request a n m) rows e = absurd (none-some rows e)
farewell_is s (Repair a d) rows e = absurd (none-some rows e)
farewell_is s (Session sender sent farewell shown said echoes) rows e = which farewell (sender == s) refl e
  where
    which : (f b : Bool) → (sender == s) ≡ b → rows_in s (if f then Some (record { member = sender; rows = said }) else None) ≡ Some rows → IsFarewell s rows (Session sender sent f shown said echoes)
    which false b q k = absurd (none-some rows k)
    which true false q k = absurd (none-some rows (sym (ap (λ b. if b then Some said else None) q) ∙ k))
    which true true q k = (sent, shown, echoes, ap (λ w. Session w sent true shown said echoes) (eqb-true sender s q) ∙ ap (λ w. Session s sent true shown w echoes) (same_Some said rows (sym (ap (λ b. if b then Some said else None) q) ∙ k)))

at_hearing : (c : Config) (es : List Entry) (e : Entry) (k : IsHearing e) → HeardFine c es k.0 → ToldRight c es → ToldRight c (es ++ e ∷ [])
at_hearing c es e hearing fine p = record {
  paged = paged_step c es e page p;
  others = told_then c.me ∙ ap (λ o. or_else o (farewell_in c.me (Some g))) p.others ∙ no_farewell c.me g fine.other;
  bounded = λ d rows h t. bounded d rows (told es d.name.stream.source) refl (Has-append d (held es) (drawops_in (Some g)) (subst (λ w. Has d w) held_then h)) (sym (told_then d.name.stream.source) ∙ t);
}
  where
    g : Datagram
    g = hearing.0

    told_then : (s : ℕ) → told (es ++ e ∷ []) s ≡ or_else (told es s) (farewell_in s (Some g))
    told_then s = told-snoc es e s ∙ ap (λ o. or_else (told es s) (farewell_in s (heard_in o))) hearing.1

    held_then : held (es ++ e ∷ []) ≡ held es ++ drawops_in (Some g)
    held_then = held-snoc es e ∙ ap (λ o. held es ++ (option_to_list o ++ drawops_in (accepted e))) hearing.2 ∙ ap (λ o. held es ++ drawops_in (heard_in o)) hearing.1

    page : (n : FullName) → Has n (evidence_by e) → Has n.stream.page (pages_in (done e))
    page n h = subst (λ w. Has n.stream.page (pages_in w)) (sym hearing.1) (map-Has (λ (m : FullName). m.stream.page) n (names_in g) (subst (λ w. Has n w) (shown_hearing e hearing) h))

    -- a source that was told before is heard no further
    within : (n : FullName) (rows : List FullName) → told es n.stream.source ≡ Some rows → Has n (names_in g) → n.number ≤ row_number rows n.stream
    within n rows t h =
        let b : is_beyond c.me es n ≡ false = none_passes (is_beyond c.me es) (names_in g) n fine.not_beyond h in
        let parts = or_parts (exceeds n.number (final es n.stream)) ((n.stream.source == c.me) && nat_lt (drawn_in es n.stream) n.number) b in
        ltb-false (row_number rows n.stream) n.number (subst (λ o. exceeds n.number (final_in o n.stream) ≡ false) t parts.0)

    -- a farewell says no less than is known, and brings no drawop
    now : (d : Drawop) (rows : List FullName) → Has d (held es) ⊎ Has d (drawops_in (Some g)) → IsFarewell d.name.stream.source rows g → d.name.number ≤ row_number rows d.name.stream
    now d rows (inl h) (sent, shown, echoes, q) =
        let there = held_is_shown es d h in
        let short : list_any (λ (w : Page). nat_lt (row_number rows (stream_on d.name.stream.source w)) (known es (stream_on d.name.stream.source w))) (slots es) ≡ false = subst (λ w. says_too_little es w ≡ false) q fine.not_short in
        let less : nat_lt (row_number rows d.name.stream) (known es d.name.stream) ≡ false =
        none_passes (λ (w : Page). nat_lt (row_number rows (stream_on d.name.stream.source w)) (known es (stream_on d.name.stream.source w))) (slots es) d.name.stream.page short (Has-firsts d.name.stream.page (pages es) (p.paged d.name there)) in
        let k : known es d.name.stream ≤ row_number rows d.name.stream = ltb-false (row_number rows d.name.stream) (known es d.name.stream) less in
        let l : d.name.number ≤ known es d.name.stream = known_has es d.name there in omega arith
    now d rows (inr h) (sent, shown, echoes, q) = absurd (subst (λ w. Has d (drawops_in (Some w))) q h)

    bounded : (d : Drawop) (rows : List FullName) (o : Option (List FullName)) → told es d.name.stream.source ≡ o → Has d (held es) ⊎ Has d (drawops_in (Some g))
        → or_else (told es d.name.stream.source) (farewell_in d.name.stream.source (Some g)) ≡ Some rows → d.name.number ≤ row_number rows d.name.stream
    bounded d rows (Some said) t h q =
        let same : said ≡ rows = same_Some said rows (ap (λ w. or_else w (farewell_in d.name.stream.source (Some g))) (sym t) ∙ q) in
        let u : told es d.name.stream.source ≡ Some rows = t ∙ ap Some same in
        elim h [ inl l ↦ p.bounded d rows l u | inr r ↦ within d.name rows u (held_in_shown (Some g) d r) ]
    bounded d rows None t h q = now d rows h (farewell_is d.name.stream.source g rows (ap (λ w. or_else w (farewell_in d.name.stream.source (Some g))) (sym t) ∙ q))

pub told_step : (c : Config) (made : ℕ) (es : List Entry) (e : Entry) → ToldRight c es → EntryRight c made (record { before = es; this = e }) → ToldRight c (es ++ e ∷ [])
told_step c made es e p right = elim (kind c made es e right) [
  | inl drew ↦ at_drawing c es e drew p
  | inr k ↦ elim k [
    | inl h ↦ at_hearing c es e h (hearing_fine c made es e h.0 right h.1) p
    | inr quiet ↦ at_quiet c es e quiet p
  ]
]

pub told_start : (c : Config) → ToldRight c []
told_start c = record { paged = λ n h. absurd h; others = refl; bounded = λ d rows h t. absurd h }
