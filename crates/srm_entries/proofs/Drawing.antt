-- What a member draws on a page has the numbers 1, 2, ..
use Rattle.std.proofs.Common.{◌≡◌, ℕ, ◌+◌, ◌≤◌, Bool, true, false, ◌&&◌, List, [], ◌∷◌, ◌++◌, length, refl, ap, sym, ◌∙◌, subst, inl, inr, arith, eq-eqb, length-append}
use Rattle.std.specs.Prelude.{◌⊎◌, Some, None, cond, option_to_list, filter, slice_get}
use Rattle.std.specs.List.{AllByRecursion}
use Rattle.std.proofs.lemmas.Option.{none-some, same_Some}
use Rattle.std.proofs.lemmas.List.{append-nil}
use Rattle.std.proofs.lemmas.List.Elements.{filter-append}
use Rattle.srm_names.specs.declared.page.Page.{Page}
use Rattle.srm_names.specs.declared.drawop.Drawop.{Drawop}
use Rattle.srm_names.specs.FullName.{FullName}
use Rattle.srm_names.specs.Histories.{steps}
use Rattle.srm_names.specs.Names.{named, same_stream, same_page, stream_on}
use Rattle.srm_names.proofs.Lists.{Has, Has-append, Has-back, Has-kept, Has-slice_get, filter_same_on, slice_get-snoc}
use Rattle.srm_names.proofs.Snoc.{along}
use Rattle.srm_names.proofs.Same.{same_page-is, same_page-itself}
use Rattle.srm_entries.specs.Configs.{Config}
use Rattle.srm_entries.specs.declared.entry.Entry.{Entry}
use Rattle.srm_entries.specs.Entries.{accepted, drawn, drawn_on, evidence_in, known}
use Rattle.srm_entries.specs.Verdicts.{drawn_in}
use Rattle.srm_entries.specs.Runs.{EntryRight}
use Rattle.srm_entries.proofs.Adding.{known-snoc}
use Rattle.srm_entries.proofs.Showing.{made_by, IsDrawing, kind, known_has, shown-snoc, drawn-snoc, shown_drawing}

-- what a member drew, by page
pub record DrawsRight (c : Config) (es : List Entry) : Type 0 where
  pub own : (d : Drawop) → Has d (drawn es) → d.name.stream.source ≡ c.me
  pub placed : (page : Page) (i : ℕ) (d : Drawop) → slice_get (drawn_on page es) i ≡ Some d → d.name ≡ named (stream_on c.me page) (i + 1)
  pub shown : (page : Page) → length (drawn_on page es) ≤ known es (stream_on c.me page)

counted : (c : Config) (es : List Entry) (page : Page) → ((d : Drawop) → Has d (drawn es) → d.name.stream.source ≡ c.me) → drawn_in es (stream_on c.me page) ≡ length (drawn_on page es)
counted c es page own = ap length (filter_same_on (λ (d : Drawop). same_stream (stream_on c.me page) d.name.stream) (λ (d : Drawop). same_page page d.name.stream.page) (drawn es)
    (λ d h. sym (ap (λ b. b && same_page page d.name.stream.page) (eq-eqb c.me d.name.stream.source (sym (own d h))))))

same_drawn : (c : Config) (es : List Entry) (e : Entry) → e.effects.drawn ≡ None → DrawsRight c es → DrawsRight c (es ++ e ∷ [])
same_drawn c es e none right =
    let same : drawn (es ++ e ∷ []) ≡ drawn es = drawn-snoc es e ∙ ap (λ o. drawn es ++ option_to_list o) none ∙ append-nil (drawn es) in
    record {
      own = λ d h. right.own d (subst (λ w. Has d w) same h);
      placed = λ page i d h. right.placed page i d (subst (λ w. slice_get (filter (λ (x : Drawop). same_page page x.name.stream.page) w) i ≡ Some d) same h);
      shown = λ page.
          let k : length (drawn_on page (es ++ e ∷ [])) ≡ length (drawn_on page es) = ap (λ w. length (filter (λ (x : Drawop). same_page page x.name.stream.page) w)) same in
          let l : length (drawn_on page es) ≤ known es (stream_on c.me page) = right.shown page in
          let m = known-snoc es e (stream_on c.me page) in omega arith;
    }

-- one more drawop on its page
drawn_on-snoc : (page : Page) (es : List Entry) (e : Entry) (x : Drawop) (b : Bool) → e.effects.drawn ≡ Some x → same_page page x.name.stream.page ≡ b → drawn_on page (es ++ e ∷ []) ≡ drawn_on page es ++ cond b (x ∷ []) []
drawn_on-snoc page es e x b k f =
    ap (filter (λ (d : Drawop). same_page page d.name.stream.page)) (drawn-snoc es e ∙ ap (λ o. drawn es ++ option_to_list o) k)
    ∙ filter-append (λ (d : Drawop). same_page page d.name.stream.page) (drawn es) (x ∷ [])
    ∙ ap (λ w. drawn_on page es ++ cond w (x ∷ []) []) f

one_more : (c : Config) (es : List Entry) (e : Entry) → IsDrawing c es e → DrawsRight c es → DrawsRight c (es ++ e ∷ [])
one_more c es e drew right = record { own = own; placed = λ page i d h. placed page i d (same_page page drew.0) refl h; shown = λ page. shown page (same_page page drew.0) refl }
  where
    x : Drawop
    x = made_by c es e.moment drew.0 drew.1

    own : (d : Drawop) → Has d (drawn (es ++ e ∷ [])) → d.name.stream.source ≡ c.me
    own d h = elim (Has-append d (drawn es) (x ∷ []) (subst (λ w. Has d w) (drawn-snoc es e ∙ ap (λ o. drawn es ++ option_to_list o) drew.3) h)) [
      | inl l ↦ right.own d l
      | inr r ↦ elim r [ inl q ↦ ap (λ (y : Drawop). y.name.stream.source) q | inr q ↦ absurd q ]
    ]

    at_end : (page : Page) (i : ℕ) (d : Drawop) → page ≡ drew.0 → (slice_get (drawn_on page es) i ≡ Some d) ⊎ ((i ≡ length (drawn_on page es)) × (x ≡ d)) → d.name ≡ named (stream_on c.me page) (i + 1)
    at_end page i d p (inl k) = right.placed page i d k
    at_end page i d p (inr (k, q)) =
        ap (λ (y : Drawop). y.name) (sym q) ∙ ap (λ w. named (stream_on c.me w) (drawn_in es (stream_on c.me w) + 1)) (sym p)
        ∙ ap (λ n. named (stream_on c.me page) (n + 1)) (counted c es page right.own ∙ sym k)

    placed : (page : Page) (i : ℕ) (d : Drawop) (b : Bool) → same_page page drew.0 ≡ b → slice_get (drawn_on page (es ++ e ∷ [])) i ≡ Some d → d.name ≡ named (stream_on c.me page) (i + 1)
    placed page i d true f h = at_end page i d (same_page-is page drew.0 f) (slice_get-snoc (drawn_on page es) x i d (subst (λ w. slice_get w i ≡ Some d) (drawn_on-snoc page es e x true drew.3 f) h))
    placed page i d false f h = right.placed page i d (subst (λ w. slice_get w i ≡ Some d) (drawn_on-snoc page es e x false drew.3 f ∙ append-nil (drawn_on page es)) h)

    there : Has x.name (evidence_in (es ++ e ∷ []))
    there = subst (λ w. Has x.name w) (sym (shown-snoc es e ∙ ap (λ w. evidence_in es ++ w) (shown_drawing c es e drew))) (Has-back x.name (evidence_in es) (x.name ∷ []) (inl refl))

    shown : (page : Page) (b : Bool) → same_page page drew.0 ≡ b → length (drawn_on page (es ++ e ∷ [])) ≤ known (es ++ e ∷ []) (stream_on c.me page)
    shown page true f =
        let p : drew.0 ≡ page = sym (same_page-is page drew.0 f) in
        let k : x.name.number ≤ known (es ++ e ∷ []) (stream_on c.me page) = subst (λ w. x.name.number ≤ known (es ++ e ∷ []) (stream_on c.me w)) p (known_has (es ++ e ∷ []) x.name there) in
        let m : x.name.number ≡ length (drawn_on page es) + 1 = ap (λ w. drawn_in es (stream_on c.me w) + 1) p ∙ ap (λ n. n + 1) (counted c es page right.own) in
        let n : length (drawn_on page (es ++ e ∷ [])) ≡ length (drawn_on page es) + 1 = ap length (drawn_on-snoc page es e x true drew.3 f) ∙ length-append (drawn_on page es) (x ∷ []) in
        omega arith
    shown page false f =
        let k : length (drawn_on page (es ++ e ∷ [])) ≡ length (drawn_on page es) = ap length (drawn_on-snoc page es e x false drew.3 f ∙ append-nil (drawn_on page es)) in
        let l : length (drawn_on page es) ≤ known es (stream_on c.me page) = right.shown page in
        let m = known-snoc es e (stream_on c.me page) in omega arith

step : (c : Config) (made : ℕ) (es : List Entry) (e : Entry) → DrawsRight c es → EntryRight c made (record { before = es; this = e }) → DrawsRight c (es ++ e ∷ [])
step c made es e before right = elim (kind c made es e right) [
  | inl drew ↦ one_more c es e drew before
  | inr k ↦ elim k [ inl accepted ↦ same_drawn c es e accepted.2 before | inr quiet ↦ same_drawn c es e quiet.1 before ]
]

pub draws_right : (c : Config) (made : ℕ) (es : List Entry) → AllByRecursion (EntryRight c made) (steps es) → DrawsRight c es
draws_right c made es all = along (EntryRight c made) (DrawsRight c) (λ before e p right. step c made before e p right) [] es
    (record { own = λ d h. absurd h; placed = λ page i d h. absurd (none-some d h); shown = λ page. omega arith }) all

-- what was drawn stands on its page at the place of its number
pub drawn_at : (c : Config) (made : ℕ) (es : List Entry) (d : Drawop) (k : ℕ) → AllByRecursion (EntryRight c made) (steps es) → Has d (drawn es) → d.name.number ≡ k + 1 → slice_get (drawn_on d.name.stream.page es) k ≡ Some d
drawn_at c made es d k all h e =
    let (i, at) = Has-slice_get d (drawn_on d.name.stream.page es) (Has-kept (λ (x : Drawop). same_page d.name.stream.page x.name.stream.page) d (drawn es) (same_page-itself d.name.stream.page) h) in
    let n : d.name.number ≡ i + 1 = ap (λ (n : FullName). n.number) ((draws_right c made es all).placed d.name.stream.page i d at) in
    subst (λ j. slice_get (drawn_on d.name.stream.page es) j ≡ Some d) (omega arith) at

-- no two drawops that were drawn have one name
pub drawn_once : (c : Config) (made : ℕ) (es : List Entry) (d x : Drawop) → AllByRecursion (EntryRight c made) (steps es) → Has d (drawn es) → Has x (drawn es) → d.name ≡ x.name → d ≡ x
drawn_once c made es d x all h k same =
    let (i, at) = Has-slice_get d (drawn_on d.name.stream.page es) (Has-kept (λ (y : Drawop). same_page d.name.stream.page y.name.stream.page) d (drawn es) (same_page-itself d.name.stream.page) h) in
    let n : d.name.number ≡ i + 1 = ap (λ (m : FullName). m.number) ((draws_right c made es all).placed d.name.stream.page i d at) in
    let there : slice_get (drawn_on x.name.stream.page es) i ≡ Some x = drawn_at c made es x i all k (ap (λ (m : FullName). m.number) (sym same) ∙ n) in
    same_Some d x (sym at ∙ subst (λ (m : FullName). slice_get (drawn_on m.stream.page es) i ≡ Some x) (sym same) there)
