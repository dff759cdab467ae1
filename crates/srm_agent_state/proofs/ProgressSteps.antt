-- The progress of a slot with one more message.
use Rattle.std.proofs.Common.{◌≡◌, ℕ, ◌+◌, ◌<◌, ◌==◌, Bool, true, false, not, ◌&&◌, ◌||◌, List, [], ◌∷◌, ◌++◌, length, ap, sym, ◌∙◌, subst, refl, inl, inr, ◌⊎◌, length-append, add-zero}
use Rattle.std.specs.Prelude.{Option, Some, None, is_some, if◌then◌else◌, slice_index, slice_index_or, slice_set}
use Rattle.std.specs.List.{list_any, cons_option}
use Rattle.std.proofs.Math.Bool.{or-false, or-true}
use Rattle.std.proofs.lemmas.Bool.{eqb-true, eq-eqb, ne_eqb, cases_eq}
use Rattle.std.proofs.lemmas.List.{get_or-set_same, get_or-set_other}
use Rattle.std.proofs.lemmas.List.Elements.{filter_map-append}
use Rattle.srm_names.specs.declared.limits.TheConstants.{MEMBERS}
use Rattle.srm_names.specs.declared.page.Page.{Page}
use Rattle.srm_names.specs.declared.drawop.Drawop.{Drawop}
use Rattle.srm_names.specs.declared.page_msg.PageMsg.{PageMsg}
use Rattle.srm_names.specs.declared.page_msg.PageMsg.TheVariants.{Open, Draw, Left, Close}
use Rattle.srm_names.specs.Histories.{or_else}
use Rattle.srm_names.specs.PageFeeds.{drawops_of, drawop_from, leaves, is_close, opened, page_opened, continues, is_open_at}
use Rattle.srm_names.proofs.Snoc.{first_of-snoc, list_any-snoc}
use Rattle.srm_agent_state.specs.Progress.{ProgressContent, ProgressFits}

count-snoc : (s : ℕ) (g : List PageMsg) (m : PageMsg) → length (drawops_of s (g ++ m ∷ [])) ≡ length (drawops_of s g) + length (cons_option (drawop_from s m) [])
count-snoc s g m = ap length (filter_map-append (drawop_from s) g (m ∷ [])) ∙ length-append (drawops_of s g) (cons_option (drawop_from s m) [])

some_else : (o : Option Page) (p : Page) → true ≡ is_some (or_else o (Some p))
some_else None p = refl
some_else (Some x) p = refl

still_open : (o : Option Page) → is_some o ≡ is_some (or_else o None)
still_open None = refl
still_open (Some x) = refl

pub opens : (g : List PageMsg) (p : Page) (f : ProgressContent) → ProgressFits g f → ProgressFits (g ++ Open p ∷ []) (record f { opened = true })
opens g p f h = record {
  opened = some_else (opened g) p ∙ ap is_some (sym (first_of-snoc page_opened g (Open p)));
  closed = h.closed ∙ sym (or-false (list_any is_close g)) ∙ sym (list_any-snoc is_close g (Open p));
  begun = λ e. absurd (cc);
  numbers = λ s b. h.numbers s b ∙ sym (add-zero (length (drawops_of s g))) ∙ sym (count-snoc s g (Open p));
  left = λ s b. h.left s b ∙ sym (or-false (list_any (leaves s) g)) ∙ sym (list_any-snoc (leaves s) g (Open p));
}

pub closes : (g : List PageMsg) (f : ProgressContent) → ProgressFits g f → ProgressFits (g ++ Close ∷ []) (record f { closed = true })
closes g f h = record {
  opened = h.opened ∙ still_open (opened g) ∙ ap is_some (sym (first_of-snoc page_opened g Close));
  closed = sym (or-true (list_any is_close g)) ∙ sym (list_any-snoc is_close g Close);
  begun = λ e k. absurd (cc);
  numbers = λ s b. h.numbers s b ∙ sym (add-zero (length (drawops_of s g))) ∙ sym (count-snoc s g Close);
  left = λ s b. h.left s b ∙ sym (or-false (list_any (leaves s) g)) ∙ sym (list_any-snoc (leaves s) g Close);
}

-- a drawop and a leaving come in an opened page feed alone
open_there : (o : Option Page) (p : Page) → is_open_at o p ≡ true → is_some o ≡ true
open_there None p e = absurd (cc)
open_there (Some x) p e = refl

not_begun : {X : Type 0} (a b : Bool) → a ≡ b → b ≡ true → a ≡ false → X
not_begun a b e t f = absurd (cc)

pub draws : (g : List PageMsg) (d : Drawop) (f : ProgressContent) (source number : ℕ) → ProgressFits g f → length f.numbers ≡ MEMBERS → source ≡ d.name.stream.source → number ≡ d.name.number
    → source < MEMBERS → continues g (Draw d) ≡ true → ProgressFits (g ++ Draw d ∷ []) (record f { numbers = slice_set f.numbers source number })
draws g d f source number h size at is below goes = record {
  opened = h.opened ∙ still_open (opened g) ∙ ap is_some (sym (first_of-snoc page_opened g (Draw d)));
  closed = h.closed ∙ sym (or-false (list_any is_close g)) ∙ sym (list_any-snoc is_close g (Draw d));
  begun = λ e k. not_begun f.opened (is_some (opened g)) h.opened (open_there (opened g) d.name.stream.page parts.0) e;
  numbers = λ s b. counted s b (cases_eq s source) ∙ sym (count-snoc s g (Draw d));
  left = λ s b. h.left s b ∙ sym (or-false (list_any (leaves s) g)) ∙ sym (list_any-snoc (leaves s) g (Draw d));
}
  where
    parts : (is_open_at (opened g) d.name.stream.page ≡ true) × ((d.name.number == length (drawops_of d.name.stream.source g) + 1) ≡ true)
    parts = four (is_open_at (opened g) d.name.stream.page) (list_any is_close g) (list_any (leaves d.name.stream.source) g) (d.name.number == length (drawops_of d.name.stream.source g) + 1) goes
      where
        four : (a b c e : Bool) → (a && not b && not c && e) ≡ true → (a ≡ true) × (e ≡ true)
        four true false false true q = (refl, refl)
        four true false false false q = absurd (cc)
        four true false true e q = absurd (cc)
        four true true c e q = absurd (cc)
        four false b c e q = absurd (cc)

    next : number ≡ length (drawops_of source g) + 1
    next = is ∙ eqb-true d.name.number (length (drawops_of d.name.stream.source g) + 1) parts.1 ∙ ap (λ s. length (drawops_of s g) + 1) (sym at)

    counted : (s : ℕ) → s < MEMBERS → (s ≡ source) ⊎ (s ≡ source → ⊥) → slice_index (slice_set f.numbers source number) s ≡ length (drawops_of s g) + length (cons_option (drawop_from s (Draw d)) [])
    counted s b (inl same) =
        ap (slice_index (slice_set f.numbers source number)) same ∙ get_or-set_same f.numbers source number 0 (subst (λ n. source < n) (sym size) below)
        ∙ next ∙ ap (λ x. length (drawops_of x g) + 1) (sym same)
        ∙ ap (λ (b : Bool). length (drawops_of s g) + length (cons_option (if b then Some d else None) [])) (sym (eq-eqb s d.name.stream.source (same ∙ at)))
    counted s b (inr other) =
        get_or-set_other f.numbers source s number 0 other ∙ h.numbers s b ∙ sym (add-zero (length (drawops_of s g)))
        ∙ ap (λ (b : Bool). length (drawops_of s g) + length (cons_option (if b then Some d else None) [])) (sym (ne_eqb s d.name.stream.source (λ e. other (e ∙ sym at))))

pub leaving : (g : List PageMsg) (source place : ℕ) (f : ProgressContent) → ProgressFits g f → length f.left ≡ MEMBERS → place ≡ source → place < MEMBERS → continues g (Left source) ≡ true
    → ProgressFits (g ++ Left source ∷ []) (record f { left = slice_set f.left place true })
leaving g source place f h size at below goes = record {
  opened = h.opened ∙ still_open (opened g) ∙ ap is_some (sym (first_of-snoc page_opened g (Left source)));
  closed = h.closed ∙ sym (or-false (list_any is_close g)) ∙ sym (list_any-snoc is_close g (Left source));
  begun = λ e k. not_begun f.opened (is_some (opened g)) h.opened (first (is_some (opened g)) (list_any is_close g) (list_any (leaves source) g) goes) e;
  numbers = λ s b. h.numbers s b ∙ sym (add-zero (length (drawops_of s g))) ∙ sym (count-snoc s g (Left source));
  left = λ s b. marked s b (cases_eq s place) ∙ sym (list_any-snoc (leaves s) g (Left source));
}
  where
    first : (a b c : Bool) → (a && not b && not c) ≡ true → a ≡ true
    first true b c e = refl
    first false b c e = absurd (cc)

    marked : (s : ℕ) → s < MEMBERS → (s ≡ place) ⊎ (s ≡ place → ⊥) → slice_index_or (slice_set f.left place true) s false ≡ list_any (leaves s) g || leaves s (Left source)
    marked s b (inl same) =
        ap (λ x. slice_index_or (slice_set f.left place true) x false) same ∙ get_or-set_same f.left place true false (subst (λ n. place < n) (sym size) below)
        ∙ sym (or-true (list_any (leaves s) g)) ∙ ap (λ b. list_any (leaves s) g || b) (sym (eq-eqb s source (same ∙ at)))
    marked s b (inr other) =
        get_or-set_other f.left place s true false other ∙ h.left s b ∙ sym (or-false (list_any (leaves s) g))
        ∙ ap (λ b. list_any (leaves s) g || b) (sym (ne_eqb s source (λ e. other (e ∙ sym at))))

-- a step at the message that was looked at
pub given_as : (m x : PageMsg) → m ≡ x → (old new : ProgressContent) → ((g : List PageMsg) → ProgressFits g old → continues g x ≡ true → ProgressFits (g ++ x ∷ []) new)
    → (g : List PageMsg) → ProgressFits g old → continues g m ≡ true → ProgressFits (g ++ m ∷ []) new
given_as m x is old new step = subst (λ w. (g : List PageMsg) → ProgressFits g old → continues g w ≡ true → ProgressFits (g ++ w ∷ []) new) (sym is) step
