-- Where a page goes by its place.
use Rattle.std.proofs.Common.{◌≡◌, ℕ, List, ap, sym, ◌∙◌}
use Rattle.std.specs.Prelude.{Option, Some, None, remove}
use Rattle.srm_names.specs.declared.page.Page.{Page}
use Rattle.srm_rota.specs.Rota.{added_at, front_at, behind_at, with_first, with_last}

pub adds : (o : Option ℕ) (page : Page) (pages : List Page) → o ≡ None → with_last page pages ≡ added_at o page pages
adds o page pages is = sym (ap (λ x. added_at x page pages) is)

pub keeps : (o : Option ℕ) (place : ℕ) (page : Page) (pages : List Page) → o ≡ Some place → pages ≡ added_at o page pages
keeps o place page pages is = sym (ap (λ x. added_at x page pages) is)

pub comes_first : (o : Option ℕ) (page : Page) (pages : List Page) → o ≡ None → with_first page pages ≡ front_at o page pages
comes_first o page pages is = sym (ap (λ x. front_at x page pages) is)

pub goes_first : (o : Option ℕ) (place : ℕ) (page : Page) (pages less : List Page) → o ≡ Some place → less ≡ remove pages place → with_first page less ≡ front_at o page pages
goes_first o place page pages less is gone = ap (with_first page) gone ∙ sym (ap (λ x. front_at x page pages) is)

pub goes_last : (o : Option ℕ) (place : ℕ) (page : Page) (pages less : List Page) → o ≡ Some place → less ≡ remove pages place → with_last page less ≡ behind_at o page pages
goes_last o place page pages less is gone = ap (with_last page) gone ∙ sym (ap (λ x. behind_at x page pages) is)

pub stays : (o : Option ℕ) (page : Page) (pages : List Page) → o ≡ None → pages ≡ behind_at o page pages
stays o page pages is = sym (ap (λ x. behind_at x page pages) is)
