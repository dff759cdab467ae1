-- What is the same by its test is equal.
use Rattle.std.proofs.Common.{◌≡◌, ℕ, ◌==◌, Bool, true, false, not, List, [], ◌∷◌, refl, ap, sym, ◌∙◌, inl, inr, eq-eqb}
use Rattle.std.proofs.lemmas.Bool.{eqb-true, and_parts, and_from, not_from_false}
use Rattle.srm_names.specs.declared.page.Page.{Page}
use Rattle.srm_names.specs.declared.stream.Stream.{Stream}
use Rattle.srm_names.specs.FullName.{FullName}
use Rattle.srm_names.specs.Histories.{firsts}
use Rattle.srm_names.specs.Names.{same_page, same_stream, same_name}
use Rattle.srm_names.proofs.Lists.{Has, Has-kept}

page_parts : (a b : Page) → a.creator ≡ b.creator → a.number ≡ b.number → a ≡ b
page_parts a b e f = ap (λ (c : ℕ). record { creator = c; number = a.number }) e ∙ ap (λ (n : ℕ). record { creator = b.creator; number = n }) f

pub stream_parts : (a b : Stream) → a.source ≡ b.source → a.page ≡ b.page → a ≡ b
stream_parts a b e f = ap (λ (c : ℕ). record { source = c; page = a.page }) e ∙ ap (λ (n : Page). record { source = b.source; page = n }) f

pub name_parts : (a b : FullName) → a.stream ≡ b.stream → a.number ≡ b.number → a ≡ b
name_parts a b e f = ap (λ (c : Stream). record { stream = c; number = a.number }) e ∙ ap (λ (n : ℕ). record { stream = b.stream; number = n }) f

pub same_page-is : (a b : Page) → same_page a b ≡ true → a ≡ b
same_page-is a b e = let k = and_parts (a.creator == b.creator) (a.number == b.number) e in page_parts a b (eqb-true _ _ k.0) (eqb-true _ _ k.1)

pub same_stream-is : (a b : Stream) → same_stream a b ≡ true → a ≡ b
same_stream-is a b e = let k = and_parts (a.source == b.source) (same_page a.page b.page) e in stream_parts a b (eqb-true _ _ k.0) (same_page-is a.page b.page k.1)

pub same_name-is : (a b : FullName) → same_name a b ≡ true → a ≡ b
same_name-is a b e = let k = and_parts (same_stream a.stream b.stream) (a.number == b.number) e in name_parts a b (same_stream-is a.stream b.stream k.0) (eqb-true _ _ k.1)

pub same_page-itself : (a : Page) → same_page a a ≡ true
same_page-itself a = and_from _ _ (eq-eqb a.creator a.creator refl) (eq-eqb a.number a.number refl)

pub same_stream-itself : (a : Stream) → same_stream a a ≡ true
same_stream-itself a = and_from _ _ (eq-eqb a.source a.source refl) (same_page-itself a.page)

pub same_name-itself : (a : FullName) → same_name a a ≡ true
same_name-itself a = and_from _ _ (same_stream-itself a.stream) (eq-eqb a.number a.number refl)

-- each page stands among the first ones
pub Has-firsts : (p : Page) (pages : List Page) → Has p pages → Has p (firsts same_page pages)
Has-firsts p [] h = absurd h
Has-firsts p (q ∷ pages) (inl e) = inl e
Has-firsts p (q ∷ pages) (inr h) = either (same_page q p) refl (Has-firsts p pages h)
  where
    either : (b : Bool) → same_page q p ≡ b → Has p (firsts same_page pages) → Has p (firsts same_page (q ∷ pages))
    either true e k = inl (sym (same_page-is q p e))
    either false e k = inr (Has-kept (λ y. not (same_page q y)) p (firsts same_page pages) (not_from_false _ e) k)
