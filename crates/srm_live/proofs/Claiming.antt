-- What session messages say of a member's streams, row by row.
use Rattle.std.proofs.Common.{◌≡◌, ℕ, ◌+◌, ◌<◌, ◌≤◌, ◌==◌, List, [], ◌∷◌, ◌++◌, length, get_or, take, ap, sym, ◌∙◌, append_assoc}
use Rattle.std.proofs.lemmas.List.{append-nil, take_more, take_all}
use Rattle.std.proofs.lemmas.List.Elements.{filter-append}
use Rattle.srm_names.specs.FullName.{FullName}
use Rattle.srm_live.specs.Claims.{own_rows}

pub notes_none : (me : ℕ) (rows old : List FullName) → old ≡ old ++ own_rows me (take 0 rows)
notes_none me rows old = sym (append-nil old)

pub notes_more : (me : ℕ) (rows : List FullName) (i : ℕ) (row : FullName) (old before after : List FullName) → i < length rows → row ≡ get_or rows i row → before ≡ old ++ own_rows me (take i rows) → after ≡ before ++ own_rows me (row ∷ []) → after ≡ old ++ own_rows me (take (i + 1) rows)
notes_more me rows i row old before after below at so_far one =
    one
    ∙ ap (λ (noted : List FullName). noted ++ own_rows me (row ∷ [])) so_far
    ∙ append_assoc old (own_rows me (take i rows)) (own_rows me (row ∷ []))
    ∙ ap (λ (more : List FullName). old ++ more) (sym (filter-append (λ (r : FullName). r.stream.source == me) (take i rows) (row ∷ [])))
    ∙ ap (λ (done : List FullName). old ++ own_rows me done) (sym (take_more rows i row below ∙ ap (λ (r : FullName). take i rows ++ r ∷ []) (sym at)))

pub notes_all : (me : ℕ) (rows : List FullName) (i : ℕ) (old now : List FullName) → length rows ≤ i → now ≡ old ++ own_rows me (take i rows) → now ≡ old ++ own_rows me rows
notes_all me rows i old now all so_far = so_far ∙ ap (λ (done : List FullName). old ++ own_rows me done) (take_all i rows all)
