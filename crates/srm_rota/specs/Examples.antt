-- The order of pages at worked examples.
use Rattle.std.specs.Prelude.{◌≡◌, ℕ, List, [], ◌∷◌, Some, None, refl}
use Rattle.srm_names.specs.declared.page.Page.{Page}
use Rattle.srm_rota.specs.Rota.{first_of, added, in_front, behind}

abbrev page : ℕ → Page
page number = record { creator = 0; number = number }

abbrev three : List Page
three = page 0 ∷ page 1 ∷ page 2 ∷ []

-- each in its turn: a session message of the one in front sends it behind
turns : behind (page 0) three ≡ page 1 ∷ page 2 ∷ page 0 ∷ []
turns = refl

first_again : first_of (behind (page 2) (behind (page 1) (behind (page 0) three))) ≡ Some (page 0)
first_again = refl

-- a session message of another page changes that page's turn alone
tells_another : behind (page 1) three ≡ page 0 ∷ page 2 ∷ page 1 ∷ []
tells_another = refl

tells_a_stranger : behind (page 7) three ≡ three
tells_a_stranger = refl

-- a new one comes last, and one that is there stays
adds : added (page 3) three ≡ page 0 ∷ page 1 ∷ page 2 ∷ page 3 ∷ []
adds = refl

stays : added (page 1) three ≡ three
stays = refl

-- the one that was used last goes first, and then takes its turn as the others
used_last : in_front (page 2) three ≡ page 2 ∷ page 0 ∷ page 1 ∷ []
used_last = refl

then_the_others : behind (page 2) (in_front (page 2) three) ≡ three
then_the_others = refl

used_anew : in_front (page 3) three ≡ page 3 ∷ page 0 ∷ page 1 ∷ page 2 ∷ []
used_anew = refl

-- a ninth isn't added
abbrev eight : List Page
eight = page 0 ∷ page 1 ∷ page 2 ∷ page 3 ∷ page 4 ∷ page 5 ∷ page 6 ∷ page 7 ∷ []

no_ninth : added (page 8) eight ≡ eight
no_ninth = refl

no_ninth_in_front : in_front (page 8) eight ≡ eight
no_ninth_in_front = refl

no_pages : first_of [] ≡ None
no_pages = refl
