-- What the name of a command says of a page.
use Rattle.std.proofs.Common.{◌≡◌, ℕ, ◌<◌, ◌≤◌, Bool, true, false, List, [], ◌∷◌, length, take, drop, refl, ap, arith}
use Rattle.std.specs.Prelude.{◌&&◌, Option, Some, None, nat_lt, bytes_eq, codes, option_map, if◌then◌else◌}
use Rattle.std.proofs.lemmas.Bool.{ltb-true, lt-ltb}
use Rattle.std.proofs.lemmas.Bool.Decides.{nat_tests}
use Rattle.std.proofs.lemmas.List.{length-take}
use Rattle.std.proofs.lemmas.Slice.Eq.{bytes_eq-Decides}
use Rattle.srm_names.specs.declared.limits.TheConstants.{MEMBERS, PAGE_NUMBERS}
use Rattle.srm_names.specs.declared.page.Page.{Page}
use Rattle.srm_live.specs.declared.command.Command.TheVariants.{Show}
use Rattle.srm_live.specs.Commands.{goes_on, number_behind, page_of, page_of_some, page_with, page_in, shown_in}

-- a name of fewer bytes than come before a page shows none
pub short_name : (name : List ℕ) → length name < 5 → shown_in name ≡ None
short_name name few = go (bytes_eq (take 5 name) (codes "page ")) refl
  where
    go : (b : Bool) → bytes_eq (take 5 name) (codes "page ") ≡ b → (if b then option_map Show (page_in (drop 5 name)) else None) ≡ None
    go true is =
        let five : length (take 5 name) ≡ 5 = ap length ((bytes_eq-Decides (take 5 name) (codes "page ")).0 is) in
        absurd (omega (arith, five, length-take 5 name))
    go false is = refl

-- what a digit is that goes on with a number, and how great the number
pub goes_on_tells : (so_far c : ℕ) → goes_on so_far c ≡ true → (48 ≤ c) × (c ≤ 57) × (so_far < 10000)
goes_on_tells so_far c is = grind (arith, nat_tests)

-- behind the dot stands a digit at least
pub page_with_some : (creator : ℕ) (text : List ℕ) → 0 < length text → page_with creator text ≡ page_of_some creator (number_behind 0 text)
page_with_some creator [] some = absurd (omega arith)
page_with_some creator (c ∷ cs) some = refl

abbrev named : ℕ → ℕ → Option Page
named creator number = Some (record { creator = creator; number = number })

-- of a member or a number that there can't be there is no page
pub no_member : (creator number : ℕ) → MEMBERS ≤ creator → page_of creator number ≡ None
no_member creator number many = go (nat_lt creator MEMBERS) refl
  where
    go : (b : Bool) → nat_lt creator MEMBERS ≡ b → (if b && nat_lt number PAGE_NUMBERS then named creator number else None) ≡ None
    go true is = absurd (omega (arith, ltb-true creator MEMBERS is))
    go false is = refl

pub no_number : (creator number : ℕ) → PAGE_NUMBERS ≤ number → page_of creator number ≡ None
no_number creator number great = go (nat_lt creator MEMBERS) (nat_lt number PAGE_NUMBERS) refl
  where
    go : (a b : Bool) → nat_lt number PAGE_NUMBERS ≡ b → (if a && b then named creator number else None) ≡ None
    go true true is = absurd (omega (arith, ltb-true number PAGE_NUMBERS is))
    go true false is = refl
    go false b is = refl

pub page_is : (creator number : ℕ) → creator < MEMBERS → number < PAGE_NUMBERS → page_of creator number ≡ Some (record { creator = creator; number = number })
page_is creator number few small = go (nat_lt creator MEMBERS) (nat_lt number PAGE_NUMBERS) (lt-ltb creator MEMBERS few) (lt-ltb number PAGE_NUMBERS small)
  where
    go : (a b : Bool) → a ≡ true → b ≡ true → (if a && b then named creator number else None) ≡ named creator number
    go true true _ _ = refl
    go true false p q = cc
    go false b p q = cc
