-- Whose address an origin is.
use Rattle.std.proofs.Common.{◌≡◌, ◌<◌, ◌≤◌, ℕ, zero, suc, List, [], ◌∷◌, length, get_or, refl, ap, subst, sym, ◌∙◌, inl, inr}
use Rattle.std.proofs.lemmas.Option.{slice_get_read, slice_get_past}
use Rattle.std.specs.Prelude.{Option, Some, None, slice_get, Bool, false, IsTrue, ◌↔◌}
use Rattle.std.specs.declared.net.socket_addr.SocketAddr.{SocketAddr}
use Rattle.srm_udp.specs.Inboxes.{SamePlace, IsAddressOf, IsFromMember, IsOfRoster, named_sender}

-- one option has one value
one : (x y : SocketAddr) (o : Option SocketAddr) → o ≡ Some x → o ≡ Some y → x ≡ y
one x y o e f = cc

-- a member's address is of the roster
of_roster : (roster : List SocketAddr) (sender : ℕ) (address origin : SocketAddr) → slice_get roster sender ≡ Some address → SamePlace address origin → IsOfRoster roster origin
of_roster [] sender address origin at same = absurd (cc at)
of_roster (first ∷ more) zero address origin at same = inl (subst (λ (a : SocketAddr). SamePlace a origin) (one address first (slice_get (first ∷ more) zero) at refl) same)
of_roster (first ∷ more) (suc sender) address origin at same = inr (of_roster more sender address origin at same)

-- bytes that name a sender come from its address, if it has one
pub sender_is_at : (roster : List SocketAddr) (bytes : List ℕ) (sender place : ℕ) (address origin : SocketAddr) (b : Bool) → named_sender bytes ≡ Some sender → place ≡ sender → place < length roster → address ≡ get_or roster place address → (IsTrue b ↔ SamePlace address origin)
    → IsTrue b ↔ IsFromMember roster origin bytes
sender_is_at roster bytes sender place address origin b names is within there same = (
  λ yes. (of_roster roster place address origin at (same.0 yes), subst (λ s. IsAddressOf roster s origin) (sym (names ∙ ap Some (sym is))) (address, at, same.0 yes)),
  λ from. same.1 (home (subst (λ s. IsAddressOf roster s origin) (names ∙ ap Some (sym is)) from.1)),
)
  where
    at : slice_get roster place ≡ Some address
    at = slice_get_read roster (length roster) place address refl within there

    home : IsAddressOf roster (Some place) origin → SamePlace address origin
    home (other, here, known) = subst (λ (a : SocketAddr). SamePlace a origin) (one other address (slice_get roster place) here at) known

pub sender_has_none : (roster : List SocketAddr) (bytes : List ℕ) (sender place : ℕ) (origin : SocketAddr) → named_sender bytes ≡ Some sender → place ≡ sender → length roster ≤ place → IsTrue false ↔ IsFromMember roster origin bytes
sender_has_none roster bytes sender place origin names is past = (λ yes. absurd (cc yes), λ from. absurd (nowhere (subst (λ s. IsAddressOf roster s origin) (names ∙ ap Some (sym is)) from.1)))
  where
    none : slice_get roster place ≡ None
    none = slice_get_past roster place past

    apart : (o : Option SocketAddr) (x : SocketAddr) → o ≡ None → o ≡ Some x → ⊥
    apart o x e f = cc

    nowhere : IsAddressOf roster (Some place) origin → ⊥
    nowhere (address, here, same) = apart (slice_get roster place) address none here

-- bytes that name none come from a member's address if the origin is one
pub unnamed : (roster : List SocketAddr) (bytes : List ℕ) (origin : SocketAddr) → named_sender bytes ≡ None → IsOfRoster roster origin → IsFromMember roster origin bytes
unnamed roster bytes origin none known = (known, subst (λ s. IsAddressOf roster s origin) (sym none) tt)
