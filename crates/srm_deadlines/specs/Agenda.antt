-- Moments in order.
use Rattle.std.specs.Prelude.{◌≡◌, ℕ, ◌≤◌, Bool, true, List, [], ◌∷◌, filter, find, length, Option, Some, None}
use Rattle.std.specs.List.{list_any}
use Rattle.std.specs.declared.cmp.Ordering.{Ordering}
use Rattle.std.specs.Ordering.{ordering_then, nat_cmp}
use Rattle.srm_names.specs.declared.page.Page.{Page}
use Rattle.srm_names.specs.declared.stream.Stream.{Stream}
use Rattle.srm_names.specs.FullName.{FullName}
use Rattle.srm_names.specs.Names.{among}
use Rattle.srm_names.specs.Moments.{has_come}
use Rattle.srm_deadlines.specs.declared.by_name.NamedValue.{NamedValue}
use Rattle.srm_deadlines.specs.declared.timed.Timed.{Timed}
use Rattle.srm_deadlines.specs.Places.{is_timed, value_at}

abbrev pub page_order : Page → Page → Ordering
page_order a b = ordering_then (nat_cmp a.creator b.creator) (nat_cmp a.number b.number)

abbrev pub stream_order : Stream → Stream → Ordering
stream_order a b = ordering_then (nat_cmp a.source b.source) (page_order a.page b.page)

abbrev pub name_order : FullName → FullName → Ordering
name_order a b = ordering_then (stream_order a.stream b.stream) (nat_cmp a.number b.number)

-- the order of names with moments: by the moment and then by the name
abbrev pub timed_order : Timed → Timed → Ordering
timed_order a b = ordering_then (nat_cmp a.moment b.moment) (name_order a.name b.name)

-- names with moments in memory, and for how many there is room
pub record Agenda : Type 0 where
  pub pairs : List Timed
  pub capacity : ℕ

-- what stands there of a name
abbrev pub of_name : FullName → List Timed → List Timed
of_name n pairs = filter (is_timed n) pairs

abbrev pub timed_for : FullName → Option ℕ → List Timed
timed_for n None = []
timed_for n (Some moment) = record { moment = moment; name = n } ∷ []

-- what a list has of a name, and else what stood there before
abbrev pub timed_or : Option Timed → List Timed → List Timed
timed_or (Some t) before = t ∷ []
timed_or None before = before

abbrev pub timed_among : List Timed → FullName → List Timed → List Timed
timed_among moments n before = timed_or (find (is_timed n) moments) before

abbrev pub is_due : ℕ → Timed → Bool
is_due now t = has_come now (Some t.moment)

-- what is due there are at most so many names
pub record PairsHaveRoom (now : ℕ) (pairs : List Timed) (room : ℕ) : Type 0 where
  pub names : List FullName
  pub due : (n : FullName) → list_any (is_due now) (of_name n pairs) ≡ true → among names n ≡ true
  pub few : length names ≤ room

-- each name stands there with its moment, and there is room for one of each place
pub record AgendaFits (a : Agenda) (places : List (NamedValue ℕ)) : Type 0 where
  pub each : (n : FullName) → of_name n a.pairs ≡ timed_for n (value_at places n)
  pub room : length places ≤ a.capacity
