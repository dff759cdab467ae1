-- Pages, streams and names: when two are the same, and which is before which.
use Rattle.std.specs.Prelude.{◌≡◌, ℕ, ◌==◌, Bool, true, ◌&&◌, ◌||◌, nat_lt, List, [], ◌∷◌, map}
use Rattle.std.specs.List.{list_any}
use Rattle.srm_names.specs.declared.page.Page.{Page}
use Rattle.srm_names.specs.declared.stream.Stream.{Stream}
use Rattle.srm_names.specs.declared.echo.Echo.{Echo}
use Rattle.srm_names.specs.FullName.{FullName}
use Rattle.srm_names.specs.Histories.{count_up}

-- the page that each agent has from the start
abbrev pub first_page : Page
first_page = record { creator = 0; number = 0 }

abbrev pub same_page : Page → Page → Bool
same_page a b = (a.creator == b.creator) && (a.number == b.number)

abbrev pub same_stream : Stream → Stream → Bool
same_stream a b = (a.source == b.source) && same_page a.page b.page

abbrev pub same_name : FullName → FullName → Bool
same_name a b = same_stream a.stream b.stream && (a.number == b.number)

abbrev pub page_below : Page → Page → Bool
page_below a b = nat_lt a.creator b.creator || (a.creator == b.creator) && nat_lt a.number b.number

abbrev pub stream_below : Stream → Stream → Bool
stream_below a b = nat_lt a.source b.source || (a.source == b.source) && page_below a.page b.page

-- the order of names: by source, page creator, page number, number
abbrev pub name_below : FullName → FullName → Bool
name_below a b = stream_below a.stream b.stream || same_stream a.stream b.stream && nat_lt a.number b.number

-- the order of echoes: by member
abbrev pub echo_below : Echo → Echo → Bool
echo_below a b = nat_lt a.member b.member

-- each is below the next
abbrev pub ascending : {X : Type 0} → (X → X → Bool) → List X → Bool
ascending below [] = true
ascending below (x ∷ []) = true
ascending below (x ∷ y ∷ xs) = below x y && ascending below (y ∷ xs)

abbrev pub among : List FullName → FullName → Bool
among names n = list_any (same_name n) names

-- the names are those that pass the test, each once, in order of name
pub record AreExactly (test : FullName → Bool) (names : List FullName) : Type 0 where
  pub in_order : ascending name_below names ≡ true
  pub exact : (n : FullName) → among names n ≡ test n

abbrev pub named : Stream → ℕ → FullName
named s k = record { stream = s; number = k }

abbrev pub stream_on : ℕ → Page → Stream
stream_on source page = record { source = source; page = page }

-- the names of a stream from number 1 to this one
abbrev pub names_up_to : Stream → ℕ → List FullName
names_up_to s known = map (named s) (count_up 1 known)
