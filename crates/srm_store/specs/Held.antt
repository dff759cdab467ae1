-- What is held, known, missing and released, where these drawops were inserted and there was evidence of these names.
use Rattle.std.specs.Prelude.{ℕ, ◌+◌, ◌-◌, nat_lt, nat_le, ◌==◌, Bool, not, ◌&&◌, List, [], ◌∷◌, ◌++◌, length, map, filter, find, if◌then◌else◌, Option, Some, None}
use Rattle.std.specs.List.{flat_map, list_any}
use Rattle.std.specs.Str.{bytes_eq}
use Rattle.srm_names.specs.declared.limits.TheConstants.{PAGES}
use Rattle.srm_names.specs.declared.page.Page.{Page}
use Rattle.srm_names.specs.declared.stream.Stream.{Stream}
use Rattle.srm_names.specs.declared.drawop.Drawop.{Drawop}
use Rattle.srm_names.specs.FullName.{FullName}
use Rattle.srm_names.specs.Histories.{greatest, firsts, count_up, until_none}
use Rattle.srm_names.specs.Names.{first_page, same_page, same_stream, same_name, named, names_up_to}
use Rattle.srm_store.specs.declared.insert.Insert.{Insert}
use Rattle.srm_store.specs.declared.insert.Insert.TheVariants.{Fresh, Known, Conflict}

abbrev pub has_name : FullName → Drawop → Bool
has_name n d = same_name d.name n

-- the drawop that is held under a name: the first that came
abbrev pub held_at : List Drawop → FullName → Option Drawop
held_at inserted n = find (has_name n) inserted

abbrev pub is_held : List Drawop → FullName → Bool
is_held inserted n = list_any (has_name n) inserted

abbrev pub same_drawop : Drawop → Drawop → Bool
same_drawop a b = (a.stamp == b.stamp) && bytes_eq a.body b.body

-- what an insert says, by what is held under the drawop's name
abbrev pub insert_answer : Drawop → Option Drawop → Insert
insert_answer d None = Fresh
insert_answer d (Some other) = if same_drawop d other then Known else Conflict

abbrev pub number_in : Stream → FullName → List ℕ
number_in s n = if same_stream s n.stream then n.number ∷ [] else []

-- the greatest number of the stream among names
abbrev pub greatest_in : List FullName → Stream → ℕ
greatest_in names s = greatest (flat_map (number_in s) names)

-- the greatest number of the stream that there was evidence of
abbrev pub known : List FullName → Stream → ℕ
known evidence s = greatest_in evidence s

abbrev pub is_missing : List Drawop → List FullName → FullName → Bool
is_missing inserted evidence n = nat_le 1 n.number && nat_le n.number (known evidence n.stream) && not (is_held inserted n)

abbrev pub unheld : List Drawop → List FullName → List FullName
unheld inserted names = filter (λ n. not (is_held inserted n)) names

-- the missing names of a stream, in order
abbrev pub missing : List Drawop → List FullName → Stream → List FullName
missing inserted evidence s = unheld inserted (names_up_to s (known evidence s))

-- the first missing name of a stream above a number
abbrev pub next_missing : List Drawop → List FullName → Stream → ℕ → Option FullName
next_missing inserted evidence s after = find (λ n. nat_lt after n.number) (missing inserted evidence s)

-- the names of a stream after this number, so many of them
abbrev pub names_after : Stream → ℕ → ℕ → List FullName
names_after s known count = map (named s) (count_up (known + 1) count)

-- the names that evidence of this name makes missing, in order
abbrev pub newly_missing : List Drawop → List FullName → FullName → List FullName
newly_missing inserted evidence n = unheld inserted (names_after n.stream (known evidence n.stream) (n.number - known evidence n.stream))

-- the held drawops of a stream in front of its first gap
abbrev pub released : List Drawop → Stream → List Drawop
released inserted s = until_none (map (λ k. held_at inserted (named s k)) (count_up 1 (greatest_in (map (λ (d : Drawop). d.name) inserted) s)))

abbrev pub page_of_drawop : Drawop → Page
page_of_drawop d = d.name.stream.page

abbrev pub page_of_name : FullName → Page
page_of_name n = n.stream.page

-- the pages that have been named: the first one always is
abbrev pub pages_named : List Drawop → List FullName → List Page
pages_named inserted evidence = first_page ∷ (map page_of_drawop inserted ++ map page_of_name evidence)

-- with these pages there would be more pages than a table has
abbrev pub outgrow : List Drawop → List FullName → List Page → Bool
outgrow inserted evidence pages = nat_lt PAGES (length (firsts same_page (pages_named inserted evidence ++ pages)))

-- and with this one
abbrev pub lacks_room : List Drawop → List FullName → Page → Bool
lacks_room inserted evidence page = outgrow inserted evidence (page ∷ [])
