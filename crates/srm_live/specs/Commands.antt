-- What a line that is typed says.
use Rattle.std.specs.Prelude.{ℕ, ◌+◌, ◌-◌, ◌*◌, Bool, ◌&&◌, ◌==◌, nat_le, nat_lt, bytes_eq, codes, if◌then◌else◌, List, [], ◌∷◌, take, drop, Option, Some, None, option_map}
use Rattle.srm_names.specs.declared.limits.TheConstants.{MEMBERS, PAGE_NUMBERS}
use Rattle.srm_names.specs.declared.page.Page.{Page}
use Rattle.srm_live.specs.declared.command.Command.{Command}
use Rattle.srm_live.specs.declared.command.Command.TheVariants.{Show, Begin, Pages, Who, Leave, Help}
use Rattle.srm_live.specs.declared.typed.Typed.{Typed}
use Rattle.srm_live.specs.declared.typed.Typed.TheVariants.{Stroke, Order}

-- a digit goes on with a number, which with it has five digits at most
abbrev pub goes_on : ℕ → ℕ → Bool
goes_on so_far c = (nat_le 48 c && nat_le c 57) && nat_lt so_far 10000

-- a number with a digit more
abbrev pub grown : ℕ → ℕ → ℕ
grown so_far c = so_far * 10 + (c - 48)

-- the number that digits say, behind those that say this
abbrev pub number_behind : ℕ → List ℕ → Option ℕ
number_behind so_far [] = Some so_far
number_behind so_far (c ∷ cs) = if goes_on so_far c then number_behind (grown so_far c) cs else None

-- the page with this creator and this number, if there can be such a one
abbrev pub page_of : ℕ → ℕ → Option Page
page_of creator number = if nat_lt creator MEMBERS && nat_lt number PAGE_NUMBERS then Some (record { creator = creator; number = number }) else None

abbrev pub page_of_some : ℕ → Option ℕ → Option Page
page_of_some creator None = None
page_of_some creator (Some number) = page_of creator number

-- what stands behind the dot says the page's own number, in a digit at least
abbrev pub page_with : ℕ → List ℕ → Option Page
page_with creator [] = None
page_with creator (c ∷ cs) = page_of_some creator (number_behind 0 (c ∷ cs))

-- the page that a text says, behind digits that say this of its creator
abbrev pub page_behind : ℕ → List ℕ → Option Page
page_behind creator [] = None
page_behind creator (c ∷ cs) = if c == 46 then page_with creator cs else if goes_on creator c then page_behind (grown creator c) cs else None

-- the page that a text says: the number of its creator, a dot, and its own number
abbrev pub page_in : List ℕ → Option Page
page_in [] = None
page_in (c ∷ cs) = if c == 46 then None else page_behind 0 (c ∷ cs)

-- the command that shows a page
abbrev pub shown_in : List ℕ → Option Command
shown_in name = if bytes_eq (take 5 name) (codes "page ") then option_map Show (page_in (drop 5 name)) else None

-- the command of this name, if there is one
abbrev pub command_of : List ℕ → Option Command
command_of name =
    if bytes_eq name (codes "new") then Some Begin
    else if bytes_eq name (codes "pages") then Some Pages
    else if bytes_eq name (codes "who") then Some Who
    else if bytes_eq name (codes "leave") then Some Leave
    else if bytes_eq name (codes "help") then Some Help
    else shown_in name

-- what stands behind a line's first slash: a stroke that begins with a slash, or a command
abbrev pub said_behind_slash : List ℕ → Typed
said_behind_slash [] = Order (command_of [])
said_behind_slash (c ∷ cs) = if c == 47 then Stroke (c ∷ cs) else Order (command_of (c ∷ cs))

-- A line is a stroke, unless it begins with a slash: then it is a command, or with two slashes a stroke that has one of them.
abbrev pub said_of : List ℕ → Typed
said_of [] = Stroke []
said_of (c ∷ cs) = if c == 47 then said_behind_slash cs else Stroke (c ∷ cs)
