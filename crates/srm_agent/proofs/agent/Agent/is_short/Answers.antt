use Rattle.std.proofs.Common.{◌≡◌, ◌∙◌, ◌&&◌, ℕ, Bool, true, List, ap, sym, nat_lt}
use Rattle.std.specs.List.{list_any}
use Rattle.srm_names.specs.declared.page.Page.{Page}
use Rattle.srm_names.specs.declared.echo.Echo.{Echo}
use Rattle.srm_names.specs.FullName.{FullName}
use Rattle.srm_codec.specs.declared.datagram.Datagram.{Datagram}
use Rattle.srm_codec.specs.declared.datagram.Datagram.TheVariants.{Session}
use Rattle.srm_store.specs.Finals.{row_number}
use Rattle.srm_entries.specs.declared.entry.Entry.{Entry}
use Rattle.srm_entries.specs.Entries.{known, slots}
use Rattle.srm_names.specs.Names.{stream_on}
use Rattle.srm_entries.specs.Verdicts.{says_too_little}
use Rattle.srm_agent.proofs.agent.Agent.is_short.Goals as goal

-- rows with these numbers say less than is known of the sender
abbrev knows_beyond : List Entry → ℕ → List FullName → Bool
knows_beyond past sender rows = list_any (λ (page : Page). nat_lt (row_number rows (stream_on sender page)) (known past (stream_on sender page))) (slots past)

short_farewell : (past : List Entry) (g : Datagram) (sender sent : ℕ) (farewell : Bool) (shown : Page) (rows seen : List FullName) (echoes : List Echo) (knows : Bool) → g ≡ Session sender sent farewell shown rows echoes → farewell ≡ true
    → seen ≡ rows → knows ≡ knows_beyond past sender seen → knows ≡ says_too_little past g
short_farewell past g sender sent farewell shown rows seen echoes knows is parting same h =
    h ∙ ap (knows_beyond past sender) same ∙ sym (ap (says_too_little past) is ∙ ap (λ b. b && knows_beyond past sender rows) parting)

pub returns-then-farewell : goal.returns-then-farewell
returns-then-farewell g c = λ s made past h. short_farewell past _ _ _ _ _ _ _ _ _ c.in-Session.is c.if-farewell.true c.as_slice.ensures (c.knows_more.ensures s made past h)
