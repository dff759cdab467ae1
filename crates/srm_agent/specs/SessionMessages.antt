-- The session message of an agent, over whatever run it fits.
use Rattle.std.specs.Prelude.{◌≡◌, ◌≤◌, ℕ, Bool, true, not, List, [], ◌∷◌, ◌⊎◌, length, map, Option, IfSome, is_some, option_map, cond}
use Rattle.std.specs.List.{filter_map, list_any}
use Rattle.srm_names.specs.declared.limits.TheConstants.{MEMBERS, PAGES}
use Rattle.srm_names.specs.declared.page.Page.{Page}
use Rattle.srm_names.specs.declared.stream.Stream.{Stream}
use Rattle.srm_names.specs.declared.echo.Echo.{Echo}
use Rattle.srm_names.specs.FullName.{FullName}
use Rattle.srm_names.specs.Histories.{count_up}
use Rattle.srm_names.specs.Names.{named, same_page, page_below, ascending, stream_on}
use Rattle.srm_codec.specs.declared.datagram.Datagram.{Datagram}
use Rattle.srm_codec.specs.Spelling.{sender_of, IsSpellable, is_name, AreRows, AreEchoes, is_session, is_farewell}
use Rattle.srm_entries.specs.declared.entry.Entry.{Entry}
use Rattle.srm_outbox.specs.declared.out.Outgoing.{Outgoing}
use Rattle.srm_entries.specs.Configs.{Config}
use Rattle.srm_agent.specs.Contents.{AgentContent}
use Rattle.srm_entries.specs.Entries.{known}
use Rattle.srm_entries.specs.Sessions.{IsSessionMessage, SessionMessageRight, echoes_owed, if_positive}
use Rattle.srm_outbox.specs.Outs.{IsOutgoing}
use Rattle.srm_entries.specs.Verdicts.{told}
use Rattle.srm_agent.specs.Fits.{AgentFits}

-- the session message that an agent sends at a moment, by all that it keeps
pub record IsSessionMessageOf {W : Type 0} (a : AgentContent W) (moment : ℕ) (wanted : Bool) (g : Datagram) : Type 0 where
  pub right : (c : Config) (made : ℕ) (past : List Entry) → AgentFits c made past a → IsSessionMessage c past moment wanted g
  pub sender : sender_of g ≡ a.config.me
  pub session : is_session g ≡ true
  pub farewell : is_farewell g ≡ wanted
  pub spellable : IsSpellable g

-- and with its spelling
pub record IsSessionMessageSpelled {W : Type 0} (a : AgentContent W) (moment : ℕ) (wanted : Bool) (o : Outgoing) : Type 0 where
  pub message : IsSessionMessageOf a moment wanted o.out.datagram
  pub outgoing : IsOutgoing a.config.session o

-- whether a member is known to have left, by all that an agent keeps
pub record SaysLeft {W : Type 0} (a : AgentContent W) (member : ℕ) (left : Bool) : Type 0 where
  pub is : (c : Config) (made : ℕ) (past : List Entry) → AgentFits c made past a → left ≡ is_some (told past member)

-- 1 for a member that isn't known to have left, else 0
abbrev pub once : List Entry → ℕ → ℕ
once past member = cond (not (is_some (told past member))) 1 0

pub record CountsOnce {W : Type 0} (a : AgentContent W) (member count : ℕ) : Type 0 where
  pub is : (c : Config) (made : ℕ) (past : List Entry) → AgentFits c made past a → count ≡ once past member
  pub few : count ≤ 1

-- the row of a stream, if something of it is known
abbrev pub row_for : List Entry → Stream → Option FullName
row_for past s = option_map (named s) (if_positive (known past s))

pub record IsRow {W : Type 0} (a : AgentContent W) (s : Stream) (row : Option FullName) : Type 0 where
  pub value : (c : Config) (made : ℕ) (past : List Entry) → AgentFits c made past a → row ≡ row_for past s
  pub spelled : IfSome row (λ r. (r.stream ≡ s) × is_name r)

-- each row is of one of the streams, in their order
abbrev pub AreRowsInOrder : List Stream → List FullName → Type 0
AreRowsInOrder [] rows = rows ≡ []
AreRowsInOrder (s ∷ ss) rows = AreRowsInOrder ss rows ⊎ ((r : FullName) × (rest : List FullName) × (rows ≡ r ∷ rest) × (r.stream ≡ s) × is_name r × AreRowsInOrder ss rest)

-- the rows of these streams
pub record AreRowsOf {W : Type 0} (a : AgentContent W) (streams : List Stream) (rows : List FullName) : Type 0 where
  pub value : (c : Config) (made : ℕ) (past : List Entry) → AgentFits c made past a → rows ≡ filter_map (row_for past) streams
  pub spelled : AreRowsInOrder streams rows

-- the streams of a page, one for each member of the roster
abbrev pub streams_on : Page → ℕ → List Stream
streams_on page members = map (λ m. stream_on m page) (count_up 0 members)

-- those of the page shown, in order
pub record AreShown {W : Type 0} (a : AgentContent W) (streams : List Stream) : Type 0 where
  pub are : streams ≡ streams_on a.showing a.config.members
  pub few : a.config.members ≤ MEMBERS

-- the pages that have slots, in order
pub record AreInOrder (pages sorted : List Page) : Type 0 where
  pub in_order : ascending page_below sorted ≡ true
  pub exact : (p : Page) → list_any (same_page p) sorted ≡ list_any (same_page p) pages
  pub few : length sorted ≤ PAGES

-- the streams of a member, in order
pub record AreOwnStreams {W : Type 0} (a : AgentContent W) (streams : List Stream) : Type 0 where
  pub sorted : List Page
  pub pages : AreInOrder a.pages sorted
  pub are : streams ≡ map (stream_on a.config.me) sorted

-- the rows of a session message, or of a farewell
pub record AreDueRows {W : Type 0} (a : AgentContent W) (wanted : Bool) (rows : List FullName) : Type 0 where
  pub right : (c : Config) (made : ℕ) (past : List Entry) (now : ℕ) → AgentFits c made past a → SessionMessageRight c past now wanted rows
  pub spelled : AreRows wanted a.config.me rows

-- the echoes that are owed at a moment
pub record AreOwed {W : Type 0} (a : AgentContent W) (now : ℕ) (echoes : List Echo) : Type 0 where
  pub is : (c : Config) (made : ℕ) (past : List Entry) → AgentFits c made past a → echoes ≡ echoes_owed c past now
  pub spelled : AreEchoes echoes
