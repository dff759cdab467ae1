-- What the entries of one member say, oldest first: its state and page, what it sent, drew, holds, knows and misses.
use Rattle.std.specs.Prelude.{ℕ, Bool, true, false, List, [], ◌∷◌, ◌++◌, map, filter, if◌then◌else◌, Option, Some, None, unwrap_or, option_to_list}
use Rattle.std.specs.List.{flat_map}
use Rattle.srm_names.specs.declared.page.Page.{Page}
use Rattle.srm_names.specs.declared.stream.Stream.{Stream}
use Rattle.srm_names.specs.declared.drawop.Drawop.{Drawop}
use Rattle.srm_names.specs.FullName.{FullName}
use Rattle.srm_names.specs.Histories.{last_of, greatest, firsts}
use Rattle.srm_names.specs.Names.{first_page, same_page}
use Rattle.srm_codec.specs.declared.datagram.Datagram.{Datagram}
use Rattle.srm_codec.specs.declared.datagram.Datagram.TheVariants.{Data, Repair}
use Rattle.srm_codec.specs.Spelling.{names_in}
use Rattle.srm_store.specs.Held as store
use Rattle.srm_entries.specs.declared.entry.Entry.{Entry}
use Rattle.srm_entries.specs.declared.entry.Input.{Input}
use Rattle.srm_entries.specs.declared.entry.Input.TheVariants.{Drew, Heard, Ticked, Showed, Gave, Took}
use Rattle.srm_entries.specs.declared.entry.Verdict.{Verdict}
use Rattle.srm_entries.specs.declared.entry.Verdict.TheVariants.{Done, Refused}
use Rattle.srm_entries.specs.declared.state.AgentState.{AgentState}
use Rattle.srm_entries.specs.declared.state.AgentState.TheVariants.{Active, Leaving, Gone}

-- the input of an entry that is done
abbrev pub done_input : Verdict → Input → Option Input
done_input Done input = Some input
done_input _ input = None

abbrev pub done : Entry → Option Input
done e = done_input e.verdict e.input

abbrev pub heard_in : Option Input → Option Datagram
heard_in (Some (Heard datagram)) = Some datagram
heard_in _ = None

-- the datagram that was heard and accepted
abbrev pub accepted : Entry → Option Datagram
accepted e = heard_in (done e)

abbrev pub is_tick : Input → Bool
is_tick Ticked = true
is_tick _ = false

abbrev pub ticked : Entry → Bool
ticked e = is_tick e.input

abbrev pub is_gone : AgentState → Bool
is_gone Gone = true
is_gone _ = false

abbrev pub is_leaving : AgentState → Bool
is_leaving Leaving = true
is_leaving _ = false

-- the state after these entries
abbrev pub state : List Entry → AgentState
state es = unwrap_or (last_of (λ e. Some e.effects.state) es) Active

abbrev pub page_shown : Option Input → Option Page
page_shown (Some (Showed page)) = Some page
page_shown _ = None

abbrev pub shown : List Entry → Page
shown es = unwrap_or (last_of (λ e. page_shown (done e)) es) first_page

abbrev pub pages_in : Option Input → List Page
pages_in (Some (Drew page body)) = page ∷ []
pages_in (Some (Showed page)) = page ∷ []
pages_in (Some (Heard datagram)) = map (λ n. n.stream.page) (names_in datagram)
pages_in _ = []

-- the pages in the table, by slot: the first page, and then each where it was first named
abbrev pub slots : List Entry → List Page
slots es = firsts same_page (first_page ∷ flat_map (λ e. pages_in (done e)) es)

-- a call that takes a moment, and so moves the clock unless it is refused
abbrev pub takes_moment : Input → Bool
takes_moment (Gave slot) = false
takes_moment (Took slot) = false
takes_moment _ = true

abbrev pub moments_counted : Verdict → Entry → List ℕ
moments_counted (Refused fault) e = []
moments_counted _ e = if takes_moment e.input then e.moment ∷ [] else []

-- the last moment of an agent that was made at a moment
abbrev pub last_moment : ℕ → List Entry → ℕ
last_moment made es = greatest (made ∷ flat_map (λ e. moments_counted e.verdict e) es)

abbrev pub sent : List Entry → List Datagram
sent es = flat_map (λ e. e.effects.outs) es

abbrev pub drawn : List Entry → List Drawop
drawn es = flat_map (λ e. option_to_list e.effects.drawn) es

abbrev pub drawn_on : Page → List Entry → List Drawop
drawn_on page es = filter (λ d. same_page page d.name.stream.page) (drawn es)

abbrev pub drawops_in : Option Datagram → List Drawop
drawops_in (Some (Data drawop)) = drawop ∷ []
drawops_in (Some (Repair sender drawop)) = drawop ∷ []
drawops_in _ = []

-- the drawops that were drawn, or heard as data or repairs
abbrev pub held_by : Entry → List Drawop
held_by e = option_to_list e.effects.drawn ++ drawops_in (accepted e)

abbrev pub held : List Entry → List Drawop
held es = flat_map held_by es

-- what is held, known, missing and released, and of what there is evidence, are the definitions of the store, over what the entries say
abbrev pub held_at : List Entry → FullName → Option Drawop
held_at es n = store.held_at (held es) n

abbrev pub is_held : List Entry → FullName → Bool
is_held es n = store.is_held (held es) n

abbrev pub names_heard : Option Datagram → List FullName
names_heard (Some datagram) = names_in datagram
names_heard None = []

-- the names that were drawn, or that stand in what was heard
abbrev pub evidence_by : Entry → List FullName
evidence_by e = map (λ d. d.name) (option_to_list e.effects.drawn) ++ names_heard (accepted e)

abbrev pub evidence_in : List Entry → List FullName
evidence_in es = flat_map evidence_by es

-- the greatest number of the stream that was drawn or heard of
abbrev pub known : List Entry → Stream → ℕ
known es s = store.known (evidence_in es) s

-- the missing names of the stream, in order
abbrev pub missing : List Entry → Stream → List FullName
missing es s = store.missing (held es) (evidence_in es) s

abbrev pub is_missing : List Entry → FullName → Bool
is_missing es n = store.is_missing (held es) (evidence_in es) n

-- the held drawops of the stream in front of the first one that is missing
abbrev pub released : List Entry → Stream → List Drawop
released es s = store.released (held es) s
