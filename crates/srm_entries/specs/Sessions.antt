-- Session messages and the farewell: when a tick sends one, and what stands in it.
use Rattle.std.specs.Prelude.{◌≡◌, ℕ, ◌==◌, ◌+◌, ◌*◌, ◌/◌, max, nat_lt, nat_le, Bool, true, false, not, ◌&&◌, ◌||◌, List, [], ◌∷◌, ◌++◌, length, filter, count_by, find, if◌then◌else◌, Option, Some, None, unwrap_or, option_map, is_some}
use Rattle.srm_names.specs.declared.stream.Stream.{Stream}
use Rattle.srm_names.specs.declared.echo.Echo.{Echo}
use Rattle.srm_names.specs.FullName.{FullName}
use Rattle.srm_names.specs.Histories.{Step, steps, last_of, count_up}
use Rattle.srm_names.specs.Names.{same_page, ascending}
use Rattle.srm_codec.specs.declared.datagram.Datagram.{Datagram}
use Rattle.srm_codec.specs.declared.datagram.Datagram.TheVariants.{Session}
use Rattle.srm_codec.specs.Spelling.{length_of, row_below, is_session, is_data}
use Rattle.srm_distance.specs.Echoes as echoes
use Rattle.srm_store.specs.Finals.{number_in_rows}
use Rattle.srm_entries.specs.declared.limits.TheConstants.{SECOND, SESSION_SHARE, SHORTEST_INTERVAL}
use Rattle.srm_entries.specs.Configs.{Config}
use Rattle.srm_entries.specs.declared.entry.Entry.{Entry}
use Rattle.srm_entries.specs.Entries.{ticked, state, is_gone, is_leaving, shown, sent, drawn, known}
use Rattle.srm_entries.specs.Distances.{distance_calls}
use Rattle.srm_entries.specs.Verdicts.{told}

-- what is charged to the bucket
abbrev pub charged : Entry → List Datagram
charged e = filter (λ g. not (is_session g)) e.effects.outs

-- the members of the roster that aren't known to have left, oneself among them
abbrev pub members_remaining : Config → List Entry → ℕ
members_remaining c es = count_by (λ m. not (is_some (told es m))) (count_up 0 c.members)

-- how long after a session message of this length the next one is due
abbrev pub session_interval : Config → List Entry → Datagram → ℕ
session_interval c before g = max SHORTEST_INTERVAL (SESSION_SHARE * members_remaining c before * length_of g * SECOND / c.rate)

abbrev pub session_due_after : Config → Step Entry → Option ℕ
session_due_after c s = option_map (λ g. s.this.moment + session_interval c s.before g) (find is_session s.this.effects.outs)

-- when the next session message is due
abbrev pub session_due : Config → ℕ → List Entry → ℕ
session_due c made es = unwrap_or (last_of (session_due_after c) (steps es)) (made + SHORTEST_INTERVAL)

-- each drawop that was drawn has been sent
abbrev pub all_data_sent : List Entry → Bool
all_data_sent es = nat_le (length (drawn es)) (count_by is_data (sent es))

-- an echo for each other member that was heard and isn't known to have left
abbrev pub echoes_owed : Config → List Entry → ℕ → List Echo
echoes_owed c es now = echoes.echoes_owed (distance_calls c.me es) c.me now

abbrev pub if_positive : ℕ → Option ℕ
if_positive n = if nat_lt 0 n then Some n else None

-- the row of a stream: of the page shown, in a farewell of this member's own
abbrev pub expected_row : Config → List Entry → Bool → Stream → Option ℕ
expected_row c es farewell s =
    if (if farewell then s.source == c.me else same_page s.page (shown es) && nat_lt s.source c.members) then if_positive (known es s) else None

-- the contents of a session message that is sent after these entries
pub record SessionMessageRight (c : Config) (es : List Entry) (now : ℕ) (farewell : Bool) (rows : List FullName) : Type 0 where
  pub in_order : ascending row_below rows ≡ true
  pub exact : (s : Stream) → number_in_rows rows s ≡ expected_row c es farewell s

abbrev pub IsSessionMessage : Config → List Entry → ℕ → Bool → Datagram → Type 0
IsSessionMessage c es now wanted (Session sender sent farewell page rows owed) =
    (sender ≡ c.me) × (sent ≡ now) × (farewell ≡ wanted) × (page ≡ shown es) × (owed ≡ echoes_owed c es now) × SessionMessageRight c es now farewell rows
IsSessionMessage c es now wanted _ = ⊥

-- whether a tick ends with a session message, and with which: Some true is a farewell
abbrev pub session_message_due : Config → ℕ → List Entry → Entry → Option Bool
session_message_due c made before e =
    if not (ticked e) || is_gone (state before) then None
    else if is_leaving (state before) && all_data_sent (before ++ e ∷ []) then Some true
    else if nat_le (session_due c made before) e.moment then Some false
    else None

abbrev pub EndsWith : Config → List Entry → Entry → Option Bool → Type 0
EndsWith c before e None = e.effects.outs ≡ charged e
EndsWith c before e (Some farewell) = (g : Datagram) × (e.effects.outs ≡ charged e ++ g ∷ []) × IsSessionMessage c before e.moment farewell g

abbrev pub SessionRight : Config → ℕ → List Entry → Entry → Type 0
SessionRight c made before e = EndsWith c before e (session_message_due c made before e)
