-- What a tick ends with: the session message or the farewell that is due, and when the next one is.
use Rattle.std.proofs.Common.{◌≡◌, ℕ, ◌+◌, Bool, true, false, not, ◌&&◌, ◌||◌, List, [], ◌∷◌, ◌++◌, refl, ap, sym, ◌∙◌, subst}
use Rattle.std.specs.Prelude.{⊤, Option, Some, None, option_map, option_to_list, nat_le, if◌then◌else◌, unwrap_or, find, filter, cond}
use Rattle.std.specs.List.{AllByRecursion}
use Rattle.std.proofs.lemmas.List.{append-nil}
use Rattle.std.proofs.lemmas.List.Elements.{filter-append}
use Rattle.srm_names.specs.Histories.{steps, or_else, last_of}
use Rattle.srm_names.proofs.Snoc.{steps-snoc, last_of-snoc}
use Rattle.srm_codec.specs.declared.datagram.Datagram.{Datagram}
use Rattle.srm_codec.specs.declared.datagram.Datagram.TheVariants.{Data, Request, Repair, Session}
use Rattle.srm_entries.specs.declared.entry.Entry.{Entry}
use Rattle.srm_entries.specs.declared.state.AgentState.{AgentState}
use Rattle.srm_entries.specs.Configs.{Config}
use Rattle.srm_entries.specs.Entries.{ticked, state, is_gone, is_leaving}
use Rattle.srm_codec.specs.Spelling.{is_session}
use Rattle.srm_entries.specs.Sessions.{charged, session_interval, session_due_after, session_due, all_data_sent, IsSessionMessage, session_message_due, EndsWith, SessionRight}

-- by the member's state, whether data that it drew waits, and whether a session message is due: nothing, or whether a farewell
abbrev pub ending_of : AgentState → Bool → Bool → Option Bool
ending_of old waits due =
    if is_gone old then None
    else if is_leaving old && not waits then Some true
    else if due then Some false else None

pub ending_is : (c : Config) (made : ℕ) (before : List Entry) (e : Entry) (old : AgentState) (waits due : Bool)
    → ticked e ≡ true → old ≡ state before → not waits ≡ all_data_sent (before ++ e ∷ []) → due ≡ nat_le (session_due c made before) e.moment
    → session_message_due c made before e ≡ ending_of old waits due
ending_is c made before e old waits due t s w d =
    ap (λ b. if not b || is_gone (state before) then None else if is_leaving (state before) && all_data_sent (before ++ e ∷ []) then Some true else if nat_le (session_due c made before) e.moment then Some false else None) t
    ∙ ap (λ o. if is_gone o then None else if is_leaving o && all_data_sent (before ++ e ∷ []) then Some true else if nat_le (session_due c made before) e.moment then Some false else None) (sym s)
    ∙ ap (λ b. if is_gone old then None else if is_leaving old && b then Some true else if nat_le (session_due c made before) e.moment then Some false else None) (sym w)
    ∙ ap (λ b. if is_gone old then None else if is_leaving old && not waits then Some true else if b then Some false else None) (sym d)

-- what goes for it
abbrev pub EndsIn : Config → List Entry → ℕ → Option Bool → Option Datagram → Type 0
EndsIn c before now None None = ⊤
EndsIn c before now None (Some g) = ⊥
EndsIn c before now (Some farewell) None = ⊥
EndsIn c before now (Some farewell) (Some g) = IsSessionMessage c before now farewell g

abbrev pub NoSessions : List Datagram → Type 0
NoSessions went = AllByRecursion (λ g. is_session g ≡ false) went

pub message_is_session : (c : Config) (before : List Entry) (now : ℕ) (farewell : Bool) (g : Datagram) → IsSessionMessage c before now farewell g → is_session g ≡ true
message_is_session c before now farewell (Data d) r = absurd r
message_is_session c before now farewell (Request a n m) r = absurd r
message_is_session c before now farewell (Repair a d) r = absurd r
message_is_session c before now farewell (Session sender sent f shown rows echoes) r = refl

all_kept : (went : List Datagram) → NoSessions went → filter (λ g. not (is_session g)) went ≡ went
all_kept [] none = refl
all_kept (g ∷ gs) none = ap (λ b. cond (not b) (g ∷ filter (λ g. not (is_session g)) gs) (filter (λ g. not (is_session g)) gs)) none.0 ∙ ap (λ w. g ∷ w) (all_kept gs none.1)

none_left : (c : Config) (before : List Entry) (now : ℕ) (wanted : Option Bool) (o : Option Datagram) → EndsIn c before now wanted o → filter (λ g. not (is_session g)) (option_to_list o) ≡ []
none_left c before now wanted None ends = refl
none_left c before now None (Some g) ends = absurd ends
none_left c before now (Some farewell) (Some g) ends = ap (λ b. cond (not b) (g ∷ []) []) (message_is_session c before now farewell g ends)

-- what is charged is what went under the rate
pub charged_is : (c : Config) (before : List Entry) (e : Entry) (wanted : Option Bool) (went : List Datagram) (o : Option Datagram)
    → NoSessions went → e.effects.outs ≡ went ++ option_to_list o → EndsIn c before e.moment wanted o → charged e ≡ went
charged_is c before e wanted went o none outs ends =
    ap (filter (λ g. not (is_session g))) outs ∙ filter-append (λ g. not (is_session g)) went (option_to_list o)
    ∙ ap (λ w. w ++ filter (λ g. not (is_session g)) (option_to_list o)) (all_kept went none) ∙ ap (λ w. went ++ w) (none_left c before e.moment wanted o ends) ∙ append-nil went

-- the entry ends as it is to
pub session_right : (c : Config) (made : ℕ) (before : List Entry) (e : Entry) (wanted : Option Bool) (went : List Datagram) (o : Option Datagram)
    → session_message_due c made before e ≡ wanted → NoSessions went → e.effects.outs ≡ went ++ option_to_list o → EndsIn c before e.moment wanted o → SessionRight c made before e
session_right c made before e wanted went o is none outs ends = subst (EndsWith c before e) (sym is) (go wanted o (charged_is c before e wanted went o none outs ends) outs ends)
  where
    go : (wanted : Option Bool) (o : Option Datagram) → charged e ≡ went → e.effects.outs ≡ went ++ option_to_list o → EndsIn c before e.moment wanted o → EndsWith c before e wanted
    go None None same q r = q ∙ append-nil went ∙ sym same
    go None (Some g) same q r = absurd r
    go (Some farewell) None same q r = absurd r
    go (Some farewell) (Some g) same q r = (g, q ∙ ap (λ w. w ++ g ∷ []) (sym same), r)

find_past : (went : List Datagram) (o : Option Datagram) → NoSessions went → find is_session (went ++ option_to_list o) ≡ find is_session (option_to_list o)
find_past [] o none = refl
find_past (g ∷ gs) o none = ap (λ b. if b then Some g else find is_session (gs ++ option_to_list o)) none.0 ∙ find_past gs o none.1

found : (c : Config) (before : List Entry) (now : ℕ) (wanted : Option Bool) (o : Option Datagram) → EndsIn c before now wanted o → find is_session (option_to_list o) ≡ o
found c before now wanted None ends = refl
found c before now None (Some g) ends = absurd ends
found c before now (Some farewell) (Some g) ends = ap (λ b. if b then Some g else None) (message_is_session c before now farewell g ends)

-- when the next one is due: a pause after this one, or as before where there is none
abbrev pub due_by : Config → List Entry → ℕ → ℕ → Option Datagram → ℕ
due_by c before now old None = old
due_by c before now old (Some g) = now + session_interval c before g

pub due_after : (c : Config) (made : ℕ) (before : List Entry) (e : Entry) (wanted : Option Bool) (went : List Datagram) (o : Option Datagram)
    → NoSessions went → e.effects.outs ≡ went ++ option_to_list o → EndsIn c before e.moment wanted o
    → session_due c made (before ++ e ∷ []) ≡ due_by c before e.moment (session_due c made before) o
due_after c made before e wanted went o none outs ends =
    ap (λ p. unwrap_or p (made + 1000000))
    (ap (last_of (session_due_after c)) (steps-snoc before e) ∙ last_of-snoc (session_due_after c) (steps before) (record { before = before; this = e })
    ∙ ap (λ p. or_else (option_map (λ g. e.moment + session_interval c before g) p) (last_of (session_due_after c) (steps before))) (ap (find is_session) outs ∙ find_past went o none ∙ found c before e.moment wanted o ends))
    ∙ by_case o
  where
    by_case : (o : Option Datagram) → unwrap_or (or_else (option_map (λ g. e.moment + session_interval c before g) o) (last_of (session_due_after c) (steps before))) (made + 1000000) ≡ due_by c before e.moment (session_due c made before) o
    by_case None = refl
    by_case (Some g) = refl
