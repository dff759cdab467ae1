-- The echoes that are owed to the other members, by the session messages that were heard from them.
use Rattle.std.specs.Prelude.{◌≡◌, ◌≢◌, ℕ, ◌==◌, ◌-◌, ◌<◌, ◌≤◌, Bool, true, false, ◌||◌, List, length, if◌then◌else◌, Option, Some, None, IfSome, option_map}
use Rattle.std.specs.List.{filter_map, list_any, All}
use Rattle.srm_names.specs.declared.echo.Echo.{Echo}
use Rattle.srm_names.specs.declared.limits.TheConstants.{MEMBERS, LATEST_MOMENT}
use Rattle.srm_names.specs.Histories.{first_best, count_up}
use Rattle.srm_names.specs.Names.{ascending, echo_below}
use Rattle.srm_distance.specs.declared.heard_message.HeardMessage.{HeardMessage}
use Rattle.srm_distance.specs.Calls.{DistanceCall, Heard, Forgot}

-- the session message that a call brings from b
abbrev pub message_from : ℕ → DistanceCall → Option HeardMessage
message_from b (Heard from sent echo now) = if from == b then Some (record { sent = sent; came = now }) else None
message_from b (Forgot member) = None

-- of the session messages from b the newest, as it was heard first
abbrev pub latest : List DistanceCall → ℕ → Option HeardMessage
latest calls b = first_best (λ (r : HeardMessage). r.sent) (filter_map (message_from b) calls)

abbrev pub forgets : ℕ → DistanceCall → Bool
forgets b (Heard from sent echo now) = false
forgets b (Forgot member) = member == b

abbrev pub is_forgotten : List DistanceCall → ℕ → Bool
is_forgotten calls b = list_any (forgets b) calls

abbrev pub echo_of : ℕ → ℕ → HeardMessage → Echo
echo_of now b r = record { member = b; t1 = r.sent; delay = now - r.came }

-- the echo that is owed to b at a moment
abbrev pub echo_to : List DistanceCall → ℕ → ℕ → ℕ → Option Echo
echo_to calls me now b = if (b == me) || is_forgotten calls b then None else option_map (echo_of now b) (latest calls b)

-- the echoes that are owed, in order of member
abbrev pub echoes_owed : List DistanceCall → ℕ → ℕ → List Echo
echoes_owed calls me now = filter_map (echo_to calls me now) (count_up 0 MEMBERS)

abbrev pub SentWithin : Option HeardMessage → Type 0
SentWithin newest_message = IfSome newest_message (λ r. r.sent ≤ LATEST_MOMENT)

-- an echo to another member, of a moment and with a delay that a session message can hold
pub record CanBeSent (me now : ℕ) (echo : Echo) : Type 0 where
  pub member : echo.member < MEMBERS
  pub other : echo.member ≢ me
  pub t1 : echo.t1 ≤ LATEST_MOMENT
  pub delay : echo.delay ≤ now

-- Echoes as a session message can hold them: they rise strictly by member, each can be sent, and there is at most one
-- for each other member.
pub record AreSpellable (me now : ℕ) (echoes : List Echo) : Type 0 where
  pub rising : ascending echo_below echoes ≡ true
  pub each : All (CanBeSent me now) echoes
  pub few : length echoes < MEMBERS
