-- Which answers of the system are loss and no failure.
use Rattle.std.specs.Prelude.{◌≡◌, ◌==◌, ℕ, ℤ, pos, if◌then◌else◌, Bool, List, [], ◌∷◌, ◌++◌, Option, Some, None, Result, Ok, Err}
use Rattle.std.specs.List.{list_any}
use Rattle.std.specs.IoError.{error_kind, raw_os_error}
use Rattle.std.specs.Ordering.{int_eq}
use Rattle.std.specs.declared.io.Error.{Error}
use Rattle.std.specs.declared.io.ErrorKind.{ErrorKind}
use Rattle.std.specs.declared.io.ErrorKind.TheVariants.{WouldBlock, ConnectionRefused}
use Rattle.srm_wire.specs.declared.loss.Loss.{Loss}
use Rattle.srm_wire.specs.declared.loss.Loss.TheVariants.{NoWay, Denied, TooLong, NoRoom, PortClosed}

-- By these numbers Linux says that a datagram didn't go its way: the network or the host is down, or there is no way to it (100, 101, 112, 113), it isn't allowed
-- to go, as a firewall has it (1, 13), it is too long for the way (90), or there is no room for it (105).
abbrev pub numbers_of_no_way : List ℤ
numbers_of_no_way = pos 100 ∷ pos 101 ∷ pos 112 ∷ pos 113 ∷ []

abbrev pub numbers_of_denial : List ℤ
numbers_of_denial = pos 1 ∷ pos 13 ∷ []

abbrev pub is_one_of : List ℤ → ℤ → Bool
is_one_of numbers number = list_any (int_eq number) numbers

abbrev pub loss_by_number : Option ℤ → Option Loss
loss_by_number None = None
loss_by_number (Some number) =
    if is_one_of numbers_of_no_way number then Some NoWay
    else if is_one_of numbers_of_denial number then Some Denied
    else if int_eq number (pos 90) then Some TooLong
    else if int_eq number (pos 105) then Some NoRoom
    else None

-- the socket has no room for a datagram, nobody is at the port that one went to, or what a number says
abbrev pub loss_by : ErrorKind → Option ℤ → Option Loss
loss_by WouldBlock _ = Some NoRoom
loss_by ConnectionRefused _ = Some PortClosed
loss_by _ number = loss_by_number number

abbrev pub loss_of : Error → Option Loss
loss_of e = loss_by (error_kind e) (raw_os_error e)

-- What an error of a receive tells: nothing if it says that no datagram is there, and else a loss of some kind, or that the socket failed.
abbrev pub error_by : ErrorKind → Option Loss → Option (Option Loss)
error_by WouldBlock loss = None
error_by _ loss = Some loss

abbrev pub error_of : Error → Option (Option Loss)
error_of e = error_by (error_kind e) (loss_of e)

-- What the system's answer to a send of so many bytes tells: nothing if all went, a failure if only a part did, and else a loss of some kind, or a failure.
abbrev pub send_error : ℕ → Result ℕ Error → Option (Option Loss)
send_error length (Ok count) = if count == length then None else Some None
send_error length (Err e) = Some (loss_of e)

-- these errors, and behind them this one, if there is one
abbrev pub with_error : Option (Option Loss) → List (Option Loss) → List (Option Loss)
with_error None errors = errors
with_error (Some error) errors = errors ++ error ∷ []

-- the error tells a loss of some kind
abbrev pub IsLoss : Error → Type 0
IsLoss e = (kind : Loss) × (loss_of e ≡ Some kind)
