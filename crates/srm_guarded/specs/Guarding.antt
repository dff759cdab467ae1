-- A member's wire with its guard, as the member's options say.
use Rattle.std.specs.Prelude.{◌≡◌, ℕ, Bool, List, [], Option, Some, None}
use Rattle.std.specs.declared.net.socket_addr.SocketAddr.{SocketAddr}
use Rattle.srm_options.specs.declared.guard_options.GuardOptions.{GuardOptions}
use Rattle.srm_wire.specs.declared.sent.Sent.{Sent}
use Rattle.srm_wire.specs.Wires.{counted_with}
use Rattle.srm_udp.specs.Udp.{UdpView, new_wire, with_inbox, SendsOne, ReceivesNext}
use Rattle.srm_guard.specs.Seals.{SealView, IsNewSeal}
use Rattle.srm_guard.specs.Guards.{GuardView, new_guard, SendsTagged, ReceivesTagged}

-- a wire that keeps to its roster, or takes datagrams from any address
abbrev pub keeping_to : Bool → UdpView → UdpView
keeping_to only_roster w = with_inbox (record w.inbox { only_roster = only_roster }) w

-- A new wire to the members at these addresses, which keeps to them if the options say so, within a guard with this seal.
abbrev pub guarded_wire : List SocketAddr → GuardOptions → Option SealView → GuardView UdpView
guarded_wire roster options seal = new_guard (keeping_to options.only_roster (new_wire roster)) seal

-- A member's seal by its key, if it has one: a new one, whose counters begin somewhere.
abbrev pub IsSealBy : Option (List ℕ) → ℕ → Option SealView → Type 0
IsSealBy None me seal = seal ≡ None
IsSealBy (Some key) me seal = (s : SealView) × (start : ℕ) × (seal ≡ Some s) × IsNewSeal key me start s

-- What a send by such a wire does, by whether it failed.
abbrev pub GuardedSends : GuardView UdpView → Sent → Bool → GuardView UdpView → Type 0
GuardedSends old sent failed new = SendsTagged (λ below bytes lost after. SendsOne bytes lost below after) old sent failed new

-- What a receive does, by the room and the answer.
abbrev pub GuardedReceives : GuardView UdpView → ℕ → List (Option (List ℕ)) → GuardView UdpView → Type 0
GuardedReceives old room answer new = ReceivesTagged (λ below space told after. ReceivesNext space told below after) room answer old new

-- A pause changes nothing that contracts see.
abbrev pub GuardedPauses : GuardView UdpView → ℕ → GuardView UdpView → Type 0
GuardedPauses old micros new = (new ≡ record old { wire = new.wire }) × (new.wire ≡ old.wire)

-- how many of its calls failed
abbrev pub guarded_failures : GuardView UdpView → ℕ
guarded_failures g = counted_with g.wire.failures g.own
