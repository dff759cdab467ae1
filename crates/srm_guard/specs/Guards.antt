-- What a guard does with what its wire brings and with what it is to send.
use Rattle.std.specs.Prelude.{◌≡◌, ◌⊎◌, ℕ, ◌≤◌, ◌==◌, Bool, true, nat_lt, ◌||◌, List, [], ◌∷◌, length, take, Option, Some, None, Result, Ok, Err}
use Rattle.std.specs.Bool.{MatchBool}
use Rattle.srm_wire.specs.declared.sent.Sent.{Sent}
use Rattle.srm_wire.specs.Wires.{one_more, greatest_count, counted_with, bytes_to, answered_with, none_there}
use Rattle.srm_wire.specs.declared.counts.WireCounts.{WireCounts}
use Rattle.srm_window.specs.Senders.{numbered}
use Rattle.srm_guard.specs.declared.dropped.Dropped.{Dropped}
use Rattle.srm_guard.specs.declared.dropped.Cause.{Cause}
use Rattle.srm_guard.specs.declared.dropped.Cause.TheVariants.{Untagged, Older, Again}
use Rattle.srm_guard.specs.declared.seal.Opened.{Opened}
use Rattle.srm_guard.specs.declared.seal.Opened.TheVariants.{Foreign as IsForeign, Older as IsOlder, Again as IsAgain, Datagram as IsDatagram}
use Rattle.srm_guard.specs.Seals.{SealView, Opens, sealed, next_to, one_sent}

-- the wire below, the seal if there is one, what was dropped, and how many sends failed here
pub record GuardView (W : Type 0) : Type 0 where
  pub wire : W
  pub seal : Option SealView
  pub dropped : Dropped
  pub own : ℕ

-- nothing was dropped yet
abbrev pub none_dropped : Dropped
none_dropped = record { untagged = 0; older = 0; again = 0 }

-- one more was dropped, for this cause: what an older version sent has no right tag either
abbrev pub one_dropped : Cause → Dropped → Dropped
one_dropped Untagged d = record d { untagged = one_more d.untagged }
one_dropped Older d = record d { untagged = one_more d.untagged; older = one_more d.older }
one_dropped Again d = record d { again = one_more d.again }

-- What a guard has counted: what the wire below has, and with it what the guard dropped and the sends that failed here.
abbrev pub counted_behind : ℕ → Dropped → WireCounts → WireCounts
counted_behind own d c = record c {
  failures = counted_with c.failures own;
  dropped = record c.dropped {
    untagged = counted_with c.dropped.untagged d.untagged;
    older = counted_with c.dropped.older d.older;
    again = counted_with c.dropped.again d.again;
  };
}

-- a guard that did nothing yet
abbrev pub new_guard : {W : Type 0} → W → Option SealView → GuardView W
new_guard wire seal = record { wire = wire; seal = seal; dropped = none_dropped; own = 0 }

-- The longest datagram for whose number and tag a guard has room, that of UDP.
abbrev pub longest : ℕ
longest = 65535

-- a datagram that can't be sealed: it is too long, or the seal has no counter left for the member
abbrev pub cannot_seal : SealView → Sent → Bool
cannot_seal s sent = nat_lt longest (length sent.bytes) || (next_to sent.to s == greatest_count)

-- A send: with a seal the datagram goes to the wire below with its number and tag, and without one as it is. One that can't be sealed goes nowhere, which is a failure.
abbrev pub SendsBehind : {W : Type 0} → (W → Sent → Bool → W → Type 0) → Option SealView → GuardView W → Sent → Bool → GuardView W → Type 0
SendsBehind Below None g sent failed h = (h ≡ record g { wire = h.wire }) × Below g.wire sent failed h.wire
SendsBehind Below (Some s) g sent failed h = MatchBool (cannot_seal s sent)
    ((failed ≡ true) × (h ≡ record g { own = one_more g.own }))
    ((h ≡ record g { wire = h.wire; seal = Some (one_sent sent.to s) }) × Below g.wire (bytes_to sent.to (sealed s.key sent.to (numbered s.me (next_to sent.to s)) sent.bytes)) failed h.wire)

abbrev pub SendsTagged : {W : Type 0} → (W → Sent → Bool → W → Type 0) → GuardView W → Sent → Bool → GuardView W → Type 0
SendsTagged Below g sent failed h = SendsBehind Below g.seal g sent failed h

-- Bytes that came are opened by the seal. Without one they are a datagram as they are.
abbrev pub BehindSeal : Option SealView → List ℕ → Opened → Option SealView → Type 0
BehindSeal None bytes opened after = (opened ≡ IsDatagram (length bytes)) × (after ≡ None)
BehindSeal (Some s) bytes opened after = (t : SealView) × (after ≡ Some t) × Opens opened bytes s t

-- What opened so is dropped for this cause: nobody with the key sealed it for this member, an older version sent it, or it came again. A datagram isn't dropped.
abbrev pub CausesDrop : Opened → Cause → Type 0
CausesDrop IsForeign Untagged = Unit {0}
CausesDrop IsOlder Older = Unit {0}
CausesDrop IsAgain Again = Unit {0}
CausesDrop opened cause = ⊥

-- How bytes are judged: a datagram is passed on, or they are dropped for a cause. Nothing but the seal changes.
abbrev pub Judges : {W : Type 0} → List ℕ → Result ℕ Cause → GuardView W → GuardView W → Type 0
Judges bytes (Ok count) g h = (count ≤ length bytes) × BehindSeal g.seal bytes (IsDatagram count) h.seal × (h ≡ record g { seal = h.seal })
Judges bytes (Err cause) g h = (opened : Opened) × BehindSeal g.seal bytes opened h.seal × CausesDrop opened cause × (h ≡ record g { seal = h.seal })

-- These bytes came, and are dropped and counted.
abbrev pub DropsOne : {W : Type 0} → GuardView W → List ℕ → GuardView W → Type 0
DropsOne g bytes h = (cause : Cause) × (opened : Opened) × BehindSeal g.seal bytes opened h.seal × CausesDrop opened cause × (h ≡ record g { wire = h.wire; seal = h.seal; dropped = one_dropped cause g.dropped })

-- These came, one receive of the wire below after another, and each was dropped.
abbrev pub DropsEach : {W : Type 0} → (W → ℕ → List (Option (List ℕ)) → W → Type 0) → ℕ → List (List ℕ) → GuardView W → GuardView W → Type 0
DropsEach Below room [] g h = h ≡ g
DropsEach {W} Below room (bytes ∷ more) g h = (between : GuardView W) × Below g.wire room (answered_with bytes) between.wire × DropsOne g bytes between × DropsEach Below room more between h

-- The guard passes on what the wire below answers: a failure, None, or of bytes that open to a datagram this datagram.
abbrev pub Passes : {W : Type 0} → (W → ℕ → List (Option (List ℕ)) → W → Type 0) → ℕ → List (Option (List ℕ)) → GuardView W → GuardView W → Type 0
Passes Below room [] g h = Below g.wire room [] h.wire × (h ≡ record g { wire = h.wire })
Passes Below room (None ∷ _) g h = Below g.wire room none_there h.wire × (h ≡ record g { wire = h.wire })
Passes Below room (Some datagram ∷ _) g h = (bytes : List ℕ) × Below g.wire room (answered_with bytes) h.wire × (count : ℕ) × (datagram ≡ take count bytes) × (count ≤ length bytes) × BehindSeal g.seal bytes (IsDatagram count) h.seal × (h ≡ record g { wire = h.wire; seal = h.seal })

-- Only behind 64 that were dropped it returns None without asking again.
abbrev pub Brings : {W : Type 0} → (W → ℕ → List (Option (List ℕ)) → W → Type 0) → ℕ → ℕ → List (Option (List ℕ)) → GuardView W → GuardView W → Type 0
Brings Below room dropped answer g h = ((dropped ≡ 64) × (answer ≡ none_there) × (h ≡ g)) ⊎ Passes Below room answer g h

-- A receive: so many came and were dropped, 64 at the most, and then comes what the guard answers.
pub record ReceivesTagged {W : Type 0} (Below : W → ℕ → List (Option (List ℕ)) → W → Type 0) (room : ℕ) (answer : List (Option (List ℕ))) (g h : GuardView W) : Type 0 where
  pub dropped : List (List ℕ)
  pub few : length dropped ≤ 64
  pub between : GuardView W
  pub drops : DropsEach Below room dropped g between
  pub brings : Brings Below room (length dropped) answer between h
