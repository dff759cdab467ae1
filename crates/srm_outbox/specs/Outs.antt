-- What an agent sends: a datagram with its spelling in the session.
use Rattle.std.specs.Prelude.{◌≡◌, ℕ, false, List, map}
use Rattle.std.specs.List.{AllByRecursion}
use Rattle.srm_codec.specs.declared.datagram.Datagram.{Datagram}
use Rattle.srm_codec.specs.Spelling.{Spells, sender_of, is_session}
use Rattle.srm_bucket.specs.declared.class.Class.{Class}
use Rattle.srm_bucket.specs.Waiting.{Waiting, queue}
use Rattle.srm_outbox.specs.declared.out.Out.{Out}
use Rattle.srm_outbox.specs.declared.out.Outgoing.{Outgoing}

abbrev pub datagram_of : Outgoing → Datagram
datagram_of o = o.out.datagram

pub record IsOut (session : ℕ) (o : Out) : Type 0 where
  pub spelled : Spells session o.datagram o.bytes

-- the datagrams of what is sent
abbrev pub datagrams_of : List Out → List Datagram
datagrams_of outs = map (λ (o : Out). o.datagram) outs

-- what is sent are these datagrams, each with its spelling in the session
pub record AreOutsOf (session : ℕ) (outs : List Out) (datagrams : List Datagram) : Type 0 where
  pub same : datagrams_of outs ≡ datagrams
  pub spelled : AllByRecursion (IsOut session) outs

pub record IsOutgoing (session : ℕ) (o : Outgoing) : Type 0 where
  pub out : IsOut session o.out
  pub noted : o.noted ≡ o.out.datagram

pub record IsOutgoingOf (session : ℕ) (g : Datagram) (o : Outgoing) : Type 0 where
  pub is : IsOutgoing session o
  pub of : o.out.datagram ≡ g

-- what waits for a member's bucket is spelled, sent by that member, and no session message
pub record IsOwn (me session : ℕ) (o : Outgoing) : Type 0 where
  pub spelled : IsOutgoing session o
  pub sender : sender_of o.out.datagram ≡ me
  pub charged : is_session o.out.datagram ≡ false

pub record AreOwn (me session : ℕ) (waiting : Waiting Outgoing) : Type 0 where
  pub each : (class : Class) → AllByRecursion (λ i. IsOwn me session i.value) (queue waiting class)
