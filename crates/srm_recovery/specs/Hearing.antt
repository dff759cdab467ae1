-- The laws of accepting and of hearing: in an honest run a member accepts what it hears of others, if it has page slots for it.
use Rattle.std.specs.Prelude.{◌≡◌, ◌≢◌, ℕ, ◌+◌, ◌≤◌, false, List, ◌∷◌, ◌++◌, map, Contains}
use Rattle.srm_names.specs.declared.page.Page.{Page}
use Rattle.srm_names.specs.FullName.{FullName}
use Rattle.srm_codec.specs.declared.datagram.Datagram.{Datagram}
use Rattle.srm_codec.specs.Spelling.{sender_of, names_in}
use Rattle.srm_entries.specs.declared.entry.Entry.{Entry}
use Rattle.srm_entries.specs.declared.entry.Input.TheVariants.{Heard}
use Rattle.srm_entries.specs.declared.entry.Verdict.TheVariants.{Done}
use Rattle.srm_entries.specs.Entries.{sent}
use Rattle.srm_entries.specs.Verdicts.{lacks_slots_for}
use Rattle.srm_world.specs.Traces.{Trace, of_member, IsRun, IsHonest}
use Rattle.srm_recovery.specs.Timing.{Timing}
use Rattle.srm_recovery.specs.Members.{AcceptsWithin}
use Rattle.srm_recovery.specs.Network.{Connects, Tells}

-- the member lacks no page slot for the datagram
abbrev pub HasSlotsFor : List Entry → Datagram → Type 0
HasSlotsFor es g = lacks_slots_for es (map (λ (n : FullName). n.stream.page) (names_in g)) ≡ false

-- Accepting: a member that hears what another one sent before, and has page slots for it, accepts it.
abbrev pub AcceptingLaw : Type 0
AcceptingLaw = (t : Trace) (before after : List Entry) (e : Entry) (g : Datagram) → IsRun t → IsHonest t.entries → t.entries ≡ before ++ e ∷ after
    → e.input ≡ Heard g → Contains (sent before) g → sender_of g ≢ e.member → HasSlotsFor (of_member e.member before) g → e.verdict ≡ Done

-- The member hears the datagram, which another one sent before, at a time from one up to another, and has page slots for it.
pub record HearsWithin (t : Trace) (p : Timing) (m : ℕ) (g : Datagram) (from to : ℕ) : Type 0 where
  pub before : List Entry
  pub this : Entry
  pub after : List Entry
  pub split : t.entries ≡ before ++ this ∷ after
  pub member : this.member ≡ m
  pub input : this.input ≡ Heard g
  pub was_sent : Contains (sent before) g
  pub of_another : sender_of g ≢ this.member
  pub slots : HasSlotsFor (of_member this.member before) g
  pub not_before : from ≤ p.clock m + this.moment
  pub not_after : p.clock m + this.moment ≤ to

-- hearing is enough, where the laws of this crate ask that members accept
pub record HearingIsEnough (t : Trace) (p : Timing) (m k from to : ℕ) : Type 0 where
  pub accepts : (g : Datagram) → HearsWithin t p m g from to → AcceptsWithin t p m g from to
  pub connects : (n : FullName) → Connects (HearsWithin t p) t p n m k from to → Connects (AcceptsWithin t p) t p n m k from to
  pub tells : (page : Page) (interval : ℕ) → Tells (HearsWithin t p) t p page interval k m from to → Tells (AcceptsWithin t p) t p page interval k m from to

-- Hearing: in an honest run it is.
abbrev pub HearingLaw : Type 0
HearingLaw = (t : Trace) (p : Timing) (m k from to : ℕ) → IsRun t → IsHonest t.entries → HearingIsEnough t p m k from to
