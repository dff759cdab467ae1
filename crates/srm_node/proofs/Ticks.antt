-- A tick, and a leaving that is due.
use Rattle.std.proofs.Common.{◌≡◌, ℕ, Bool, List, refl, ap, sym, ◌∙◌, subst, inl, inr}
use Rattle.std.specs.Prelude.{Option, Some, Result, Err, map}
use Rattle.srm_entries.specs.declared.entry.Entry.{Entry}
use Rattle.srm_entries.specs.declared.entry.Input.TheVariants.{Ticked, AskedLeave}
use Rattle.srm_entries.specs.declared.entry.Verdict.{Verdict}
use Rattle.srm_entries.specs.declared.entry.Verdict.TheVariants.{Done, Ignored, Refused}
use Rattle.srm_entries.specs.declared.fault.AgentFault.{AgentFault}
use Rattle.srm_entries.specs.declared.fault.AgentFault.TheVariants as faults
use Rattle.srm_agent.specs.Noting.{AnswersAs, IsTicked}
use Rattle.srm_world.specs.Traces.{Journal}
use Rattle.srm_world.specs.Claims.{IsLawfulJournal}
use Rattle.srm_world.specs.Recording.{Records}
use Rattle.srm_entries.specs.Configs.{Config}
use Rattle.srm_outbox.specs.declared.out.Out.{Out}
use Rattle.srm_wire.specs.declared.sent.Sent.{Sent}
use Rattle.srm_wire.specs.Wires.{Told, Sends, SendsEach, dispatched}
use Rattle.srm_node.specs.Parts.{Ticks}
use Rattle.srm_node.specs.Nodes.{NodeView}
use Rattle.srm_node.specs.Turns.{TicksNow}
use Rattle.srm_node.proofs.Rightly.{tick_done, not_memory}

pub ticks_not : (now : ℕ) (j k : Journal) (fault : AgentFault) → IsLawfulJournal k → Records (Some now) Ticked (IsTicked j.start.config.session) j k (Err fault) → k ≡ j
ticks_not now j k fault lawful (inr (is, same)) = same
ticks_not now j k fault lawful (inl (e, grows, input, answers)) =
    absurd (let a : AnswersAs (IsTicked j.start.config.session e) Done (Err fault) = subst (λ v. AnswersAs (IsTicked j.start.config.session e) v (Err fault)) (tick_done j k e grows.grown lawful input) answers in a)

-- memory ran out, and nothing was asked
pub leaves_cut : {A : Type 0} (now : ℕ) (is : Entry → A → Type 0) (j k : Journal) (fault : AgentFault) → IsLawfulJournal k → fault ≡ faults.Memory → Records (Some now) AskedLeave is j k (Err fault) → k ≡ j
leaves_cut now is j k fault lawful memory (inr (wrong, same)) = same
leaves_cut now is j k fault lawful memory (inl (e, grows, input, answers)) = absurd (which e.verdict refl answers)
  where
    fault_of : {B : Type 0} (x : Result B AgentFault) (f : AgentFault) → x ≡ Err fault → x ≡ Err f → f ≡ faults.Memory
    fault_of x f p q = cc

    which : (v : Verdict) → e.verdict ≡ v → AnswersAs (is e) v (Err fault) → ⊥
    which Done at_v h = h
    which (Ignored cause) at_v h = h
    which (Refused f) at_v h = not_memory j k e grows.grown lawful (at_v ∙ ap Refused (fault_of (Err fault) f refl h))

-- what the tick sends was sent by the node's own settings
pub ticks_now : {X C : Type 0} (S : X → Sent → Bool → X → Type 0) (now : ℕ) (unsent : Bool) (n : NodeView X C) (k : Journal) (failures : ℕ) (told : Option Told) (wire : X) (outs sent : List Out) (config : Config) (me members : ℕ) → n.journal.start.config ≡ config → me ≡ config.me → members ≡ config.members → sent ≡ outs
    → Ticks now outs n.journal k → Sends unsent (dispatched me members (map (λ (o : Out). o.bytes) sent)) n.failures failures n.told told → SendsEach S unsent (dispatched me members (map (λ (o : Out). o.bytes) sent)) n.wire wire
    → TicksNow S now unsent n (record n { journal = k; failures = failures; told = told; wire = wire })
ticks_now S now unsent n k failures told wire outs sent config me members settings is_me are_members are_outs ticks sends tried = record {
  outs = outs;
  ticks = ticks;
  sends = subst (λ ss. Sends unsent ss n.failures failures n.told told) same sends;
  tried = subst (λ ss. SendsEach S unsent ss n.wire wire) same tried;
  same = refl;
}
  where
    all : List Out → List (List ℕ)
    all os = map (λ (o : Out). o.bytes) os

    same : dispatched me members (all sent) ≡ dispatched n.journal.start.config.me n.journal.start.config.members (all outs)
    same = ap (λ os. dispatched me members (all os)) are_outs ∙ ap (λ m. dispatched m members (all outs)) (is_me ∙ sym (ap (λ (c : Config). c.me) settings)) ∙ ap (λ m. dispatched n.journal.start.config.me m (all outs)) (are_members ∙ sym (ap (λ (c : Config). c.members) settings))
