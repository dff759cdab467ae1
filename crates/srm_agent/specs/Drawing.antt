-- The faults of a draw, and what it makes and leaves.
use Rattle.std.specs.Prelude.{◌≡◌, ℕ, ◌+◌, nat_lt, nat_le, Bool, List, [], ◌∷◌, Option, Some, None, if◌then◌else◌}
use Rattle.srm_names.specs.declared.limits.TheConstants.{DRAWOPS, LONGEST_BODY}
use Rattle.srm_names.specs.declared.page.Page.{Page}
use Rattle.srm_names.specs.declared.stream.Stream.{Stream}
use Rattle.srm_names.specs.declared.drawop.Drawop.{Drawop}
use Rattle.srm_names.specs.FullName.{FullName}
use Rattle.srm_names.specs.Names.{named}
use Rattle.srm_codec.specs.declared.datagram.Datagram.TheVariants.{Data}
use Rattle.srm_codec.specs.Spelling.{length_of}
use Rattle.srm_agent.specs.declared.agent.drafting.Draft.{Draft}
use Rattle.srm_entries.specs.declared.state.AgentState.{AgentState}
use Rattle.srm_entries.specs.declared.fault.AgentFault.{AgentFault}
use Rattle.srm_entries.specs.declared.fault.AgentFault.TheVariants as faults
use Rattle.srm_entries.specs.declared.entry.Entry.{Entry}
use Rattle.srm_entries.specs.declared.entry.Input.TheVariants.{Drew}
use Rattle.srm_entries.specs.declared.entry.Verdict.{Verdict}
use Rattle.srm_entries.specs.declared.entry.Verdict.TheVariants.{Done, Refused}
use Rattle.srm_entries.specs.Entries.{is_gone, is_leaving}
use Rattle.srm_store.specs.PageTables.{table_lacks_room}
use Rattle.srm_outbox.specs.Outs.{IsOutgoingOf}

abbrev pub verdict_of_refusal : Option AgentFault → Verdict
verdict_of_refusal None = Done
verdict_of_refusal (Some fault) = Refused fault

-- the faults of a draw in their order, a full stream aside
abbrev pub refusals : AgentState → List Page → Page → ℕ → List (Bool × Verdict)
refusals state pages page length =
    (is_gone state, Refused faults.Gone)
    ∷ (is_leaving state, Refused faults.Leaving)
    ∷ (nat_lt LONGEST_BODY length, Refused faults.BodyLong)
    ∷ (table_lacks_room pages page, Refused faults.PageLimit) ∷ []

-- the name after so many of a stream, and None if it is full
abbrev pub name_after : Stream → ℕ → Option FullName
name_after s count = if nat_le DRAWOPS count then None else Some (named s (count + 1))

-- the entry of a draw that is done
abbrev pub drawn_entry : ℕ → ℕ → Page → List ℕ → Drawop → AgentState → Entry
drawn_entry me moment page body drawop after = record {
  member = me;
  moment = moment;
  input = Drew page body;
  verdict = Done;
  effects = record { drawn = Some drawop; arms = []; asks = []; fixes = []; outs = []; message = None; state = after };
}

-- the drawop in both forms: to hold, and to send
pub record IsDraftOf (session : ℕ) (drawop : Drawop) (draft : Draft) : Type 0 where
  pub held : draft.held ≡ drawop
  pub going : IsOutgoingOf session (Data drawop) draft.going.value
  pub length : draft.going.length ≡ length_of (Data drawop)
