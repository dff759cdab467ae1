-- The last entry of a journal is right.
use Rattle.std.proofs.Common.{◌≡◌, ◌≢◌, ℕ, subst}
use Rattle.srm_entries.specs.declared.entry.Entry.{Entry}
use Rattle.srm_entries.specs.declared.entry.Input.TheVariants.{Gave, Ticked}
use Rattle.srm_entries.specs.declared.entry.Verdict.TheVariants.{Done, Refused}
use Rattle.srm_entries.specs.declared.fault.AgentFault.TheVariants as faults
use Rattle.srm_entries.specs.Verdicts.{VerdictRight}
use Rattle.srm_entries.specs.Runs.{EntryRight}
use Rattle.srm_world.specs.Traces.{Journal}
use Rattle.srm_world.specs.Claims.{IsLawfulJournal}
use Rattle.srm_world.specs.Recording.{with_entry}
use Rattle.srm_world.proofs.Going.{newest_right}
use Rattle.srm_world.proofs.Unrefused.{verdict_not}

last_right : (j k : Journal) (e : Entry) → k ≡ with_entry j e → IsLawfulJournal k → EntryRight j.start.config j.start.made (record { before = j.entries; this = e })
last_right j k e grown lawful = newest_right j.start.config j.start.made j.entries e (subst IsLawfulJournal grown lawful).run.each

-- a give is always done
pub give_done : (j k : Journal) (e : Entry) (slot : ℕ) → k ≡ with_entry j e → IsLawfulJournal k → e.input ≡ Gave slot → e.verdict ≡ Done
give_done j k e slot grown lawful input = subst (λ i. VerdictRight j.start.config j.entries i e.verdict) input (last_right j k e grown lawful).verdict

-- and so is a tick
pub tick_done : (j k : Journal) (e : Entry) → k ≡ with_entry j e → IsLawfulJournal k → e.input ≡ Ticked → e.verdict ≡ Done
tick_done j k e grown lawful input = subst (λ i. VerdictRight j.start.config j.entries i e.verdict) input (last_right j k e grown lawful).verdict

-- the entry of a call isn't of one for which memory ran out
pub not_memory : (j k : Journal) (e : Entry) → k ≡ with_entry j e → IsLawfulJournal k → e.verdict ≢ Refused faults.Memory
not_memory j k e grown lawful = verdict_not j.start.config j.entries e.input e.verdict (last_right j k e grown lawful).verdict
