-- Room in the store changes nothing that an agent fits, so what is done once there is room is done.
use Rattle.std.proofs.Common.{◌≡◌, ℕ, ◌≤◌, true, false, List, refl, ap, sym, ◌∙◌}
use Rattle.std.specs.Prelude.{◌↔◌, map, Some, Result, Err}
use Rattle.std.proofs.lemmas.Bool.{false≢true}
use Rattle.srm_names.specs.declared.drawop.Drawop.{Drawop}
use Rattle.srm_names.specs.FullName.{FullName}
use Rattle.srm_codec.specs.declared.datagram.Datagram.{Datagram}
use Rattle.srm_store.specs.Held.{outgrow, page_of_name}
use Rattle.srm_store.specs.Finals.{Settling}
use Rattle.srm_store.specs.declared.fault.StoreFault.{StoreFault}
use Rattle.srm_store.specs.declared.fault.StoreFault.TheVariants.{PageLimit}
use Rattle.srm_store.specs.Stores.{StoreContent}
use Rattle.srm_store.specs.Fits.{StoreFits, StoreStays}
use Rattle.srm_entries.specs.declared.cause.Cause.TheVariants as causes
use Rattle.srm_entries.specs.declared.entry.Entry.{Entry}
use Rattle.srm_entries.specs.declared.entry.Input.{Input}
use Rattle.srm_entries.specs.declared.entry.Input.TheVariants.{Heard}
use Rattle.srm_entries.specs.declared.entry.Verdict.TheVariants.{Done}
use Rattle.srm_entries.specs.Causes.{ignored_for}
use Rattle.srm_entries.specs.Configs.{Config}
use Rattle.srm_entries.specs.Entries.{is_gone, held, evidence_in}
use Rattle.srm_entries.specs.Verdicts.{verdict_of, settlings}
use Rattle.srm_store.specs.PageTables.{table_lacks_room_for}
use Rattle.srm_agent.specs.Contents.{AgentContent}
use Rattle.srm_agent.specs.Fits.{AgentFits}
use Rattle.srm_agent.specs.Heeding.{IsJudgedBy, MayAccept}
use Rattle.srm_agent.specs.Noting.{Enters, IsAllowed, AgentStays}
use Rattle.srm_agent.proofs.Slotted.{slots_lack}
use Rattle.srm_agent.proofs.Drawn.{slots_suffice}
use Rattle.srm_agent.proofs.Ignoring.{ignored_datagram, ignored_judged, ignored_entry}
use Rattle.srm_agent_state.proofs.Midway.{all_stays}
use Rattle.srm_agent.proofs.Taken.{stays}

-- an agent with this store
abbrev pub with_store : {W : Type 0} → AgentContent W → StoreContent → AgentContent W
with_store a s = record a { store = s }

pub stays_roomy : {W : Type 0} (a : AgentContent W) (s : StoreContent) → StoreStays a.store s → AgentStays a (with_store a s)
stays_roomy a s kept = stays a s a.timers a.words kept (all_stays a.timers) refl

pub accepted_roomy : {W : Type 0} (g : Datagram) (a : AgentContent W) (s : StoreContent) → StoreStays s a.store → IsAllowed (Heard g) a → IsAllowed (Heard g) (with_store a s)
accepted_roomy g a s before taken = record { each = λ c made past h. taken.each c made past ((stays_roomy (with_store a s) a.store before).fits c made past h) }

pub may_roomy : {W : Type 0} (g : Datagram) (names : List FullName) (moment : ℕ) (a : AgentContent W) (s : StoreContent) → StoreStays s a.store → MayAccept g names moment a → MayAccept g names moment (with_store a s)
may_roomy g names moment a s before may = record {
  here = may.here;
  spelled = may.spelled;
  later = may.later;
  in_range = may.in_range;
  allowed = accepted_roomy g a s before may.allowed;
  named = may.named;
  pages = may.pages;
}

-- what is done once there is room is done
pub enters_roomy : {W : Type 0} (next_word : W → ℕ × W) (a b : AgentContent W) (s : StoreContent) (moment : ℕ) (input : Input) (e : Entry) → StoreStays a.store s → Enters next_word (Some moment) input (with_store a s) b e → Enters next_word (Some moment) input a b e
enters_roomy next_word a b s moment input e kept enters = record {
  input_is = enters.input_is;
  moment_is = enters.moment_is;
  fits = λ c made past h. enters.fits c made past ((stays_roomy a s kept).fits c made past h);
  words = enters.words;
}

pub stays_on_roomy : {W : Type 0} (a b : AgentContent W) (s : StoreContent) → StoreStays a.store s → AgentStays (with_store a s) b → AgentStays a b
stays_on_roomy a b s kept on = record { fits = λ c made past h. on.fits c made past ((stays_roomy a s kept).fits c made past h); words = on.words }

pub judged_accepted : {W : Type 0} (g : Datagram) (a : AgentContent W) (e : Entry) → IsAllowed (Heard g) a → e.verdict ≡ Done → IsJudgedBy g a e
judged_accepted g a e taken done = record { each = λ c made past h. done ∙ sym (taken.each c made past h) }

-- the store has slots where the page table has
abbrev pub Outgrows : StoreContent → List FullName → Type 0
Outgrows s names = (inserted : List Drawop) (evidence : List FullName) (settled : List Settling) → StoreFits inserted evidence settled s → outgrow inserted evidence (map page_of_name names) ≡ true

pub never_full : {W : Type 0} (g : Datagram) (a : AgentContent W) (names : List FullName) → table_lacks_room_for a.pages names ≡ false → Outgrows a.store names
    → (c : Config) (made : ℕ) (past : List Entry) → AgentFits c made past a → ignored_for (Some causes.PageLimit) ≡ verdict_of c past (Heard g)
never_full g a names room full c made past h =
    let fine = slots_lack past (map page_of_name names) ∙ ap (λ ps. table_lacks_room_for ps names) (sym h.pages) ∙ room in
    absurd (false≢true (sym (slots_suffice c made past (map page_of_name names) h.run fine) ∙ full (held past) (evidence_in past) (settlings past) h.store))

pub unslotted_enters : {W : Type 0} (next_word : W → ℕ × W) (a b : AgentContent W) (moment : ℕ) (g : Datagram) (names : List FullName) (e : Entry) → is_gone a.state ≡ false → a.last ≤ moment
    → table_lacks_room_for a.pages names ≡ false → Outgrows a.store names → b ≡ record a { last = moment } → e ≡ ignored_entry a moment (Heard g) causes.PageLimit → Enters next_word (Some moment) (Heard g) a b e
unslotted_enters next_word a b moment g names e here late room full new is = ignored_datagram next_word a b moment g causes.PageLimit (Some causes.PageLimit) e here late refl (never_full g a names room full) new is

pub unslotted_judged : {W : Type 0} (a : AgentContent W) (moment : ℕ) (g : Datagram) (names : List FullName) (e : Entry)
    → table_lacks_room_for a.pages names ≡ false → Outgrows a.store names → e ≡ ignored_entry a moment (Heard g) causes.PageLimit → IsJudgedBy g a e
unslotted_judged a moment g names e room full is = ignored_judged a moment g causes.PageLimit (Some causes.PageLimit) e refl (never_full g a names room full) is

-- what follows if the store has no slots for the pages
pub at_full : (s : StoreContent) (names : List FullName) (r : Result (Unit {0}) StoreFault) → r ≡ Err PageLimit
    → ((inserted : List Drawop) (evidence : List FullName) (settled : List Settling) → StoreFits inserted evidence settled s → ((r ≡ Err PageLimit) ↔ (outgrow inserted evidence (map page_of_name names) ≡ true)))
    → Outgrows s names
at_full s names r e limit inserted evidence settled h = (limit inserted evidence settled h).0 e

pub with_moment : {W : Type 0} (a b : AgentContent W) (s : StoreContent) (moment : ℕ) → s ≡ a.store → b ≡ record a { store = s; last = moment } → b ≡ record a { last = moment }
with_moment a b s moment same new = new ∙ ap (λ t. record a { store = t; last = moment }) same
