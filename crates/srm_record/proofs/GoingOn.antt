-- Each call of a recorder goes on from where it was.
use Rattle.std.proofs.Common.{◌≡◌, ℕ, refl, ap, ◌∙◌, inl, inr}
use Rattle.std.specs.Prelude.{Option, Result, List}
use Rattle.srm_entries.specs.declared.fault.AgentFault.{AgentFault}
use Rattle.srm_entries.specs.declared.entry.Entry.{Entry}
use Rattle.srm_entries.specs.declared.entry.Input.{Input}
use Rattle.srm_agent.specs.declared.heard.Heard.{Heard}
use Rattle.srm_world.specs.Traces.{Journal}
use Rattle.srm_world.specs.WaitWords.{RecorderView, RecordsByWords}
use Rattle.srm_world.specs.Recording.{Records, RecordsHeard}
use Rattle.srm_world.proofs.HearsAll.{words_go_on}
use Rattle.srm_world.proofs.Wording.{no_words_recorded}
use Rattle.srm_record.specs.Replays.{GoesOn}

start_of_call : {A : Type 0} (now : Option ℕ) (input : Input) (is : Entry → A → Type 0) (j k : Journal) (answer : Result A AgentFault) → Records now input is j k answer → k.start ≡ j.start
start_of_call now input is j k answer (inl (e, grows, says, answers)) = ap (λ (x : Journal). x.start) grows.grown
start_of_call now input is j k answer (inr (wrong, same)) = ap (λ (x : Journal). x.start) same

start_of_hearing : (now : ℕ) (bytes : List ℕ) (j k : Journal) (answer : Result Heard AgentFault) → RecordsHeard now bytes j k answer → k.start ≡ j.start
start_of_hearing now bytes j k answer (inl (e, grows, says, answers)) = ap (λ (x : Journal). x.start) grows.grown
start_of_hearing now bytes j k answer (inr (wrong, same)) = ap (λ (x : Journal). x.start) same

pub goes_on_by_call : {W A : Type 0} (next_word : W → ℕ × W) (now : Option ℕ) (input : Input) (is : Entry → A → Type 0) (a b : RecorderView W) (answer : Result A AgentFault) → Records now input is a.journal b.journal answer → RecordsByWords next_word a b → GoesOn next_word a b
goes_on_by_call next_word now input is a b answer records words = record { start = start_of_call now input is a.journal b.journal answer records; words = words }

pub goes_on_by_hearing : {W : Type 0} (next_word : W → ℕ × W) (now : ℕ) (bytes : List ℕ) (a b : RecorderView W) (answer : Result Heard AgentFault) → RecordsHeard now bytes a.journal b.journal answer → RecordsByWords next_word a b → GoesOn next_word a b
goes_on_by_hearing next_word now bytes a b answer records words = record { start = start_of_hearing now bytes a.journal b.journal answer records; words = words }

pub stays : {W : Type 0} (next_word : W → ℕ × W) (a b : RecorderView W) → b ≡ a → GoesOn next_word a b
stays next_word a b same = record { start = ap (λ (x : RecorderView _). x.journal.start) same; words = no_words_recorded next_word a b same }

pub goes_on_more : {W : Type 0} (next_word : W → ℕ × W) (a b c : RecorderView W) → GoesOn next_word a b → GoesOn next_word b c → GoesOn next_word a c
goes_on_more next_word a b c h k = record { start = k.start ∙ h.start; words = words_go_on next_word a b c h.start h.words k.words }

-- and the recorder ended
pub records_to_end : {W : Type 0} (next_word : W → ℕ × W) (a b : RecorderView W) → RecordsByWords next_word a b → RecordsByWords next_word a (record { journal = b.journal; words = b.words; begins = a.begins })
records_to_end next_word a b h = record { added = h.added; grown = h.grown; words = h.words; begins = refl }
