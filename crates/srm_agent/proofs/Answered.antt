-- The entry of what was heard, by what is answered.
use Rattle.std.proofs.Common.{◌≡◌, ℕ, max, true, false, List, [], refl, ap}
use Rattle.std.specs.Prelude.{Some, Ok, Err}
use Rattle.srm_codec.specs.declared.datagram.Datagram.{Datagram}
use Rattle.srm_codec.specs.declared.fault.DecodeFault.{DecodeFault}
use Rattle.srm_codec.specs.Judging.{judge}
use Rattle.srm_codec.specs.Reading.{IsJudged, takes_memory}
use Rattle.srm_timers.specs.declared.arm.Arm.{Arm}
use Rattle.srm_entries.specs.declared.cause.Cause.{Cause}
use Rattle.srm_entries.specs.declared.cause.Cause.TheVariants as causes
use Rattle.srm_entries.specs.declared.cause.Outcome.TheVariants as outcomes
use Rattle.srm_entries.specs.declared.entry.Input.{Input}
use Rattle.srm_entries.specs.declared.entry.Input.TheVariants.{Heard, Noise}
use Rattle.srm_entries.specs.Entries.{is_gone}
use Rattle.srm_agent.specs.declared.heard.Heard as answers
use Rattle.srm_agent.specs.Contents.{AgentContent}
use Rattle.srm_agent.specs.Heeding.{IsJudgedBy, IsNoiseFor, entry_by, heard_entry}
use Rattle.srm_agent.specs.Noting.{AnswersHeard, Enters, HeardAs}
use Rattle.srm_agent.proofs.Ignoring.{gone_enters, gone_reads, heard_reads, ignored_entry, noise_reads, read_enters}

pub taken_entry : {W : Type 0} (a : AgentContent W) (moment : ℕ) (g : Datagram) (arms : List Arm) (h : answers.Heard) → h ≡ record { arms = arms; outcome = outcomes.Taken } → entry_by a moment (Heard g) h ≡ heard_entry a.config.me moment g arms a.state
taken_entry a moment g arms h is = ap (entry_by a moment (Heard g)) is

pub ignored_by : {W : Type 0} (a : AgentContent W) (moment : ℕ) (input : Input) (cause : Cause) (h : answers.Heard) → h ≡ record { arms = []; outcome = outcomes.Ignored cause } → entry_by a moment input h ≡ ignored_entry a moment input cause
ignored_by a moment input cause h is = ap (entry_by a moment input) is

pub answers_by : {W : Type 0} (a : AgentContent W) (moment : ℕ) (input : Input) (h : answers.Heard) → AnswersHeard (entry_by a moment input h) (Ok h)
answers_by a moment input h = (refl, refl)

-- what is answered of a datagram, of noise, and of a member that is gone
pub hears_datagram : {W : Type 0} (next_word : W → ℕ × W) (a b : AgentContent W) (now moment session : ℕ) (bytes : List ℕ) (g : Datagram) (h : answers.Heard) → is_gone a.state ≡ false → session ≡ a.config.session → judge session bytes ≡ Ok g
    → moment ≡ max now a.last → Enters next_word (Some moment) (Heard g) a b (entry_by a moment (Heard g) h) → IsJudgedBy g a (entry_by a moment (Heard g) h) → HeardAs next_word now bytes a b (Ok h)
hears_datagram next_word a b now moment session bytes g h here same judged at enters by =
    let e = entry_by a moment (Heard g) h in
    (e, read_enters next_word a b now moment (Heard g) e at enters, heard_reads next_word a b moment session bytes g e here same judged enters by, answers_by a moment (Heard g) h)

pub hears_noise : {W : Type 0} (next_word : W → ℕ × W) (a b : AgentContent W) (now moment session : ℕ) (bytes : List ℕ) (fault : DecodeFault) (h : answers.Heard) → is_gone a.state ≡ false → session ≡ a.config.session
    → IsJudged takes_memory (Err fault) (judge session bytes) → moment ≡ max now a.last → Enters next_word (Some moment) Noise a b (entry_by a moment Noise h) → IsNoiseFor fault (entry_by a moment Noise h) → HeardAs next_word now bytes a b (Ok h)
hears_noise next_word a b now moment session bytes fault h here same judged at enters noise =
    let e = entry_by a moment Noise h in
    (e, read_enters next_word a b now moment Noise e at enters, noise_reads a session bytes fault e here same judged noise, answers_by a moment Noise h)

pub hears_gone : {W : Type 0} (next_word : W → ℕ × W) (a b : AgentContent W) (now moment : ℕ) (bytes : List ℕ) (h : answers.Heard) → is_gone a.state ≡ true → b ≡ record a { last = moment } → h ≡ record { arms = []; outcome = outcomes.Ignored causes.Gone }
    → moment ≡ max now a.last → HeardAs next_word now bytes a b (Ok h)
hears_gone next_word a b now moment bytes h gone new is at =
    let e = entry_by a moment Noise h in
    let e_is = ignored_by a moment Noise causes.Gone h is in
    (e, gone_enters next_word a b now moment e gone new e_is at, gone_reads a moment bytes e gone e_is, answers_by a moment Noise h)
