-- What the calls of a recorder do to its journal.
use Rattle.std.specs.Prelude.{◌≡◌, ◌⊎◌, ℕ, ◌<◌, List, [], ◌∷◌, ◌++◌, take, length, Option, Some, Result, Ok, Err}
use Rattle.srm_entries.specs.declared.fault.AgentFault.{AgentFault}
use Rattle.srm_entries.specs.declared.fault.AgentFault.TheVariants.{Memory}
use Rattle.srm_agent.specs.declared.heard.Heard.{Heard}
use Rattle.srm_entries.specs.declared.entry.Entry.{Entry}
use Rattle.srm_entries.specs.declared.entry.Input.{Input}
use Rattle.srm_entries.specs.Entries.{last_moment}
use Rattle.srm_entries.specs.Hearing.{bytes_heard}
use Rattle.srm_agent.specs.Noting.{AnswersAs, AnswersHeard, moment_that_counts}
use Rattle.srm_world.specs.Traces.{Journal}

-- the journal with one more entry
abbrev pub with_entry : Journal → Entry → Journal
with_entry j e = record { start = j.start; entries = j.entries ++ e ∷ [] }

-- the journal has one more entry, at the moment that counts
pub record Grows (now : Option ℕ) (old new : Journal) (e : Entry) : Type 0 where
  pub moment : e.moment ≡ moment_that_counts now (last_moment old.start.made old.entries)
  pub grown : new ≡ with_entry old e

-- The journal has one more entry, which is of this input, and the call returned what the entry says. Or memory ran out, and the journal
-- is the same.
abbrev pub Records : {A : Type 0} → Option ℕ → Input → (Entry → A → Type 0) → Journal → Journal → Result A AgentFault → Type 0
Records now input is old new answer =
    ((e : Entry) × Grows now old new e × (e.input ≡ input) × AnswersAs (is e) e.verdict answer) ⊎ ((answer ≡ Err Memory) × (new ≡ old))

-- the same for bytes: the entry is of the datagram that they encode, else of noise with their fault
abbrev pub RecordsHeard : ℕ → List ℕ → Journal → Journal → Result Heard AgentFault → Type 0
RecordsHeard now bytes old new answer =
    ((e : Entry) × Grows (Some now) old new e × ((e.input, e.verdict) ≡ bytes_heard old.start.config old.entries bytes) × AnswersHeard e answer)
    ⊎ ((answer ≡ Err Memory) × (new ≡ old))

-- the journal with these entries added
abbrev pub with_entries : Journal → List Entry → Journal
with_entries j es = record { start = j.start; entries = j.entries ++ es }

-- the entry is at the moment that counts: the caller's, but one below the last counts as the last
abbrev pub IsAt : ℕ → Journal → Entry → Type 0
IsAt now j e = e.moment ≡ moment_that_counts (Some now) (last_moment j.start.made j.entries)

-- the entry says what these bytes are to the member: the datagram that they encode, else noise
pub record IsHearing (now : ℕ) (j : Journal) (bytes : List ℕ) (e : Entry) : Type 0 where
  pub moment : IsAt now j e
  pub heard : (e.input, e.verdict) ≡ bytes_heard j.start.config j.entries bytes

-- these are entries for each of the items, in order, and no others: `Is` holds of each, with the journal before it and its item
abbrev pub EntersEach : {X : Type 0} → (Journal → X → Entry → Type 0) → Journal → List X → List Entry → Type 0
EntersEach Is j [] [] = Unit {0}
EntersEach Is j (x ∷ xs) (e ∷ es) = Is j x e × EntersEach Is (with_entry j e) xs es
EntersEach Is j _ _ = ⊥

-- these are entries for each of the datagrams that came
abbrev pub HearsEach : ℕ → Journal → List (List ℕ) → List Entry → Type 0
HearsEach now j came es = EntersEach (IsHearing now) j came es

-- the journal has an entry more for each of the datagrams, in order
pub record HearsAll (now : ℕ) (all : List (List ℕ)) (old new : Journal) : Type 0 where
  pub entries : List Entry
  pub grown : new ≡ with_entries old entries
  pub each : HearsEach now old all entries

-- memory ran out: the journal has an entry more for each datagram before one of them
pub record HearsPrefix (now : ℕ) (all : List (List ℕ)) (old new : Journal) : Type 0 where
  pub count : ℕ
  pub few : count < length all
  pub prefix : HearsAll now (take count all) old new

-- each was heard, or memory ran out at one of them
abbrev pub RecordsAll : ℕ → List (List ℕ) → Journal → Journal → Result (Unit {0}) AgentFault → Type 0
RecordsAll now all old new (Ok _) = HearsAll now all old new
RecordsAll now all old new (Err fault) = (fault ≡ Memory) × HearsPrefix now all old new
