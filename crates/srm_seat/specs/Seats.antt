-- What a seat holds: one member's agent, and what its last tick left to be taken.
use Rattle.std.specs.Prelude.{◌≡◌, ℕ, List, []}
use Rattle.rand_pcg.specs.Lcg.{Lcg}
use Rattle.srm_names.specs.FullName.{FullName}
use Rattle.srm_timers.specs.Seeds.{words_of}
use Rattle.srm_outbox.specs.declared.out.Out.{Out}
use Rattle.srm_entries.specs.Configs.{Config}
use Rattle.srm_agent.specs.Contents.{AgentContent}
use Rattle.srm_agent.specs.Fits.{AgentFits}

-- an agent that chooses its waits by the random numbers of a seed
abbrev pub SeededAgent : Type 0
SeededAgent = AgentContent Lcg

pub record SeatContent : Type 0 where
  pub agent : SeededAgent
  pub requests : List FullName
  pub repairs : List FullName
  pub datagrams : List Out

-- the agent has these settings and the random numbers of this seed, did nothing yet, and left nothing
pub record IsNewSeat (c : Config) (now seed : ℕ) (s : SeatContent) : Type 0 where
  pub fits : AgentFits c now [] s.agent
  pub words : s.agent.words ≡ words_of seed
  pub requests : s.requests ≡ []
  pub repairs : s.repairs ≡ []
  pub datagrams : s.datagrams ≡ []

-- all that the last tick left is still to be taken
pub record LeftStays (old new : SeatContent) : Type 0 where
  pub requests : new.requests ≡ old.requests
  pub repairs : new.repairs ≡ old.repairs
  pub datagrams : new.datagrams ≡ old.datagrams
