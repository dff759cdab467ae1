-- When an agent fits a run of its member: all that it keeps is what the definitions say of that run.
use Rattle.std.specs.Prelude.{◌≡◌, ℕ, List, [], length, map, Some, slice_get}
use Rattle.std.specs.List.{AllByRecursion}
use Rattle.srm_names.specs.declared.limits.TheConstants.{PAGES}
use Rattle.srm_names.specs.declared.page.Page.{Page}
use Rattle.srm_names.specs.Histories.{steps}
use Rattle.srm_codec.specs.Spelling.{is_drawop}
use Rattle.srm_store.specs.Fits.{StoreFits}
use Rattle.srm_distance.specs.Fits.{DistancesFit}
use Rattle.srm_bucket.specs.Calls.{BucketCall}
use Rattle.srm_bucket.specs.Mapping.{read_call}
use Rattle.srm_bucket.specs.Content.{BucketContent}
use Rattle.srm_bucket.specs.Fits.{BucketFits}
use Rattle.srm_entries.specs.declared.entry.Entry.{Entry}
use Rattle.srm_outbox.specs.declared.out.Outgoing.{Outgoing}
use Rattle.srm_entries.specs.Configs.{Config}
use Rattle.srm_entries.specs.Entries.{state, shown, slots, last_moment, held, evidence_in, known}
use Rattle.srm_entries.specs.Distances.{distance_calls}
use Rattle.srm_names.specs.Names.{stream_on}
use Rattle.srm_entries.specs.Verdicts.{settlings, drawn_in}
use Rattle.srm_entries.specs.Sessions.{session_due}
use Rattle.srm_entries.specs.Bucket.{Going, GoesAsCharged, entries_of, bucket_calls}
use Rattle.srm_entries.specs.Giving.{given}
use Rattle.srm_entries.specs.Runs.{EntryRight}
use Rattle.srm_outbox.specs.Outs.{datagram_of}
use Rattle.srm_agent_state.specs.Progress.{ProgressContent, ProgressFits}
use Rattle.srm_agent_state.specs.TimersKept.{TimersFit}
use Rattle.srm_agent.specs.Contents.{AgentContent}

-- what waits in the bucket is what the entries added to it, each item encoded
pub record BucketFitsPast (c : Config) (past : List Entry) (b : BucketContent Outgoing) : Type 0 where
  pub goings : List Going
  pub entries : entries_of goings ≡ past
  pub goes : AllByRecursion GoesAsCharged (steps goings)
  pub calls : List (BucketCall Outgoing)
  pub read : map (read_call datagram_of) calls ≡ bucket_calls c.me goings
  pub fits : BucketFits c.rate c.depth calls b

-- each slot has its progress
pub record EachProgressFits (past : List Entry) (progress : List ProgressContent) : Type 0 where
  pub each : (j : ℕ) (f : ProgressContent) → slice_get progress j ≡ Some f → ProgressFits (given past j) f

abbrev pub AreNewProgress : List ProgressContent → Type 0
AreNewProgress progress = (length progress ≡ PAGES) × ((j : ℕ) (f : ProgressContent) → slice_get progress j ≡ Some f → ProgressFits [] f)

pub record AgentFits {W : Type 0} (c : Config) (made : ℕ) (past : List Entry) (a : AgentContent W) : Type 0 where
  pub run : AllByRecursion (EntryRight c made) (steps past)
  pub config : a.config ≡ c
  pub state : a.state ≡ state past
  pub last : a.last ≡ last_moment made past
  pub showing : a.showing ≡ shown past
  pub pages : a.pages ≡ slots past
  pub progress : EachProgressFits past a.progress
  pub store : StoreFits (held past) (evidence_in past) (settlings past) a.store
  pub distances : DistancesFit c.least_distance c.me (distance_calls c.me past) a.distances
  pub timers : TimersFit c past a.timers
  pub bucket : BucketFitsPast c past a.bucket
  pub due : a.due ≡ session_due c made past
  pub own : (page : Page) → drawn_in past (stream_on c.me page) ≡ known past (stream_on c.me page)
  pub spelled : AllByRecursion is_drawop (held past)
