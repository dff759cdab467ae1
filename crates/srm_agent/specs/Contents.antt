-- What an agent keeps.
use Rattle.std.specs.Prelude.{◌≡◌, ℕ, ◌≤◌, List, length}
use Rattle.srm_names.specs.declared.limits.TheConstants.{LATEST_MOMENT, PAGES}
use Rattle.srm_names.specs.declared.page.Page.{Page}
use Rattle.srm_store.specs.Stores.{StoreContent}
use Rattle.srm_distance.specs.Content.{DistancesContent}
use Rattle.srm_bucket.specs.Content.{BucketContent}
use Rattle.srm_entries.specs.declared.state.AgentState.{AgentState}
use Rattle.srm_outbox.specs.declared.out.Outgoing.{Outgoing}
use Rattle.srm_agent.specs.declared.agent.Agent.TheInside.{Inside}
use Rattle.srm_entries.specs.Configs.{Config}
use Rattle.srm_agent_state.specs.Progress.{ProgressContent}
use Rattle.srm_outbox.specs.Outs.{AreOwn}
use Rattle.srm_outbox.specs.DueItems.{HoldsSpellable}
use Rattle.srm_agent_state.specs.TimersKept.{TimersContent, HaveSettings}

pub record AgentContent (W : Type 0) : Type 0 where
  pub config : Config
  pub words : W
  pub state : AgentState
  pub last : ℕ
  pub showing : Page
  pub pages : List Page
  pub progress : List ProgressContent
  pub store : StoreContent
  pub distances : DistancesContent
  pub timers : TimersContent
  pub bucket : BucketContent Outgoing
  pub due : ℕ

abbrev pub content_of : {W : Type 0} → Inside W → AgentContent W
content_of a = record {
  config = a.config;
  words = a.words;
  state = a.state;
  last = a.last;
  showing = a.showing;
  pages = a.pages;
  progress = a.progress.items;
  store = a.store;
  distances = a.distances;
  timers = a.timers;
  bucket = a.bucket;
  due = a.due;
}

-- Each slot has its progress, whether it has a page or not. What is held can be encoded. The timers have the agent's settings. What waits
-- in the bucket is this member's, and encoded in its session.
pub record IsWhole {W : Type 0} (a : Inside W) : Type 0 where
  pub last : a.last ≤ LATEST_MOMENT
  pub progress : length a.progress.items ≡ PAGES
  pub held : HoldsSpellable a.store
  pub settings : HaveSettings a.config a.timers
  pub waiting : AreOwn a.config.me a.config.session a.bucket.waiting
