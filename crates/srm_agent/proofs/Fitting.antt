-- What an agent fits is a run of its member, and it still fits with other parts that fit.
use Rattle.std.proofs.Common.{ℕ, List, subst}
use Rattle.srm_store.specs.Fits.{StoreFits}
use Rattle.srm_store.specs.Stores.{StoreContent}
use Rattle.srm_bucket.specs.Content.{BucketContent}
use Rattle.srm_bucket.specs.Fits.{BucketStays}
use Rattle.srm_bucket.specs.Law.{BucketLaw}
use Rattle.srm_bucket.proofs.Mapping.{law-read}
use Rattle.srm_entries.specs.declared.entry.Entry.{Entry}
use Rattle.srm_entries.specs.Configs.{Config}
use Rattle.srm_agent.specs.Contents.{AgentContent}
use Rattle.srm_entries.specs.Entries.{held, evidence_in}
use Rattle.srm_entries.specs.Verdicts.{settlings}
use Rattle.srm_agent_state.specs.TimersKept.{TimersContent, TimersFit}
use Rattle.srm_agent.specs.Fits.{AgentFits, BucketFitsPast}
use Rattle.srm_outbox.specs.declared.out.Outgoing.{Outgoing}
use Rattle.srm_outbox.specs.Outs.{datagram_of}
use Rattle.srm_entries.specs.Runs.{IsMemberRun}

pub fits_run : {W : Type 0} (c : Config) (made : ℕ) (past : List Entry) (a : AgentContent W) → AgentFits c made past a → IsMemberRun c made past
fits_run c made past a h = record {
  each = h.run;
  bucket = (h.bucket.goings, h.bucket.entries, h.bucket.goes, subst (BucketLaw c.rate c.depth) h.bucket.read (law-read datagram_of c.rate c.depth h.bucket.calls h.bucket.fits.law));
}

-- an agent with another store, timers and bucket that fit the run, and with any random numbers
pub refit : {W : Type 0} (c : Config) (made : ℕ) (past : List Entry) (a : AgentContent W) (s : StoreContent) (t : TimersContent) (k : BucketContent Outgoing) (w : W)
    → AgentFits c made past a → StoreFits (held past) (evidence_in past) (settlings past) s → TimersFit c past t → BucketFitsPast c past k → AgentFits c made past (record a { store = s; timers = t; bucket = k; words = w })
refit c made past a s t k w h stores timers bucket = record {
  run = h.run;
  config = h.config;
  state = h.state;
  last = h.last;
  showing = h.showing;
  pages = h.pages;
  progress = h.progress;
  store = stores;
  distances = h.distances;
  timers = timers;
  bucket = bucket;
  due = h.due;
  own = h.own;
  spelled = h.spelled;
}

-- the bucket still fits
pub roomy : (c : Config) (past : List Entry) (old new : BucketContent Outgoing) → BucketStays old new → BucketFitsPast c past old → BucketFitsPast c past new
roomy c past old new stays h = record { goings = h.goings; entries = h.entries; goes = h.goes; calls = h.calls; read = h.read; fits = stays.fits c.rate c.depth h.calls h.fits }
