-- A new agent fits the empty run if its parts do.
use Rattle.std.proofs.Common.{◌≡◌, ℕ, ◌+◌, max, List, [], ◌∷◌, refl, ◌∙◌, subst, arith}
use Rattle.srm_names.specs.Names.{first_page}
use Rattle.srm_store.specs.Fits.{StoreFits}
use Rattle.srm_distance.specs.Fits.{DistancesFit}
use Rattle.srm_bucket.specs.Calls.{BucketCall}
use Rattle.srm_bucket.specs.Content.{BucketContent}
use Rattle.srm_bucket.specs.Fits.{BucketFits}
use Rattle.srm_entries.specs.declared.state.AgentState.TheVariants.{Active}
use Rattle.srm_outbox.specs.declared.out.Outgoing.{Outgoing}
use Rattle.srm_entries.specs.Configs.{Config}
use Rattle.srm_agent.specs.Contents.{AgentContent}
use Rattle.srm_agent.specs.Fits.{AgentFits, AreNewProgress}
use Rattle.srm_agent_state.specs.TimersKept.{TimersFit}

pub fits_begins : {W : Type 0} (c : Config) (made : ℕ) (a : AgentContent W) → a.config ≡ c → a.state ≡ Active → a.last ≡ made → a.showing ≡ first_page → a.pages ≡ first_page ∷ []
    → AreNewProgress a.progress → StoreFits [] [] [] a.store → DistancesFit c.least_distance c.me [] a.distances → TimersFit c [] a.timers
    → (let calls : List (BucketCall Outgoing) = [] in BucketFits c.rate c.depth calls a.bucket) → a.due ≡ made + 1000000 → AgentFits c made [] a
fits_begins c made a config state last showing pages progress kept heard timers bucket due = record {
  run = tt;
  config = config;
  state = state;
  last = last ∙ least made;
  showing = showing;
  pages = pages;
  progress = record { each = progress.1 };
  store = kept;
  distances = heard;
  timers = timers;
  bucket = record { goings = []; entries = refl; goes = tt; calls = []; read = refl; fits = bucket };
  due = due;
  own = λ page. refl;
  spelled = tt;
}
  where
    least : (n : ℕ) → n ≡ max n 0
    least n = omega arith

pub bucket_with : {rate depth rate' depth' : ℕ} {b : BucketContent Outgoing} → rate ≡ rate' → depth ≡ depth' → (let calls : List (BucketCall Outgoing) = [] in BucketFits rate depth calls b)
    → (let calls : List (BucketCall Outgoing) = [] in BucketFits rate' depth' calls b)
bucket_with {rate = rate} {depth' = depth'} {b = b} p q h = subst (λ x. (let calls : List (BucketCall Outgoing) = [] in BucketFits x depth' calls b)) p (subst (λ x. (let calls : List (BucketCall Outgoing) = [] in BucketFits rate x calls b)) q h)
