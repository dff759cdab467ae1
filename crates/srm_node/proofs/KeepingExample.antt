-- What a node keeps after a turn, and what a host returns, at worked examples.
use Rattle.std.proofs.Common.{◌≡◌, List, false, [], ◌∷◌, ◌++◌, refl, sym, subst, inr}
use Rattle.std.specs.Prelude.{None, replicate}
use Rattle.srm_names.specs.declared.page_msg.PageMsg.{PageMsg}
use Rattle.srm_pages.specs.Ends.{WellView, LaneId}
use Rattle.srm_node.specs.declared.fault.NodeFault.TheVariants.{Memory}
use Rattle.srm_node.specs.declared.hosting.Hosted.{Hosted}
use Rattle.srm_node.specs.declared.working.Worked.{Worked}
use Rattle.srm_node.specs.Carrying.{DrawsReceived}
use Rattle.srm_node.specs.Nodes.{NodeKeepsLists, IsNode}
use Rattle.srm_node.specs.Hosting.{WorkedAs, WorkedEach, HostFails, Hosts}
use Rattle.srm_node.specs.TurnSample.{calls, journal}
use Rattle.srm_node.specs.WholeTurnExamples.{before, after, put, feeds, entries, stroke, lawful, carries, new_feeds}
use Rattle.srm_node.specs.HostExamples.{tap, counting, one_start}
use Rattle.srm_node.specs.PartingExamples as parting
use Rattle.srm_node.proofs.Keeping.{keeps_new}
use Rattle.srm_node.proofs.Releasing.{puts_released}
use Rattle.srm_entries.specs.Sample.{config}

-- over a stroke queue that nothing had been received from
keeps : (lane : LaneId) (well : WellView) → well.received ≡ [] → NodeKeepsLists (after lane well)
keeps lane well none = record {
  lawful = lawful;
  slots = refl;
  carries = carries lane;
  puts = puts_released (journal entries) (feeds put lane) lawful (carries lane);
  draws_are = subst (λ received. DrawsReceived (journal entries) (received ++ stroke ∷ []) None) (sym none) refl;
}

is_node : (lane : LaneId) (well : WellView) → well.received ≡ [] → IsNode (after lane well) (config 0) 4096 (replicate 8 false)
is_node lane well none = record { lists = keeps lane well none; settings = refl; room_is = refl; closed_are = refl }

keeps_parted : (lane : LaneId) (well : WellView) → well.received ≡ [] → NodeKeepsLists (parting.ended lane well)
keeps_parted lane well none = record {
  lawful = parting.lawful;
  slots = refl;
  carries = parting.carries lane;
  puts = puts_released (journal parting.entries) (parting.ended lane well).feeds parting.lawful (parting.carries lane);
  draws_are = subst (λ received. DrawsReceived (journal parting.entries) received None) (sym none) refl;
}

-- The member left in the node's one turn, and the worker of slot 0 took what was put, which its sink saw.
hosted : {P L : Type 0} (entries_of : L → List PageMsg) (lane : LaneId) (well : WellView) (w : Worked L) (h : Hosted P L) → well.received ≡ [] → WorkedAs (counting entries_of) (tap 0 [] lane, 0) w → h.history.journal ≡ (parting.ended lane well).journal → h.feeds.items ≡ (parting.ended lane well).feeds → h.worked.items ≡ w ∷ []
    → Hosts calls (counting entries_of) (parting.first_of_all lane well) (one_start lane) 5 h
hosted entries_of lane well w h none worked journal_is feeds_are worked_is = record {
  last = parting.ended lane well;
  runs = parting.runs_to_end lane well;
  keeps = keeps_parted lane well none;
  journal = journal_is;
  feeds = feeds_are;
  slots = refl;
  lanes = (parting.gives_all lane well).gives.same;
  workers = subst (WorkedEach (counting entries_of) (one_start lane)) (sym worked_is) (worked, tt);
}

-- No worker could be started, and no tap is behind the one that it was to take from: the node wasn't turned, and its feeds were dropped.
not_started : {P L : Type 0} (entries_of : L → List PageMsg) (lane : LaneId) (well : WellView) (h : Hosted P L) → well.received ≡ [] → h.history.journal ≡ (before lane well).journal → h.feeds.items ≡ [] → h.worked.items ≡ [] → h.left.items ≡ []
    → HostFails calls (counting entries_of) false (before lane well) (one_start lane) 5 Memory h
not_started entries_of lane well h none journal_is feeds_are worked_are left_is = record {
  started = [];
  up_to = record { others = one_start lane; split = refl; behind = sym left_is; whole = tt };
  stops = record {
    last = before lane well;
    runs = inr (refl, refl, refl);
    keeps = keeps_new (journal []) (feeds [] lane) well.received refl (new_feeds lane) none;
    journal = journal_is;
    feeds = feeds_are;
    workers = subst (WorkedEach (counting entries_of) []) (sym worked_are) tt;
  };
}
