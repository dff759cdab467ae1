-- Workers that are started and joined, and what a host returns, at worked examples.
use Rattle.std.specs.Prelude.{◌≡◌, ◌≢◌, ℕ, zero, suc, Bool, true, false, List, [], ◌∷◌, ◌++◌, map, drop, Some, None, refl, MatchBool}
use Rattle.std.proofs.Common.{ap, sym, ◌∙◌, subst, inl}
use Rattle.std.proofs.lemmas.Option.{same_Some}
use Rattle.srm_names.specs.Names.{first_page}
use Rattle.srm_names.specs.declared.page_msg.PageMsg.{PageMsg}
use Rattle.srm_names.specs.declared.page_msg.PageMsg.TheVariants.{Open}
use Rattle.srm_pages.specs.Ends.{FeedView, TapView, WellView, LaneId}
use Rattle.srm_control.specs.declared.command.PageCommand.{PageCommand}
use Rattle.srm_control.specs.declared.command.PageAnswer.{PageAnswer}
use Rattle.srm_control.specs.Ends.{LineId, CommandsView, new_commands}
use Rattle.srm_node.specs.declared.fault.NodeFault.TheVariants.{Memory, Turns}
use Rattle.srm_node.specs.declared.hosting.Worker.{Worker}
use Rattle.srm_node.specs.declared.hosting.Hosted.{Hosted}
use Rattle.srm_node.specs.declared.working.Worked.{Worked}
use Rattle.srm_node.specs.declared.working.WorkEnd.TheVariants.{Closed, Broken}
use Rattle.srm_node.specs.Working.{Took, SeesEach, EndsSo, is_stopped}
use Rattle.srm_node.specs.Hosting.{Kinds, kinds_of, start_of, starts_of, Starts, StartsUpTo, StopsBy, Joins, WorkedAs, WorkedEach, AreEndsOfLanes, SameLines, HostFails, Hosts}
use Rattle.srm_node.specs.TurnSample.{calls, feed, unpaused, waits_once}
use Rattle.srm_node.specs.WholeTurnExamples.{before, after, whole}

abbrev pub tap : ℕ → List PageMsg → LaneId → TapView
tap slot taken lane = record { taken = taken; closed = false; seat = []; slot = slot; lane = lane; board = lane.board }

-- LANES

-- the feeds and the taps of slots 0 and 1, in order
ends_in_order : (one other : LaneId) → AreEndsOfLanes (feed 0 [] one ∷ feed 1 [] other ∷ []) (tap 0 [] one ∷ tap 1 [] other ∷ [])
ends_in_order one other zero f t at_f at_t = ap (λ (x : FeedView). x.lane) (sym (same_Some (feed 0 [] one) f at_f)) ∙ ap (λ (x : TapView). x.lane) (same_Some (tap 0 [] one) t at_t)
ends_in_order one other (suc zero) f t at_f at_t = ap (λ (x : FeedView). x.lane) (sym (same_Some (feed 1 [] other) f at_f)) ∙ ap (λ (x : TapView). x.lane) (same_Some (tap 1 [] other) t at_t)
ends_in_order one other (suc (suc k)) f t at_f at_t = cc

-- not with the taps swapped, where these are two lanes
not_swapped : (one other : LaneId) → one ≢ other → AreEndsOfLanes (feed 0 [] one ∷ feed 1 [] other ∷ []) (tap 1 [] other ∷ tap 0 [] one ∷ []) → ⊥
not_swapped one other differ h = differ (h 0 (feed 0 [] one) (tap 1 [] other) refl refl)

-- STARTING AND JOINING

-- sinks that count what they see, and never stop a worker
abbrev Counts : ℕ → ℕ → PageMsg → Bool → ℕ → Type 0
Counts old slot m goes_on new = (new ≡ suc old) × (goes_on ≡ true)

abbrev pub counting : {L : Type 0} → (L → List PageMsg) → Kinds L ℕ
counting entries = kinds_of entries (λ list. ⊥) Counts

-- of two taps the first one's worker was started, with the first sink
started_first : {L : Type 0} (s t : TapView) (w : Worker L ℕ) → start_of w ≡ (s, 0) → Starts (s ∷ t ∷ []) (t ∷ []) (0 ∷ 7 ∷ []) (7 ∷ []) [] (w ∷ [])
started_first s t w is = record { tap = s; sink = 0; taps_are = refl; sinks_are = refl; started_are = ap (λ x. x ∷ []) is }

-- it is the first's, and no other
no_other_started : {L : Type 0} (s t : TapView) (w : Worker L ℕ) → Starts (s ∷ t ∷ []) (t ∷ []) (0 ∷ 7 ∷ []) (7 ∷ []) [] (w ∷ []) → start_of w ≡ (s, 0)
no_other_started s t w h = let taps = h.taps_are in let sinks = h.sinks_are in let starts = h.started_are in cc

-- what a worker returned whose tap took one message, which its sink saw, and found its lane at its end
pub worked_so : {L : Type 0} (entries : L → List PageMsg) (w : Worked L) (from to : TapView) (m : PageMsg) → w.tap ≡ to → entries w.list ≡ m ∷ [] → w.end ≡ Closed → to.closed ≡ true → Took from to (m ∷ []) → WorkedAs (counting entries) (from, 0) w
worked_so entries w from to m is list end closed took = record {
  took = subst (λ t. Took from t (entries w.list)) (sym is) (subst (λ ms. Took from to ms) (sym list) took);
  last = 1;
  seen = subst (λ e. SeesEach Counts from.slot (is_stopped e) (entries w.list) 0 1) (sym end) (subst (λ ms. SeesEach Counts from.slot false ms 0 1) (sym list) (1, true, (refl, refl), (refl, refl)));
  end = subst (λ e. EndsSo w.tap.closed ⊥ e) (sym end) (ap (λ (t : TapView). t.closed) is ∙ closed);
}

-- no worker returns that its lane is broken
never_broken : {L : Type 0} (entries : L → List PageMsg) (t : TapView) (w : Worked L) → w.end ≡ Broken → WorkedAs (counting entries) (t, 0) w → ⊥
never_broken entries t w broken h = subst (λ e. EndsSo w.tap.closed ⊥ e) broken h.end

-- nor that it took what its sink didn't see
nothing_unseen : {L : Type 0} (entries : L → List PageMsg) (t : TapView) (w : Worked L) (m : PageMsg) → entries w.list ≡ m ∷ [] → (h : WorkedAs (counting entries) (t, 0) w) → h.last ≡ 0 → ⊥
nothing_unseen entries t w m list h none = unseen (is_stopped w.end) (subst (λ ms. SeesEach Counts t.slot (is_stopped w.end) ms 0 h.last) list h.seen)
  where
    unseen : (stopped : Bool) → SeesEach Counts t.slot stopped (m ∷ []) 0 h.last → ⊥
    unseen stopped (between, goes_on, saw, rest) = which goes_on [] saw.1 rest
      where
        which : (goes : Bool) (ms : List PageMsg) → goes ≡ true → MatchBool goes ((stopped ≡ false) × (h.last ≡ between)) ((stopped ≡ true) × (ms ≡ []) × (h.last ≡ between)) → ⊥
        which true ms on end = let one : 0 ≡ 1 = sym none ∙ end.1 ∙ saw.0 in cc
        which false ms on end = cc

abbrev took_its_page : LaneId → TapView
took_its_page lane = record (tap 0 (Open first_page ∷ []) lane) { closed = true }

-- one that took its page was joined, and another not yet
joined_one : {L : Type 0} (entries : L → List PageMsg) (lane : LaneId) (t : TapView) (v : Worker L ℕ) (w : Worked L) → start_of v ≡ (t, 7) → w.tap ≡ took_its_page lane → entries w.list ≡ Open first_page ∷ [] → w.end ≡ Closed
    → Joins (counting entries) ((tap 0 [] lane, 0) ∷ (t, 7) ∷ []) (v ∷ []) (w ∷ [])
joined_one entries lane t v w of is list end = record {
  joined = (tap 0 [] lane, 0) ∷ [];
  split = ap (λ x. (tap 0 [] lane, 0) ∷ x ∷ []) (sym of);
  each = (worked_so entries w (tap 0 [] lane) (took_its_page lane) (Open first_page) is list end refl (record { is = refl }), tt);
}

-- CONTROLS

-- a node's end that looked for a command is on the same lines
looked_on_its_lines : (out : LineId PageCommand) (back : LineId PageAnswer) → SameLines (Some (new_commands out back)) (Some (record (new_commands out back) { looks = 1 }))
looked_on_its_lines out back = (record (new_commands out back) { looks = 1 }, refl, refl, refl)

-- a node without one doesn't get one
no_control_comes : (c : CommandsView) → SameLines None (Some c) → ⊥
no_control_comes c h = cc

-- HOSTS

abbrev pub one_start : LaneId → List (TapView × ℕ)
one_start lane = starts_of (tap 0 [] lane ∷ []) (0 ∷ [])

-- all turns were spent, one, behind a pause
ran_once : (lane : LaneId) (well : WellView) → StopsBy calls true Turns 1 (unpaused None lane well) (after lane well)
ran_once lane well = inl (refl, record { runs = record { turns = (unpaused None lane well, before lane well, refl, refl, waits_once None lane well, whole lane well) }; goes_on = refl })

-- a host without fault returns a list for each tap
one_for_each : {P L : Type 0} (entries : L → List PageMsg) (lane : LaneId) (well : WellView) (h : Hosted P L) → h.worked.items ≡ [] → Hosts calls (counting entries) (before lane well) (one_start lane) 5 h → ⊥
one_for_each entries lane well h none x = let workers : WorkedEach (counting entries) (one_start lane) [] = subst (WorkedEach (counting entries) (one_start lane)) none x.workers in workers

nobody : {L : Type 0} (entries : L → List PageMsg) (started others : List (TapView × ℕ)) (t : TapView × ℕ) → started ++ others ≡ t ∷ [] → others ≡ [] → WorkedEach (counting entries) started [] → ⊥
nobody entries [] others t split none each = cc
nobody entries (s ∷ started) others t split none each = each

-- with all workers started each of them is joined
all_joined : {P L : Type 0} (entries : L → List PageMsg) (lane : LaneId) (well : WellView) (h : Hosted P L) → h.worked.items ≡ [] → HostFails calls (counting entries) true (before lane well) (one_start lane) 5 Memory h → ⊥
all_joined entries lane well h none x = nobody entries x.started x.up_to.others (tap 0 [] lane, 0) x.up_to.split x.up_to.whole (subst (WorkedEach (counting entries) x.started) none x.stops.workers)

abbrev two_starts : LaneId → LaneId → List (TapView × ℕ)
two_starts one other = starts_of (tap 0 [] one ∷ tap 1 [] other ∷ []) (0 ∷ 7 ∷ [])

-- of two workers the second one couldn't be started: no tap is behind its
up_to_the_second : (one other : LaneId) → StartsUpTo false (two_starts one other) ((tap 0 [] one, 0) ∷ []) []
up_to_the_second one other = record { others = (tap 1 [] other, 7) ∷ []; split = refl; behind = refl; whole = tt }

no_tap_behind : (others : List (TapView × ℕ)) (one other : LaneId) → others ≡ two_starts one other → map (λ (s : TapView × ℕ). s.0) (drop 1 others) ≡ [] → ⊥
no_tap_behind others one other is behind = let left : tap 1 [] other ∷ [] ≡ [] = sym (ap (λ xs. map (λ (s : TapView × ℕ). s.0) (drop 1 xs)) is) ∙ behind in cc

unjoined : {L : Type 0} (entries : L → List PageMsg) (one other : LaneId) (started : List (TapView × ℕ)) → WorkedEach (counting entries) started [] → StartsUpTo false (two_starts one other) started [] → ⊥
unjoined entries one other [] each up_to = no_tap_behind up_to.others one other up_to.split up_to.behind
unjoined entries one other (s ∷ started) each up_to = each

-- Of two workers none is joined: then the first one couldn't be started, and the tap of the second is returned.
none_dropped : {P L : Type 0} (entries : L → List PageMsg) (one other : LaneId) (well : WellView) (h : Hosted P L) → h.worked.items ≡ [] → h.left.items ≡ [] → HostFails calls (counting entries) false (before one well) (two_starts one other) 5 Memory h → ⊥
none_dropped entries one other well h none no_tap x = unjoined entries one other x.started (subst (WorkedEach (counting entries) x.started) none x.stops.workers) (subst (λ ls. StartsUpTo false (two_starts one other) x.started ls) no_tap x.up_to)
