-- Workers that are joined one after another, and the lanes of a node that ran.
use Rattle.std.proofs.Common.{◌≡◌, ℕ, zero, suc, ◌+◌, ◌≤◌, Bool, true, false, List, [], ◌∷◌, ◌++◌, ◌<◌, drop, length, map, refl, ap, sym, ◌∙◌, subst, append_assoc, arith, add-one}
use Rattle.std.specs.Prelude.{Option, Some, None, slice_get, Result, Ok, Err, IfOk, MatchBool, MatchResult, is_ok}
use Rattle.std.specs.Bool.{OnTrue, OnFalse}
use Rattle.std.specs.List.{zip}
use Rattle.srm_node.specs.declared.fault.NodeFault.{NodeFault}
use Rattle.srm_node.specs.declared.hosting.Hosted.{Hosted}
use Rattle.srm_node.specs.declared.hosting.NodeEnds.{NodeEnds}
use Rattle.std.proofs.lemmas.List.{append-nil}
use Rattle.std.proofs.lemmas.Option.{same_Some, slice_get_within}
use Rattle.srm_names.specs.declared.limits.TheConstants.{PAGES}
use Rattle.srm_names.proofs.Lists.{at_place}
use Rattle.srm_pages.specs.Ends.{FeedView, TapView, WellView}
use Rattle.srm_pages.specs.declared.stroke.Stroke.{Stroke}
use Rattle.srm_node.specs.declared.hosting.Worker.{Worker}
use Rattle.srm_node.specs.declared.working.Worked.{Worked}
use Rattle.srm_node.specs.Parts.{SameFeed, SameFeeds}
use Rattle.srm_node.specs.Nodes.{NodeView, NodeKeepsLists}
use Rattle.srm_node.specs.Turns.{TurnToLeaving, Turned, RunsOf, RunsToEnd}
use Rattle.srm_node.specs.Calls.{Calls}
use Rattle.srm_names.specs.declared.page.Page.{Page}
use Rattle.srm_control.specs.declared.command.PageCommand.{PageCommand}
use Rattle.srm_control.specs.declared.command.PageRefusal.{PageRefusal}
use Rattle.srm_control.specs.Ends.{CommandsView, looked_once, with_found, FindsBehind, Finds, AnswersThat, Answers}
use Rattle.srm_world.specs.Traces.{Journal}
use Rattle.srm_node.specs.Showing.{ObeysFound, ShowsAsked}
use Rattle.srm_node.specs.Hosting.{Kinds, start_of, StartsUpTo, StopsBy, WorkedAs, WorkedEach, Joins, Hosts, HostsWith, HostStopsWith, HostFails, HostFailsWith, SameWell, SameLines, AreEndsOfLanes}
use Rattle.srm_node.proofs.Gives.{same_on}

each-snoc : {L S : Type 0} (kinds : Kinds L S) (ts : List (TapView × S)) (ws : List (Worked L)) (t : TapView × S) (w : Worked L) → WorkedEach kinds ts ws → WorkedAs kinds t w → WorkedEach kinds (ts ++ t ∷ []) (ws ++ w ∷ [])
each-snoc kinds [] [] t w h k = (k, tt)
each-snoc kinds [] (v ∷ ws) t w h k = absurd h
each-snoc kinds (s ∷ ts) [] t w h k = absurd h
each-snoc kinds (s ∷ ts) (v ∷ ws) t w h k = (h.0, each-snoc kinds ts ws t w h.1 k)

pub joins_more : {L S : Type 0} (kinds : Kinds L S) (all : List (TapView × S)) (w : Worker L S) (left rest : List (Worker L S)) (worked grown : List (Worked L)) (one : Worked L) → Joins kinds all left worked → left ≡ w ∷ rest → WorkedAs kinds (start_of w) one → grown ≡ worked ++ one ∷ [] → Joins kinds all rest grown
joins_more kinds all w left rest worked grown one h is took grew = record {
  joined = h.joined ++ start_of w ∷ [];
  split = h.split ∙ ap (λ ws. h.joined ++ map start_of ws) is ∙ sym (append_assoc h.joined (start_of w ∷ []) (map start_of rest));
  each = subst (WorkedEach kinds (h.joined ++ start_of w ∷ [])) (sym grew) (each-snoc kinds h.joined worked (start_of w) one h.each took);
}

one_less : {L S : Type 0} (left rest : List (Worker L S)) (w : Worker L S) → left ≡ w ∷ rest → length left ≡ length rest + 1
one_less left rest w is = ap length is ∙ sym (add-one (length rest))

pub count_less : {L S : Type 0} (left rest : List (Worker L S)) (w : Worker L S) (n m : ℕ) → left ≡ w ∷ rest → length left + n ≡ m → length rest + (n + 1) ≡ m
count_less left rest w n m is h = omega (arith, one_less left rest w is)

pub room_less : {L S : Type 0} (left rest : List (Worker L S)) (w : Worker L S) (len new room more : ℕ) → left ≡ w ∷ rest → len + length left ≤ room → (new ≡ len + 1) × (room ≤ more) → new + length rest ≤ more
room_less left rest w len new room more is h grew = omega (arith, one_less left rest w is, grew.0, grew.1)

-- THE LANES OF A NODE THAT RAN

pub record SameLanes {X C : Type 0} (a b : NodeView X C) : Type 0 where
  pub slots : length b.feeds ≡ length a.feeds
  pub same : SameFeeds a.feeds b.feeds

same_feeds : (fs gs : List FeedView) → gs ≡ fs → SameFeeds fs gs
same_feeds fs gs is slot f g at_f at_g = subst (λ (x : FeedView). SameFeed f x) (same_Some f g (sym at_f ∙ sym (ap (λ xs. slice_get xs slot) is) ∙ at_g)) refl

lanes_on : {X C : Type 0} (a b c : NodeView X C) → SameLanes a b → SameLanes b c → SameLanes a c
lanes_on a b c h k = record {
  slots = k.slots ∙ h.slots;
  same = λ slot f g at_f at_g.
      let (m, at_m) = at_place b.feeds slot (omega (arith, h.slots, slice_get_within a.feeds slot f at_f)) in
      same_on f m g (h.same slot f m at_f at_m) (k.same slot m g at_m at_g);
}

lanes_kept : {X C : Type 0} (a b : NodeView X C) → b.feeds ≡ a.feeds → SameLanes a b
lanes_kept a b is = record { slots = ap length is; same = same_feeds a.feeds b.feeds is }

feeds_left : {X C : Type 0} (calls : Calls X C) (now : ℕ) (unheard : Bool) (a b : NodeView X C) → TurnToLeaving calls now unheard a b → b.feeds ≡ a.feeds
feeds_left {X} {C} calls now unheard a b t = ap (λ (n : NodeView X C). n.feeds) t.leaves.same ∙ ap (λ (n : NodeView X C). n.feeds) t.draws.same ∙ ap (λ (n : NodeView X C). n.feeds) t.looks.same ∙ ap (λ (n : NodeView X C). n.feeds) t.hears.same
    ∙ ap (λ (n : NodeView X C). n.feeds) t.reads.same

lanes_of_turn : {X C : Type 0} (calls : Calls X C) (a b : NodeView X C) → Turned calls false false a b → SameLanes a b
lanes_of_turn {X} {C} calls a b t = let p = t.to_tick in let s = p.to_showing in lanes_on a t.ticked b
    (lanes_kept a t.ticked (ap (λ (n : NodeView X C). n.feeds) p.ticks.same ∙ ap (λ (n : NodeView X C). n.feeds) s.shows.same ∙ feeds_left calls p.now false a s.left s.to_leaving))
    (record { slots = t.gives.gives.slots; same = t.gives.gives.same })

lanes_of_turns : {X C : Type 0} (calls : Calls X C) (count : ℕ) (a b : NodeView X C) → RunsOf calls count a b → SameLanes a b
lanes_of_turns {X} {C} calls zero a b h = lanes_kept a b (ap (λ (n : NodeView X C). n.feeds) h)
lanes_of_turns {X} {C} calls (suc n) a b (before, paused, runs, goes_on, waits, turned) =
    lanes_on a before b (lanes_of_turns calls n a before runs) (lanes_on before paused b (lanes_kept before paused (ap (λ (n : NodeView X C). n.feeds) waits.same)) (lanes_of_turn calls paused b turned))

-- a node that ran has the feeds of the same lanes
lanes_of_run : {X C : Type 0} (calls : Calls X C) (limit : ℕ) (a b : NodeView X C) → RunsToEnd calls limit a b → SameLanes a b
lanes_of_run calls limit a b h = lanes_of_turns calls h.count a b h.runs.turns

-- THE STROKE QUEUE OF A NODE THAT RAN

well_with : (w v : WellView) (received : List Stroke) (nones : ℕ) (done_at : Option ℕ) → v ≡ record w { received = received; nones = nones; done_at = done_at } → SameWell w v
well_with w v received nones done_at is = subst (λ (x : WellView). SameWell w x) (sym is) refl

well_on : (a b c : WellView) → SameWell a b → SameWell b c → SameWell a c
well_on a b c h k = k ∙ ap (λ (x : WellView). record x { received = c.received; nones = c.nones; done_at = c.done_at }) h

well_kept : {X C : Type 0} (a b : NodeView X C) → b.well ≡ a.well → SameWell a.well b.well
well_kept a b is = well_with a.well b.well a.well.received a.well.nones a.well.done_at is

well_left : {X C : Type 0} (calls : Calls X C) (now : ℕ) (unheard : Bool) (a b : NodeView X C) → TurnToLeaving calls now unheard a b → SameWell a.well b.well
well_left {X} {C} calls now unheard a b t =
    let pops = t.draws.drew.draws.pops in
    let heard : t.heard.well ≡ a.well = ap (λ (n : NodeView X C). n.well) t.hears.same ∙ ap (λ (n : NodeView X C). n.well) t.reads.same in
    let looked = well_with t.heard.well t.looked.well t.heard.well.received t.heard.well.nones _ (ap (λ (n : NodeView X C). n.well) t.looks.same) in
    let drawn = well_with t.looked.well t.drawn.well _ _ t.looked.well.done_at pops.received in
    well_on a.well t.heard.well b.well (well_kept a t.heard heard) (well_on t.heard.well t.looked.well b.well looked
    (well_on t.looked.well t.drawn.well b.well drawn (well_kept t.drawn b (ap (λ (n : NodeView X C). n.well) t.leaves.same))))

well_of_turn : {X C : Type 0} (calls : Calls X C) (a b : NodeView X C) → Turned calls false false a b → SameWell a.well b.well
well_of_turn {X} {C} calls a b t = let p = t.to_tick in let s = p.to_showing in
    let ticked : b.well ≡ s.left.well = ap (λ (n : NodeView X C). n.well) t.gives.same ∙ ap (λ (n : NodeView X C). n.well) p.ticks.same ∙ ap (λ (n : NodeView X C). n.well) s.shows.same in
    well_on a.well s.left.well b.well (well_left calls p.now false a s.left s.to_leaving) (well_kept s.left b ticked)

well_of_turns : {X C : Type 0} (calls : Calls X C) (count : ℕ) (a b : NodeView X C) → RunsOf calls count a b → SameWell a.well b.well
well_of_turns {X} {C} calls zero a b h = well_kept a b (ap (λ (n : NodeView X C). n.well) h)
well_of_turns {X} {C} calls (suc n) a b (before, paused, runs, goes_on, waits, turned) =
    well_on a.well before.well b.well (well_of_turns calls n a before runs)
    (well_on before.well paused.well b.well (well_kept before paused (ap (λ (n : NodeView X C). n.well) waits.same)) (well_of_turn calls paused b turned))

-- THE CONTROL OF A NODE THAT RAN

lines_kept : (a b : Option CommandsView) → b ≡ a → SameLines a b
lines_kept None b is = is
lines_kept (Some c) b is = (c, is, refl, refl)

lines_on : (a b c : Option CommandsView) → SameLines a b → SameLines b c → SameLines a c
lines_on None b c h k = subst (λ o. SameLines o c) h k
lines_on (Some x) b c (y, is, out, back) k =
    let (z, z_is, z_out, z_back) = subst (λ o. SameLines o c) is k in
    (z, z_is, z_out ∙ out, z_back ∙ back)

-- the lines of one end are those of another
abbrev OnLines : CommandsView → CommandsView → Type 0
OnLines a b = (b.out ≡ a.out) × (b.back ≡ a.back)

on_lines : (a b c : CommandsView) → OnLines a b → OnLines b c → OnLines a c
on_lines a b c (out, back) (out2, back2) = (out2 ∙ out, back2 ∙ back)

lines_is : (a b : CommandsView) → b ≡ a → OnLines a b
lines_is a b is = (ap (λ (d : CommandsView). d.out) is, ap (λ (d : CommandsView). d.back) is)

lines_found : (found : Option PageCommand) (from seen : CommandsView) → Finds found from seen → OnLines from seen
lines_found found from seen h = go from.hand h
  where
    next : (f : Option PageCommand) → seen ≡ with_found f (looked_once from) → OnLines from seen
    next None is = (ap (λ (d : CommandsView). d.out) is, ap (λ (d : CommandsView). d.back) is)
    next (Some command) is = (ap (λ (d : CommandsView). d.out) is, ap (λ (d : CommandsView). d.back) is)

    go : (hand : Option PageCommand) → FindsBehind hand found from seen → OnLines from seen
    go (Some command) f = (ap (λ (d : CommandsView). d.out) f.1, ap (λ (d : CommandsView). d.back) f.1)
    go None f = next found f

lines_answered : (outcome : Result Page PageRefusal) (seen to : CommandsView) → Answers outcome seen to → OnLines seen to
lines_answered outcome seen to h = go seen.hand h
  where
    told : (b : Bool) (x y : CommandsView) → (to ≡ x → OnLines seen to) → (to ≡ y → OnLines seen to) → MatchBool b (to ≡ x) (to ≡ y) → OnLines seen to
    told true x y f g m = f m
    told false x y f g m = g m

    go : (hand : Option PageCommand) → AnswersThat hand outcome seen to → OnLines seen to
    go None m = lines_is seen to m
    go (Some command) m = told to.gone _ _ (λ is. (ap (λ (d : CommandsView). d.out) is, ap (λ (d : CommandsView). d.back) is)) (λ is. (ap (λ (d : CommandsView). d.out) is, ap (λ (d : CommandsView). d.back) is)) m

lines_obeyed : (now : ℕ) (found : Option PageCommand) (old new : Journal) (seen to : CommandsView) → ObeysFound now found old new seen to → OnLines seen to
lines_obeyed now None old new seen to h = lines_is seen to h.1
lines_obeyed now (Some command) old new seen to h = lines_answered h.outcome seen to h.answers

lines_shown : (now : ℕ) (old new : Journal) (a b : Option CommandsView) → ShowsAsked now old new a b → SameLines a b
lines_shown now old new None b h = h.1
lines_shown now old new (Some from) b (next, is, o) =
    let lines = on_lines from o.seen next (lines_found o.found from o.seen o.finds) (lines_obeyed now o.found old new o.seen next o.obeys) in
    (next, is, lines.0, lines.1)

control_left : {X C : Type 0} (calls : Calls X C) (now : ℕ) (unheard : Bool) (a b : NodeView X C) → TurnToLeaving calls now unheard a b → b.control ≡ a.control
control_left {X} {C} calls now unheard a b t = ap (λ (n : NodeView X C). n.control) t.leaves.same ∙ ap (λ (n : NodeView X C). n.control) t.draws.same ∙ ap (λ (n : NodeView X C). n.control) t.looks.same ∙ ap (λ (n : NodeView X C). n.control) t.hears.same
    ∙ ap (λ (n : NodeView X C). n.control) t.reads.same

lines_of_turn : {X C : Type 0} (calls : Calls X C) (a b : NodeView X C) → Turned calls false false a b → SameLines a.control b.control
lines_of_turn {X} {C} calls a b t = let p = t.to_tick in let s = p.to_showing in
    let ticked : b.control ≡ p.shown.control = ap (λ (n : NodeView X C). n.control) t.gives.same ∙ ap (λ (n : NodeView X C). n.control) p.ticks.same in
    lines_on a.control s.left.control b.control (lines_kept a.control s.left.control (control_left calls p.now false a s.left s.to_leaving))
    (lines_on s.left.control p.shown.control b.control (lines_shown p.now s.left.journal p.shown.journal s.left.control p.shown.control s.shows.shows) (lines_kept p.shown.control b.control ticked))

lines_of_turns : {X C : Type 0} (calls : Calls X C) (count : ℕ) (a b : NodeView X C) → RunsOf calls count a b → SameLines a.control b.control
lines_of_turns {X} {C} calls zero a b h = lines_kept a.control b.control (ap (λ (n : NodeView X C). n.control) h)
lines_of_turns {X} {C} calls (suc n) a b (before, paused, runs, goes_on, waits, turned) =
    lines_on a.control before.control b.control (lines_of_turns calls n a before runs)
    (lines_on before.control paused.control b.control (lines_kept before.control paused.control (ap (λ (n : NodeView X C). n.control) waits.same)) (lines_of_turn calls paused b turned))

-- what is returned of a node that ran, and of its workers
pub hosted : {P L S X C : Type 0} (calls : Calls X C) (kinds : Kinds L S) (r : Result (Unit {0}) NodeFault) (node last : NodeView X C) (starts : List (TapView × S)) (turns : ℕ) (all : Bool) (ends : NodeEnds) (h : Hosted P L) (feeds : List FeedView) (keeps : Bool)
    → MatchResult r (λ _. (all ≡ true) × NodeKeepsLists last × RunsToEnd calls turns node last) (λ fault. StopsBy calls all fault turns node last) → NodeKeepsLists last
    → h.history.journal ≡ last.journal → feeds ≡ last.feeds → ends.well ≡ last.well → ends.commands ≡ last.control → OnTrue keeps (h.feeds.items ≡ feeds) → OnFalse keeps (h.feeds.items ≡ []) → keeps ≡ is_ok r → WorkedEach kinds starts h.worked.items
    → MatchResult r (λ _. (all ≡ true) × HostsWith calls kinds node starts turns ends h) (λ fault. HostStopsWith calls kinds all node starts turns fault ends h)
hosted calls kinds (Ok u) node last starts turns all ends h feeds keeps ran lists journal same well_is control_is kept none ok workers = (
  ran.0,
  (
    record {
      last = last;
      runs = ran.2;
      keeps = ran.1;
      journal = journal;
      feeds = (let k : h.feeds.items ≡ feeds = subst (λ b. OnTrue b (h.feeds.items ≡ feeds)) ok kept in k) ∙ same;
      slots = (lanes_of_run calls turns node last ran.2).slots;
      lanes = (lanes_of_run calls turns node last ran.2).same;
      workers = workers;
    },
    well_is,
    control_is,
  ),
)
hosted calls kinds (Err e) node last starts turns all ends h feeds keeps ran lists journal same well_is control_is kept none ok workers = (
  record {
    last = last;
    runs = ran;
    keeps = lists;
    journal = journal;
    feeds = (let k : h.feeds.items ≡ [] = subst (λ b. OnFalse b (h.feeds.items ≡ [])) ok none in k);
    workers = workers;
  },
  well_is,
  control_is,
)

-- WORKERS THAT ARE STARTED ONE AFTER ANOTHER

firsts : {S : Type 0} (ts : List TapView) (ss : List S) → length ts ≡ length ss → map (λ (s : TapView × S). s.0) (zip ts ss) ≡ ts
firsts [] ss same = refl
firsts (t ∷ ts) [] same = absurd (omega (arith, same))
firsts (t ∷ ts) (s ∷ ss) same = ap (λ xs. t ∷ xs) (firsts ts ss (omega (arith, same)))

-- where the first tap and sink that are left got no worker, the taps behind it are left
pub starts_before : {L S : Type 0} (workers more : List (Worker L S)) (taps left : List TapView) (sinks : List S) (starts : List (TapView × S)) (done : ℕ) (started : Bool)
    → map start_of workers ++ zip taps sinks ≡ starts → length taps + done ≡ PAGES → length sinks + done ≡ PAGES → done < PAGES → started ≡ false → OnFalse started (map start_of more ≡ map start_of workers) → left ≡ drop 1 taps
    → StartsUpTo false starts (map start_of more) left
starts_before workers more [] left sinks starts done started split taps_are sinks_are within none same behind = absurd (omega (arith, taps_are, within))
starts_before workers more (t ∷ ts) left [] starts done started split taps_are sinks_are within none same behind = absurd (omega (arith, sinks_are, within))
starts_before workers more (t ∷ ts) left (s ∷ ss) starts done started split taps_are sinks_are within none same behind =
    let kept : map start_of more ≡ map start_of workers = subst (λ b. OnFalse b (map start_of more ≡ map start_of workers)) none same in
    let as_many : length ts ≡ length ss = omega (arith, taps_are, sinks_are) in
    record {
      others = zip (t ∷ ts) (s ∷ ss);
      split = ap (λ xs. xs ++ zip (t ∷ ts) (s ∷ ss)) kept ∙ split;
      behind = firsts ts ss as_many ∙ sym behind;
      whole = tt;
    }

-- with no tap left a worker was started with each
pub starts_whole : {L S : Type 0} (workers : List (Worker L S)) (taps : List TapView) (sinks : List S) (starts : List (TapView × S)) (done : ℕ) → map start_of workers ++ zip taps sinks ≡ starts → length taps + done ≡ PAGES → PAGES ≤ done
    → StartsUpTo true starts (map start_of workers) taps
starts_whole workers [] sinks starts done split taps_are past = record { others = []; split = split; behind = refl; whole = refl }
starts_whole workers (t ∷ ts) sinks starts done split taps_are past = absurd (omega (arith, taps_are, past))

-- the same of the lists that a queue of taps and one of sinks were made of
pub starts_the_same : {S : Type 0} (all : Bool) (taps queued : List TapView) (sinks lined : List S) (started : List (TapView × S)) (left rest : List TapView) → queued ≡ taps → lined ≡ sinks → rest ≡ left
    → StartsUpTo all (zip queued lined) started left → StartsUpTo all (zip taps sinks) started rest
starts_the_same all taps queued sinks lined started left rest taps_are sinks_are rest_is h =
    subst (λ ts. StartsUpTo all (zip ts sinks) started rest) taps_are
    (subst (λ ss. StartsUpTo all (zip queued ss) started rest) sinks_are
    (subst (λ ls. StartsUpTo all (zip queued lined) started ls) (sym rest_is) h))

whole_starts : {S : Type 0} (all : Bool) (starts started : List (TapView × S)) (left : List TapView) → all ≡ true → StartsUpTo all starts started left → (started ≡ starts) × (left ≡ [])
whole_starts {S} all starts started left is h =
    let none : h.others ≡ [] = subst (λ b. OnTrue b (h.others ≡ [])) is h.whole in (
      sym (append-nil started) ∙ ap (λ xs. started ++ xs) (sym none) ∙ h.split,
      sym h.behind ∙ ap (λ xs. map (λ (s : TapView × S). s.0) (drop 1 xs)) none,
    )

-- what is returned of the taps and sinks that were passed in
pub host_ends : {P L S X C : Type 0} (calls : Calls X C) (kinds : Kinds L S) (r : Result (Unit {0}) NodeFault) (node : NodeView X C) (starts : List (TapView × S)) (workers : List (Worker L S)) (left : List TapView) (turns : ℕ) (all : Bool) (ends : NodeEnds) (h : Hosted P L) → StartsUpTo all starts (map start_of workers) left → h.left.items ≡ left
    → MatchResult r (λ _. (all ≡ true) × HostsWith calls kinds node (map start_of workers) turns ends h) (λ fault. HostStopsWith calls kinds all node (map start_of workers) turns fault ends h)
    → MatchResult r (λ _. HostsWith calls kinds node starts turns ends h) (λ fault. (all : Bool) × HostFailsWith calls kinds all node starts turns fault ends h)
host_ends calls kinds (Ok u) node starts workers left turns all ends h up_to left_is ran = subst (λ ts. HostsWith calls kinds node ts turns ends h) (whole_starts all starts (map start_of workers) left ran.0 up_to).0 ran.1
host_ends calls kinds (Err fault) node starts workers left turns all ends h up_to left_is (stops, well_is, control_is) = (
  all,
  (
    record {
      started = map start_of workers;
      up_to = subst (λ ls. StartsUpTo all starts (map start_of workers) ls) (sym left_is) up_to;
      stops = stops;
    },
    well_is,
    control_is,
  ),
)

-- without fault no tap is left
pub host_left : {P L S X C : Type 0} (calls : Calls X C) (kinds : Kinds L S) (r : Result (Unit {0}) NodeFault) (node : NodeView X C) (starts : List (TapView × S)) (workers : List (Worker L S)) (left : List TapView) (turns : ℕ) (all : Bool) (ends : NodeEnds) (h : Hosted P L) → StartsUpTo all starts (map start_of workers) left → h.left.items ≡ left
    → MatchResult r (λ _. (all ≡ true) × HostsWith calls kinds node (map start_of workers) turns ends h) (λ fault. HostStopsWith calls kinds all node (map start_of workers) turns fault ends h)
    → IfOk r (λ _. h.left.items ≡ [])
host_left calls kinds (Ok u) node starts workers left turns all ends h up_to left_is ran = left_is ∙ (whole_starts all starts (map start_of workers) left ran.0 up_to).1
host_left calls kinds (Err fault) node starts workers left turns all ends h up_to left_is ran = tt

worked_at : {L S : Type 0} (kinds : Kinds L S) (ts : List TapView) (ss : List S) (ws : List (Worked L)) (k : ℕ) (t : TapView) → WorkedEach kinds (zip ts ss) ws → slice_get (map (λ (w : Worked L). w.tap) ws) k ≡ Some t → (s : TapView) × (slice_get ts k ≡ Some s) × (t.lane ≡ s.lane)
worked_at kinds [] ss [] k t h at_t = cc
worked_at kinds [] ss (w ∷ ws) k t h at_t = absurd h
worked_at kinds (s ∷ ts) [] [] k t h at_t = cc
worked_at kinds (s ∷ ts) [] (w ∷ ws) k t h at_t = absurd h
worked_at kinds (s ∷ ts) (x ∷ ss) [] k t h at_t = absurd h
worked_at kinds (s ∷ ts) (x ∷ ss) (w ∷ ws) zero t h at_t = (s, refl, ap (λ (x : TapView). x.lane) (sym (same_Some w.tap t at_t)) ∙ ap (λ (x : TapView). x.lane) h.0.took.is)
worked_at kinds (s ∷ ts) (x ∷ ss) (w ∷ ws) (suc k) t h at_t = worked_at kinds ts ss ws k t h.1 at_t

-- the k-th feed and the k-th tap are still the ends of one lane
still_ends : {P L S X C : Type 0} (calls : Calls X C) (kinds : Kinds L S) (node : NodeView X C) (taps : List TapView) (sinks : List S) (turns : ℕ) (h : Hosted P L) → Hosts calls kinds node (zip taps sinks) turns h → AreEndsOfLanes node.feeds taps → AreEndsOfLanes h.feeds.items (map (λ (w : Worked L). w.tap) h.worked.items)
still_ends calls kinds node taps sinks turns h x ends k f t at_f at_t =
    let at_last : slice_get x.last.feeds k ≡ Some f = sym (ap (λ fs. slice_get fs k) x.feeds) ∙ at_f in
    let (g, at_g) = at_place node.feeds k (omega (arith, x.slots, slice_get_within x.last.feeds k f at_last)) in
    let (s, at_s, lane) = worked_at kinds taps sinks h.worked.items k t x.workers at_t in
    ap (λ (y : FeedView). y.lane) (x.lanes k g f at_g at_last) ∙ ends k g s at_g at_s ∙ sym lane

pub host_lanes : {P L S X C : Type 0} (calls : Calls X C) (kinds : Kinds L S) (r : Result (Unit {0}) NodeFault) (node : NodeView X C) (taps : List TapView) (sinks : List S) (turns : ℕ) (ends : NodeEnds) (h : Hosted P L)
    → MatchResult r (λ _. HostsWith calls kinds node (zip taps sinks) turns ends h) (λ fault. (all : Bool) × HostFailsWith calls kinds all node (zip taps sinks) turns fault ends h)
    → IfOk r (λ _. AreEndsOfLanes node.feeds taps → AreEndsOfLanes h.feeds.items (map (λ (w : Worked L). w.tap) h.worked.items))
host_lanes calls kinds (Ok u) node taps sinks turns ends h x = still_ends calls kinds node taps sinks turns h x.0
host_lanes calls kinds (Err e) node taps sinks turns ends h x = tt

pub host_well : {P L S X C : Type 0} (calls : Calls X C) (kinds : Kinds L S) (r : Result (Unit {0}) NodeFault) (node : NodeView X C) (starts : List (TapView × S)) (turns : ℕ) (ends : NodeEnds) (h : Hosted P L)
    → MatchResult r (λ _. HostsWith calls kinds node starts turns ends h) (λ fault. (all : Bool) × HostFailsWith calls kinds all node starts turns fault ends h)
    → IfOk r (λ _. SameWell node.well ends.well)
host_well calls kinds (Ok u) node starts turns ends h (x, well_is, control_is) = subst (λ (w : WellView). SameWell node.well w) (sym well_is) (well_of_turns calls x.runs.count node x.last x.runs.runs.turns)
host_well calls kinds (Err e) node starts turns ends h x = tt

pub host_control : {P L S X C : Type 0} (calls : Calls X C) (kinds : Kinds L S) (r : Result (Unit {0}) NodeFault) (node : NodeView X C) (starts : List (TapView × S)) (turns : ℕ) (ends : NodeEnds) (h : Hosted P L)
    → MatchResult r (λ _. HostsWith calls kinds node starts turns ends h) (λ fault. (all : Bool) × HostFailsWith calls kinds all node starts turns fault ends h)
    → IfOk r (λ _. SameLines node.control ends.commands)
host_control calls kinds (Ok u) node starts turns ends h (x, well_is, control_is) = subst (SameLines node.control) (sym control_is) (lines_of_turns calls x.runs.count node x.last x.runs.runs.turns)
host_control calls kinds (Err e) node starts turns ends h x = tt

-- what is known of the node of a host, without its ends
pub without_ends : {P L S X C : Type 0} (calls : Calls X C) (kinds : Kinds L S) (r : Result (Unit {0}) NodeFault) (node : NodeView X C) (starts : List (TapView × S)) (turns : ℕ) (ends : NodeEnds) (h : Hosted P L)
    → MatchResult r (λ _. HostsWith calls kinds node starts turns ends h) (λ fault. (all : Bool) × HostFailsWith calls kinds all node starts turns fault ends h)
    → MatchResult r (λ _. Hosts calls kinds node starts turns h) (λ fault. (all : Bool) × HostFails calls kinds all node starts turns fault h)
without_ends calls kinds (Ok u) node starts turns ends h x = x.0
without_ends calls kinds (Err e) node starts turns ends h (all, (x, well_is, control_is)) = (all, x)
