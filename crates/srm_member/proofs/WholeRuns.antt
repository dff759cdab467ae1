-- A whole run, put together from what its parts tell.
use Rattle.std.proofs.Common.{◌≡◌, ℕ, zero, suc, ◌<◌, Bool, true, false, List, [], ◌∷◌, ◌++◌, length, map, refl, ap, sym, ◌∙◌, subst, arith}
use Rattle.std.specs.Prelude.{Option, Some, None, Result, Ok, Err, slice_get, MatchBool, MatchResult, IfOk}
use Rattle.std.specs.Bool.{OnTrue}
use Rattle.std.specs.Io.KnownBytes.{Appends}
use Rattle.std.specs.List.{AllByRecursion, list_all, list_any, zip}
use Rattle.std.proofs.lemmas.Option.{same_Some, slice_get_within}
use Rattle.std.proofs.lemmas.List.{append-nil, map-append, length-map}
use Rattle.rand_pcg.specs.Lcg.{Lcg}
use Rattle.rand_pcg.specs.Pcg.{pcg64}
use Rattle.srm_names.specs.declared.limits.TheConstants.{PAGES, PENS}
use Rattle.srm_names.specs.declared.page_msg.PageMsg.{PageMsg}
use Rattle.srm_names.specs.Histories.{IsPrefix}
use Rattle.srm_names.specs.PageFeeds.{is_close}
use Rattle.srm_names.proofs.Lists.{front_of_front, at_place, by_place}
use Rattle.srm_pages.specs.Ends.{TapView, PenView, WellView}
use Rattle.srm_pages.specs.Ink.{strokes_of}
use Rattle.srm_entries.specs.Giving.{given}
use Rattle.srm_world.specs.Traces.{Journal}
use Rattle.srm_world.specs.RecordStarts.{RecordStart}
use Rattle.srm_record.specs.Begun.{IsRecorded}
use Rattle.srm_node.specs.declared.fault.NodeFault.{NodeFault}
use Rattle.srm_node.specs.declared.fault.NodeFault.TheVariants.{Wire, Memory, Turns}
use Rattle.srm_node.specs.declared.hosting.Hosted.{Hosted}
use Rattle.srm_node.specs.declared.hosting.NodeEnds.{NodeEnds}
use Rattle.srm_node.specs.declared.working.Worked.{Worked}
use Rattle.srm_node.specs.Calls.{Calls}
use Rattle.srm_node.specs.Nodes.{NodeView}
use Rattle.srm_node.specs.Waits.{ChosenByWords}
use Rattle.srm_node.specs.Working.{SeesEach, is_stopped}
use Rattle.srm_node.specs.Hosting.{Kinds, WorkedAs, WorkedEach, HostsWith, SameWell}
use Rattle.srm_member.specs.Stations.{AreNewTaps, HasNewEnds}
use Rattle.srm_member.specs.Statuses.{fault_of}
use Rattle.srm_member.specs.Strokes.{PenAndBodies, stroke_of, PenSent, PensDrew}
use Rattle.srm_member.specs.TakenText.{taken_text}
use Rattle.srm_member.specs.WholeRuns.{TakePrefixes, IsReceivedOf, SawEach, IsWholeHost, IsWholeRun}
use Rattle.srm_member.proofs.WholeTakes.{whole_take, all_at}

map_at : {X Y : Type 0} (f : X → Y) (xs : List X) (k : ℕ) (y : Y) → slice_get (map f xs) k ≡ Some y → (x : X) × (slice_get xs k ≡ Some x) × (f x ≡ y)
map_at f [] k y at = cc
map_at f (x ∷ xs) zero y at = (x, refl, same_Some (f x) y at)
map_at f (x ∷ xs) (suc k) y at = map_at f xs k y at

at_map : {X Y : Type 0} (f : X → Y) (xs : List X) (k : ℕ) (x : X) → slice_get xs k ≡ Some x → slice_get (map f xs) k ≡ Some (f x)
at_map f [] k x at = cc
at_map f (y ∷ xs) zero x at = ap (λ z. Some (f z)) (same_Some y x at)
at_map f (y ∷ xs) (suc k) x at = at_map f xs k x at

zip_length : {X Y : Type 0} (xs : List X) (ys : List Y) → length xs ≡ length ys → length (zip xs ys) ≡ length xs
zip_length [] ys h = refl
zip_length (x ∷ xs) [] h = absurd (omega (arith, h))
zip_length (x ∷ xs) (y ∷ ys) h = ap suc (zip_length xs ys (omega (arith, h)))

-- WHAT WAS TAKEN

worked_length : {L S : Type 0} (kinds : Kinds L S) (ss : List (TapView × S)) (ws : List (Worked L)) → WorkedEach kinds ss ws → length ws ≡ length ss
worked_length kinds [] [] h = refl
worked_length kinds [] (w ∷ ws) h = absurd h
worked_length kinds (s ∷ ss) [] h = absurd h
worked_length kinds (s ∷ ss) (w ∷ ws) h = ap suc (worked_length kinds ss ws h.1)

worked_at : {L S : Type 0} (kinds : Kinds L S) (ts : List TapView) (ss : List S) (ws : List (Worked L)) (k : ℕ) (w : Worked L) → WorkedEach kinds (zip ts ss) ws → slice_get ws k ≡ Some w → (t : TapView) × (s : S) × (slice_get ts k ≡ Some t) × (slice_get ss k ≡ Some s) × WorkedAs kinds (t, s) w
worked_at kinds ts ss [] k w h at = cc
worked_at kinds [] ss (v ∷ ws) k w h at = absurd h
worked_at kinds (t ∷ ts) [] (v ∷ ws) k w h at = absurd h
worked_at kinds (t ∷ ts) (s ∷ ss) (v ∷ ws) zero w h at = (t, s, refl, refl, subst (λ x. WorkedAs kinds (t, s) x) (same_Some v w at) h.0)
worked_at kinds (t ∷ ts) (s ∷ ss) (v ∷ ws) (suc k) w h at = worked_at kinds ts ss ws k w h.1 at

carried : (disconnected : Bool) (gave put : List PageMsg) → MatchBool disconnected ((back : PageMsg) × (gave ≡ put ++ back ∷ [])) (gave ≡ put) → IsPrefix put gave
carried true gave put (back, is) = (back ∷ [], sym is)
carried false gave put is = ([], append-nil put ∙ sym is)

-- WHAT WAS DRAWN

drew_at : (pens : List PenView) (dealt : List (List (List ℕ))) (inked : List PenView) (k : ℕ) (p : PenView) (bodies : List (List ℕ)) → PensDrew true (zip pens dealt) inked → slice_get pens k ≡ Some p → slice_get dealt k ≡ Some bodies → (i : PenView) × (slice_get inked k ≡ Some i) × PenSent true bodies p i
drew_at [] dealt inked k p bodies h at_p at_b = cc
drew_at (q ∷ pens) [] inked k p bodies h at_p at_b = cc
drew_at (q ∷ pens) (b ∷ dealt) [] k p bodies h at_p at_b = absurd h
drew_at (q ∷ pens) (b ∷ dealt) (i ∷ inked) zero p bodies h at_p at_b = (i, refl, subst (λ x. PenSent true bodies x i) (same_Some q p at_p) (subst (λ x. PenSent true x q i) (same_Some b bodies at_b) h.0))
drew_at (q ∷ pens) (b ∷ dealt) (i ∷ inked) (suc k) p bodies h at_p at_b = drew_at pens dealt inked k p bodies h.1 at_p at_b

wells : (every : Bool) (v : WellView) (pens : List PenView) (dealt : List (List (List ℕ))) (inked : List PenView) → ((k : ℕ) (p : PenView) → slice_get pens k ≡ Some p → p.well ≡ v.well) → PensDrew every (zip pens dealt) inked → AllByRecursion (λ (p : PenView). p.well ≡ v.well) inked
wells every v [] dealt [] all h = tt
wells every v [] dealt (i ∷ inked) all h = absurd h
wells every v (q ∷ pens) [] [] all h = tt
wells every v (q ∷ pens) [] (i ∷ inked) all h = absurd h
wells every v (q ∷ pens) (b ∷ dealt) [] all h = absurd h
wells every v (q ∷ pens) (b ∷ dealt) (i ∷ inked) all h = (ap (λ (x : PenView). x.well) h.0.2.is ∙ all zero q refl, wells every v pens dealt inked (λ k p at. all (suc k) p at) h.1)

-- the producers of a new station are those of the stroke queue that its node returns
pub pens_of_well : {X C : Type 0} (every : Bool) (node : NodeView X C) (taps : List TapView) (pens inked : List PenView) (dealt : List (List (List ℕ))) (well : WellView) → HasNewEnds node taps pens → SameWell node.well well → PensDrew every (zip pens dealt) inked → AllByRecursion (λ (p : PenView). p.well ≡ well.well) inked
pens_of_well every node taps pens inked dealt well ends same drew =
    wells every well pens dealt inked (λ k p at. ap (λ (x : PenView). x.well) (ends.new_pens k p at) ∙ sym (ap (λ (w : WellView). w.well) same)) drew

pub map_prefix : {X Y : Type 0} (f : X → Y) (xs ys : List X) → IsPrefix xs ys → IsPrefix (map f xs) (map f ys)
map_prefix f xs ys (rest, is) = (map f rest, sym (map-append f xs rest) ∙ ap (map f) is)

-- THE WHOLE

takes_at : {P L S X C : Type 0} (calls : Calls X C) (kinds : Kinds L S) (turns : ℕ) (node : NodeView X C) (taps : List TapView) (pens : List PenView) (sinks : List S) (left : NodeEnds) (h : Hosted P L)
    → HasNewEnds node taps pens → (x : HostsWith calls kinds node (zip taps sinks) turns left h) → TakePrefixes h.feeds.items (map (λ (w : Worked L). w.tap) h.worked.items)
    → (slot : ℕ) (ms : List PageMsg) → slice_get (map (λ (w : Worked L). kinds.entries w.list) h.worked.items) slot ≡ Some ms → IsPrefix ms (given x.0.last.journal.entries slot)
takes_at {P} {L} calls kinds turns node taps pens sinks left h ends (x, well_is, control_is) takes slot ms at =
    let (w, at_w, list) = map_at (λ (w : Worked L). kinds.entries w.list) h.worked.items slot ms at in
    let (t, s, at_t, at_s, worked) = worked_at kinds taps sinks h.worked.items slot w x.workers at_w in
    let (f, at_f) = at_place h.feeds.items slot (omega (arith, slice_get_within taps slot t at_t, ends.slots, x.keeps.slots, ap length x.feeds)) in
    let taken : w.tap.taken ≡ ms = ap (λ (y : TapView). y.taken) worked.took.is ∙ ap (λ ts. ts ++ kinds.entries w.list) ((ends.new_taps slot t at_t).0) ∙ list in
    let put = takes slot f w.tap at_f (at_map (λ (w : Worked L). w.tap) h.worked.items slot w at_w) in
    let gave = carried f.disconnected (given x.last.journal.entries slot) f.put (x.keeps.carries slot f (sym (ap (λ fs. slice_get fs slot) x.feeds) ∙ at_f)) in
    subst (λ (xs : List PageMsg). IsPrefix xs (given x.last.journal.entries slot)) taken (front_of_front w.tap.taken f.put (given x.last.journal.entries slot) put gave)

-- and all of it, where the worker's list goes to its close
whole_at : {P L S X C : Type 0} (calls : Calls X C) (kinds : Kinds L S) (turns : ℕ) (node : NodeView X C) (taps : List TapView) (pens : List PenView) (sinks : List S) (left : NodeEnds) (h : Hosted P L)
    → HasNewEnds node taps pens → (x : HostsWith calls kinds node (zip taps sinks) turns left h) → TakePrefixes h.feeds.items (map (λ (w : Worked L). w.tap) h.worked.items)
    → list_all (λ (w : Worked L). list_any is_close (kinds.entries w.list)) h.worked.items ≡ true
    → (slot : ℕ) (ms : List PageMsg) → slice_get (map (λ (w : Worked L). kinds.entries w.list) h.worked.items) slot ≡ Some ms → ms ≡ given x.0.last.journal.entries slot
whole_at {P} {L} calls kinds turns node taps pens sinks left h ends (x, well_is, control_is) takes closed slot ms at =
    let (w, at_w, list) = map_at (λ (w : Worked L). kinds.entries w.list) h.worked.items slot ms at in
    whole_take ms (given x.last.journal.entries slot) (takes_at calls kinds turns node taps pens sinks left h ends (x, well_is, control_is) takes slot ms at) (x.keeps.lawful.gives.feeds slot)
    (ap (list_any is_close) (sym list) ∙ all_at (λ (w : Worked L). list_any is_close (kinds.entries w.list)) h.worked.items slot w closed at_w)

draws_at : {X C : Type 0} (node : NodeView X C) (taps : List TapView) (pens inked : List PenView) (dealt : List (List (List ℕ))) (well : WellView) → HasNewEnds node taps pens → PensDrew true (zip pens dealt) inked → AllByRecursion (IsReceivedOf well.received) inked
    → (pen : ℕ) (bodies : List (List ℕ)) → pen < PENS → slice_get dealt pen ≡ Some bodies → strokes_of pen well.received ≡ map (stroke_of pen) bodies
draws_at node taps pens inked dealt well ends drew parts pen bodies below at =
    let (p, at_p) = at_place pens pen (omega (arith, below, ends.count)) in
    let (i, at_i, (left, none, sent)) = drew_at pens dealt inked pen p bodies drew at_p at in
    let i_is : i ≡ record { number = pen; sent = map (stroke_of pen) sent.sent; well = node.well.well } = sent.is ∙ ap (λ (q : PenView). record q { sent = q.sent ++ map (stroke_of q.number) sent.sent }) (ends.new_pens pen p at_p) in
    let whole : sent.sent ≡ bodies = sym (sent.split ∙ ap (λ more. sent.sent ++ more) (none refl) ∙ append-nil sent.sent) in
    subst (λ (q : PenView). strokes_of q.number well.received ≡ q.sent) i_is (by_place (IsReceivedOf well.received) inked pen i parts at_i) ∙ ap (map (stroke_of pen)) whole

-- the sink of each slot saw what its worker took
pub saw_each : {L S : Type 0} (kinds : Kinds L S) (taps : List TapView) (sinks : List S) (ws : List (Worked L)) → AreNewTaps taps → WorkedEach kinds (zip taps sinks) ws → SawEach kinds.sees sinks (map (λ (w : Worked L). kinds.entries w.list) ws)
saw_each {L} {S} kinds taps sinks ws new h = λ slot s ms at_s at.
    let (w, at_w, list) = map_at (λ (w : Worked L). kinds.entries w.list) ws slot ms at in
    let (t, r, at_t, at_r, worked) = worked_at kinds taps sinks ws slot w h at_w in
    let first : SeesEach kinds.sees t.slot (is_stopped w.end) (kinds.entries w.list) s worked.last = subst (λ (x : S). SeesEach kinds.sees t.slot (is_stopped w.end) (kinds.entries w.list) x worked.last) (same_Some r s (sym at_r ∙ at_s)) worked.seen in
    let at_slot : SeesEach kinds.sees slot (is_stopped w.end) (kinds.entries w.list) s worked.last = subst (λ (n : ℕ). SeesEach kinds.sees n (is_stopped w.end) (kinds.entries w.list) s worked.last) (new slot t at_t).1 first in
    (worked.last, is_stopped w.end, subst (λ (xs : List PageMsg). SeesEach kinds.sees slot (is_stopped w.end) xs s worked.last) list at_slot)

pub whole_host : {P L S X C : Type 0} (calls : Calls X C) (kinds : Kinds L S) (turns : ℕ) (node : NodeView X C) (taps : List TapView) (pens : List PenView) (sinks : List S) (left : NodeEnds) (h : Hosted P L)
    → HasNewEnds node taps pens → length sinks ≡ PAGES → HostsWith calls kinds node (zip taps sinks) turns left h → TakePrefixes h.feeds.items (map (λ (w : Worked L). w.tap) h.worked.items) → list_all (λ (w : Worked L). list_any is_close (kinds.entries w.list)) h.worked.items ≡ true
    → IsWholeHost calls turns node (map (λ (w : Worked L). kinds.entries w.list) h.worked.items)
whole_host {P} {L} calls kinds turns node taps pens sinks left h ends count (x, well_is, control_is) takes closed = record {
  last = x.last;
  runs = x.runs;
  keeps = x.keeps;
  slots = length-map h.worked.items (λ (w : Worked L). kinds.entries w.list) ∙ worked_length kinds (zip taps sinks) h.worked.items x.workers ∙ zip_length taps sinks (ends.slots ∙ sym count) ∙ ends.slots;
  takes = whole_at calls kinds turns node taps pens sinks left h ends (x, well_is, control_is) takes closed;
}

-- and with it the stroke queue, the end of a control and the journal that the node had at its end
pub whole_host_ends : {P L S X C : Type 0} (calls : Calls X C) (kinds : Kinds L S) (turns : ℕ) (node : NodeView X C) (taps : List TapView) (pens : List PenView) (sinks : List S) (left : NodeEnds) (h : Hosted P L)
    → HasNewEnds node taps pens → length sinks ≡ PAGES → HostsWith calls kinds node (zip taps sinks) turns left h → TakePrefixes h.feeds.items (map (λ (w : Worked L). w.tap) h.worked.items) → list_all (λ (w : Worked L). list_any is_close (kinds.entries w.list)) h.worked.items ≡ true
    → (host : IsWholeHost calls turns node (map (λ (w : Worked L). kinds.entries w.list) h.worked.items)) × (left.well ≡ host.last.well) × (left.commands ≡ host.last.control) × (h.history.journal ≡ host.last.journal)
unfolding whole_host
whole_host_ends {P} {L} calls kinds turns node taps pens sinks left h ends count (x, well_is, control_is) takes closed = (whole_host calls kinds turns node taps pens sinks left h ends count (x, well_is, control_is) takes closed, well_is, control_is, x.journal)

pub whole_run : {P L S X C : Type 0} (calls : Calls X C) (kinds : Kinds L S) (turns : ℕ) (node : NodeView X C) (taps : List TapView) (pens inked : List PenView) (sinks : List S) (dealt : List (List (List ℕ))) (left : NodeEnds) (h : Hosted P L)
    → HasNewEnds node taps pens → length sinks ≡ PAGES → HostsWith calls kinds node (zip taps sinks) turns left h → PensDrew true (zip pens dealt) inked
    → TakePrefixes h.feeds.items (map (λ (w : Worked L). w.tap) h.worked.items) → list_all (λ (w : Worked L). list_any is_close (kinds.entries w.list)) h.worked.items ≡ true → AllByRecursion (IsReceivedOf left.well.received) inked → IsWholeRun calls turns dealt node (map (λ (w : Worked L). kinds.entries w.list) h.worked.items)
unfolding whole_host
whole_run {P} {L} calls kinds turns node taps pens inked sinks dealt left h ends count (x, well_is, control_is) drew takes closed parts = record {
  host = whole_host calls kinds turns node taps pens sinks left h ends count (x, well_is, control_is) takes closed;
  draws = λ pen bodies below at. subst (λ (v : WellView). strokes_of pen v.received ≡ map (stroke_of pen) bodies) well_is (draws_at node taps pens inked dealt left.well ends drew parts pen bodies below at);
}

-- where a run has no fault it came to its end
pub without_fault : (end : Result (Unit {0}) NodeFault) (lacks : Bool) (A : Type 0) → fault_of end lacks ≡ None → IfOk end (λ _. A) → A
without_fault (Ok u) lacks A none holds = holds
without_fault (Err e) true A none holds = cc
without_fault (Err Memory) false A none holds = cc
without_fault (Err Wire) false A none holds = cc
without_fault (Err Turns) false A none holds = cc

-- and what was printed is what its workers took, by its own member
pub printed_run : {P L S X C : Type 0} (calls : Calls X C) (kinds : Kinds L S) (turns : ℕ) (node : NodeView X C) (taps : List TapView) (pens inked : List PenView) (sinks : List S) (dealt : List (List (List ℕ))) (left : NodeEnds) (h : Hosted P L) (before after : Option (List ℕ)) (me : ℕ)
    → HasNewEnds node taps pens → length sinks ≡ PAGES → HostsWith calls kinds node (zip taps sinks) turns left h → PensDrew true (zip pens dealt) inked
    → TakePrefixes h.feeds.items (map (λ (w : Worked L). w.tap) h.worked.items) → list_all (λ (w : Worked L). list_any is_close (kinds.entries w.list)) h.worked.items ≡ true → AllByRecursion (IsReceivedOf left.well.received) inked → me ≡ h.history.journal.start.config.me
    → Appends before after (taken_text me (map (λ (w : Worked L). kinds.entries w.list) h.worked.items))
    → (whole : IsWholeRun calls turns dealt node (map (λ (w : Worked L). kinds.entries w.list) h.worked.items)) × Appends before after (taken_text whole.host.last.journal.start.config.me (map (λ (w : Worked L). kinds.entries w.list) h.worked.items))
unfolding whole_run whole_host
printed_run {P} {L} calls kinds turns node taps pens inked sinks dealt left h before after me ends count (x, well_is, control_is) drew takes closed parts of printed = (
  whole_run calls kinds turns node taps pens inked sinks dealt left h ends count (x, well_is, control_is) drew takes closed parts,
  subst (λ (m : ℕ). Appends before after (taken_text m (map (λ (w : Worked L). kinds.entries w.list) h.worked.items))) (of ∙ ap (λ (j : Journal). j.start.config.me) x.journal) printed,
)

-- the file of its record has all of it, and the node's random numbers chose its waits
pub recorded_run : {P L S X C F : Type 0} (calls : Calls X C) (kinds : Kinds L S) (turns : ℕ) (node : NodeView X C) (taps : List TapView) (pens inked : List PenView) (sinks : List S) (dealt : List (List (List ℕ))) (left : NodeEnds) (h : Hosted P L) (before after : Option (List ℕ)) (me : ℕ)
    (contents : F → Option (List ℕ)) (words : Lcg) (begins : Option RecordStart) (file : Option F) → HasNewEnds node taps pens → length sinks ≡ PAGES → HostsWith calls kinds node (zip taps sinks) turns left h → PensDrew true (zip pens dealt) inked
    → TakePrefixes h.feeds.items (map (λ (w : Worked L). w.tap) h.worked.items) → list_all (λ (w : Worked L). list_any is_close (kinds.entries w.list)) h.worked.items ≡ true → AllByRecursion (IsReceivedOf left.well.received) inked → me ≡ h.history.journal.start.config.me
    → Appends before after (taken_text me (map (λ (w : Worked L). kinds.entries w.list) h.worked.items)) → IsRecorded contents begins h.history.journal.entries (map (λ (w : Worked L). kinds.entries w.list) h.worked.items) file → ChosenByWords pcg64 node.journal words h.history.journal
    → (whole : IsWholeRun calls turns dealt node (map (λ (w : Worked L). kinds.entries w.list) h.worked.items)) × Appends before after (taken_text whole.host.last.journal.start.config.me (map (λ (w : Worked L). kinds.entries w.list) h.worked.items))
    × IsRecorded contents begins whole.host.last.journal.entries (map (λ (w : Worked L). kinds.entries w.list) h.worked.items) file × ChosenByWords pcg64 node.journal words whole.host.last.journal
unfolding whole_run whole_host
recorded_run {P} {L} calls kinds turns node taps pens inked sinks dealt left h before after me contents words begins file ends count (x, well_is, control_is) drew takes closed parts of printed recorded chosen = (
  whole_run calls kinds turns node taps pens inked sinks dealt left h ends count (x, well_is, control_is) drew takes closed parts,
  subst (λ (m : ℕ). Appends before after (taken_text m (map (λ (w : Worked L). kinds.entries w.list) h.worked.items))) (of ∙ ap (λ (j : Journal). j.start.config.me) x.journal) printed,
  subst (λ (j : Journal). IsRecorded contents begins j.entries (map (λ (w : Worked L). kinds.entries w.list) h.worked.items) file) x.journal recorded,
  subst (λ (j : Journal). ChosenByWords pcg64 node.journal words j) x.journal chosen,
)

-- what holds where a check went well
pub where_so : (b : Bool) (P : Type 0) → b ≡ true → OnTrue b P → P
where_so true P so holds = holds
where_so false P so holds = cc

started : {X : Type 0} (all : Bool) (r : Option X) (x : X) → (all ≡ false → r ≡ None) → r ≡ Some x → all ≡ true
started true r x refused some = refl
started false r x refused some = let none = refused refl in cc

-- where the node was hosted all producers were started, and each sent what is said of it
pub pens_drew : {X : Type 0} (every all : Bool) (r : Option X) (x : X) (before grown starts : List PenAndBodies) (inked : List PenView) → (all ≡ false → r ≡ None) → r ≡ Some x → before ≡ [] → OnTrue all (grown ≡ before ++ starts) → PensDrew every grown inked → PensDrew every starts inked
pens_drew every all r x before grown starts inked refused some none grew drew = subst (λ ss. PensDrew every ss inked) (of all (started all r x refused some) grew ∙ ap (λ ss. ss ++ starts) none) drew
  where
    of : (b : Bool) → b ≡ true → OnTrue b (grown ≡ before ++ starts) → grown ≡ before ++ starts
    of true is grew = grew
    of false is grew = cc

pub hosted_whole : (end : Result (Unit {0}) NodeFault) (lacks : Bool) (A : Type 0) (B : NodeFault → Type 0) → fault_of end lacks ≡ None → MatchResult end (λ _. A) B → A
hosted_whole (Ok u) lacks A B none holds = holds
hosted_whole (Err e) true A B none holds = cc
hosted_whole (Err Memory) false A B none holds = cc
hosted_whole (Err Wire) false A B none holds = cc
hosted_whole (Err Turns) false A B none holds = cc
