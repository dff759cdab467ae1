-- A node's lists hang together after each part of a turn.
use Rattle.std.proofs.Common.{◌≡◌, ℕ, Bool, true, false, List, [], ◌∷◌, ◌++◌, refl, ap, sym, ◌∙◌, subst, append_assoc, arith}
use Rattle.std.specs.Prelude.{Option, Some, None, Result, Ok, Err, MatchResult, map, option_to_list, if◌then◌else◌}
use Rattle.std.specs.List.{AllByRecursion, cons_option}
use Rattle.std.proofs.lemmas.List.{append-nil, map-append}
use Rattle.std.proofs.lemmas.List.Elements.{filter_map-append}
use Rattle.srm_names.specs.declared.limits.TheConstants.{PAGES}
use Rattle.srm_names.specs.declared.page.Page.{Page}
use Rattle.srm_names.specs.declared.page_msg.PageMsg.{PageMsg}
use Rattle.srm_names.proofs.Lists.{at_place}
use Rattle.srm_pages.specs.declared.stroke.Stroke.{Stroke}
use Rattle.srm_pages.specs.Ends.{FeedView, TapView, WellView, AreLanes}
use Rattle.srm_pages.specs.Seats.{LookoutView}
use Rattle.std.proofs.lemmas.Option.{slice_get_within}
use Rattle.srm_control.specs.declared.command.PageCommand.{PageCommand}
use Rattle.srm_control.specs.declared.command.PageRefusal.{PageRefusal}
use Rattle.srm_control.specs.Ends.{CommandsView}
use Rattle.srm_codec.specs.declared.datagram.Datagram.{Datagram}
use Rattle.srm_codec.specs.declared.fault.DecodeFault.{DecodeFault}
use Rattle.srm_outbox.specs.declared.out.Out.{Out}
use Rattle.srm_entries.specs.declared.entry.Entry.{Entry}
use Rattle.srm_entries.specs.declared.entry.Input.{Input}
use Rattle.srm_entries.specs.declared.entry.Input.TheVariants.{Drew, Heard, Noise, Ticked, Showed, AskedLeave, Gave, Took}
use Rattle.srm_entries.specs.declared.entry.Verdict.{Verdict}
use Rattle.srm_entries.specs.declared.entry.Verdict.TheVariants.{Ignored}
use Rattle.srm_entries.specs.declared.cause.Cause.TheVariants as causes
use Rattle.srm_entries.specs.Configs.{Config}
use Rattle.srm_entries.specs.Entries.{state, is_gone}
use Rattle.srm_codec.specs.Judging.{judge}
use Rattle.srm_entries.specs.Giving.{given, given_in}
use Rattle.srm_entries.specs.Hearing.{bytes_heard, read_as}
use Rattle.srm_entries.specs.Runs.{IsMemberRun}
use Rattle.srm_entries.proofs.Feeding.{given-append}
use Rattle.srm_world.specs.Traces.{Journal, IsHandable}
use Rattle.srm_world.specs.Claims.{IsLawfulJournal}
use Rattle.srm_world.specs.Recording.{with_entry, with_entries, HearsEach}
use Rattle.srm_world.proofs.Lawful.{lawful_journal}
use Rattle.srm_node.specs.declared.fault.OutOfMemory.{OutOfMemory}
use Rattle.srm_wire.specs.Wires.{Told, answered_with}
use Rattle.srm_node.specs.declared.missing_limit.MissingLimit.{MissingLimit}
use Rattle.srm_node.specs.Limits.{entries_of}
use Rattle.srm_node.specs.Carrying.{Carries, CarriesEach, drew, draw_inputs, drawing, DrawsReceived, KeepsLists}
use Rattle.srm_node.specs.Parts.{Listens, Listened, ListenedCut, DrawsStrokes, DrewStrokes, DrewStrokesCut, Leaves, Ticks, GivesUpTo, GaveSome, is_give}
use Rattle.srm_node.specs.Showing.{page_of, CarriesOut, ObeysFound, ShowsAsked, ShowsAskedCut}
use Rattle.srm_node.specs.Nodes.{NodeView, IsNode, AreNewFeeds, has_closed}
use Rattle.srm_node.specs.declared.listening.Listening.{Listening}
use Rattle.srm_node.specs.declared.drawing.Drawn.{Drawn}
use Rattle.srm_node.proofs.Limiting.{heard_of, heard_each}
use Rattle.srm_node.proofs.Releasing.{puts_released}
use Rattle.srm_node.proofs.Gives.{carries_standing}
use Rattle.srm_node.proofs.Draws.{inputs_drawn}

-- the entries neither draw nor give
abbrev Quiet : Input → Type 0
Quiet i = (drew i ≡ None) × ((slot : ℕ) (m : Option PageMsg) → given_in slot i m ≡ None)

abbrev AreQuiet : List Entry → Type 0
AreQuiet es = AllByRecursion (λ (e : Entry). Quiet e.input) es

quiet_given : (es : List Entry) → AreQuiet es → (slot : ℕ) → given es slot ≡ []
quiet_given [] h slot = refl
quiet_given (e ∷ es) h slot = ap (λ o. cons_option o (given es slot)) (h.0.1 slot e.effects.message) ∙ quiet_given es h.1 slot

quiet_draws : (es : List Entry) → AreQuiet es → draw_inputs es ≡ []
quiet_draws [] h = refl
quiet_draws (e ∷ es) h = ap (λ o. cons_option o (draw_inputs es)) h.0.0 ∙ quiet_draws es h.1

draws-append : (es fs : List Entry) → draw_inputs (es ++ fs) ≡ draw_inputs es ++ draw_inputs fs
draws-append es fs = filter_map-append (λ (e : Entry). drew e.input) es fs

-- more entries that give nothing
carries_more : (j k : Journal) (es : List Entry) (feeds : List FeedView) → k ≡ with_entries j es → ((slot : ℕ) → given es slot ≡ []) → CarriesEach j feeds → CarriesEach k feeds
carries_more j k es feeds grown none carries = λ slot f at_f. subst (λ xs. Carries xs f) (sym (same slot)) (carries slot f at_f)
  where
    same : (slot : ℕ) → given k.entries slot ≡ given j.entries slot
    same slot = ap (λ (x : Journal). given x.entries slot) grown ∙ given-append j.entries es slot ∙ ap (λ xs. given j.entries slot ++ xs) (none slot) ∙ append-nil (given j.entries slot)

draws_grown : (j k : Journal) (es : List Entry) → k ≡ with_entries j es → draw_inputs k.entries ≡ draw_inputs j.entries ++ draw_inputs es
draws_grown j k es grown = ap (λ (x : Journal). draw_inputs x.entries) grown ∙ draws-append j.entries es

received_still : (j k : Journal) (es : List Entry) (received : List Stroke) (hand : Option Stroke) → k ≡ with_entries j es → draw_inputs es ≡ [] → DrawsReceived j received hand → DrawsReceived k received hand
received_still j k es received hand grown none h =
    h ∙ ap (λ xs. xs ++ map drawing (option_to_list hand)) (sym (draws_grown j k es grown ∙ ap (λ xs. draw_inputs j.entries ++ xs) none ∙ append-nil (draw_inputs j.entries)))

keeps_quiet : (j k : Journal) (es : List Entry) (feeds : List FeedView) (received : List Stroke) (hand : Option Stroke) → KeepsLists j feeds received hand → IsLawfulJournal k → k ≡ with_entries j es → AreQuiet es → KeepsLists k feeds received hand
keeps_quiet j k es feeds received hand h lawful grown quiet = record {
  lawful = lawful;
  slots = h.slots;
  carries = carries_more j k es feeds grown (quiet_given es quiet) h.carries;
  puts = puts_released k feeds lawful (carries_more j k es feeds grown (quiet_given es quiet) h.carries);
  draws_are = received_still j k es received hand grown (quiet_draws es quiet) h.draws_are;
}

settings_of : (j k : Journal) (es : List Entry) → k ≡ with_entries j es → k.start.config ≡ j.start.config
settings_of j k es grown = ap (λ (x : Journal). x.start.config) grown

-- HEARING

quiet_read : (c : Config) (es : List Entry) (r : Result Datagram DecodeFault) → Quiet (read_as c es r).0
quiet_read c es (Ok g) = (refl, λ slot m. refl)
quiet_read c es (Err f) = (refl, λ slot m. refl)

quiet_if : (b : Bool) (x y : Input × Verdict) → Quiet x.0 → Quiet y.0 → Quiet (if b then x else y).0
quiet_if true x y h k = h
quiet_if false x y h k = k

quiet_bytes : (c : Config) (es : List Entry) (bytes : List ℕ) → Quiet (bytes_heard c es bytes).0
quiet_bytes c es bytes = quiet_if (is_gone (state es)) (Noise, Ignored causes.Gone) (read_as c es (judge c.session bytes)) (refl, λ slot m. refl) (quiet_read c es (judge c.session bytes))

quiet_heard : (now : ℕ) (j : Journal) (bs : List (List ℕ)) (es : List Entry) → HearsEach now j bs es → AreQuiet es
quiet_heard now j [] [] h = tt
quiet_heard now j [] (e ∷ es) h = absurd h
quiet_heard now j (b ∷ bs) [] h = absurd h
quiet_heard now j (b ∷ bs) (e ∷ es) h = (subst Quiet (sym (ap (λ (p : Input × Verdict). p.0) h.0.heard)) (quiet_bytes j.start.config j.entries b), quiet_heard now (with_entry j e) bs es h.1)

node_hears : {X C : Type 0} (R : X → ℕ → List (Option (List ℕ)) → X → Type 0) (now : ℕ) (n : NodeView X C) (limit : MissingLimit) (k : Journal) (failures : ℕ) (told : Option Told) (wire : X) (config : Config) (room : ℕ) (closed : List Bool) (count : ℕ) (last : List (List (Option (List ℕ)))) → IsNode n config room closed → IsLawfulJournal k
    → Listens R now count last n.limit limit n.journal k n.told told n.wire wire → IsNode (record n { limit = limit; journal = k; failures = failures; told = told; wire = wire }) config room closed
node_hears R now n limit k failures told wire config room closed count last h lawful l = record {
  lists = keeps_quiet n.journal k (entries_of l.outcomes) n.feeds n.well.received n.hand h.lists lawful l.grown (quiet_heard now n.journal (heard_of l.came l.outcomes) (entries_of l.outcomes) (heard_each now n.limit.most n.journal l.came l.outcomes l.each));
  settings = settings_of n.journal k (entries_of l.outcomes) l.grown ∙ h.settings;
  room_is = h.room_is;
  closed_are = h.closed_are;
}

pub node_listened : {X C : Type 0} (R : X → ℕ → List (Option (List ℕ)) → X → Type 0) (now : ℕ) (n : NodeView X C) (limit : MissingLimit) (k : Journal) (failures : ℕ) (told : Option Told) (wire : X) (config : Config) (room : ℕ) (closed : List Bool) (r : Result Listening OutOfMemory) → IsNode n config room closed → IsLawfulJournal k
    → MatchResult r (λ l. Listened R now l.count l.failed n.limit limit n.journal k n.told told n.wire wire) (λ _. ListenedCut R now n.limit limit n.journal k n.told told n.wire wire) → IsNode (record n { limit = limit; journal = k; failures = failures; told = told; wire = wire }) config room closed
node_listened R now n limit k failures told wire config room closed (Ok l) h lawful x = node_hears R now n limit k failures told wire config room closed l.count x.last h lawful x.listens
node_listened R now n limit k failures told wire config room closed (Err e) h lawful x = node_hears R now n limit k failures told wire config room closed x.count (answered_with x.lost ∷ []) h lawful x.listens

-- READING THE CLOCK, AND WAITING

-- of the wire and the clock a node keeps nothing but what it sees of them
pub node_waited : {X C : Type 0} (n : NodeView X C) (failures : ℕ) (told : Option Told) (wire : X) (clock : C) (config : Config) (room : ℕ) (closed : List Bool) → IsNode n config room closed → IsNode (record n { failures = failures; told = told; wire = wire; clock = clock }) config room closed
node_waited n failures told wire clock config room closed h = record { lists = h.lists; settings = h.settings; room_is = h.room_is; closed_are = h.closed_are }

-- LOOKING AT THE PRODUCERS

-- what the stroke queue has received stays
pub node_looked : {X C : Type 0} (n : NodeView X C) (well : WellView) (config : Config) (room : ℕ) (closed : List Bool) → IsNode n config room closed → well.received ≡ n.well.received → IsNode (record n { well = well }) config room closed
node_looked n well config room closed h same = record {
  lists = record { lawful = h.lists.lawful; slots = h.lists.slots; carries = h.lists.carries; puts = h.lists.puts; draws_are = subst (λ received. DrawsReceived n.journal received n.hand) (sym same) h.lists.draws_are };
  settings = h.settings;
  room_is = h.room_is;
  closed_are = h.closed_are;
}

-- DRAWING

drawn_none_given : (es : List Entry) (ss : List Stroke) → map (λ (e : Entry). e.input) es ≡ map drawing ss → (slot : ℕ) → given es slot ≡ []
drawn_none_given [] ss h slot = refl
drawn_none_given (e ∷ es) [] h slot = absurd (cc)
drawn_none_given (e ∷ es) (s ∷ ss) h slot =
    let head : e.input ≡ drawing s = cc in
    let tail : map (λ (x : Entry). x.input) es ≡ map drawing ss = cc in
    ap (λ i. cons_option (given_in slot i e.effects.message) (given es slot)) head ∙ drawn_none_given es ss tail slot

drawn_draws : (es : List Entry) (ss : List Stroke) → map (λ (e : Entry). e.input) es ≡ map drawing ss → draw_inputs es ≡ map drawing ss
drawn_draws [] ss h = h
drawn_draws (e ∷ es) [] h = absurd (cc)
drawn_draws (e ∷ es) (s ∷ ss) h =
    let head : e.input ≡ drawing s = cc in
    let tail : map (λ (x : Entry). x.input) es ≡ map drawing ss = cc in
    ap (λ i. cons_option (drew i) (draw_inputs es)) head ∙ ap (λ xs. drawing s ∷ xs) (drawn_draws es ss tail)

received_more : (now count : ℕ) (none_found : Bool) (j k : Journal) (from to : WellView) (hand kept : Option Stroke) (d : DrawsStrokes now count none_found j k from to hand kept) → DrawsReceived j from.received hand → DrawsReceived k to.received kept
received_more now count none_found j k from to hand kept d h =
    let p = d.pops in
    let x = d.draws in
    let hands : List Stroke = option_to_list hand in
    let keeps : List Stroke = option_to_list kept in
    ap (λ (w : WellView). map drawing w.received) p.received
    ∙ map-append drawing from.received p.popped
    ∙ ap (λ is. is ++ map drawing p.popped) h
    ∙ append_assoc (draw_inputs j.entries) (map drawing hands) (map drawing p.popped)
    ∙ ap (λ is. draw_inputs j.entries ++ is) (sym (map-append drawing hands p.popped) ∙ ap (map drawing) (sym p.all_is ∙ x.all_is) ∙ map-append drawing x.strokes keeps)
    ∙ sym (append_assoc (draw_inputs j.entries) (map drawing x.strokes) (map drawing keeps))
    ∙ ap (λ is. is ++ map drawing keeps) (ap (λ is. draw_inputs j.entries ++ is) (sym (drawn_draws x.entries x.strokes (inputs_drawn now j x.strokes x.entries x.each))) ∙ sym (draws_grown j k x.entries x.grown))

node_drawn : {X C : Type 0} (now count : ℕ) (none_found : Bool) (n : NodeView X C) (k : Journal) (well : WellView) (from hand : Option Stroke) (config : Config) (room : ℕ) (closed : List Bool) → IsNode n config room closed → IsLawfulJournal k → from ≡ n.hand → DrawsStrokes now count none_found n.journal k n.well well from hand
    → IsNode (record n { journal = k; well = well; hand = hand }) config room closed
node_drawn now count none_found n k well from hand config room closed h lawful same d =
    let e : DrawsStrokes now count none_found n.journal k n.well well n.hand hand = subst (λ x. DrawsStrokes now count none_found n.journal k n.well well x hand) same d in
    let x = e.draws in
    let still : CarriesEach k n.feeds = carries_more n.journal k x.entries n.feeds x.grown (drawn_none_given x.entries x.strokes (inputs_drawn now n.journal x.strokes x.entries x.each)) h.lists.carries in
    record {
      lists = record {
        lawful = lawful;
        slots = h.lists.slots;
        carries = still;
        puts = puts_released k n.feeds lawful still;
        draws_are = received_more now count none_found n.journal k n.well well n.hand hand e h.lists.draws_are;
      };
      settings = settings_of n.journal k x.entries x.grown ∙ h.settings;
      room_is = h.room_is;
      closed_are = h.closed_are;
    }

pub node_drew : {X C : Type 0} (now most : ℕ) (n : NodeView X C) (k : Journal) (well : WellView) (from hand : Option Stroke) (config : Config) (room : ℕ) (closed : List Bool) (r : Result Drawn OutOfMemory) → IsNode n config room closed → IsLawfulJournal k → from ≡ n.hand
    → MatchResult r (λ drawn. DrewStrokes now most drawn.none_left n.journal k n.well well from hand) (λ _. DrewStrokesCut now most n.journal k n.well well from hand) → IsNode (record n { journal = k; well = well; hand = hand }) config room closed
node_drew now most n k well from hand config room closed (Ok drawn) h lawful same x = node_drawn now x.count drawn.none_left n k well from hand config room closed h lawful same x.draws
node_drew now most n k well from hand config room closed (Err e) h lawful same x = node_drawn now x.count false n k well from hand config room closed h lawful same x.draws

-- LEAVING AND TICKING

quiet_leaves : (leaves : Bool) (es : List Entry) → map (λ (e : Entry). e.input) es ≡ (if leaves then AskedLeave ∷ [] else []) → AreQuiet es
quiet_leaves leaves [] h = tt
quiet_leaves true (e ∷ []) h = let is : e.input ≡ AskedLeave = cc in (subst Quiet (sym is) (refl, λ slot m. refl), tt)
quiet_leaves true (e ∷ f ∷ es) h = absurd (cc)
quiet_leaves false (e ∷ es) h = absurd (cc)

node_left : {X C : Type 0} (now : ℕ) (leaves : Bool) (n : NodeView X C) (k : Journal) (asked : Option ℕ) (config : Config) (room : ℕ) (closed : List Bool) → IsNode n config room closed → IsLawfulJournal k → Leaves now leaves n.journal k → IsNode (record n { journal = k; asked = asked }) config room closed
node_left now leaves n k asked config room closed h lawful l = record {
  lists = keeps_quiet n.journal k l.entries n.feeds n.well.received n.hand h.lists lawful l.grown (quiet_leaves leaves l.entries l.inputs);
  settings = settings_of n.journal k l.entries l.grown ∙ h.settings;
  room_is = h.room_is;
  closed_are = h.closed_are;
}

pub node_leaves : {X C : Type 0} (now : ℕ) (leaves : Bool) (n : NodeView X C) (k : Journal) (asked : Option ℕ) (config : Config) (room : ℕ) (closed : List Bool) (r : Result (Unit {0}) OutOfMemory) → IsNode n config room closed → IsLawfulJournal k → MatchResult r (λ _. Leaves now leaves n.journal k) (λ _. k ≡ n.journal)
    → IsNode (record n { journal = k; asked = asked }) config room closed
node_leaves now leaves n k asked config room closed (Ok u) h lawful l = node_left now leaves n k asked config room closed h lawful l
node_leaves now leaves n k asked config room closed (Err e) h lawful same = subst (λ x. IsNode (record n { journal = x; asked = asked }) config room closed) (sym same) (record { lists = h.lists; settings = h.settings; room_is = h.room_is; closed_are = h.closed_are })

-- SHOWING

quiet_shown : (page : Page) (e : Entry) → e.input ≡ Showed page → AreQuiet (e ∷ [])
quiet_shown page e is = (subst Quiet (sym is) (refl, λ slot m. refl), tt)

node_same : {X C : Type 0} (n : NodeView X C) (k : Journal) (control : Option CommandsView) (config : Config) (room : ℕ) (closed : List Bool) → IsNode n config room closed → k ≡ n.journal → IsNode (record n { journal = k; control = control }) config room closed
node_same n k control config room closed h same = subst (λ x. IsNode (record n { journal = x; control = control }) config room closed) (sym same) (record { lists = h.lists; settings = h.settings; room_is = h.room_is; closed_are = h.closed_are })

node_carried : {X C : Type 0} (now : ℕ) (page : Option Page) (outcome : Result Page PageRefusal) (n : NodeView X C) (k : Journal) (control : Option CommandsView) (config : Config) (room : ℕ) (closed : List Bool) → IsNode n config room closed → IsLawfulJournal k → CarriesOut now page outcome n.journal k
    → IsNode (record n { journal = k; control = control }) config room closed
node_carried now None outcome n k control config room closed h lawful (none, same) = node_same n k control config room closed h same
node_carried now (Some page) outcome n k control config room closed h lawful s = record {
  lists = keeps_quiet n.journal k (s.entry ∷ []) n.feeds n.well.received n.hand h.lists lawful s.grown (quiet_shown page s.entry s.input);
  settings = settings_of n.journal k (s.entry ∷ []) s.grown ∙ h.settings;
  room_is = h.room_is;
  closed_are = h.closed_are;
}

node_obeyed : {X C : Type 0} (now : ℕ) (found : Option PageCommand) (n : NodeView X C) (k : Journal) (seen to : CommandsView) (control : Option CommandsView) (config : Config) (room : ℕ) (closed : List Bool) → IsNode n config room closed → IsLawfulJournal k → ObeysFound now found n.journal k seen to
    → IsNode (record n { journal = k; control = control }) config room closed
node_obeyed now None n k seen to control config room closed h lawful (same, still) = node_same n k control config room closed h same
node_obeyed now (Some command) n k seen to control config room closed h lawful o = node_carried now (page_of n.journal.start.config n.journal.entries command) o.outcome n k control config room closed h lawful o.out

node_asked : {X C : Type 0} (now : ℕ) (n : NodeView X C) (k : Journal) (from to : Option CommandsView) (config : Config) (room : ℕ) (closed : List Bool) → IsNode n config room closed → IsLawfulJournal k → ShowsAsked now n.journal k from to → IsNode (record n { journal = k; control = to }) config room closed
node_asked now n k None to config room closed h lawful (same, none) = node_same n k to config room closed h same
node_asked now n k (Some from) to config room closed h lawful (next, is, o) = node_obeyed now o.found n k o.seen next to config room closed h lawful o.obeys

node_asked_not : {X C : Type 0} (n : NodeView X C) (k : Journal) (from to : Option CommandsView) (config : Config) (room : ℕ) (closed : List Bool) → IsNode n config room closed → ShowsAskedCut n.journal k from to → IsNode (record n { journal = k; control = to }) config room closed
node_asked_not n k None to config room closed h cut = absurd cut
node_asked_not n k (Some from) to config room closed h (next, is, o) = node_same n k to config room closed h o.same

pub node_showed : {X C : Type 0} (now : ℕ) (n : NodeView X C) (k : Journal) (from to : Option CommandsView) (config : Config) (room : ℕ) (closed : List Bool) (r : Result Bool OutOfMemory) → IsNode n config room closed → IsLawfulJournal k
    → MatchResult r (λ _. ShowsAsked now n.journal k from to) (λ _. ShowsAskedCut n.journal k from to) → IsNode (record n { journal = k; control = to }) config room closed
node_showed now n k from to config room closed (Ok some) h lawful s = node_asked now n k from to config room closed h lawful s
node_showed now n k from to config room closed (Err e) h lawful s = node_asked_not n k from to config room closed h s

pub node_ticked : {X C : Type 0} (now : ℕ) (n : NodeView X C) (k : Journal) (failures : ℕ) (told : Option Told) (wire : X) (config : Config) (room : ℕ) (closed : List Bool) (outs : List Out) → IsNode n config room closed → IsLawfulJournal k → Ticks now outs n.journal k
    → IsNode (record n { journal = k; failures = failures; told = told; wire = wire }) config room closed
node_ticked now n k failures told wire config room closed outs h lawful t = record {
  lists = keeps_quiet n.journal k (t.entry ∷ []) n.feeds n.well.received n.hand h.lists lawful t.grown (subst Quiet (sym t.is_tick.input) (refl, λ slot m. refl), tt);
  settings = settings_of n.journal k (t.entry ∷ []) t.grown ∙ h.settings;
  room_is = h.room_is;
  closed_are = h.closed_are;
}

-- GIVING

none_drawn : (i : Input) → is_give i ≡ true → drew i ≡ None
none_drawn (Drew page body) h = cc
none_drawn (Heard g) h = refl
none_drawn Noise h = refl
none_drawn Ticked h = refl
none_drawn (Showed page) h = refl
none_drawn AskedLeave h = refl
none_drawn (Gave slot) h = refl
none_drawn (Took slot) h = refl

gives_draw_nothing : (es : List Entry) → AllByRecursion (λ (e : Entry). is_give e.input ≡ true) es → draw_inputs es ≡ []
gives_draw_nothing [] h = refl
gives_draw_nothing (e ∷ es) h = ap (λ o. cons_option o (draw_inputs es)) (none_drawn e.input h.0) ∙ gives_draw_nothing es h.1

pub node_given : {X C : Type 0} (n : NodeView X C) (k : Journal) (feeds : List FeedView) (config : Config) (room below : ℕ) (closed after : List Bool) → IsNode n config room closed → GivesUpTo below n.journal k n.feeds feeds → after ≡ map has_closed feeds → IsNode (record n { journal = k; feeds = feeds }) config room after
node_given n k feeds config room below closed after h g closes = record {
  lists = record {
    lawful = g.lawful;
    slots = g.slots ∙ h.lists.slots;
    carries = g.carries;
    puts = puts_released k feeds g.lawful g.carries;
    draws_are = received_still n.journal k g.entries n.well.received n.hand g.grown (gives_draw_nothing g.entries g.inputs) h.lists.draws_are;
  };
  settings = settings_of n.journal k g.entries g.grown ∙ h.settings;
  room_is = h.room_is;
  closed_are = closes;
}

pub node_gave : {X C : Type 0} (n : NodeView X C) (k : Journal) (feeds : List FeedView) (config : Config) (room : ℕ) (closed after : List Bool) (r : Result (Unit {0}) OutOfMemory) → IsNode n config room closed
    → MatchResult r (λ _. GivesUpTo PAGES n.journal k n.feeds feeds) (λ _. GaveSome n.journal k n.feeds feeds) → after ≡ map has_closed feeds → IsNode (record n { journal = k; feeds = feeds }) config room after
node_gave n k feeds config room closed after (Ok u) h g closes = node_given n k feeds config room PAGES closed after h g closes
node_gave n k feeds config room closed after (Err e) h g closes = node_given n k feeds config room g.slot closed after h g.gives closes

-- NEW NODES

new_run : (c : Config) (made : ℕ) → IsMemberRun c made []
new_run c made = record { each = tt; bucket = ([], refl, tt, tt) }

pub keeps_new : (j : Journal) (feeds : List FeedView) (received : List Stroke) → j.entries ≡ [] → AreNewFeeds feeds → received ≡ [] → KeepsLists j feeds received None
keeps_new j feeds received none new empty = record {
  lawful = lawful;
  slots = new.slots;
  carries = carries;
  puts = puts_released j feeds lawful carries;
  draws_are = ap (map drawing) empty ∙ ap (λ es. draw_inputs es ++ []) (sym none);
}
  where
    lawful : IsLawfulJournal j
    lawful = lawful_journal j (record { run = subst (IsMemberRun j.start.config j.start.made) (sym none) (new_run j.start.config j.start.made); handed = subst (AllByRecursion IsHandable) (sym none) tt })

    carried : (slot : ℕ) (f : FeedView) → ((f.put ≡ []) × (f.disconnected ≡ false)) → Carries (given j.entries slot) f
    carried slot f h = carries_standing (given j.entries slot) f h.1 (ap (λ es. given es slot) none ∙ sym h.0)

    carries : CarriesEach j feeds
    carries = λ slot f at_f. carried slot f (new.each slot f at_f)

-- the feeds of new lanes are new
pub new_feeds : (viewers : ℕ) (feeds : List FeedView) (taps : List TapView) (sights : List LookoutView) → AreLanes viewers feeds taps sights → AreNewFeeds feeds
new_feeds viewers feeds taps sights (board, count, tap_count, ends, rest, all) = record {
  slots = count;
  each = λ slot f at_f.
      let (t, at_t) = at_place taps slot (omega (arith, slice_get_within feeds slot f at_f)) in
      let is = (ends.each slot f t at_f at_t).0 in
      (is.0, is.2);
}
