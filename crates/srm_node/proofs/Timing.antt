-- The moments of a turn's entries, part by part.
use Rattle.std.proofs.Common.{◌≡◌, ℕ, true, false, List, [], ◌∷◌, ◌++◌, ap, sym, ◌∙◌, subst, inl, inr, append_assoc}
use Rattle.std.specs.Prelude.{Bool, Option, Some, None, map, if◌then◌else◌, Result, Ok, Err, IfOk}
use Rattle.std.specs.List.{AllByRecursion}
use Rattle.std.proofs.lemmas.List.{append-nil}
use Rattle.srm_names.specs.declared.page.Page.{Page}
use Rattle.srm_control.specs.declared.command.PageCommand.{PageCommand}
use Rattle.srm_control.specs.declared.command.PageRefusal.{PageRefusal}
use Rattle.srm_control.specs.Ends.{CommandsView}
use Rattle.srm_entries.specs.declared.entry.Entry.{Entry}
use Rattle.srm_entries.specs.declared.entry.Input.TheVariants.{AskedLeave}
use Rattle.srm_world.specs.Traces.{Journal}
use Rattle.srm_world.specs.RecordStarts.{RecordStart}
use Rattle.srm_world.specs.WaitWords.{RecorderView}
use Rattle.srm_entries.specs.Configs.{Config}
use Rattle.srm_world.specs.Recording.{with_entry, with_entries, IsAt, IsHearing, EntersEach}
use Rattle.srm_world.proofs.HearsAll.{at, grown_on, grows_nothing}
use Rattle.srm_node.specs.declared.fault.NodeFault.{NodeFault}
use Rattle.srm_node.specs.declared.fault.NodeFault.TheVariants.{Wire, Memory, Turns}
use Rattle.srm_node.specs.Calls.{Calls}
use Rattle.srm_wire.specs.Wires.{Told, answered_with}
use Rattle.srm_node.specs.declared.missing_limit.MissingLimit.{MissingLimit}
use Rattle.srm_node.specs.Limits.{entries_of}
use Rattle.srm_node.specs.Parts.{Listens, IsDrawing, is_give}
use Rattle.srm_node.specs.Showing.{page_of, CarriesOut, ObeysFound, ShowsAsked, ShowsAskedCut}
use Rattle.srm_node.specs.Nodes.{NodeView, NodeState, IsMadeNow, moment_of}
use Rattle.srm_node.specs.Turns.{ReadsNow, HearsNow, LooksNow, DrawsNow, LeavesNow, TurnToLeaving, TurnToShowing, TurnToTick, Turned, TurnEnds, IsCut}
use Rattle.srm_node.specs.Moments.{AreMadeAt, GrowsAt, GrowsNow}
use Rattle.srm_node.proofs.Limiting.{heard_of, heard_each}

-- ONE JOURNAL BEHIND ANOTHER

made_on : (now : ℕ) (j : Journal) (es fs : List Entry) → AreMadeAt now j es → AreMadeAt now (with_entries j es) fs → AreMadeAt now j (es ++ fs)
made_on now j [] fs h k = subst (λ xs. AreMadeAt now (at j xs) fs) (append-nil j.entries) k
made_on now j (e ∷ es) fs h k = (h.0, made_on now (with_entry j e) es fs h.1 (subst (λ xs. AreMadeAt now (at j xs) fs) (sym (append_assoc j.entries (e ∷ []) es)) k))

grows_on : (now : ℕ) (a b c : Journal) → GrowsAt now a b → GrowsAt now b c → GrowsAt now a c
grows_on now a b c h k = record {
  entries = h.entries ++ k.entries;
  grown = grown_on a b c h.entries k.entries h.grown k.grown;
  made = made_on now a h.entries k.entries h.made (subst (λ j. AreMadeAt now j k.entries) h.grown k.made);
}

-- the journal is the same
grows_same : (now : ℕ) (a b c : Journal) → GrowsAt now a b → c ≡ b → GrowsAt now a c
grows_same now a b c h same = subst (λ j. GrowsAt now a j) (sym same) h

grows_none : (now : ℕ) (a b : Journal) → b ≡ a → GrowsAt now a b
grows_none now a b same = record { entries = []; grown = same ∙ grows_nothing a; made = tt }

grows_from : (now : ℕ) (a b c : Journal) → a ≡ b → GrowsAt now b c → GrowsAt now a c
grows_from now a b c same h = subst (λ j. GrowsAt now j c) (sym same) h

-- THE PARTS

entered_at : {X : Type 0} (Enters : Journal → X → Entry → Type 0) (now : ℕ) → ((j : Journal) (x : X) (e : Entry) → Enters j x e → IsAt now j e) → (j : Journal) (xs : List X) (es : List Entry) → EntersEach Enters j xs es → AreMadeAt now j es
entered_at Enters now moment j [] [] h = tt
entered_at Enters now moment j [] (e ∷ es) h = absurd h
entered_at Enters now moment j (x ∷ xs) [] h = absurd h
entered_at Enters now moment j (x ∷ xs) (e ∷ es) h = (inr (moment j x e h.0), entered_at Enters now moment (with_entry j e) xs es h.1)

left_at : (now : ℕ) (j : Journal) (leaves : Bool) (es : List Entry) → map (λ (e : Entry). e.input) es ≡ (if leaves then AskedLeave ∷ [] else []) → AllByRecursion (IsAt now j) es → AreMadeAt now j es
left_at now j leaves [] inputs h = tt
left_at now j true (e ∷ []) inputs h = (inr h.0, tt)
left_at now j true (e ∷ f ∷ es) inputs h = absurd (cc)
left_at now j false (e ∷ es) inputs h = absurd (cc)

given_at : (now : ℕ) (j : Journal) (es : List Entry) → AllByRecursion (λ (e : Entry). is_give e.input ≡ true) es → AreMadeAt now j es
given_at now j [] h = tt
given_at now j (e ∷ es) h = (inl h.0, given_at now (with_entry j e) es h.1)

listened_at : {X : Type 0} (R : X → ℕ → List (Option (List ℕ)) → X → Type 0) (now n : ℕ) (last : List (List (Option (List ℕ)))) (limit kept : MissingLimit) (a b : Journal) (s t : Option Told) (x y : X) → Listens R now n last limit kept a b s t x y → GrowsAt now a b
listened_at R now n last limit kept a b s t x y l = record {
  entries = entries_of l.outcomes;
  grown = l.grown;
  made = entered_at (IsHearing now) now (λ j bytes e h. h.moment) a (heard_of l.came l.outcomes) (entries_of l.outcomes) (heard_each now limit.most a l.came l.outcomes l.each);
}

hears_at : {X C : Type 0} (R : X → ℕ → List (Option (List ℕ)) → X → Type 0) (now n : ℕ) (u : Bool) (a b : NodeView X C) → HearsNow R now n u a b → GrowsAt now a.journal b.journal
hears_at R now n u a b h = listened_at R now n h.listened.last a.limit b.limit a.journal b.journal a.told b.told a.wire b.wire h.listened.listens

draws_at : {X C : Type 0} (now most : ℕ) (w : Bool) (a b : NodeView X C) → DrawsNow now most w a b → GrowsAt now a.journal b.journal
draws_at now most w a b h = let d = h.drew.draws.draws in record { entries = d.entries; grown = d.grown; made = entered_at (IsDrawing now) now (λ j s e h. h.moment) a.journal d.strokes d.entries d.each }

leaves_at : {X C : Type 0} (now : ℕ) (w : Bool) (a b : NodeView X C) → LeavesNow now w a b → GrowsAt now a.journal b.journal
leaves_at now w a b h = let l = h.leaves in record { entries = l.entries; grown = l.grown; made = left_at now a.journal _ l.entries l.inputs l.moments }

carried_at : (now : ℕ) (page : Option Page) (outcome : Result Page PageRefusal) (j k : Journal) → CarriesOut now page outcome j k → GrowsAt now j k
carried_at now None outcome j k (none, same) = grows_none now j k same
carried_at now (Some page) outcome j k s = record { entries = s.entry ∷ []; grown = s.grown; made = (inr s.moment, tt) }

obeyed_at : (now : ℕ) (found : Option PageCommand) (j k : Journal) (seen to : CommandsView) → ObeysFound now found j k seen to → GrowsAt now j k
obeyed_at now None j k seen to (same, still) = grows_none now j k same
obeyed_at now (Some command) j k seen to o = carried_at now (page_of j.start.config j.entries command) o.outcome j k o.out

asked_at : (now : ℕ) (j k : Journal) (from to : Option CommandsView) → ShowsAsked now j k from to → GrowsAt now j k
asked_at now j k None to (same, none) = grows_none now j k same
asked_at now j k (Some from) to (next, is, o) = obeyed_at now o.found j k o.seen next o.obeys

asked_not_at : (now : ℕ) (j k : Journal) (from to : Option CommandsView) → ShowsAskedCut j k from to → GrowsAt now j k
asked_not_at now j k None to cut = absurd cut
asked_not_at now j k (Some from) to (next, is, o) = grows_none now j k o.same

-- THE PARTS SO FAR

module _ {X C : Type 0} where
  abbrev journal_of : NodeView X C → Journal
  journal_of n = n.journal

  abbrev clock_of : NodeView X C → C
  clock_of n = n.clock

  heard_at : (calls : Calls X C) (now n : ℕ) (u : Bool) (a r b l : NodeView X C) → ReadsNow calls.reads now a r → HearsNow calls.receives now n u r b → LooksNow b l → GrowsAt now a.journal l.journal
  heard_at calls now n u a r b l t h k = grows_same now a.journal b.journal l.journal (grows_from now a.journal r.journal b.journal (sym (ap journal_of t.same)) (hears_at calls.receives now n u r b h)) (ap journal_of k.same)

  drawn_at : (calls : Calls X C) (now n most : ℕ) (u w : Bool) (a r b l d : NodeView X C) → ReadsNow calls.reads now a r → HearsNow calls.receives now n u r b → LooksNow b l → DrawsNow now most w l d → GrowsAt now a.journal d.journal
  drawn_at calls now n most u w a r b l d t h k y = grows_on now a.journal l.journal d.journal (heard_at calls now n u a r b l t h k) (draws_at now most w l d y)

  to_leaving_at : (calls : Calls X C) (now : ℕ) (u : Bool) (a b : NodeView X C) → TurnToLeaving calls now u a b → GrowsAt now a.journal b.journal
  to_leaving_at calls now u a b t = grows_on now a.journal t.drawn.journal b.journal (drawn_at calls now t.came t.most u t.none_left a t.read t.heard t.looked t.drawn t.reads t.hears t.looks t.draws) (leaves_at now t.none_left t.drawn b t.leaves)

  to_showing_at : (calls : Calls X C) (now : ℕ) (u : Bool) (a b : NodeView X C) → TurnToShowing calls now u a b → GrowsAt now a.journal b.journal
  to_showing_at calls now u a b t = grows_on now a.journal t.left.journal b.journal (to_leaving_at calls now u a t.left t.to_leaving) (asked_at now t.left.journal b.journal t.left.control b.control t.shows.shows)

  to_tick_at : (calls : Calls X C) (u v : Bool) (a b : NodeView X C) (t : TurnToTick calls u v a b) → GrowsAt t.now a.journal b.journal
  to_tick_at calls u v a b t = let k = t.ticks.ticks in grows_on t.now a.journal t.shown.journal b.journal (to_showing_at calls t.now u a t.shown t.to_showing) (record { entries = k.entry ∷ []; grown = k.grown; made = (inr k.moment, tt) })

  -- the clock behind the reading is that of the turn's end
  read_of_leaving : (calls : Calls X C) (now : ℕ) (u : Bool) (a b : NodeView X C) (t : TurnToLeaving calls now u a b) → b.clock ≡ t.read.clock
  read_of_leaving calls now u a b t = ap clock_of t.leaves.same ∙ ap clock_of t.draws.same ∙ ap clock_of t.looks.same ∙ ap clock_of t.hears.same

  read_of_showing : (calls : Calls X C) (now : ℕ) (u : Bool) (a b : NodeView X C) (t : TurnToShowing calls now u a b) → b.clock ≡ t.to_leaving.read.clock
  read_of_showing calls now u a b t = ap clock_of t.shows.same ∙ read_of_leaving calls now u a t.left t.to_leaving

  read_of_tick : (calls : Calls X C) (u v : Bool) (a b : NodeView X C) (t : TurnToTick calls u v a b) → b.clock ≡ t.to_showing.to_leaving.read.clock
  read_of_tick calls u v a b t = ap clock_of t.ticks.same ∙ read_of_showing calls t.now u a t.shown t.to_showing

  by_reading : (calls : Calls X C) (now : ℕ) (a r b : NodeView X C) → ReadsNow calls.reads now a r → b.clock ≡ r.clock → GrowsAt now a.journal b.journal → GrowsNow calls.reads a b
  by_reading calls now a r b t same h = record { told = t.told; reads = subst (λ c. calls.reads a.clock t.told c) (sym same) t.reads; grows = subst (λ n. GrowsAt n a.journal b.journal) t.counts h }

  turned_at : (calls : Calls X C) (u v : Bool) (a b : NodeView X C) → Turned calls u v a b → GrowsNow calls.reads a b
  turned_at calls u v a b t =
      let p = t.to_tick in
      let g = t.gives.gives in
      by_reading calls p.now a p.to_showing.to_leaving.read b p.to_showing.to_leaving.reads (ap clock_of t.gives.same ∙ read_of_tick calls u v a t.ticked p)
      (grows_on p.now a.journal t.ticked.journal b.journal (to_tick_at calls u v a t.ticked p) (record { entries = g.entries; grown = g.grown; made = given_at p.now t.ticked.journal g.entries g.inputs }))

  cut_at : (calls : Calls X C) (a b : NodeView X C) → IsCut calls a b → GrowsNow calls.reads a b
  cut_at calls a b (inl t) = let l = t.hears.listened in by_reading calls t.now a t.read b t.reads (ap clock_of t.hears.same)
      (grows_from t.now a.journal t.read.journal b.journal (sym (ap journal_of t.reads.same)) (listened_at calls.receives t.now l.count (answered_with l.lost ∷ []) t.read.limit b.limit t.read.journal b.journal t.read.told b.told t.read.wire b.wire l.listens))
  cut_at calls a b (inr (inl t)) = let d = t.draws.drew.draws.draws in by_reading calls t.now a t.read b t.reads (ap clock_of t.draws.same ∙ ap clock_of t.looks.same ∙ ap clock_of t.hears.same)
      (grows_on t.now a.journal t.looked.journal b.journal (heard_at calls t.now t.came t.unheard a t.read t.heard t.looked t.reads t.hears t.looks) (record { entries = d.entries; grown = d.grown; made = entered_at (IsDrawing t.now) t.now (λ j s e h. h.moment) t.looked.journal d.strokes d.entries d.each }))
  cut_at calls a b (inr (inr (inl t))) = by_reading calls t.now a t.read b t.reads (ap clock_of t.draws.same ∙ ap clock_of t.looks.same ∙ ap clock_of t.hears.same) (drawn_at calls t.now t.came t.most t.unheard t.none_left a t.read t.heard t.looked b t.reads t.hears t.looks t.draws)
  cut_at calls a b (inr (inr (inr (inl t)))) = by_reading calls t.now a t.to_leaving.read b t.to_leaving.reads (ap clock_of t.shows.same ∙ read_of_leaving calls t.now t.unheard a t.left t.to_leaving)
      (grows_on t.now a.journal t.left.journal b.journal (to_leaving_at calls t.now t.unheard a t.left t.to_leaving) (asked_not_at t.now t.left.journal b.journal t.left.control b.control t.shows.shows))
  cut_at calls a b (inr (inr (inr (inr (inl t))))) = by_reading calls t.now a t.to_showing.to_leaving.read b t.to_showing.to_leaving.reads (read_of_showing calls t.now t.unheard a b t.to_showing) (to_showing_at calls t.now t.unheard a b t.to_showing)
  cut_at calls a b (inr (inr (inr (inr (inr t))))) =
      let p = t.to_tick in
      let g = t.gives.gives.gives in
      by_reading calls p.now a p.to_showing.to_leaving.read b p.to_showing.to_leaving.reads (ap clock_of t.gives.same ∙ read_of_tick calls t.unheard t.unsent a t.ticked p)
      (grows_on p.now a.journal t.ticked.journal b.journal (to_tick_at calls t.unheard t.unsent a t.ticked p) (record { entries = g.entries; grown = g.grown; made = given_at p.now t.ticked.journal g.entries g.inputs }))

  -- A turn's entries are made at the moment of its one reading, however it ends.
  pub ends_at : (calls : Calls X C) (r : Result (Unit {0}) NodeFault) (a b : NodeView X C) → TurnEnds calls r a b → GrowsNow calls.reads a b
  ends_at calls (Ok u) a b t = turned_at calls false false a b t
  ends_at calls (Err Wire) a b t = turned_at calls t.unheard t.unsent a b t.turned
  ends_at calls (Err Memory) a b t = cut_at calls a b t
  ends_at calls (Err Turns) a b t = absurd t

-- A NEW NODE

pub words_kept : {W X C E : Type 0} (r : Result (NodeState W X C) E) (recorded : RecorderView W) (words : W) (j : Journal) (begins : Option RecordStart) → IfOk r (λ node. node.words ≡ recorded.words) → recorded ≡ record { journal = j; words = words; begins = begins } → IfOk r (λ node. node.words ≡ words)
words_kept {W} (Ok node) recorded words j begins h is = h ∙ ap (λ (x : RecorderView W). x.words) is
words_kept (Err e) recorded words j begins h is = tt

pub begins_kept : {W X C E : Type 0} (r : Result (NodeState W X C) E) (recorded : RecorderView W) (words : W) (j : Journal) (begins : Option RecordStart) → IfOk r (λ node. node.begins ≡ recorded.begins) → recorded ≡ record { journal = j; words = words; begins = begins } → IfOk r (λ node. node.begins ≡ begins)
begins_kept {W} (Ok node) recorded words j begins h is = h ∙ ap (λ (x : RecorderView W). x.begins) is
begins_kept (Err e) recorded words j begins h is = tt

pub made_now : {W X C E : Type 0} (r : Result (NodeState W X C) E) (recorded : RecorderView W) (Reads : C → ℕ → C → Type 0) (before after : C) (told now : ℕ) (config : Config) (words : W) (begins : Option RecordStart) → IfOk r (λ node. node.view.journal ≡ recorded.journal) → IfOk r (λ node. node.view.clock ≡ after)
    → recorded ≡ record { journal = record { start = record { config = config; made = now }; entries = [] }; words = words; begins = begins } → Reads before told after → now ≡ moment_of told → IfOk r (λ node. IsMadeNow Reads before node.view)
made_now {W} (Ok node) recorded Reads before after told now config words begins h clock is reads counts = record {
  told = told;
  reads = subst (λ c. Reads before told c) (sym clock) reads;
  counts = ap (λ (j : Journal). j.start.made) h ∙ ap (λ (x : RecorderView W). x.journal.start.made) is ∙ counts;
}
made_now (Err e) recorded Reads before after told now config words begins h clock is reads counts = tt
