-- A live member's whole run, put together from what its parts tell.
use Rattle.std.proofs.Common.{◌≡◌, ℕ, zero, suc, ◌+◌, ◌<◌, ◌≤◌, Bool, true, false, List, [], ◌∷◌, ◌++◌, length, map, refl, ap, sym, ◌∙◌, subst, arith}
use Rattle.std.specs.Prelude.{Option, Some, None, Result, Ok, Err, slice_get, IfOk, IfSome, MatchResult}
use Rattle.std.proofs.lemmas.Option.{same_Some}
use Rattle.std.specs.List.{AllByRecursion, list_all, list_any, zip}
use Rattle.rand_pcg.specs.Lcg.{Lcg}
use Rattle.rand_pcg.specs.Pcg.{pcg64}
use Rattle.srm_names.specs.declared.limits.TheConstants.{PAGES, PENS}
use Rattle.srm_names.specs.declared.page_msg.PageMsg.{PageMsg}
use Rattle.srm_names.specs.Names.{first_page}
use Rattle.srm_names.specs.Histories.{IsPrefix}
use Rattle.srm_names.specs.PageFeeds.{is_close}
use Rattle.srm_names.proofs.Lists.{at_place, by_place, from_places, front_of_front}
use Rattle.srm_pages.specs.declared.stroke.Stroke.{Stroke}
use Rattle.srm_pages.specs.Ends.{TapView, PenView, WellView}
use Rattle.srm_pages.specs.Ink.{strokes_of, SentIs}
use Rattle.srm_node.specs.declared.fault.NodeFault.{NodeFault}
use Rattle.srm_node.specs.declared.hosting.Hosted.{Hosted}
use Rattle.srm_node.specs.declared.hosting.NodeEnds.{NodeEnds}
use Rattle.srm_node.specs.declared.working.Worked.{Worked}
use Rattle.srm_world.specs.Traces.{Journal}
use Rattle.srm_world.specs.RecordStarts.{RecordStart}
use Rattle.srm_record.specs.Begun.{IsRecorded}
use Rattle.srm_node.specs.Calls.{Calls}
use Rattle.srm_control.specs.declared.command.PageCommand.{PageCommand}
use Rattle.srm_control.specs.declared.command.PageAnswer.{PageAnswer}
use Rattle.srm_control.specs.Ends.{ControlView, CommandsView, new_control, new_commands}
use Rattle.srm_node.specs.Nodes.{NodeView, NodeState}
use Rattle.srm_node.specs.Waits.{ChosenByWords}
use Rattle.srm_node.specs.Hosting.{Kinds, HostsWith, HostFailsWith, SameWell, SameLines}
use Rattle.srm_member.specs.Stations.{HasNewEnds}
use Rattle.srm_member.specs.Statuses.{fault_of, fault_of_lists}
use Rattle.srm_member.specs.WholeRuns.{TakePrefixes, IsReceivedOf}
use Rattle.srm_member.proofs.WholeRuns.{without_fault, where_so, hosted_whole, whole_host_ends}
use Rattle.srm_member.proofs.WholeTakes.{of_lists, lists_closed}
use Rattle.srm_live.specs.Asking.{Answers, AreAmong, begins, begins_in, Hears}
use Rattle.srm_live.specs.LiveRuns.{typist, HaveTyped, AreOnLines, AreFirstOf, IsTyped, IsWholeLiveRun, ReceivesTyped, SawWhole, was_stopped}
use Rattle.srm_live.specs.Typing.{SentAllOf, pen_stroke, strokes_in}
use Rattle.srm_live.proofs.Askings.{among_before, begins-append}
use Rattle.srm_live.proofs.Sinks.{saw_whole}

pub lanes_if : (A B : Type 0) (end : Result (Unit {0}) NodeFault) → IfOk end (λ _. A → B) → A → IfOk end (λ _. B)
lanes_if A B (Ok u) lanes before = lanes before
lanes_if A B (Err e) lanes before = tt

-- ends that are new stay so where the node gets a control, which is new too
pub ends_stay : {W X C : Type 0} (old new : NodeState W X C) (taps : List TapView) (pens : List PenView) (control : Option CommandsView) → HasNewEnds old.view taps pens → new ≡ record old { view = record old.view { control = control } } → HasNewEnds new.view taps pens
ends_stay {W} {X} {C} old new taps pens control h is =
    let here : HasNewEnds (record old.view { control = control }) taps pens = record { slots = h.slots; lanes = h.lanes; new_taps = h.new_taps; count = h.count; new_pens = h.new_pens } in
    subst (λ (n : NodeState W X C). HasNewEnds n.view taps pens) (sym is) here

pub control_is : {W X C : Type 0} (old new : NodeState W X C) (control pages : ControlView) → pages ≡ control → (control ≡ new_control control.out control.back) × (new ≡ record old { view = record old.view { control = Some (new_commands control.out control.back) } })
    → (pages ≡ new_control pages.out pages.back) × (new.view.control ≡ Some (new_commands pages.out pages.back))
control_is {W} {X} {C} old new control pages is (control_new, node_is) =
    let here : (control ≡ new_control control.out control.back) × (new.view.control ≡ Some (new_commands control.out control.back)) = (control_new, ap (λ (n : NodeState W X C). n.view.control) node_is) in
    subst (λ (p : ControlView). (p ≡ new_control p.out p.back) × (new.view.control ≡ Some (new_commands p.out p.back))) (sym is) here

-- PRODUCERS THAT HAVE TYPED

-- what is known of a thread that was started, and waited for
pub typed_all : {T R : Type 0} (typing : Option T) (back : Option R) (A B : T → Type 0) (H : T → R → Type 0) (P : R → Type 0) → (typing ≡ None → back ≡ None) → IfSome back (λ r. IfSome typing (λ t. H t r)) → IfSome typing A → IfSome typing B
    → ((t : T) (r : R) → H t r → A t → B t → P r) → IfSome back P
typed_all typing None A B H P none all a b f = tt
typed_all None (Some r) A B H P none all a b f = let gone = none refl in cc
typed_all (Some t) (Some r) A B H P none all a b f = f t r all a b

pub if_some : {R : Type 0} (o : Option R) (P Q : R → Type 0) → IfSome o P → ((r : R) → P r → Q r) → IfSome o Q
if_some None P Q p f = tt
if_some (Some r) P Q p f = f r p

pub some_is : {R : Type 0} (o : Option R) (r : R) (P : R → Type 0) → IfSome o P → o ≡ Some r → P r
some_is None r P p is = cc
some_is (Some q) r P p is = subst P (same_Some q r is) p

-- what was typed, by the reader, the producers and the control that the thread was started with
pub typed_as : {I : Type 0} (all : Bool) (remaining : I → Option (List ℕ)) (i reader : I) (ps pens : List PenView) (c control : ControlView) (first : PenView) (others : List PenView) (last : ControlView) → i ≡ reader → pens ≡ ps → control ≡ c → HaveTyped all (remaining i) ps c first others last → HaveTyped all (remaining reader) pens control first others last
typed_as all remaining i reader ps pens c control first others last reader_is pens_are control_is typed =
    subst (λ r. HaveTyped all (remaining r) pens control first others last) reader_is
    (subst (λ xs. HaveTyped all (remaining i) xs control first others last) (sym pens_are) (subst (λ x. HaveTyped all (remaining i) ps x first others last) (sym control_is) typed))

wells_same : {X C : Type 0} (node : NodeView X C) (taps : List TapView) (pens : List PenView) (well : WellView) → HasNewEnds node taps pens → SameWell node.well well → (k : ℕ) (p : PenView) → slice_get pens k ≡ Some p → p.well ≡ well.well
wells_same node taps pens well ends same k p at = ap (λ (x : PenView). x.well) (ends.new_pens k p at) ∙ sym (ap (λ (w : WellView). w.well) same)

-- the producers are those of the stroke queue that the node returns
pub live_pens : {X C : Type 0} (all : Bool) (end : Result (Unit {0}) NodeFault) (node : NodeView X C) (taps : List TapView) (pens : List PenView) (well : WellView) (known : Option (List ℕ)) (control : ControlView) (first : PenView) (others : List PenView) (last : ControlView)
    → HasNewEnds node taps pens → IfOk end (λ _. SameWell node.well well) → HaveTyped all known pens control first others last → IfOk end (λ _. (first.well ≡ well.well) × AllByRecursion (λ (p : PenView). p.well ≡ well.well) others)
live_pens all (Ok u) node taps pens well known control first others last ends same typed = (
  ap (λ (x : PenView). x.well) typed.same.pen.is ∙ wells_same node taps pens well ends same 0 typed.pen (ap (λ ps. slice_get ps 0) typed.pens_are),
  from_places (λ (p : PenView). p.well ≡ well.well) others (λ k p at. wells_same node taps pens well ends same (suc k) p (ap (λ ps. slice_get ps (suc k)) typed.pens_are ∙ at)),
)
live_pens all (Err e) node taps pens well known control first others last ends same typed = tt

-- THE CONTROL

-- a node with a control, and the control, are on the same lines at its end
pub live_lines : (all : Bool) (end : Result (Unit {0}) NodeFault) (before after : Option CommandsView) (known : Option (List ℕ)) (pens : List PenView) (control : ControlView) (first : PenView) (others : List PenView) (last : ControlView) → before ≡ Some (new_commands control.out control.back)
    → IfOk end (λ _. SameLines before after) → HaveTyped all known pens control first others last → IfOk end (λ _. AreOnLines after last)
live_lines all (Err e) before after known pens control first others last is same typed = tt
live_lines all (Ok u) before after known pens control first others last is same typed =
    let (c, after_is, out, back) = subst (λ o. SameLines o after) is same in
    let here : AreOnLines (Some c) last = (ap (λ (x : ControlView). x.out) typed.same.control.is ∙ sym out, ap (λ (x : ControlView). x.back) typed.same.control.is ∙ sym back) in
    subst (λ o. AreOnLines o last) (sym after_is) here

-- what both ends tell of each other
pub first_of : (control : ControlView) (commands : CommandsView) → ((held : List PageCommand) × (control.commanded ≡ commands.taken ++ held)) → ((held : List PageAnswer) × (commands.answered ≡ control.answers ++ held)) → AreFirstOf (Some commands) control
first_of control commands (sent, sent_is) (held, held_is) = ((sent, sym sent_is), (held, sym held_is))

pub first_of_none : (control : ControlView) → AreFirstOf None control
first_of_none control = tt

among_answered : (some : Answers) (control last : ControlView) (c : CommandsView) → control.answers ≡ [] → Hears some control last → AreFirstOf (Some c) last → AreAmong some c.answered
among_answered some control last c new heard first =
    let (held, answered) = first.1 in
    let answers_are : last.answers ≡ control.answers ++ heard.took = ap (λ (x : ControlView). x.answers) heard.is in
    let took_is : heard.took ++ held ≡ c.answered = ap (λ xs. xs ++ held) (sym (answers_are ∙ ap (λ xs. xs ++ heard.took) new)) ∙ answered in
    subst (AreAmong some) took_is (among_before some heard.took held heard.among)

begins_taken : (some : Answers) (control last : ControlView) (c : CommandsView) → control.commanded ≡ [] → Hears some control last → AreFirstOf (Some c) last → begins c.taken ≤ begins_in some
begins_taken some control last c new heard first =
    let (held, sent) = first.0 in
    let commanded_are : last.commanded ≡ control.commanded ++ heard.sent = ap (λ (x : ControlView). x.commanded) heard.is in
    let sent_is : begins c.taken + begins held ≡ begins heard.sent = sym (begins-append c.taken held) ∙ ap begins (sent ∙ commanded_are ∙ ap (λ cs. cs ++ heard.sent) new) in
    omega (arith, sent_is, heard.begun)

-- WHAT WAS DRAWN

typed_part : (known : Option (List ℕ)) (pen first : PenView) (control last : ControlView) (c : CommandsView) (received : List Stroke) (w : WellView) → pen ≡ record { number = 0; sent = []; well = w.well } → control ≡ new_control control.out control.back → SentAllOf known (typist pen control) (typist first last)
    → IsReceivedOf received first → AreFirstOf (Some c) last → IfSome known (λ text. IsTyped text (Some c) received)
typed_part None pen first control last c received w is new sent part heard = tt
typed_part (Some text) pen first control last c received w is new sent part heard =
    let all = strokes_in first_page sent.answers text in
    let first_is : first ≡ record { number = 0; sent = map (pen_stroke 0) all; well = w.well } = sent.sent ∙ ap (λ (q : PenView). record q { sent = q.sent ++ map (pen_stroke q.number) all }) is in
    record {
      answers = sent.answers;
      are_given = among_answered sent.answers control last c (ap (λ (x : ControlView). x.answers) new) sent.heard heard;
      asked = sent.asked;
      begun = begins_taken sent.answers control last c (ap (λ (x : ControlView). x.commanded) new) sent.heard heard;
      drawn = subst (λ (q : PenView). strokes_of q.number received ≡ q.sent) first_is part;
    }

receives_typed : {X C : Type 0} (all : Bool) (node : NodeView X C) (taps : List TapView) (pens : List PenView) (known : Option (List ℕ)) (control : ControlView) (first : PenView) (others : List PenView) (last : ControlView) (c : CommandsView) (received : List Stroke)
    → all ≡ true → HasNewEnds node taps pens → control ≡ new_control control.out control.back → HaveTyped all known pens control first others last → IsReceivedOf received first → AllByRecursion (IsReceivedOf received) others → AreFirstOf (Some c) last → ReceivesTyped known (Some c) received
receives_typed all node taps pens known control first others last c received drew ends new typed part parts heard = record {
  typed = typed_part known typed.pen first control last c received node.well (ends.new_pens 0 typed.pen (ap (λ ps. slice_get ps 0) typed.pens_are)) new (where_so all (SentAllOf known (typist typed.pen control) (typist first last)) drew typed.whole) part heard;
  others = none;
}
  where
    none : (pen : ℕ) → 0 < pen → pen < PENS → strokes_of pen received ≡ []
    none zero some below = absurd (omega (arith, some))
    none (suc k) some below =
        let (p, at_p) = at_place pens (suc k) (omega (arith, below, ends.count)) in
        let at_o : slice_get others k ≡ Some p = ap (λ ps. slice_get ps (suc k)) (sym typed.pens_are) ∙ at_p in
        subst (λ (q : PenView). strokes_of q.number received ≡ q.sent) (ends.new_pens (suc k) p at_p) (by_place (IsReceivedOf received) others k p parts at_o)

-- THE WHOLE

-- the node of a run without fault still has its end of the control
has_commands : (end : Result (Unit {0}) NodeFault) (lacks : Bool) (before after : Option CommandsView) (new : CommandsView) → fault_of end lacks ≡ None → before ≡ Some new → IfOk end (λ _. SameLines before after) → (c : CommandsView) × (after ≡ Some c)
has_commands end lacks before after new none is same =
    let (c, after_is, out, back) = subst (λ o. SameLines o after) is (without_fault end lacks (SameLines before after) none same) in
    (c, after_is)

pub live_run : {P L S X C F : Type 0} (drew_all : Bool) (calls : Calls X C) (kinds : Kinds L S) (turns : ℕ) (node : NodeView X C) (taps : List TapView) (pens : List PenView) (control : ControlView) (sinks : List S) (left : NodeEnds) (h : Hosted P L) (lacks closed : Bool) (known : Option (List ℕ)) (first : PenView) (others : List PenView) (last : ControlView) (contents : F → Option (List ℕ)) (words : Lcg) (begins : Option RecordStart) (file : Option F)
    → drew_all ≡ true → list_any was_stopped h.worked.items ≡ false → HasNewEnds node taps pens → (control ≡ new_control control.out control.back) × (node.control ≡ Some (new_commands control.out control.back)) → length sinks ≡ PAGES
    → MatchResult h.end (λ _. HostsWith calls kinds node (zip taps sinks) turns left h) (λ fault. (all : Bool) × HostFailsWith calls kinds all node (zip taps sinks) turns fault left h) → IfOk h.end (λ _. SameLines node.control left.commands)
    → closed ≡ list_all (λ (w : Worked L). list_any is_close (kinds.entries w.list)) h.worked.items → fault_of_lists (fault_of h.end lacks) closed ≡ None → TakePrefixes h.feeds.items (map (λ (w : Worked L). w.tap) h.worked.items)
    → HaveTyped drew_all known pens control first others last → IsReceivedOf left.well.received first → AllByRecursion (IsReceivedOf left.well.received) others → AreFirstOf left.commands last
    → IsRecorded contents begins h.history.journal.entries (map (λ (w : Worked L). kinds.entries w.list) h.worked.items) file → ChosenByWords pcg64 node.journal words h.history.journal
    → (took : List (List PageMsg)) × (whole : IsWholeLiveRun calls turns known node took) × SawWhole kinds.sees sinks took × (last_file : Option F) × IsRecorded contents begins whole.host.last.journal.entries took last_file × ChosenByWords pcg64 node.journal words whole.host.last.journal
live_run {P} {L} drew_all calls kinds turns node taps pens control sinks left h lacks closed known first others last contents words begins file drew none_stopped ends new count ran same closed_is none takes typed part parts heard recorded chosen =
    let no_fault = of_lists _ _ _ refl none in
    let host : HostsWith calls kinds node (zip taps sinks) turns left h = hosted_whole h.end lacks _ _ no_fault ran in
    let all : list_all (λ (w : Worked L). list_any is_close (kinds.entries w.list)) h.worked.items ≡ true = sym closed_is ∙ lists_closed _ _ _ refl none in
    let (c, commands_are) = has_commands h.end lacks node.control left.commands _ no_fault new.1 same in
    let drawn = receives_typed drew_all node taps pens known control first others last c left.well.received drew ends new.0 typed part parts (subst (λ o. AreFirstOf o last) commands_are heard) in
    let (whole, well_is, control_is, journal_is) = whole_host_ends calls kinds turns node taps pens sinks left h ends count host takes all in (
      map (λ (w : Worked L). kinds.entries w.list) h.worked.items,
      record {
        host = whole;
        draws = subst (λ (v : WellView). ReceivesTyped known whole.last.control v.received) well_is (subst (λ o. ReceivesTyped known o left.well.received) (sym commands_are ∙ control_is) drawn);
      },
      saw_whole kinds taps sinks h.worked.items ends.new_taps host.0.workers none_stopped all,
      file,
      subst (λ (j : Journal). IsRecorded contents begins j.entries (map (λ (w : Worked L). kinds.entries w.list) h.worked.items) file) journal_is recorded,
      subst (λ (j : Journal). ChosenByWords pcg64 node.journal words j) journal_is chosen,
    )
