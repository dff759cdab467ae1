use Rattle.std.proofs.Common.{◌≡◌, true, ◌∷◌, refl, sym, ◌∙◌, subst}
use Rattle.srm_record.specs.Begun.{IsRecorded}
use Rattle.srm_member.specs.TakenText.{lists_of}
use Rattle.srm_node.specs.Calls.{calls_of}
use Rattle.srm_node.specs.Hosting.{kinds_of}
use Rattle.srm_udp.specs.Clocks.{NeverFalls}
use Rattle.srm_live.specs.LiveRuns.{HaveTyped}
use Rattle.srm_member.proofs.WholeRuns.{where_so}
use Rattle.srm_live.proofs.LiveRuns.{lanes_if, typed_all, typed_as, if_some, some_is, live_pens, live_lines, live_run}
use Rattle.srm_live.proofs.hosting.host_live.Goals as goal

pub settle-requires-clause-lanes : goal.settle-requires-clause-lanes
settle-requires-clause-lanes g c = lanes_if _ _ c.in-Some.hosted.end c.in-Some.ensures.lanes c.requires.new.lanes

pub settle-requires-clause-pens : goal.settle-requires-clause-pens
settle-requires-clause-pens g c =
    let known = g.I.Read.remaining c.args.reader in
    let pens = c.args.station.pens.items in
    if_some c.join_typing-typed.result (λ p. HaveTyped p.all known pens c.args.pages p.first p.others.items p.control) _
    (typed_all c.start_typing-typing.result c.join_typing-typed.result _ _ (λ t p. HaveTyped p.all (g.I.Read.remaining t.first.promise.1.value) (t.first.promise.0.value.pen ∷ t.others.items) t.first.promise.0.value.control p.first p.others.items p.control)
    (λ p. HaveTyped p.all known pens c.args.pages p.first p.others.items p.control) c.join_typing-typed.ensures.none c.join_typing-typed.ensures.typed c.start_typing-typing.ensures.reader c.start_typing-typing.ensures.pens
    (λ t p typed reader_is ends. typed_as p.all g.I.Read.remaining _ c.args.reader _ pens _ c.args.pages p.first p.others.items p.control reader_is ends.0 ends.1 typed))
    (λ p typed. live_pens p.all c.in-Some.hosted.end c.args.station.node.view c.args.station.taps.items pens c.in-Some.ends.well known c.args.pages p.first p.others.items p.control c.requires.new c.in-Some.ensures.well typed)

pub settle-requires-clause-lines : goal.settle-requires-clause-lines
settle-requires-clause-lines g c =
    let known = g.I.Read.remaining c.args.reader in
    let pens = c.args.station.pens.items in
    if_some c.join_typing-typed.result (λ p. HaveTyped p.all known pens c.args.pages p.first p.others.items p.control) _
    (typed_all c.start_typing-typing.result c.join_typing-typed.result _ _ (λ t p. HaveTyped p.all (g.I.Read.remaining t.first.promise.1.value) (t.first.promise.0.value.pen ∷ t.others.items) t.first.promise.0.value.control p.first p.others.items p.control)
    (λ p. HaveTyped p.all known pens c.args.pages p.first p.others.items p.control) c.join_typing-typed.ensures.none c.join_typing-typed.ensures.typed c.start_typing-typing.ensures.reader c.start_typing-typing.ensures.pens
    (λ t p typed reader_is ends. typed_as p.all g.I.Read.remaining _ c.args.reader _ pens _ c.args.pages p.first p.others.items p.control reader_is ends.0 ends.1 typed))
    (λ p typed. live_lines p.all c.in-Some.hosted.end c.args.station.node.view.control c.in-Some.ends.commands known pens c.args.pages p.first p.others.items p.control c.requires.control.1 c.in-Some.ensures.control typed)

pub returns-in-Some : goal.returns-in-Some
returns-in-Some g c = λ none complete.
    let both = c.drew_and_saw-is_complete.ensures complete in
    let known = g.I.Read.remaining c.args.reader in
    let pens = c.args.station.pens.items in
    let (t, typed_is, first, others, answers) = c.settle.ensures.pens none in
    let all : t.all ≡ true = some_is c.join_typing-typed.result t (λ p. p.all ≡ true) (where_so c.drew_all.result _ both.0 c.drew_all.ensures) typed_is in
    let typed : HaveTyped t.all known pens c.args.pages t.first t.others.items t.control =
    some_is c.join_typing-typed.result t (λ p. HaveTyped p.all known pens c.args.pages p.first p.others.items p.control)
    (typed_all c.start_typing-typing.result c.join_typing-typed.result _ _ (λ t p. HaveTyped p.all (g.I.Read.remaining t.first.promise.1.value) (t.first.promise.0.value.pen ∷ t.others.items) t.first.promise.0.value.control p.first p.others.items p.control)
    (λ p. HaveTyped p.all known pens c.args.pages p.first p.others.items p.control) c.join_typing-typed.ensures.none c.join_typing-typed.ensures.typed c.start_typing-typing.ensures.reader c.start_typing-typing.ensures.pens
    (λ t p typed reader_is ends. typed_as p.all g.I.Read.remaining _ c.args.reader _ pens _ c.args.pages p.first p.others.items p.control reader_is ends.0 ends.1 typed))
    typed_is in
    let (file, stored) = c.settle.ensures.recorded none in
    let none_stopped = sym c.any_stopped-stopped.ensures ∙ both.1 in
    live_run t.all (calls_of NeverFalls g.X.Wire.receives g.X.Wire.sends g.X.Wire.pauses) (kinds_of (λ l. l.items) _ g.S.PageSink.sees) c.args.turns c.args.station.node.view c.args.station.taps.items pens c.args.pages c.args.sinks.items c.in-Some.ends c.in-Some.hosted _ _ known t.first t.others.items t.control g.F.Write.contents c.args.station.node.words c.args.station.node.begins file
    all (rw c.as_slice.ensures.value at none_stopped) c.requires.new c.requires.control (sym c.args.sinks.ok.0 ∙ c.requires.sinks) c.in-Some.ensures.hosts c.in-Some.ensures.control refl (c.settle.ensures.fault none) (c.settle.ensures.takes none) typed first others answers (subst (λ b. IsRecorded g.F.Write.contents b c.in-Some.hosted.history.journal.entries (lists_of c.in-Some.hosted.worked.items) file) c.in-Some.ensures.begins stored) c.in-Some.ensures.words
