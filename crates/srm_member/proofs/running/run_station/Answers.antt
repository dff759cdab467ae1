use Rattle.std.proofs.Common.{◌≡◌, Bool, true, refl, ap, ◌∙◌, subst, map, inl, inr}
use Rattle.std.specs.Io.KnownBytes.{Appends}
use Rattle.std.specs.List.{AllByRecursion, list_all}
use Rattle.srm_node.specs.Calls.{calls_of}
use Rattle.srm_node.specs.Hosting.{kinds_of, AreEndsOfLanes, SameWell}
use Rattle.srm_udp.specs.Clocks.{NeverFalls}
use Rattle.srm_member.specs.Sinks.{NeverStops}
use Rattle.srm_member.specs.TakenText.{taken_text, lists_of, has_close}
use Rattle.srm_member.specs.Strokes.{PensDrew, pens_with}
use Rattle.srm_member.specs.WholeRuns.{IsReceivedOf}
use Rattle.srm_record.specs.Begun.{IsRecorded}
use Rattle.srm_member.proofs.Storing.{recorded_as}
use Rattle.srm_member.proofs.WholeRuns.{without_fault, hosted_whole, pens_of_well, printed_run, recorded_run, where_so}
use Rattle.srm_member.proofs.WholeTakes.{of_lists, lists_closed}
use Rattle.srm_member.proofs.MemberRuns.{keeps_all, unwritten_if}
use Rattle.srm_member.proofs.running.run_station.Goals as goal

pub settle_lanes-requires : goal.settle_lanes-requires
settle_lanes-requires g c =
    let lanes : AreEndsOfLanes c.args.station.node.view.feeds c.args.station.taps.items → AreEndsOfLanes c.in_ok-hosted.field-0.hosted.feeds.items (map (λ w. w.tap) c.in_ok-hosted.field-0.hosted.worked.items) =
    without_fault c.in_ok-hosted.field-0.hosted.end _ _ (of_lists _ _ _ c.of_whole_run.ensures c.in-None.is) c.in_ok-hosted.ensures.lanes in
    lanes c.requires.lanes

pub received_all-requires : goal.received_all-requires
received_all-requires g c =
    let same : SameWell c.args.station.node.view.well c.in_ok-hosted.field-0.ends.well =
    without_fault c.in_ok-hosted.field-0.hosted.end _ _ (of_lists _ _ _ c.of_whole_run.ensures c.in-None.is) c.in_ok-hosted.ensures.well in
    pens_of_well c.in_ok-hosted.field-0.drew_all c.args.station.node.view c.args.station.taps.items c.args.station.pens.items c.in_ok-hosted.field-0.pens.items _ c.in_ok-hosted.field-0.ends.well c.requires same c.in_ok-hosted.ensures.pens

pub returns-in-Some-clause-nothing : goal.returns-in-Some-clause-nothing
returns-in-Some-clause-nothing g c = inr (inr (keeps_all (g.O.Write.contents c.args.out.now)))

pub returns-then-whole-clause-whole : goal.returns-then-whole-clause-whole
returns-then-whole-clause-whole g c =
    let (sinks, count, ran) = c.in_ok-hosted.ensures.hosts in
    let host = hosted_whole c.in_ok-hosted.field-0.hosted.end _ _ _ (of_lists _ _ _ c.of_whole_run.ensures c.in-None.is) ran in
    let received : (c.in_ok-hosted.field-0.drew_all ≡ true) × AllByRecursion (IsReceivedOf c.in_ok-hosted.field-0.ends.well.received) c.in_ok-hosted.field-0.pens.items = where_so c.received_all.result _ c.if-not-received_all.false c.received_all.ensures in
    let drew : PensDrew true (pens_with c.args.station.pens.items (map (λ bodies. bodies.items) c.args.dealt.items)) c.in_ok-hosted.field-0.pens.items =
    subst (λ (b : Bool). PensDrew b (pens_with c.args.station.pens.items (map (λ bodies. bodies.items) c.args.dealt.items)) c.in_ok-hosted.field-0.pens.items) received.0 c.in_ok-hosted.ensures.pens in
    let printed : Appends (g.O.Write.contents c.args.out.now) (g.O.Write.contents c.print_taken.new.out) (taken_text c.me-me.result (lists_of c.in_ok-hosted.field-0.hosted.worked.items)) =
    subst (λ ws. Appends (g.O.Write.contents c.args.out.now) (g.O.Write.contents c.print_taken.new.out) (taken_text c.me-me.result (lists_of ws))) c.as_slice-in-None.ensures.value c.in_ok-print_taken-in-None.ensures.printed in
    let recorded : IsRecorded g.F.Write.contents c.args.station.node.begins c.in_ok-hosted.field-0.hosted.history.journal.entries (lists_of c.in_ok-hosted.field-0.hosted.worked.items) c.in_ok-whole.field-0.file =
    recorded_as g.F.Write.contents c.in_ok-hosted.field-0.hosted.history.begins c.args.station.node.begins c.in_ok-hosted.field-0.hosted.history.journal.entries c.in_ok-hosted.field-0.hosted.history.journal.entries _ _ c.in_ok-whole.field-0.file c.in_ok-hosted.ensures.begins refl (ap lists_of c.as_slice.ensures.value) (c.in_ok-whole.ensures c.if-whole.true) in
    let run = recorded_run (calls_of NeverFalls g.X.Wire.receives g.X.Wire.sends g.X.Wire.pauses) (kinds_of (λ l. l.items) _ NeverStops) c.args.turns c.args.station.node.view c.args.station.taps.items c.args.station.pens.items c.in_ok-hosted.field-0.pens.items sinks _ c.in_ok-hosted.field-0.ends c.in_ok-hosted.field-0.hosted
    _ _ c.me-me.result g.F.Write.contents c.args.station.node.words c.args.station.node.begins c.in_ok-whole.field-0.file c.requires count host drew c.settle_lanes.ensures (subst (λ ws. list_all has_close ws ≡ true) c.as_slice-2.ensures.value (lists_closed _ _ _ c.of_whole_run.ensures c.in-None.is)) received.1 (c.me-me.ensures ∙ ap (λ s. s.config.me) c.start.ensures) printed recorded c.in_ok-hosted.ensures.words in
    (_, run.0, run.1, run.2, run.3)

-- the same of a run whose record isn't whole
pub returns-clause-nothing : goal.returns-clause-nothing
returns-clause-nothing g c =
    let (sinks, count, ran) = c.in_ok-hosted.ensures.hosts in
    let host = hosted_whole c.in_ok-hosted.field-0.hosted.end _ _ _ (of_lists _ _ _ c.of_whole_run.ensures c.in-None.is) ran in
    let received : (c.in_ok-hosted.field-0.drew_all ≡ true) × AllByRecursion (IsReceivedOf c.in_ok-hosted.field-0.ends.well.received) c.in_ok-hosted.field-0.pens.items = where_so c.received_all.result _ c.if-not-received_all.false c.received_all.ensures in
    let drew : PensDrew true (pens_with c.args.station.pens.items (map (λ bodies. bodies.items) c.args.dealt.items)) c.in_ok-hosted.field-0.pens.items =
    subst (λ (b : Bool). PensDrew b (pens_with c.args.station.pens.items (map (λ bodies. bodies.items) c.args.dealt.items)) c.in_ok-hosted.field-0.pens.items) received.0 c.in_ok-hosted.ensures.pens in
    let printed : Appends (g.O.Write.contents c.args.out.now) (g.O.Write.contents c.print_taken.new.out) (taken_text c.me-me.result (lists_of c.in_ok-hosted.field-0.hosted.worked.items)) =
    subst (λ ws. Appends (g.O.Write.contents c.args.out.now) (g.O.Write.contents c.print_taken.new.out) (taken_text c.me-me.result (lists_of ws))) c.as_slice-in-None.ensures.value c.in_ok-print_taken-in-None.ensures.printed in
    let run = printed_run (calls_of NeverFalls g.X.Wire.receives g.X.Wire.sends g.X.Wire.pauses) (kinds_of (λ l. l.items) _ NeverStops) c.args.turns c.args.station.node.view c.args.station.taps.items c.args.station.pens.items c.in_ok-hosted.field-0.pens.items sinks _ c.in_ok-hosted.field-0.ends c.in_ok-hosted.field-0.hosted
    _ _ c.me-me.result c.requires count host drew c.settle_lanes.ensures (subst (λ ws. list_all has_close ws ≡ true) c.as_slice-2.ensures.value (lists_closed _ _ _ c.of_whole_run.ensures c.in-None.is)) received.1 (c.me-me.ensures ∙ ap (λ s. s.config.me) c.start.ensures) printed in
    inr (inl (refl, (_, run.0, run.1)))

pub returns-in_err-whole-clause-nothing : goal.returns-in_err-whole-clause-nothing
returns-in_err-whole-clause-nothing g c = unwritten_if c.from_residual-in_err-whole.result _ (g.O.Write.contents c.args.out.now)
