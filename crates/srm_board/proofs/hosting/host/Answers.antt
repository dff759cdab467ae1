use Rattle.std.proofs.Common.{refl, sym, ◌∙◌, subst}
use Rattle.std.specs.List.{list_all, list_any}
use Rattle.srm_record.specs.Begun.{IsRecorded}
use Rattle.srm_member.specs.Statuses.{fault_of, fault_of_lists, lacks_memory}
use Rattle.srm_member.specs.TakenText.{has_close, lists_of}
use Rattle.srm_live.proofs.Recorded.{none_of}
use Rattle.srm_node.specs.Calls.{calls_of}
use Rattle.srm_node.specs.Hosting.{kinds_of}
use Rattle.srm_udp.specs.Clocks.{NeverFalls}
use Rattle.srm_live.proofs.LiveRuns.{lanes_if}
use Rattle.srm_board.proofs.BoardRuns.{board_run}
use Rattle.srm_board.proofs.hosting.host.Goals as goal

pub settle-requires : goal.settle-requires
settle-requires g c = lanes_if _ _ c.in-Some.hosted.end c.in-Some.ensures.lanes c.requires.new.lanes

pub returns-in-Some : goal.returns-in-Some
returns-in-Some g c = λ none.
    let h = c.in-Some.hosted in
    let run = fault_of_lists (fault_of h.end (list_any lacks_memory h.worked.items)) (list_all has_close h.worked.items) in
    let (file, stored) = c.settle.ensures.recorded none in
    board_run (calls_of NeverFalls g.X.Wire.receives g.X.Wire.sends g.X.Wire.pauses) (kinds_of (λ l. l.items) _ g.S.PageSink.sees) c.args.turns c.args.station.node.view c.args.station.taps.items c.args.station.pens.items c.args.sinks.items c.in-Some.field-0-1 h _ _ _ g.F.Write.contents c.args.station.node.words c.args.station.node.begins file
    c.requires.new (sym c.args.sinks.ok.0 ∙ c.requires.sinks) c.in-Some.ensures.hosts refl (none_of run c.settle.result c.settle.ensures.fault none) (c.settle.ensures.takes none) (subst (λ b. IsRecorded g.F.Write.contents b h.history.journal.entries (lists_of h.worked.items) file) c.in-Some.ensures.begins stored) c.in-Some.ensures.words
