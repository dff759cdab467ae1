use Rattle.srm_member.proofs.MemberRuns.{stored_if}
use Rattle.srm_board.proofs.BoardRuns.{board_ends, board_seeded}
use Rattle.srm_board.proofs.boarding.run_prepared.Goals as goal

pub run_bound-requires-clause-new : goal.run_bound-requires-clause-new
run_bound-requires-clause-new g c κs within = board_ends c.args.options c.args.seal c.in-Ok.station.node.view c.in-Ok.station.taps.items c.in-Ok.station.pens.items c.in-Ok.ensures.station

pub returns-in-Ok : goal.returns-in-Ok
returns-in-Ok g c = λ whole.
    let run = c.run_bound.ensures whole in
    record {
      node = c.in-Ok.station.node.view;
      taps = c.in-Ok.station.taps.items;
      pens = c.in-Ok.station.pens.items;
      station = c.in-Ok.ensures.station;
      took = run.0;
      whole = run.1;
      seeded = board_seeded c.args.options c.args.seal c.in-Ok.station.node.view c.in-Ok.station.taps.items c.in-Ok.station.pens.items c.in-Ok.station.node.words run.1.last.journal c.in-Ok.ensures.station c.in-Ok.ensures.words run.4;
      stored = stored_if g.F.Write.contents c.args.file run.2 c.args.options.seed c.in-Ok.station.node.view.journal.start c.in-Ok.station.node.begins run.1.last.journal.entries run.0 c.in-Ok.ensures.begins run.3;
    }
