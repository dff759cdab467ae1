use Rattle.std.proofs.Common.{ap}
use Rattle.srm_member.specs.TakenText.{lists_of}
use Rattle.srm_member.proofs.WholeRuns.{without_fault}
use Rattle.srm_member.proofs.WholeTakes.{of_lists}
use Rattle.srm_live.proofs.Recorded.{recorded_file}
use Rattle.srm_board.proofs.hosting.settle.Goals as goal

pub settle_lanes-requires : goal.settle_lanes-requires
settle_lanes-requires g c = without_fault c.args.hosted.end _ _ (of_lists _ _ _ c.of_whole_run.ensures c.in-None.is) c.requires

pub returns-in-None-clause-recorded : goal.returns-in-None-clause-recorded
returns-in-None-clause-recorded g c = λ none. recorded_file c.end_record-recorded.result g.F.Write.contents c.args.hosted.history.begins c.args.hosted.history.journal.entries _ _ (ap lists_of c.as_slice.ensures.value) c.end_record-recorded.ensures (c.unrecorded.ensures.whole none)
