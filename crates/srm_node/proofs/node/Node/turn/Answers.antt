use Rattle.std.specs.Prelude.{Ok, Err}
use Rattle.srm_node.specs.declared.fault.NodeFault.TheVariants.{Wire}
use Rattle.srm_node.specs.Calls.{calls_of}
use Rattle.srm_node.proofs.Turning.{cut_hearing, cut_drawing, cut_leaving, cut_showing, cut_ticking, cut_giving, turned_whole, turned_deaf}
use Rattle.srm_node.proofs.Timing.{ends_at}
use Rattle.srm_node.proofs.Waiting.{waits_on}
use Rattle.srm_node.proofs.node.Node.turn.Goals as goal

pub returns-in_err-listening-clause-turns : goal.returns-in_err-listening-clause-turns
returns-in_err-listening-clause-turns g c = search (cut_hearing, c.from_residual.ensures, c.read_clock-now.ensures, c.in_err-listening.ensures) parts 0

pub returns-in_err-none_left-clause-turns : goal.returns-in_err-none_left-clause-turns
returns-in_err-none_left-clause-turns g c = search (cut_drawing, c.from_residual-in_err-none_left.ensures, c.read_clock-now.ensures, c.in_ok-listening.ensures, c.look_at_pens.ensures, c.strokes_after-most.ensures, c.in_err-none_left.ensures) parts 0

pub returns-in_err-leave_now-clause-turns : goal.returns-in_err-leave_now-clause-turns
returns-in_err-leave_now-clause-turns g c = search (cut_leaving, c.from_residual-in_err-leave_now.ensures, c.read_clock-now.ensures, c.in_ok-listening.ensures, c.look_at_pens.ensures, c.strokes_after-most.ensures, c.in_ok-none_left.ensures, c.in_err-leave_now.ensures) parts 0

pub returns-in_err-show_now-clause-turns : goal.returns-in_err-show_now-clause-turns
returns-in_err-show_now-clause-turns g c = search (cut_showing, c.from_residual-in_err-show_now.ensures, c.read_clock-now.ensures, c.in_ok-listening.ensures, c.look_at_pens.ensures, c.strokes_after-most.ensures, c.in_ok-none_left.ensures, c.in_ok-leave_now.ensures, c.in_err-show_now.ensures) parts 0

pub returns-in_err-unsent-clause-turns : goal.returns-in_err-unsent-clause-turns
returns-in_err-unsent-clause-turns g c = search (cut_ticking, c.read_clock-now.ensures, c.in_ok-listening.ensures, c.look_at_pens.ensures, c.strokes_after-most.ensures, c.in_ok-none_left.ensures, c.in_ok-leave_now.ensures, c.in_ok-show_now.ensures, c.in_err-unsent.ensures) parts 0

pub returns-in_err-end_turn-clause-turns : goal.returns-in_err-end_turn-clause-turns
returns-in_err-end_turn-clause-turns g c = search (cut_giving, c.read_clock-now.ensures, c.in_ok-listening.ensures, c.look_at_pens.ensures, c.strokes_after-most.ensures, c.in_ok-none_left.ensures, c.in_ok-leave_now.ensures, c.in_ok-show_now.ensures, c.in_ok-unsent.ensures, c.in_err-end_turn.ensures) parts 0

pub returns-then-unheard-unsent-clause-turns : goal.returns-then-unheard-unsent-clause-turns
returns-then-unheard-unsent-clause-turns g c = search (turned_deaf, c.read_clock-now.ensures, c.in_ok-listening.ensures, c.look_at_pens.ensures, c.strokes_after-most.ensures, c.in_ok-none_left.ensures, c.in_ok-leave_now.ensures, c.in_ok-show_now.ensures, c.in_ok-unsent.ensures, c.in_ok-end_turn.ensures) parts 0

pub returns-clause-turns : goal.returns-clause-turns
returns-clause-turns g c = search (turned_whole, c.read_clock-now.ensures, c.in_ok-listening.ensures, c.look_at_pens.ensures, c.strokes_after-most.ensures, c.in_ok-none_left.ensures, c.in_ok-leave_now.ensures, c.in_ok-show_now.ensures, c.in_ok-unsent.ensures, c.in_ok-end_turn.ensures) parts 0

pub returns-in_err-listening-clause-words : goal.returns-in_err-listening-clause-words
returns-in_err-listening-clause-words g c = search waits_on parts 0

pub returns-in_err-none_left-clause-words : goal.returns-in_err-none_left-clause-words
returns-in_err-none_left-clause-words g c = search waits_on parts 0

pub returns-in_err-leave_now-clause-words : goal.returns-in_err-leave_now-clause-words
returns-in_err-leave_now-clause-words g c = search waits_on parts 0

pub returns-in_err-show_now-clause-words : goal.returns-in_err-show_now-clause-words
returns-in_err-show_now-clause-words g c = search waits_on parts 0

pub returns-in_err-unsent-clause-words : goal.returns-in_err-unsent-clause-words
returns-in_err-unsent-clause-words g c = waits_on g.W.Words.next_word _ _ _ (waits_on g.W.Words.next_word _ _ _ (waits_on g.W.Words.next_word _ _ _ (waits_on g.W.Words.next_word _ _ _ (waits_on g.W.Words.next_word _ _ _ (waits_on g.W.Words.next_word _ _ _ c.read_clock-now.ensures.words c.in_ok-listening.ensures.words) c.look_at_pens.ensures.words) c.in_ok-none_left.ensures.words) c.in_ok-leave_now.ensures.words) c.in_ok-show_now.ensures.words) c.in_err-unsent.ensures.words

pub returns-in_err-end_turn-clause-words : goal.returns-in_err-end_turn-clause-words
returns-in_err-end_turn-clause-words g c = waits_on g.W.Words.next_word _ _ _ (waits_on g.W.Words.next_word _ _ _ (waits_on g.W.Words.next_word _ _ _ (waits_on g.W.Words.next_word _ _ _ (waits_on g.W.Words.next_word _ _ _ (waits_on g.W.Words.next_word _ _ _ (waits_on g.W.Words.next_word _ _ _ c.read_clock-now.ensures.words c.in_ok-listening.ensures.words) c.look_at_pens.ensures.words) c.in_ok-none_left.ensures.words) c.in_ok-leave_now.ensures.words) c.in_ok-show_now.ensures.words) c.in_ok-unsent.ensures.words) c.in_err-end_turn.ensures.words

pub returns-then-unheard-unsent-clause-words : goal.returns-then-unheard-unsent-clause-words
returns-then-unheard-unsent-clause-words g c = waits_on g.W.Words.next_word _ _ _ (waits_on g.W.Words.next_word _ _ _ (waits_on g.W.Words.next_word _ _ _ (waits_on g.W.Words.next_word _ _ _ (waits_on g.W.Words.next_word _ _ _ (waits_on g.W.Words.next_word _ _ _ (waits_on g.W.Words.next_word _ _ _ c.read_clock-now.ensures.words c.in_ok-listening.ensures.words) c.look_at_pens.ensures.words) c.in_ok-none_left.ensures.words) c.in_ok-leave_now.ensures.words) c.in_ok-show_now.ensures.words) c.in_ok-unsent.ensures.words) c.in_ok-end_turn.ensures.words

pub returns-clause-words : goal.returns-clause-words
returns-clause-words g c = waits_on g.W.Words.next_word _ _ _ (waits_on g.W.Words.next_word _ _ _ (waits_on g.W.Words.next_word _ _ _ (waits_on g.W.Words.next_word _ _ _ (waits_on g.W.Words.next_word _ _ _ (waits_on g.W.Words.next_word _ _ _ (waits_on g.W.Words.next_word _ _ _ c.read_clock-now.ensures.words c.in_ok-listening.ensures.words) c.look_at_pens.ensures.words) c.in_ok-none_left.ensures.words) c.in_ok-leave_now.ensures.words) c.in_ok-show_now.ensures.words) c.in_ok-unsent.ensures.words) c.in_ok-end_turn.ensures.words

pub returns-in_err-listening-clause-moments : goal.returns-in_err-listening-clause-moments
returns-in_err-listening-clause-moments g c = ends_at (calls_of g.C.Clock.reads g.X.Wire.receives g.X.Wire.sends g.X.Wire.pauses) _ _ _ (returns-in_err-listening-clause-turns g c)

pub returns-in_err-none_left-clause-moments : goal.returns-in_err-none_left-clause-moments
returns-in_err-none_left-clause-moments g c = ends_at (calls_of g.C.Clock.reads g.X.Wire.receives g.X.Wire.sends g.X.Wire.pauses) _ _ _ (returns-in_err-none_left-clause-turns g c)

pub returns-in_err-leave_now-clause-moments : goal.returns-in_err-leave_now-clause-moments
returns-in_err-leave_now-clause-moments g c = ends_at (calls_of g.C.Clock.reads g.X.Wire.receives g.X.Wire.sends g.X.Wire.pauses) _ _ _ (returns-in_err-leave_now-clause-turns g c)

pub returns-in_err-show_now-clause-moments : goal.returns-in_err-show_now-clause-moments
returns-in_err-show_now-clause-moments g c = ends_at (calls_of g.C.Clock.reads g.X.Wire.receives g.X.Wire.sends g.X.Wire.pauses) _ _ _ (returns-in_err-show_now-clause-turns g c)

pub returns-in_err-unsent-clause-moments : goal.returns-in_err-unsent-clause-moments
returns-in_err-unsent-clause-moments g c = ends_at (calls_of g.C.Clock.reads g.X.Wire.receives g.X.Wire.sends g.X.Wire.pauses) _ _ _ (returns-in_err-unsent-clause-turns g c)

pub returns-in_err-end_turn-clause-moments : goal.returns-in_err-end_turn-clause-moments
returns-in_err-end_turn-clause-moments g c = ends_at (calls_of g.C.Clock.reads g.X.Wire.receives g.X.Wire.sends g.X.Wire.pauses) _ _ _ (returns-in_err-end_turn-clause-turns g c)

pub returns-then-unheard-unsent-clause-moments : goal.returns-then-unheard-unsent-clause-moments
returns-then-unheard-unsent-clause-moments g c = ends_at (calls_of g.C.Clock.reads g.X.Wire.receives g.X.Wire.sends g.X.Wire.pauses) (Err Wire) _ _ (returns-then-unheard-unsent-clause-turns g c)

pub returns-clause-moments : goal.returns-clause-moments
returns-clause-moments g c = ends_at (calls_of g.C.Clock.reads g.X.Wire.receives g.X.Wire.sends g.X.Wire.pauses) (Ok tt) _ _ (returns-clause-turns g c)
