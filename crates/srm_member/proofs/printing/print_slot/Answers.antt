use Rattle.srm_names.proofs.Results.{at_err}
use Rattle.srm_member.proofs.Elements.{element_on, element_front}
use Rattle.srm_member.specs.TakenText.{took_line}
use Rattle.srm_member.proofs.printing.print_slot.Goals as goal

pub returns-in_err-print_message-clause-cut : goal.returns-in_err-print_message-clause-cut
returns-in_err-print_message-clause-cut g c =
    at_err _ (element_front (took_line c.args.me c.args.slot) _ _ _ _ _ c.args.list.now _ c.message-item.result c.loop-message-test.true c.message-item.is c.loop-message.invariant c.in_err-print_message.ensures.cut)

pub loop-message-preserved : goal.loop-message-preserved
loop-message-preserved g c =
    element_on (took_line c.args.me c.args.slot) _ _ _ _ _ c.args.list.now _ c.message-item.result _ c.loop-message-test.true c.message-item.is c.loop-message.invariant c.in_ok-print_message.ensures.printed
