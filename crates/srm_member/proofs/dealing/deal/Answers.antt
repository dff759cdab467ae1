use Rattle.std.proofs.Common.{ap, rules}
use Rattle.srm_member.specs.Lines.{lines_of}
use Rattle.srm_member.proofs.Dealt.{dealt_more, dealt_all}
use Rattle.srm_member.proofs.dealing.deal.Goals as goal

pub loop-line-preserved : goal.loop-line-preserved
loop-line-preserved c = record {
  dealt = dealt_more c.in-Some.line.now _ _ _ _ _ _ _ c.loop-line.invariant.dealt c.in-Some.ensures.lines c.in_ok-add_to.ensures c.next_pen-pen.ensures;
  same = search rules;
  room = search rules;
}

pub returns-clause-ok : goal.returns-clause-ok
returns-clause-ok c = (search rules, dealt_all _ _ _ _ c.loop-line.invariant.dealt (ap lines_of c.in_default.ensures))
