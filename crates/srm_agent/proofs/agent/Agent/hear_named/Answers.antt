use Rattle.srm_agent.proofs.Answered.{ignored_by}
use Rattle.srm_agent.proofs.Ignoring.{ignored_datagram, ignored_judged, accepted_at_none}
use Rattle.srm_agent.proofs.agent.Agent.hear_named.Goals as goal

pub returns-in-Some-clause-ok : goal.returns-in-Some-clause-ok
returns-in-Some-clause-ok g c = ignored_datagram g.W.Words.next_word _ _ c.args.moment c.args.datagram c.in-Some.cause c.cause_to_ignore.result _ c.requires.here c.requires.later c.in-Some.is
    c.cause_to_ignore.ensures.verdict c.ignore_heard.ensures.new (ignored_by c.args.self.now _ _ _ _ c.ignore_heard.ensures.heard)

pub returns-in-Some-clause-judged : goal.returns-in-Some-clause-judged
returns-in-Some-clause-judged g c = ignored_judged _ c.args.moment c.args.datagram c.in-Some.cause c.cause_to_ignore.result _ c.in-Some.is c.cause_to_ignore.ensures.verdict (ignored_by c.args.self.now _ _ _ _ c.ignore_heard.ensures.heard)

pub accept-requires : goal.accept-requires
accept-requires g c = record {
  may = record {
    here = c.requires.here;
    spelled = c.requires.spelled;
    later = c.requires.later;
    in_range = c.requires.moment;
    allowed = accepted_at_none _ c.args.datagram c.cause_to_ignore.result c.in-None.is c.cause_to_ignore.ensures.verdict;
    named = c.requires.names;
    pages = c.cause_to_ignore.ensures.room c.in-None.is;
  };
}
