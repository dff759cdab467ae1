use Rattle.srm_agent.proofs.agent.Agent.outstanding.Goals as goal

pub returns : goal.returns
returns g c = record {
  each = λ s made past h. record {
    missing = c.missing.ensures.is s made past h;
    next_request = c.next_request.ensures.first.each s made past h;
    nothing = λ none. (c.next_request.ensures.nothing none).each s made past h;
    next_repair = c.next_repair.ensures.each s made past h;
    waiting_shown = c.waiting.ensures.each s made past h;
    waiting_new = c.waiting-2.ensures.each s made past h;
    waiting_other = c.waiting-3.ensures.each s made past h;
    state = c.state.ensures s made past h;
  };
}
