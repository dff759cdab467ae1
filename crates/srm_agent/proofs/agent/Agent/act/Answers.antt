use Rattle.std.proofs.Common.{◌∙◌, ap, length, subst, sym}
use Rattle.srm_entries.specs.declared.state.AgentState.{AgentState}
use Rattle.srm_agent.specs.Contents.{AgentContent}
use Rattle.srm_agent.specs.Ticking.{TicksAs}
use Rattle.srm_agent.proofs.Acting.{Acts, tick_stays, acts_ticks, acts_outs, room_to_send, own_to_send}
use Rattle.srm_names.proofs.Results.{at_err}
use Rattle.srm_agent.proofs.agent.Agent.act.Goals as goal

pub returns-in_err-arms-clause-err : goal.returns-in_err-arms-clause-err
returns-in_err-arms-clause-err g c = at_err c.from_residual-in_err-arms.result (tick_stays c.args.self.now c.room_to_go.new.self c.hand_out.new.self c.room_to_go.ensures.rest c.room_to_go.ensures.bucket c.hand_out.ensures.rest c.in_err-arms.ensures.timers c.in_err-arms.ensures.words)

pub send-went-requires-clause-room : goal.send-went-requires-clause-room
send-went-requires-clause-room g c = room_to_send c.args.self.now c.room_to_go.new.self c.hand_out.new.self (length c.args.due.due_items.items) c.len.result c.in_ok-went.went.room
    c.room_to_go.ensures.rest c.room_to_go.ensures.queues c.hand_out.ensures.rest (c.len.ensures ∙ c.args.due.due_items.ok.0) c.in_ok-went.ensures.room

pub send-went-requires-clause-own : goal.send-went-requires-clause-own
send-went-requires-clause-own g c = own_to_send c.args.self.now c.room_to_go.new.self c.hand_out.new.self c.args.due.due_items.items c.room_to_go.ensures.rest c.hand_out.ensures.rest c.requires.due.due_items.spelled.own

acted : (g : _) → (c : goal.After-result-1 g) → Acts g.W.Words.next_word c.args.self.now c.room_to_go.new.self c.hand_out.new.self c.send-went.new.self c.end-last.new.self c.args.moment c.args.due c.in_ok-arms.arms c.send-went.result
    c.end-last.result c.into_items-outs.result.1
acted g c = record {
  here = c.requires.here;
  later = c.requires.later;
  due_is = c.requires.due;
  room = c.room_to_go.ensures.rest;
  bucket = c.room_to_go.ensures.bucket;
  handed_out = c.in_ok-arms.ensures.ok;
  handed_rest = c.hand_out.ensures.rest;
  waited = c.send-went.ensures.waited;
  sent = c.send-went.ensures.sends;
  sent_rest = c.send-went.ensures.rest;
  last_is = c.end-last.ensures.value;
  ended = c.end-last.ensures.new;
  outs_are = c.into_items-outs.ensures.noted ∙ c.with_last.ensures.noted;
}

pub returns-clause-ok : goal.returns-clause-ok
returns-clause-ok g c = subst (λ (s : AgentState). TicksAs g.W.Words.next_word c.args.moment c.args.moment c.args.self.now c.end-last.new.self (record { asks = c.args.due.handed_out.asks; fixes = c.args.due.handed_out.fixes; arms = c.in_ok-arms.arms; outs = c.into_items-outs.result.0; state = s }))
    (sym (ap (λ (x : AgentContent _). x.state) c.self.view_is)) (acts_ticks g.W.Words.next_word c.args.self.now c.room_to_go.new.self c.hand_out.new.self c.send-went.new.self c.end-last.new.self c.args.moment c.args.due c.in_ok-arms.arms c.send-went.result
    c.end-last.result c.into_items-outs.result.1 c.into_items-outs.result.0 (acted g c) (c.into_items-outs.ensures.outs ∙ c.with_last.ensures.outs))

pub returns-clause-outs : goal.returns-clause-outs
returns-clause-outs g c = (acts_outs g.W.Words.next_word c.args.self.now c.room_to_go.new.self c.hand_out.new.self c.send-went.new.self c.end-last.new.self c.args.moment c.args.due c.in_ok-arms.arms c.send-went.result
    c.end-last.result c.into_items-outs.result.1 c.into_items-outs.result.0 (acted g c) (c.into_items-outs.ensures.outs ∙ c.with_last.ensures.outs)).0
