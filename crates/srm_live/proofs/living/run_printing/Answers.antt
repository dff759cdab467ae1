use denote.Param.Send.{sendable}
use Rattle.std.proofs.Common.{subst}
use Rattle.srm_guarded.specs.Guarding.{IsSealBy}
use Rattle.srm_live.proofs.LiveMembers.{lives_with}
use Rattle.srm_live.proofs.Sent.{printing_send}
use Rattle.srm_live.proofs.living.run_printing.Goals as goal

pub run_bound-requires-send-S : goal.run_bound-requires-send-S
run_bound-requires-send-S g c κs within =
    let r = c.type_bounds.send-R in
    let o = c.type_bounds.send-O in
    let e = c.type_bounds.send-E in
    search (sendable, printing_send) depth 40 fits 20000

pub returns-in-Ok-bind : goal.returns-in-Ok-bind
returns-in-Ok-bind g c = λ whole.
    lives_with g.R.File.Write.contents g.R.File.Read.remaining c.args.options (g.I.Read.remaining c.args.reader) c.args.sinks.items c.in-Ok-read_key.key c.in-Ok-seal_by.seal c.in-Ok-bind.station.node.view c.in-Ok-bind.station.taps.items c.in-Ok-bind.station.pens.items c.in-Ok-open_record.record c.in-Ok-bind.station.node.words _ c.in-Ok-read_key.ensures.asked c.in-Ok-read_key.ensures.whole (subst (λ me. IsSealBy c.in-Ok-read_key.key me c.in-Ok-seal_by.seal) c.me.ensures c.in-Ok-seal_by.ensures) c.in-Ok-bind.ensures.new c.in-Ok-open_record.ensures c.in-Ok-bind.ensures.words c.in-Ok-bind.ensures.begins (c.run_bound.ensures whole)
