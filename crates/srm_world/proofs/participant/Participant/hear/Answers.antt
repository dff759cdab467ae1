use Rattle.std.proofs.Common.{refl, arith}
use Rattle.std.specs.Prelude.{Some}
use Rattle.srm_world.proofs.Going.{hears_on, hears_bytes}
use Rattle.srm_world.proofs.participant.Participant.hear.Goals as goal

pub returns-clause-ok : goal.returns-clause-ok
returns-clause-ok g c = rw (← c.self.view_is, c.note.ensures) (hears_on g.W.Words.next_word (Some c.args.now) _ _ c.args.bytes.now c.in_ok-entry.field-0.entry c.in_ok-entry.ensures.ok c.in_ok-entry.ensures.reading refl refl refl refl)

pub returns-clause-reading : goal.returns-clause-reading
returns-clause-reading g c = rw (← c.self.view_is) (hears_bytes _ c.args.bytes.now c.session-session.result c.in_ok-entry.field-0.entry c.session-session.ensures (omega arith) (λ i. omega (arith, c.type_inv.bytes i)) c.in_ok-entry.ensures.reading)
