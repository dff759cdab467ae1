use Rattle.std.proofs.Common.{refl}
use Rattle.std.specs.Prelude.{Some}
use Rattle.srm_entries.specs.declared.entry.Input.TheVariants.{Drew}
use Rattle.srm_world.proofs.Going.{goes_on}
use Rattle.srm_world.proofs.participant.Participant.draw.Goals as goal

pub returns-clause-ok : goal.returns-clause-ok
returns-clause-ok g c = rw (← c.self.view_is, c.note.ensures) (goes_on g.W.Words.next_word (Some c.args.now) (Drew c.args.page c.args.body) _ _ c.in_ok-entry.field-0.entry c.in_ok-entry.ensures.ok refl refl refl refl refl)
