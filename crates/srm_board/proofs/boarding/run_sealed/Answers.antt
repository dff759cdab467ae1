use Rattle.srm_board.proofs.boarding.run_sealed.Goals as goal

pub returns-in-Ok : goal.returns-in-Ok
returns-in-Ok g c = λ whole. (c.in-Ok.file, c.in-Ok.ensures, c.run_prepared.ensures whole)
