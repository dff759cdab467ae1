use Rattle.srm_guarded.proofs.Keying.{all_of_file}
use Rattle.srm_guarded.proofs.key_file.read_file.Goals as goal

pub returns-in-Ok : goal.returns-in-Ok
returns-in-Ok g c = all_of_file g.R.File.Read.remaining c.in-Ok.file c.read_open.result c.read_open.ensures
