use Rattle.srm_room.proofs.ReadBack.{document_back}
use Rattle.srm_room.proofs.laws.reads_back.Goals as goal

pub returns : goal.returns
returns c = document_back
