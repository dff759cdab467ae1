use Rattle.std.proofs.Common.{refl, false}
use Rattle.std.proofs.lemmas.List.{get_or-replicate}
use Rattle.srm_agent_state.proofs.progress.Progress.new.Goals as goal

pub returns : goal.returns
returns c = record { opened = refl; closed = refl; begun = λ e k. refl; numbers = λ source below. get_or-replicate 32 source 0 0 below; left = λ source below. get_or-replicate 32 source false false below }
