use Rattle.srm_node.proofs.Limiting.{all_heard, none_counted}
use Rattle.srm_node.proofs.laws.without_a_limit_all_is_heard.Goals as goal

pub returns : goal.returns
returns c now j came outcomes l h = (all_heard now j came outcomes h, none_counted now j came outcomes l h)
