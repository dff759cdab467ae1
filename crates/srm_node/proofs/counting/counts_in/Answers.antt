use Rattle.srm_node.proofs.counting.counts_in.Goals as goal

pub returns : goal.returns
returns c = rw (c.all_noise.ensures, c.all_ignored.ensures, c.all_ignored-2.ensures, c.all_ignored-3.ensures, c.all_ignored-4.ensures, c.all_ignored-5.ensures, c.all_ignored-6.ensures, c.all_ignored-7.ensures, c.all_dropped.ensures)
