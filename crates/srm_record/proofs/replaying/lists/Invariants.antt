use Rattle.std.proofs.Common.{◌≡◌, map, vec_len}
use Rattle.srm_names.specs.Histories.{count_up}
use Rattle.srm_record.specs.Takes.{taken_in, list_in}
use Rattle.srm_record.proofs.replaying.lists.Given as goal

abbrev pub invariant-slots : goal.invariant-slots
invariant-slots l = record {
  so_far : taken_in l.taken.items ≡ map (list_in l.lines) (count_up 0 l.slot);
  count : vec_len l.taken ≡ l.slot;
}
