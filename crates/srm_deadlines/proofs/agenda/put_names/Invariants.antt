use Rattle.std.proofs.Common.{◌≡◌, ◌≤◌, take, length}
use Rattle.std.specs.Prelude.{vec_len, vec_capacity}
use Rattle.srm_deadlines.specs.Places.{names_of}
use Rattle.srm_deadlines.proofs.agenda.put_names.Given as goal

abbrev pub invariant-loop-pair : goal.invariant-loop-pair
invariant-loop-pair l = record {
  items : l.names.items ≡ names_of (take l.pair-index l.pairs);
  few : vec_len l.names ≡ l.pair-index;
  capacity : vec_capacity l.initial.names ≤ vec_capacity l.names;
  room : length l.pairs ≤ vec_capacity l.names;
}
