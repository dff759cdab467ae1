use Rattle.std.proofs.Common.{◌≡◌, ◌+◌, ◌++◌, length}
use Rattle.std.specs.Vec.Iter.{into_iter_items, into_iter_len}
use Rattle.srm_world.specs.Worlds.{words_of}
use Rattle.srm_world.proofs.Beginning.{HaveBegun}
use Rattle.srm_world.proofs.world.World.new.Given as goal

abbrev pub invariant-loop-config : goal.invariant-loop-config
invariant-loop-config g l = record {
  begun : HaveBegun l.config-items l.config-index l.starts.items l.participants.items;
  words : into_iter_len l.words + l.config-index ≡ length l.config-items;
  sources : words_of l.participants.items ++ into_iter_items l.words ≡ l.fn.words.items;
}
