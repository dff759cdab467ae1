use Rattle.std.proofs.Common.{length}
use Rattle.srm_rooms.proofs.own_words.+begins.Given as goal

abbrev pub decreases-begins : goal.decreases-begins
decreases-begins l = length l.word.now
