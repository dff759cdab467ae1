use Rattle.std.proofs.Common.{◌≡◌, take}
use Rattle.srm_udp.proofs.outlet.posts.Posts.append.Given as goal

abbrev pub invariant-loop-byte : goal.invariant-loop-byte
invariant-loop-byte l = l.noted ≡ take l.byte-index l.bytes
