use Rattle.std.proofs.Common.{rules}
use Rattle.std.proofs.lemmas.List.{nil_from_length}
use Rattle.srm_output.proofs.writing.write_bytes.Goals as goal

pub returns-then-is_empty-clause-printed : goal.returns-then-is_empty-clause-printed
returns-then-is_empty-clause-printed g c = rw (nil_from_length c.loop.rest.now (search rules)) at c.loop.invariant
