use Rattle.srm_frames.proofs.BeginningLaws.{no_magic, no_version, has_version}
use Rattle.srm_frames.proofs.beginning.read_version.Goals as goal

pub returns-then-is_byte : goal.returns-then-is_byte
returns-then-is_byte c = has_version c.args.reader.now c.is_word.new.reader c.is_byte.new.reader c.requires (rw c.if-is_word.true at c.is_word.ensures) (rw c.if-is_byte.true at c.is_byte.ensures)

pub returns-else-is_byte : goal.returns-else-is_byte
returns-else-is_byte c = no_version c.args.reader.now c.is_word.new.reader c.requires (rw c.if-is_word.true at c.is_word.ensures) (rw c.if-is_byte.false at c.is_byte.ensures)

pub returns-else-is_word : goal.returns-else-is_word
returns-else-is_word c = no_magic c.args.reader.now (rw c.if-is_word.false at c.is_word.ensures)
