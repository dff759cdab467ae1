use Rattle.srm_frames.proofs.BeginningLaws.{no_settings, wrong_checksum, is_begun}
use Rattle.srm_frames.proofs.beginning.read_beginning.Goals as goal

pub returns-in_default : goal.returns-in_default
returns-in_default c = no_settings c.args.reader.now c.read_version.new.reader c.read_fields.new.reader c.in_ok-read_version.ensures (rw c.in_default.is at c.read_fields.ensures)

pub returns-then-has_checksum : goal.returns-then-has_checksum
returns-then-has_checksum c =
    is_begun c.args.reader.now c.read_version.new.reader c.read_fields.new.reader c.has_checksum.new.reader c.in-Some.beginning c.in_ok-read_version.ensures c.in-Some.ensures
    (rw (c.if-has_checksum.true, c.rest-whole.ensures) at c.has_checksum.ensures)

pub returns-else-has_checksum : goal.returns-else-has_checksum
returns-else-has_checksum c =
    wrong_checksum c.args.reader.now c.read_version.new.reader c.read_fields.new.reader c.has_checksum.new.reader c.in-Some.beginning c.in_ok-read_version.ensures c.in-Some.ensures
    (rw (c.if-has_checksum.false, c.rest-whole.ensures) at c.has_checksum.ensures)
