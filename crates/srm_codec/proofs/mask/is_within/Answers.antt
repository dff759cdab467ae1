use Rattle.std.proofs.Common.{◌-◌, sym, ◌∙◌, arith}
use Rattle.srm_names.specs.declared.limits.TheConstants.{DRAWOPS}
use Rattle.srm_codec.proofs.Masks.{named_within, all_of_them, shifted_out}
use Rattle.srm_codec.proofs.mask.is_within.Goals as goal

pub returns-then-room-ge-MASK_BITS : goal.returns-then-room-ge-MASK_BITS
returns-then-room-ge-MASK_BITS c =
    rw c.number-room.ensures.value (all_of_them c.args.mask (DRAWOPS - c.args.name.number) (omega arith) (omega arith) ∙ sym (named_within c.args.name c.args.mask DRAWOPS (omega arith) (omega arith)))

pub returns-else-room-ge-MASK_BITS : goal.returns-else-room-ge-MASK_BITS
returns-else-room-ge-MASK_BITS c =
    rw c.number-room.ensures.value (shifted_out c.args.mask (DRAWOPS - c.args.name.number) ∙ sym (named_within c.args.name c.args.mask DRAWOPS (omega arith) (omega arith)))
