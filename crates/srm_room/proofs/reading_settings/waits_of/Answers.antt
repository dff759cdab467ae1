use Rattle.std.proofs.Common.{sym, arith}
use Rattle.srm_room.proofs.Numbers.{few_waits, many_waits}
use Rattle.srm_room.proofs.reading_settings.waits_of.Goals as goal

pub returns-in_default : goal.returns-in_default
returns-in_default c = let few = c.in_default.len_below in sym (few_waits c.args.values.now (omega (arith, few)))

pub returns-in_default-2 : goal.returns-in_default-2
returns-in_default-2 c = let many = c.in_default.len_at_least in sym (many_waits c.args.values.now (omega (arith, many)))
