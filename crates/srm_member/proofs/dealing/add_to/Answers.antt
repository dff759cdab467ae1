use Rattle.std.proofs.Common.{rules}
use Rattle.srm_member.proofs.Dealt.{adds_to}
use Rattle.srm_member.proofs.dealing.add_to.Goals as goal

pub returns : goal.returns
returns c = adds_to (λ bodies. bodies.items) c.args.pen c.args.line.now c.args.dealt.now.items c.index_mut-bodies.result.now c.push.new.self c.requires c.index_mut-bodies.ensures.value (search rules)
