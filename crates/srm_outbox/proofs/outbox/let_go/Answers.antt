use Rattle.std.proofs.Common.{◌≡◌, ◌+◌, subst}
use Rattle.std.specs.Prelude.{OnSome}
use Rattle.srm_bucket.specs.Fits.{Pops}
use Rattle.srm_bucket.specs.Waiting.{TakesNext, count_of}
use Rattle.srm_outbox.proofs.Handing.{going_begins, going_goes_on, going_room, going_ends}
use Rattle.srm_outbox.proofs.outbox.let_go.Goals as goal

pub loop-item-init : goal.loop-item-init
loop-item-init c = going_begins c.args.now c.args.bucket.now c.args.went c.requires.empty c.requires.room

pub add-requires : goal.add-requires
add-requires c = going_room c.args.now c.args.bucket.now c.loop-item.bucket c.pop.new.self c.loop-item.went c.loop-item.invariant
    (subst (λ o. OnSome o (count_of c.pop.new.self.waiting + 1 ≡ count_of c.loop-item.bucket.waiting)) c.in-Some.is c.pop.ensures.fewer)

pub loop-item-preserved : goal.loop-item-preserved
loop-item-preserved c = going_goes_on c.args.now c.args.bucket.now c.loop-item.bucket c.pop.new.self c.loop-item.went c.add.new.self c.in-Some.item c.loop-item.invariant
    (subst (λ o. Pops c.args.now c.loop-item.bucket o c.pop.new.self) c.in-Some.is c.pop.ensures.pops)
    (subst (λ o. TakesNext c.loop-item.bucket.waiting o c.pop.new.self.waiting) c.in-Some.is c.pop.ensures.takes)
    (subst (λ o. OnSome o (count_of c.pop.new.self.waiting + 1 ≡ count_of c.loop-item.bucket.waiting)) c.in-Some.is c.pop.ensures.fewer)
    c.add.ensures.outs c.add.ensures.noted c.add.ensures.room

pub returns : goal.returns
returns c = going_ends c.args.now c.args.bucket.now c.loop-item.bucket c.pop.new.self c.loop-item.went c.loop-item.invariant
    (subst (λ o. Pops c.args.now c.loop-item.bucket o c.pop.new.self) c.in_default.is c.pop.ensures.pops)
    (subst (λ o. TakesNext c.loop-item.bucket.waiting o c.pop.new.self.waiting) c.in_default.is c.pop.ensures.takes)
