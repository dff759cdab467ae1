use Rattle.std.proofs.Common.{◌≡◌, ◌+◌, ◌<◌, ◌∙◌, min, drop, length, rules}
use Rattle.rand_pcg.specs.Pcg.{pcg64}
use Rattle.srm_names.specs.declared.limits.TheConstants.{LATEST_MOMENT}
use Rattle.srm_entries.specs.Entries.{last_moment}
use Rattle.srm_record.specs.Allowances.{timers_allowed, timers_in}
use Rattle.srm_record.specs.Making.{Makes}
use Rattle.srm_record.proofs.GoingOn.{goes_on_more}
use Rattle.srm_record.proofs.Making.{makes_next, clock_goes_on}
use Rattle.srm_record.proofs.Stopping.{left_behind, set_too_many}
use Rattle.srm_record.proofs.replaying.make_all.Goals as goal

pub returns-in_default-clause-stopped : goal.returns-in_default-clause-stopped
returns-in_default-clause-stopped c =
    let line = c.index-lines-place.result in
    let j = c.loop-place.recorder.journal in
    let k = c.make.new.recorder.journal in
    let makes : Makes (min line.moment LATEST_MOMENT) line.call j k = search rules in
    let more : c.loop-place.left < timers_in (drop (length j.entries) k.entries) = search rules in
    set_too_many c.args.lines.now c.loop-place.place c.loop-place.left c.in_ok-learned.learned line c.args.recorder.now.journal j k
    c.loop-place-test.true c.index-lines-place.is c.loop-place.invariant.makes c.loop-place.invariant.left c.in_ok-learned.ensures c.if-learned-left.false makes more

pub loop-place-preserved : goal.loop-place-preserved
loop-place-preserved c =
    let line = c.index-lines-place.result in
    let j = c.loop-place.recorder.journal in
    let k = c.make.new.recorder.journal in
    let makes : Makes (min line.moment LATEST_MOMENT) line.call j k = search rules in
    let clock : c.clock_after-clock.result ≡ last_moment c.loop-place.clock (drop (length j.entries) k.entries) = search rules in
    let spent : c.in-Some.rest + timers_in (drop (length j.entries) k.entries) ≡ c.loop-place.left = search rules in
    record {
      goes = goes_on_more pcg64 c.args.recorder.now c.loop-place.recorder c.make.new.recorder c.loop-place.invariant.goes c.in_ok-make.ensures.goes;
      makes = makes_next c.args.lines.now c.loop-place.place line c.args.recorder.now.journal j k c.loop-place-test.true c.index-lines-place.is c.loop-place.invariant.makes makes;
      clock = clock ∙ clock_goes_on (min line.moment LATEST_MOMENT) c.loop-place.clock line.call j k c.loop-place.invariant.clock c.in_ok-make.ensures.goes.start makes;
      left = left_behind (timers_allowed (length c.args.lines.now)) c.loop-place.left c.in-Some.rest (min line.moment LATEST_MOMENT) line.call j k makes c.loop-place.invariant.left spent;
    }
