use Rattle.std.proofs.lemmas.Result.{err_from_is_err_and}
use Rattle.srm_codec.specs.Judging.{echo_at}
use Rattle.srm_codec.proofs.Loop.{skim_starts, skim_goes_on, skim_stops, skim_is_done}
use Rattle.srm_codec.proofs.lists.skim_counted_echoes.Goals as goal

pub echoes-init : goal.echoes-init
echoes-init c = skim_starts echo_at c.args.count c.args.reader.now

pub returns-in_err-echo : goal.returns-in_err-echo
returns-in_err-echo c =
    let p = err_from_is_err_and c.from_residual.result c.from_residual.ensures.1 in
    rw (p.1, p.2) (skim_stops echo_at c.args.count c.echoes.counter c.echoes.last c.echoes.reader c.args.reader.now c.in_err-echo.field-0.0 c.echoes-test.true c.in_err-echo.ensures c.echoes.invariant)

pub echoes-preserved : goal.echoes-preserved
echoes-preserved c = skim_goes_on echo_at c.args.count c.echoes.counter c.echoes.last c.echoes.reader c.args.reader.now c.in_ok-echo.echo c.echo.new.reader c.echoes-test.true c.in_ok-echo.ensures c.echoes.invariant

pub returns : goal.returns
returns c = skim_is_done echo_at c.args.count c.echoes.counter c.echoes.last c.echoes.reader c.args.reader.now c.echoes-test.false c.echoes.invariant
