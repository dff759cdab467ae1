use Rattle.std.proofs.Common.{◌≡◌, inl, rules}
use Rattle.std.proofs.lemmas.Result.{err_from_is_err_and}
use Rattle.srm_codec.specs.Judging.{echo_at}
use Rattle.srm_codec.proofs.Loop.{newest, goes_on, stops, is_done}
use Rattle.srm_codec.proofs.lists.counted_echoes.Goals as goal

pub returns-in_err-echo : goal.returns-in_err-echo
returns-in_err-echo c =
    let last : c.copied.result ≡ newest c.echoes.echoes.items = search rules in
    let p = err_from_is_err_and c.from_residual-in_err-echo.result c.from_residual-in_err-echo.ensures.1 in
    rw (p.1, p.2) (inl (stops echo_at c.args.count c.echoes.counter _ c.echoes.echoes.items c.echoes.reader c.args.reader.now c.in_err-echo.field-0.0 c.echoes-test.true (rw (← last) c.in_err-echo.ensures) c.echoes.invariant))

pub echoes-preserved : goal.echoes-preserved
echoes-preserved c =
    let last : c.copied.result ≡ newest c.echoes.echoes.items = search rules in
    rw (c.push.ensures.items, c.unwrap.ensures) (goes_on echo_at c.args.count c.echoes.counter _ _ c.echoes.echoes.items c.echoes.reader c.args.reader.now c.in_ok-echo.echo c.echo.new.reader c.push.ensures.capacity c.echoes-test.true (rw (← last) c.in_ok-echo.ensures) c.echoes.invariant)

pub returns : goal.returns
returns c = rw c.new.ensures (is_done echo_at c.args.count c.echoes.counter _ c.echoes.echoes.items c.echoes.reader c.args.reader.now c.echoes-test.false c.echoes.invariant)
