use Rattle.std.proofs.Common.{◌≡◌, Some, None, rules}
use Rattle.std.specs.Prelude.{if◌then◌else◌}
use Rattle.std.proofs.lemmas.Result.{err_from_is_err_and}
use Rattle.srm_codec.specs.Judging.{name_at}
use Rattle.srm_codec.proofs.Loop.{skim_starts, skim_goes_on, skim_stops, skim_is_done}
use Rattle.srm_codec.proofs.lists.skim_counted_rows.Goals as goal

pub rows-init : goal.rows-init
rows-init c = skim_starts (name_at (if c.args.farewell then Some c.args.sender else None)) c.args.count c.args.reader.now

pub returns-in_err-row : goal.returns-in_err-row
returns-in_err-row c =
    let wanted : c.then_some-wanted.result ≡ (if c.args.farewell then Some c.args.sender else None) = search rules in
    let p = err_from_is_err_and c.from_residual.result c.from_residual.ensures.1 in
    rw (p.1, p.2) (skim_stops (name_at (if c.args.farewell then Some c.args.sender else None)) c.args.count c.rows.counter c.rows.last c.rows.reader c.args.reader.now c.in_err-row.field-0.0 c.rows-test.true (rw (← wanted) c.in_err-row.ensures) c.rows.invariant)

pub rows-preserved : goal.rows-preserved
rows-preserved c =
    let wanted : c.then_some-wanted.result ≡ (if c.args.farewell then Some c.args.sender else None) = search rules in
    skim_goes_on (name_at (if c.args.farewell then Some c.args.sender else None)) c.args.count c.rows.counter c.rows.last c.rows.reader c.args.reader.now c.in_ok-row.row c.name.new.self c.rows-test.true (rw (← wanted) c.in_ok-row.ensures) c.rows.invariant

pub returns : goal.returns
returns c = skim_is_done (name_at (if c.args.farewell then Some c.args.sender else None)) c.args.count c.rows.counter c.rows.last c.rows.reader c.args.reader.now c.rows-test.false c.rows.invariant
