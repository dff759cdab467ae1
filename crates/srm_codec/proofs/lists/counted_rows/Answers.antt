use Rattle.std.proofs.Common.{◌≡◌, Some, None, inl, rules}
use Rattle.std.specs.Prelude.{if◌then◌else◌}
use Rattle.std.proofs.lemmas.Result.{err_from_is_err_and}
use Rattle.srm_codec.specs.Judging.{name_at}
use Rattle.srm_codec.proofs.Loop.{newest, goes_on, stops, is_done}
use Rattle.srm_codec.proofs.lists.counted_rows.Goals as goal

pub returns-in_err-row : goal.returns-in_err-row
returns-in_err-row c =
    let wanted : c.then_some-wanted.result ≡ (if c.args.farewell then Some c.args.sender else None) = search rules in
    let last : c.copied.result ≡ newest c.rows.rows.items = search rules in
    let p = err_from_is_err_and c.from_residual-in_err-row.result c.from_residual-in_err-row.ensures.1 in
    rw (p.1, p.2) (inl (stops (name_at (if c.args.farewell then Some c.args.sender else None)) c.args.count c.rows.counter _ c.rows.rows.items c.rows.reader c.args.reader.now c.in_err-row.field-0.0 c.rows-test.true (rw (← wanted, ← last) c.in_err-row.ensures) c.rows.invariant))

pub rows-preserved : goal.rows-preserved
rows-preserved c =
    let wanted : c.then_some-wanted.result ≡ (if c.args.farewell then Some c.args.sender else None) = search rules in
    let last : c.copied.result ≡ newest c.rows.rows.items = search rules in
    rw (c.push.ensures.items, c.unwrap.ensures) (goes_on (name_at (if c.args.farewell then Some c.args.sender else None)) c.args.count c.rows.counter _ _ c.rows.rows.items c.rows.reader c.args.reader.now c.in_ok-row.row c.name.new.self c.push.ensures.capacity c.rows-test.true (rw (← wanted, ← last) c.in_ok-row.ensures) c.rows.invariant)

pub returns : goal.returns
returns c = rw c.new.ensures (is_done (name_at (if c.args.farewell then Some c.args.sender else None)) c.args.count c.rows.counter _ c.rows.rows.items c.rows.reader c.args.reader.now c.rows-test.false c.rows.invariant)
