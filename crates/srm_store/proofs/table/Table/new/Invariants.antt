use Rattle.std.proofs.Common.{◌≡◌, replicate}
use Rattle.srm_store.specs.StreamPlaces.{blank_stream}
use Rattle.srm_store.proofs.table.Table.new.Given as goal

abbrev pub invariant-loop-stream : goal.invariant-loop-stream
invariant-loop-stream l = l.streams.items ≡ replicate l._stream blank_stream
