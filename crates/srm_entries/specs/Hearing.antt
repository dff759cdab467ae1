-- What bytes are to a member: the datagram that they spell, else noise with its fault; to a gone one, noise.
use Rattle.std.specs.Prelude.{ℕ, List, Result, Ok, Err, if◌then◌else◌}
use Rattle.srm_codec.specs.declared.datagram.Datagram.{Datagram}
use Rattle.srm_codec.specs.declared.fault.DecodeFault.{DecodeFault}
use Rattle.srm_codec.specs.Judging.{judge}
use Rattle.srm_entries.specs.Configs.{Config}
use Rattle.srm_entries.specs.declared.entry.Entry.{Entry}
use Rattle.srm_entries.specs.declared.cause.Cause.TheVariants as causes
use Rattle.srm_entries.specs.declared.entry.Input.{Input}
use Rattle.srm_entries.specs.declared.entry.Input.TheVariants.{Heard, Noise}
use Rattle.srm_entries.specs.declared.entry.Verdict.{Verdict}
use Rattle.srm_entries.specs.declared.entry.Verdict.TheVariants.{Ignored}
use Rattle.srm_entries.specs.Entries.{state, is_gone}
use Rattle.srm_entries.specs.Verdicts.{verdict_of}

abbrev pub read_as : Config → List Entry → Result Datagram DecodeFault → Input × Verdict
read_as c es (Ok g) = (Heard g, verdict_of c es (Heard g))
read_as c es (Err fault) = (Noise, Ignored (causes.Decode fault))

-- the input and the verdict that these bytes make
abbrev pub bytes_heard : Config → List Entry → List ℕ → Input × Verdict
bytes_heard c es bytes = if is_gone (state es) then (Noise, Ignored causes.Gone) else read_as c es (judge c.session bytes)
