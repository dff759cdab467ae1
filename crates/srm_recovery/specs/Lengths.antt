-- The law of lengths: how long a datagram is that a member hands to its bucket.
use Rattle.std.specs.Prelude.{◌≡◌, ◌≤◌, List, ◌++◌, Contains}
use Rattle.srm_codec.specs.declared.datagram.Datagram.{Datagram}
use Rattle.srm_bucket.specs.declared.limits.TheConstants.{GREATEST_LENGTH}
use Rattle.srm_bucket.specs.Calls.{Classed}
use Rattle.srm_entries.specs.declared.entry.Entry.{Entry}
use Rattle.srm_entries.specs.Rates.{handed_so_far}
use Rattle.srm_world.specs.declared.start.Start.{Start}
use Rattle.srm_world.specs.Traces.{Trace, of_member, IsRun}

-- Lengths: no datagram that a member hands to its bucket is longer than one with the longest body.
abbrev pub LengthLaw : Type 0
LengthLaw = (t : Trace) (a : Start) (before after : List Entry) (i : Classed Datagram) → IsRun t → Contains t.starts a
    → of_member a.config.me t.entries ≡ before ++ after → Contains (handed_so_far a.config.me before) i → i.item.length ≤ GREATEST_LENGTH
