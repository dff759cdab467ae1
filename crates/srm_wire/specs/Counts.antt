-- What a wire has counted.
use Rattle.std.specs.Prelude.{ℕ}
use Rattle.srm_wire.specs.declared.loss.Loss.{Loss}
use Rattle.srm_wire.specs.declared.loss.Loss.TheVariants.{NoWay, Denied, TooLong, NoRoom, PortClosed}
use Rattle.srm_wire.specs.declared.loss.Losses.{Losses}
use Rattle.srm_wire.specs.declared.counts.Dropped.{Dropped}
use Rattle.srm_wire.specs.declared.counts.WireCounts.{WireCounts}
use Rattle.srm_wire.specs.Wires.{one_more, counted_with}

-- nothing was lost yet
abbrev pub no_losses : Losses
no_losses = record { no_way = 0; denied = 0; too_long = 0; no_room = 0; port_closed = 0 }

-- one more of a kind, up to the greatest number of 64 bits
abbrev pub with_loss : Loss → Losses → Losses
with_loss NoWay l = record l { no_way = one_more l.no_way }
with_loss Denied l = record l { denied = one_more l.denied }
with_loss TooLong l = record l { too_long = one_more l.too_long }
with_loss NoRoom l = record l { no_room = one_more l.no_room }
with_loss PortClosed l = record l { port_closed = one_more l.port_closed }

-- nothing was dropped yet
abbrev pub no_drops : Dropped
no_drops = record { strangers = 0; misnamed = 0; untagged = 0; older = 0; again = 0; excess = 0; overflowed = 0 }

-- what a wire has counted that counts its failures alone
abbrev pub only_failed : ℕ → WireCounts
only_failed failures = record { failures = failures; lost = no_losses; dropped = no_drops }

-- so many failures more, up to the greatest count
abbrev pub with_failures : ℕ → WireCounts → WireCounts
with_failures own c = record c { failures = counted_with c.failures own }
