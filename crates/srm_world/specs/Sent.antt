-- The datagrams that a world has sent.
use Rattle.std.specs.Prelude.{List, ◌++◌}
use Rattle.srm_outbox.specs.declared.out.Out.{Out}
use Rattle.srm_world.specs.declared.sent.SentDatagrams.TheInside.{Inside}

-- those of the ticks before, and those of the last one
pub record SentContent : Type 0 where
  pub earlier : List Out
  pub newest : List Out

abbrev pub sent_of : Inside → SentContent
sent_of s = record { earlier = s.earlier.items; newest = s.newest.items }

abbrev pub all_of : SentContent → List Out
all_of s = s.earlier ++ s.newest
