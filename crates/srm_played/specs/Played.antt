-- What contracts see of a script that was played.
use Rattle.srm_picture.specs.Arrows.{AreArrivals}
use Rattle.srm_played.specs.declared.played.Played.TheInside.{Inside}
use Rattle.srm_played.specs.Plays.{PlayedContent}

abbrev pub content_of : Inside → PlayedContent
content_of p = record { trace = p.world.trace; arrivals = p.arrivals.items }

-- each arrival is right
abbrev pub IsPlayed : Inside → Type 0
IsPlayed p = AreArrivals p.world.trace.entries p.arrivals.items
