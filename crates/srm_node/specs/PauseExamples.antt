-- Pauses after worked turns, at 5,000 microseconds.
use Rattle.std.specs.Prelude.{◌≡◌, true, false, Some, None, refl}
use Rattle.srm_node.specs.declared.pausing.Turn.{Turn}
use Rattle.srm_node.specs.Pauses.{pause_after}

-- a turn that might draw 64 strokes, and did nothing
abbrev idle : Turn
idle = record { heard = 0; drawn = 0; most = 64; obeyed = false; gave = false }

-- one that heard a datagram and gave what it brought
abbrev gave : Turn
gave = record { heard = 1; drawn = 0; most = 63; obeyed = false; gave = true }

idle_with_nothing_due : pause_after idle None 5000 ≡ 10000
idle_with_nothing_due = refl

idle_with_something_due : pause_after idle (Some 9000) 5000 ≡ 4000
idle_with_something_due = refl

-- others can make something due at once, again and again
idle_with_something_overdue : pause_after idle (Some 4000) 5000 ≡ 1000
idle_with_something_overdue = refl

-- its worker may make room meanwhile
gave_with_nothing_due : pause_after gave None 5000 ≡ 1000
gave_with_nothing_due = refl

gave_with_something_due : pause_after gave (Some 5300) 5000 ≡ 300
gave_with_something_due = refl

-- it heard nothing, and gave for the room that its worker made
gave_and_heard_nothing : pause_after (record idle { gave = true }) (Some 5300) 5000 ≡ 1000
gave_and_heard_nothing = refl

heard_64 : pause_after (record gave { heard = 64; most = 8 }) None 5000 ≡ 0
heard_64 = refl

drew_all_that_it_might : pause_after (record gave { drawn = 63 }) None 5000 ≡ 0
drew_all_that_it_might = refl

found_a_command : pause_after (record idle { obeyed = true }) None 5000 ≡ 0
found_a_command = refl
