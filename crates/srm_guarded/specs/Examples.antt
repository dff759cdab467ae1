-- A wire within its guard, at worked options.
use Rattle.std.specs.Prelude.{◌≡◌, true, false, [], ◌∷◌, Some, None, refl}
use Rattle.srm_udp.specs.Udp.{new_wire}
use Rattle.srm_guarded.specs.Guarding.{guarded_wire, keeping_to}

-- a plain member's guard has no key, and its wire takes datagrams from any address
nothing_is_dropped : guarded_wire [] (record { only_roster = false; key = None; most_missing = None }) None ≡ record { wire = new_wire []; seal = None; dropped = record { untagged = 0; older = 0; again = 0 }; own = 0 }
nothing_is_dropped = refl

-- with --only-roster its wire keeps to the roster; --most-missing is a limit of its node
all_is_looked_at : guarded_wire [] (record { only_roster = true; key = None; most_missing = Some 5 }) None ≡ record { wire = keeping_to true (new_wire []); seal = None; dropped = record { untagged = 0; older = 0; again = 0 }; own = 0 }
all_is_looked_at = refl
