-- Statuses, and what came in entries, on examples.
use Rattle.std.specs.Prelude.{◌≡◌, true, false, [], ◌∷◌, map, Some, None, refl}
use Rattle.srm_script.specs.declared.fault.ScriptFault.TheVariants.{BadLine, Memory}
use Rattle.srm_entries.specs.declared.entry.Entry.{Entry}
use Rattle.srm_entries.specs.declared.cause.Cause.TheVariants.{Own}
use Rattle.srm_entries.specs.declared.entry.Verdict.TheVariants.{Done, Ignored}
use Rattle.srm_world.specs.declared.event.Event.TheVariants.{Deliver, Tick}
use Rattle.srm_played.specs.declared.fault.PictureFault.TheVariants.{Script, TooManyEvents}
use Rattle.srm_played.specs.Plays.{added, came, delivered_number}
use Rattle.srm_played.specs.Statuses.{status_of}

statuses : map status_of (TooManyEvents ∷ Script (BadLine 7) ∷ Script Memory ∷ []) ≡ 1 ∷ 1 ∷ 4 ∷ []
statuses = refl

numbers : map delivered_number (Deliver 1 140 3 ∷ Tick 1 150 ∷ []) ≡ Some 3 ∷ None ∷ []
numbers = refl

one_behind_another : (a b : Entry) → added (a ∷ []) (a ∷ b ∷ []) ≡ (1, b) ∷ []
one_behind_another a b = refl

-- datagram 3 comes in entry 5, which takes it, and in entry 6, which ignores it
taken : (e : Entry) → came (Some 3) (5, record e { verdict = Done }) ≡ record { number = 3; at = record { entry = 5; member = e.member }; accepted = true } ∷ []
taken e = refl

ignored : (e : Entry) → came (Some 3) (6, record e { verdict = Ignored Own }) ≡ record { number = 3; at = record { entry = 6; member = e.member }; accepted = false } ∷ []
ignored e = refl

nothing_comes : (e : Entry) → came None (5, e) ≡ []
nothing_comes e = refl
