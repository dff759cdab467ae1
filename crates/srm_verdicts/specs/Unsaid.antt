-- Why no script says an honest run.
use Rattle.std.specs.Prelude.{◌≡◌, ◌⊎◌, ℕ, ◌<◌, nat_le, Bool, true, false, not, ◌&&◌, ◌==◌, List, [], ◌∷◌, length, filter, Option, Some, None, if◌then◌else◌}
use Rattle.std.specs.List.{list_all}
use Rattle.srm_entries.specs.Configs.{Config}
use Rattle.srm_entries.specs.declared.entry.Entry.{Entry}
use Rattle.srm_entries.specs.declared.entry.Input.{Input}
use Rattle.srm_entries.specs.declared.entry.Input.TheVariants.{Drew, Noise}
use Rattle.srm_frames.specs.declared.reading.Record.{Record}
use Rattle.srm_played.specs.declared.limits.TheConstants.{MOST_EVENTS}
use Rattle.srm_verdicts.specs.declared.no_script.NoScript.{NoScript}
use Rattle.srm_verdicts.specs.declared.no_script.NoScript.TheVariants.{MadeLater, Waits, Buckets, Distances, Stroke, TooLong, TooManyEvents, Unread}

-- a member waits 2, 2, 1 and 1 distances, as each one of a script
abbrev pub has_usual_waits : Config → Bool
has_usual_waits c = (c.c1 == 2) && (c.c2 == 2) && (c.d1 == 1) && (c.d2 == 1)

abbrev pub has_bucket_of : Config → Config → Bool
has_bucket_of usual c = (c.rate == usual.rate) && (c.depth == usual.depth)

-- What no script says of a member with these settings that was made then, beside one with the usual ones. In a script all are made at moment 0, and have one bucket and one floor under
-- distances.
abbrev pub unsaid_of : Config → Config → ℕ → Option NoScript
unsaid_of usual c made =
    if not (made == 0) then Some (MadeLater c.me)
    else if not (has_usual_waits c) then Some (Waits c.me)
    else if not (has_bucket_of usual c) then Some (Buckets c.me)
    else if not (c.least_distance == usual.least_distance) then Some (Distances c.me)
    else None

abbrev pub or_else : Option NoScript → Option NoScript → Option NoScript
or_else None other = other
or_else (Some why) other = Some why

-- the cause of the first of these members that has one
abbrev pub unsaid_of_records : Config → List Record → Option NoScript
unsaid_of_records usual [] = None
unsaid_of_records usual (r ∷ rs) = or_else (unsaid_of usual r.beginning.config r.beginning.made) (unsaid_of_records usual rs)

-- a stroke of a script is printable ASCII
abbrev pub is_printable_byte : ℕ → Bool
is_printable_byte b = nat_le 32 b && nat_le b 126

abbrev pub is_printable : Input → Bool
is_printable (Drew page body) = list_all is_printable_byte body
is_printable _ = true

-- the first stroke that isn't
abbrev pub unsaid_of_entries : List Entry → Option NoScript
unsaid_of_entries [] = None
unsaid_of_entries (e ∷ es) = if is_printable e.input then unsaid_of_entries es else Some (Stroke e.member)

-- What no script says of a run of these records with these entries, whatever its length: the usual settings are those of the first record.
abbrev pub unsaid : List Record → List Entry → Option NoScript
unsaid [] es = None
unsaid (r ∷ rs) es = or_else (unsaid_of_records r.beginning.config (r ∷ rs)) (unsaid_of_entries es)

-- An honest run is refused a script since none says it, or it would be too long.
abbrev pub IsRefusedScript : List Record → List Entry → NoScript → Type 0
IsRefusedScript rs es why = (unsaid rs es ≡ Some why) ⊎ (why ≡ TooLong)

-- an entry is an event of a script: noise, which changes nothing, is left out
abbrev pub is_event : Input → Bool
is_event Noise = false
is_event input = true

-- how many events the script of a run has
abbrev pub events_in : List Entry → ℕ
events_in es = length (filter (λ (e : Entry). is_event e.input) es)

-- It is refused a picture since it has no script, it has more events than a picture, or its script isn't read again.
abbrev pub IsRefusedPicture : List Record → List Entry → NoScript → Type 0
IsRefusedPicture rs es why = IsRefusedScript rs es why ⊎ (((why ≡ TooManyEvents) × (MOST_EVENTS < events_in es)) ⊎ (why ≡ Unread))
