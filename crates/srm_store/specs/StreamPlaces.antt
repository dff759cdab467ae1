-- What is held and known of a stream, and how calls change it.
use Rattle.std.specs.Prelude.{◌≡◌, ℕ, ◌==◌, not, is_some, List, [], filter, if◌then◌else◌, Option, Some}
use Rattle.srm_names.specs.declared.drawop.Drawop.{Drawop}
use Rattle.srm_names.specs.FullName.{FullName}
use Rattle.srm_names.specs.Histories.{or_else}
use Rattle.srm_store.specs.Places.{place_at}

pub record StreamContent : Type 0 where
  pub places : List (List (Option Drawop))
  pub known : ℕ

abbrev pub blank_stream : StreamContent
blank_stream = record { places = []; known = 0 }

-- the stream holds and knows the same
pub record SameStreamPlaces (old new : StreamContent) : Type 0 where
  pub each : (number : ℕ) → place_at new.places number ≡ place_at old.places number
  pub known : new.known ≡ old.known

-- the stream holds the drawop, unless one of its number was held
pub record StreamGains (d : Drawop) (old new : StreamContent) : Type 0 where
  pub each : (number : ℕ) → place_at new.places number ≡ (if number == d.name.number then or_else (place_at old.places number) (Some d) else place_at old.places number)
  pub known : new.known ≡ old.known

-- those of the names of a stream that it doesn't hold
abbrev pub unheld_in_stream : StreamContent → List FullName → List FullName
unheld_in_stream content names = filter (λ n. not (is_some (place_at content.places n.number))) names
