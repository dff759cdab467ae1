-- What was written of a text to an output.
use Rattle.std.specs.Prelude.{◌≡◌, ℕ, List, ◌++◌, Option}
use Rattle.std.specs.Io.KnownBytes.{Appends}

-- known bytes grew by a text, but for the bytes at its end
pub record AppendsAllBut (old new : Option (List ℕ)) (text behind : List ℕ) : Type 0 where
  pub front : List ℕ
  pub parts : front ++ behind ≡ text
  pub output : Appends old new front

-- known bytes grew by the front of a text, or by all of it
pub record AppendsFront (old new : Option (List ℕ)) (text : List ℕ) : Type 0 where
  pub behind : List ℕ
  pub most : AppendsAllBut old new text behind
