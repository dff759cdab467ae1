-- What a line says that a tab draws.
use Rattle.std.proofs.Common.{◌≡◌, ℕ, List, ◌++◌, take, drop}
use Rattle.std.proofs.lemmas.List.{take-append-drop}

pub before_and_behind : (n : ℕ) (text : List ℕ) → take n text ++ drop n text ≡ text
before_and_behind n text = take-append-drop n text
