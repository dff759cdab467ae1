-- Random numbers from a list.
use Rattle.std.specs.Prelude.{ℕ, List, [], ◌∷◌}

-- the number that a list gives next, and what is left of it: after its last one it gives 0 for ever
abbrev pub next_listed : List ℕ → ℕ × List ℕ
next_listed [] = (0, [])
next_listed (word ∷ words) = (word, words)
