-- What spelling and judging are to each other.
use Rattle.std.specs.Prelude.{◌≡◌, ◌↔◌, ℕ, ◌^◌, ◌<◌, List, Ok}
use Rattle.srm_codec.specs.declared.datagram.Datagram.{Datagram}
use Rattle.srm_codec.specs.Spelling.{AreBytes, Spells}
use Rattle.srm_codec.specs.Judging.{judge}

abbrev pub JudgingUndoesSpelling : Type 0
JudgingUndoesSpelling = (session : ℕ) (bytes : List ℕ) (g : Datagram) → session < 2 ^ 32 → AreBytes bytes
    → (judge session bytes ≡ Ok g) ↔ Spells session g bytes

abbrev pub SpellingsAreUnique : Type 0
SpellingsAreUnique = (session other : ℕ) (bytes : List ℕ) (g h : Datagram) → session < 2 ^ 32 → other < 2 ^ 32
    → Spells session g bytes → Spells other h bytes → (session ≡ other) × (g ≡ h)
