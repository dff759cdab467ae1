-- The key that a member's options name.
use Rattle.srm_options.specs.declared.key_source.KeySource.{KeySource}
use Rattle.srm_options.specs.declared.key_source.KeySource.TheVariants.{File, Room}
use Rattle.std.specs.Prelude.{◌≡◌, ℕ, List, Option, Some, None, IfSome}

-- a key is all that some file had left, as far as the bytes of files are known
abbrev pub IsAllOf : {F : Type 0} → (F → Option (List ℕ)) → List ℕ → Type 0
IsAllOf {F} remaining key = (file : F) × IfSome (remaining file) (λ all. key ≡ all)

-- what a key's source says: a file all its bytes, and a room the key itself
abbrev pub IsKeyOf : {F : Type 0} → (F → Option (List ℕ)) → KeySource → List ℕ → Type 0
IsKeyOf remaining (File path) key = IsAllOf remaining key
IsKeyOf remaining (Room bytes) key = key ≡ bytes.items

-- The key of a member: as its source says, or none if its options name no source.
abbrev pub IsKeyRead : {F : Type 0} → (F → Option (List ℕ)) → Option KeySource → Option (List ℕ) → Type 0
IsKeyRead remaining None key = key ≡ None
IsKeyRead remaining (Some source) key = (bytes : List ℕ) × (key ≡ Some bytes) × IsKeyOf remaining source bytes
