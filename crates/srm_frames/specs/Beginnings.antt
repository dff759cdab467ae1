-- What stands before the first frame.
use Rattle.std.specs.Prelude.{ℕ, List, [], ◌∷◌, ◌++◌}
use Rattle.std.specs.Int.{w32, w64, to_be_bytes}
use Rattle.srm_entries.specs.Configs.{Config}
use Rattle.srm_frames.specs.declared.beginning.Beginning.{Beginning}
use Rattle.srm_frames.specs.declared.format.TheConstants.{MAGIC, VERSION}
use Rattle.srm_frames.specs.Frames.{sealed}

unfoldable pub identity_fields : ℕ → ℕ → ℕ → List ℕ
identity_fields me members session = to_be_bytes w32 MAGIC ++ VERSION ∷ me ∷ members ∷ to_be_bytes w32 session

unfoldable pub limit_fields : ℕ → ℕ → ℕ → List ℕ
limit_fields rate depth least_distance = to_be_bytes w32 rate ++ to_be_bytes w32 depth ++ to_be_bytes w32 least_distance

unfoldable pub wait_fields : ℕ → ℕ → ℕ → ℕ → List ℕ
wait_fields c1 c2 d1 d2 = c1 ∷ c2 ∷ d1 ∷ d2 ∷ []

unfoldable pub origin_fields : ℕ → ℕ → ℕ → List ℕ
origin_fields seed made wall = to_be_bytes w64 seed ++ to_be_bytes w64 made ++ to_be_bytes w64 wall

abbrev pub config_fields : Config → List ℕ
config_fields c = identity_fields c.me c.members c.session ++ limit_fields c.rate c.depth c.least_distance ++ wait_fields c.c1 c.c2 c.d1 c.d2

unfoldable pub beginning_fields : Beginning → List ℕ
beginning_fields b = config_fields b.config ++ origin_fields b.seed b.made b.wall

abbrev pub beginning_text : Beginning → List ℕ
beginning_text b = sealed (beginning_fields b)
