-- Names by number.
use Rattle.std.proofs.Common.{◌≡◌, ℕ, List, length}
use Rattle.std.proofs.lemmas.List.{length-map}
use Rattle.std.specs.Prelude.{String, slice_get, option_map, string_bytes}
use Rattle.std.specs.Global.{Global}
use Rattle.std.proofs.lemmas.Option.{slice_get-map}
use Rattle.srm_options.specs.MemberNames.{said}

pub name_at : (texts : List (String Global)) (k : ℕ) → slice_get (said texts) k ≡ option_map string_bytes (slice_get texts k)
name_at texts k = slice_get-map string_bytes texts k

pub said_count : (texts : List (String Global)) → length (said texts) ≡ length texts
said_count texts = length-map texts string_bytes
