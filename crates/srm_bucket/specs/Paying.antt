-- What paying for items leaves of tokens.
use Rattle.std.specs.Prelude.{ℕ, ◌-◌, nat_le, if◌then◌else◌, List, Option, Some, None}
use Rattle.srm_bucket.specs.declared.item.Item.{Item}
use Rattle.srm_bucket.specs.Admitting.{cost_of_all}

-- what is left of so many tokens, where they pay for these items
abbrev pub rest_after : {T : Type 0} → ℕ → List (Item T) → Option ℕ
rest_after tokens items = if nat_le (cost_of_all items) tokens then Some (tokens - cost_of_all items) else None
