-- What the sinks of a member see.
use Rattle.std.specs.Prelude.{◌≡◌, ℕ, Bool, true}
use Rattle.srm_names.specs.declared.page_msg.PageMsg.{PageMsg}

-- a sink that never stops its worker
abbrev pub NeverStops : {S : Type 0} → S → ℕ → PageMsg → Bool → S → Type 0
NeverStops old slot m goes_on new = goes_on ≡ true
