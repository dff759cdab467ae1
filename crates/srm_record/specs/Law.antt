-- A record tells what its member did.
use Rattle.std.specs.Prelude.{◌≡◌, ℕ, ◌^◌, ◌<◌, List}
use Rattle.srm_entries.specs.declared.entry.Entry.{Entry}
use Rattle.srm_entries.specs.Configs.{Config}
use Rattle.srm_replays.specs.Law.{acting, IsRunByWords}
use Rattle.srm_record.specs.Calls.{lines_of}

-- The law: of two runs with the same settings and random numbers, whose records have the same lines, the same calls acted, with the same entries.
abbrev pub RecordLaw : Type 0 → Type 0
RecordLaw W = (next_word : W → ℕ × W) (c : Config) (made : ℕ) (from : W) (es fs : List Entry) → c.me < c.members → c.session < 2 ^ 32
    → IsRunByWords next_word c made from es → IsRunByWords next_word c made from fs → lines_of c.session fs ≡ lines_of c.session es → acting fs ≡ acting es
