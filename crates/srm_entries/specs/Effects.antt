-- What the effects of one entry tell.
use Rattle.std.specs.Prelude.{Bool, ◌==◌, not, ◌&&◌, length}
use Rattle.srm_entries.specs.declared.entry.Effects.{Effects}
use Rattle.srm_entries.specs.Entries.{is_gone}

-- the member sent its farewell: one that is gone sends nothing more
abbrev pub becomes_gone : Effects → Bool
becomes_gone f = is_gone f.state && not (length f.outs == 0)
