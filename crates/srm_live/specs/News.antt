-- What a live member tells of another one whose standing changed.
use Rattle.std.specs.Prelude.{ℕ, List, Option, Some, None, codes}
use Rattle.srm_live.specs.declared.presence.Standing.{Standing}
use Rattle.srm_live.specs.declared.presence.Standing.TheVariants.{Unheard, Here, Silent, Left}

-- Each change is told once, by the standing before and now. Who left isn't told of any more, and who is here isn't told of again.
abbrev pub news_of : Standing → Standing → Option (List ℕ)
news_of Unheard Here = Some (codes "is here")
news_of Silent Here = Some (codes "is here again")
news_of Unheard Silent = Some (codes "was silent for 10 s")
news_of Here Silent = Some (codes "was silent for 10 s")
news_of Unheard Left = Some (codes "left")
news_of Here Left = Some (codes "left")
news_of Silent Left = Some (codes "left")
news_of _ _ = None
