use Rattle.std.proofs.Common.{sym, subst}
use Rattle.std.specs.List.{IsDistinct}
use Rattle.srm_names.specs.Names.{same_name}
use Rattle.srm_deadlines.specs.Places.{place_names}
use Rattle.srm_deadlines.proofs.Tables.{names_as_keys}
use Rattle.srm_deadlines.proofs.by_name.ByName.len.Goals as goal

pub returns-clause-once : goal.returns-clause-once
returns-clause-once g c = subst (λ places. IsDistinct same_name (place_names places)) c.self.view_is (subst (IsDistinct same_name) (sym (names_as_keys _)) c.len.ensures.unique)
