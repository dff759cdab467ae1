-- A call that doesn't act is unseen.
use Rattle.std.proofs.Common.{◌≡◌, ℕ, List, [], ◌∷◌, ◌++◌, sym, subst}
use Rattle.std.specs.List.{AllByRecursion}
use Rattle.srm_names.specs.Histories.{steps}
use Rattle.srm_entries.specs.Configs.{Config}
use Rattle.srm_entries.specs.Bucket.{Going, entries_of}
use Rattle.srm_entries.specs.Runs.{EntryRight}
use Rattle.srm_replays.specs.Law.{RestsUnseen, UnseenLaw}
use Rattle.srm_replays.proofs.Resting.{still}
use Rattle.srm_replays.proofs.Replaying.{AllGoOn, all_go_on}

all_unseen : (c : Config) (made : ℕ) (before xs : List Going) → AllGoOn c made before xs → AllByRecursion RestsUnseen (entries_of xs)
all_unseen c made before [] on = tt
all_unseen c made before (x ∷ xs) on = (
  λ idle. let s = still c made before x on.0 idle in record { heard = s.unheard; sent = s.outs; given = s.message },
  all_unseen c made (before ++ x ∷ []) xs on.1,
)

pub unseen_law : UnseenLaw
unseen_law c made es run =
    let (gs, q, all, law) = run.bucket in
    let on : AllGoOn c made [] gs = all_go_on c made [] gs (subst (λ ys. AllByRecursion (EntryRight c made) (steps ys)) (sym q) run.each) all law in
    subst (AllByRecursion RestsUnseen) q (all_unseen c made [] gs on)
