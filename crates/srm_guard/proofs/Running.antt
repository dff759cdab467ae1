-- What is passed on of all that comes to a seal.
use Rattle.std.proofs.Common.{◌≡◌, ℕ, List, [], ◌∷◌, ◌++◌, cond, refl, ap, sym, ◌∙◌, subst}
use Rattle.srm_window.specs.Windows.{WindowView}
use Rattle.srm_window.specs.Senders.{Numbered, WindowsFit, admits_of, is_new, windows_after, passed_on_behind}
use Rattle.srm_window.proofs.Sending.{fit_on}
use Rattle.srm_guard.specs.declared.seal.Opened.{Opened}
use Rattle.srm_guard.specs.declared.seal.Opened.TheVariants.{Foreign, Older, Again, Datagram}
use Rattle.srm_guard.specs.Seals.{SealView, Opens, number_in}
use Rattle.srm_guard.specs.Runs.{Opening, OpensEach, sealed_number, passed_number, numbers_of, passed_of, PassesNew}

-- of one that comes, and then of the rest
step : (opened : Opened) (bytes : List ℕ) (s t : SealView) (before numbers passed : List Numbered) → WindowsFit s.windows before → Opens opened bytes s t
    → ((after : List Numbered) → WindowsFit t.windows after → passed ≡ passed_on_behind after numbers)
    → passed_number opened bytes ++ passed ≡ passed_on_behind before (sealed_number opened bytes ++ numbers)
step Foreign bytes s t before numbers passed fits (none, young, same) rest = rest before (subst (λ (v : SealView). WindowsFit v.windows before) (sym same) fits)
step Older bytes s t before numbers passed fits (none, old, same) rest = rest before (subst (λ (v : SealView). WindowsFit v.windows before) (sym same) fits)
step Again bytes s t before numbers passed fits (datagram, whole, is_number, old, after) rest =
    let on : (admits_of (number_in bytes) s.windows ≡ is_new before (number_in bytes)) × WindowsFit (windows_after (number_in bytes) s.windows) (before ++ number_in bytes ∷ []) = fit_on s.windows before (number_in bytes) fits is_number.0 in
    rest (before ++ number_in bytes ∷ []) (subst (λ (v : SealView). WindowsFit v.windows (before ++ number_in bytes ∷ [])) (sym after) on.1)
    ∙ sym (ap (λ b. cond b (number_in bytes ∷ passed_on_behind (before ++ number_in bytes ∷ []) numbers) (passed_on_behind (before ++ number_in bytes ∷ []) numbers)) (sym on.0 ∙ old))
step (Datagram count) bytes s t before numbers passed fits (few, whole, is_number, new, after) rest =
    let on : (admits_of (number_in bytes) s.windows ≡ is_new before (number_in bytes)) × WindowsFit (windows_after (number_in bytes) s.windows) (before ++ number_in bytes ∷ []) = fit_on s.windows before (number_in bytes) fits is_number.0 in
    ap (λ (ns : List Numbered). number_in bytes ∷ ns) (rest (before ++ number_in bytes ∷ []) (subst (λ (v : SealView). WindowsFit v.windows (before ++ number_in bytes ∷ [])) (sym after) on.1))
    ∙ sym (ap (λ b. cond b (number_in bytes ∷ passed_on_behind (before ++ number_in bytes ∷ []) numbers) (passed_on_behind (before ++ number_in bytes ∷ []) numbers)) (sym on.0 ∙ new))

along : (s t : SealView) (all : List Opening) (before : List Numbered) → WindowsFit s.windows before → OpensEach all s t → passed_of all ≡ passed_on_behind before (numbers_of all)
along s t [] before fits run = refl
along s t (one ∷ more) before fits (between, after, same, opens, run) =
    step one.opened one.bytes between after before (numbers_of more) (passed_of more) (subst (λ (ws : List WindowView). WindowsFit ws before) (sym same) fits) opens (λ came fitting. along after t more came fitting run)

pub passes_new : PassesNew
passes_new s t all fits run = along s t all [] fits run
