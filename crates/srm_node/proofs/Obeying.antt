-- What is asked of a node is carried out, part by part.
use Rattle.std.proofs.Common.{◌≡◌, ℕ, Bool, refl, sym, subst}
use Rattle.std.specs.Prelude.{Option, Some, None, Result, Ok, Err, MatchResult}
use Rattle.srm_names.specs.declared.page.Page.{Page}
use Rattle.srm_control.specs.declared.command.PageCommand.{PageCommand}
use Rattle.srm_control.specs.declared.command.PageRefusal.{PageRefusal}
use Rattle.srm_control.specs.declared.command.PageRefusal.TheVariants as refusals
use Rattle.srm_control.specs.Ends.{CommandsView, Finds, Answers}
use Rattle.srm_world.specs.Traces.{Journal}
use Rattle.srm_node.specs.declared.fault.OutOfMemory.{OutOfMemory}
use Rattle.srm_node.specs.Showing.{page_of, ShowsOne, CarriesOut, Obeys, ObeysCut, ShowsAsked, ShowsAskedCut}

-- the page of a command was shown, or memory ran out
pub carries_page : (now : ℕ) (found : Option Page) (page : Page) (j k : Journal) (r : Result (Result Page PageRefusal) OutOfMemory) → Some page ≡ found → MatchResult r (λ outcome. ShowsOne now page outcome j k) (λ _. k ≡ j)
    → MatchResult r (λ outcome. CarriesOut now found outcome j k) (λ _. k ≡ j)
carries_page now found page j k (Ok outcome) is shows = subst (λ o. CarriesOut now o outcome j k) is shows
carries_page now found page j k (Err e) is same = same

-- it has none
pub carries_none : (now : ℕ) (found : Option Page) (j : Journal) → None ≡ found → CarriesOut now found (Err refusals.NoNewPage) j j
carries_none now found j is = subst (λ o. CarriesOut now o (Err refusals.NoNewPage) j j) is (refl, refl)

pub obeys_none : (now : ℕ) (j : Journal) (from to : CommandsView) → Finds None from to → Obeys now j j from to
obeys_none now j from to finds = record { found = None; seen = to; finds = finds; obeys = (refl, refl) }

pub obeys_one : (now : ℕ) (command : PageCommand) (outcome : Result Page PageRefusal) (j k : Journal) (from seen to : CommandsView) → Finds (Some command) from seen → CarriesOut now (page_of j.start.config j.entries command) outcome j k → Answers outcome seen to → Obeys now j k from to
obeys_one now command outcome j k from seen to finds out answers = record { found = Some command; seen = seen; finds = finds; obeys = record { outcome = outcome; out = out; answers = answers } }

pub obeys_cut : (command : PageCommand) (j k : Journal) (from to : CommandsView) → Finds (Some command) from to → k ≡ j → ObeysCut j k from to
obeys_cut command j k from to finds same = record { command = command; finds = finds; same = same }

-- a node with a control
pub asked_some : (now : ℕ) (j k : Journal) (control : Option CommandsView) (from next : CommandsView) (r : Result Bool OutOfMemory) → control ≡ Some from → MatchResult r (λ _. Obeys now j k from next) (λ _. ObeysCut j k from next)
    → MatchResult r (λ _. ShowsAsked now j k control (Some next)) (λ _. ShowsAskedCut j k control (Some next))
asked_some now j k control from next (Ok some) is obeys = subst (λ c. ShowsAsked now j k c (Some next)) (sym is) (next, refl, obeys)
asked_some now j k control from next (Err e) is cut = subst (λ c. ShowsAskedCut j k c (Some next)) (sym is) (next, refl, cut)

-- and one without
pub asked_none : (now : ℕ) (j : Journal) (control : Option CommandsView) → control ≡ None → ShowsAsked now j j control None
asked_none now j control is = subst (λ c. ShowsAsked now j j c None) (sym is) (refl, refl)
