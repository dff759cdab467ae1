-- The session message with its spelling, put together.
use Rattle.std.proofs.Common.{◌≡◌, ℕ, ◌<◌, ◌≤◌, Bool, List, [], ◌∷◌, refl, ap, sym, ◌∙◌, subst, arith}
use Rattle.std.specs.Prelude.{IfOk, Result, Ok, Err}
use Rattle.std.specs.List.{All, AllByRecursion}
use Rattle.std.proofs.lemmas.List.Elements.{All-head, All-tail}
use Rattle.srm_names.specs.declared.limits.TheConstants.{MEMBERS, LATEST_MOMENT}
use Rattle.srm_names.specs.declared.page.Page.{Page}
use Rattle.srm_names.specs.declared.echo.Echo.{Echo}
use Rattle.srm_names.specs.FullName.{FullName}
use Rattle.srm_codec.specs.declared.datagram.Datagram.TheVariants.{Session}
use Rattle.srm_codec.specs.Spelling.{IsSpellable, is_page, is_echo, AreRows, AreEchoes}
use Rattle.srm_distance.specs.Calls.{DistanceCall}
use Rattle.srm_distance.specs.Echoes.{AreSpellable, CanBeSent}
use Rattle.srm_distance.specs.Echoes as distances
use Rattle.srm_distance.specs.Fits.{DistancesFit}
use Rattle.srm_entries.specs.Configs.{Config}
use Rattle.srm_agent.specs.Contents.{AgentContent}
use Rattle.srm_entries.specs.Distances.{distance_calls}
use Rattle.srm_agent.specs.SessionMessages.{IsSessionMessageOf, AreDueRows, AreOwed}

-- echoes that can be sent at a moment have a spelling
each_echo : (me now : ℕ) (echoes : List Echo) → now ≤ LATEST_MOMENT → All (CanBeSent me now) echoes → AllByRecursion is_echo echoes
each_echo me now [] low all = tt
each_echo me now (e ∷ es) low all =
    let one = All-head (CanBeSent me now) e es all in
    ((one.member, one.t1, omega (arith, one.delay)), each_echo me now es low (All-tail (CanBeSent me now) e es all))

pub are_echoes : (me now : ℕ) (echoes : List Echo) → now ≤ LATEST_MOMENT → AreSpellable me now echoes → AreEchoes echoes
are_echoes me now echoes low s = record { few = omega (arith, s.few); each = each_echo me now echoes low s.each; rising = s.rising }

-- what the distances owe
pub owed : {W : Type 0} (a : AgentContent W) (moment : ℕ) (echoes : List Echo) → moment ≤ LATEST_MOMENT
    → ((least me : ℕ) (calls : List DistanceCall) → DistancesFit least me calls a.distances → echoes ≡ distances.echoes_owed calls me moment) → AreSpellable a.distances.me moment echoes → AreOwed a moment echoes
owed a moment echoes low value range = record {
  is = λ c made past fits. value c.least_distance c.me (distance_calls c.me past) fits.distances;
  spelled = are_echoes a.distances.me moment echoes low range;
}

pub owed_if_ok : {W V E : Type 0} (a : AgentContent W) (moment : ℕ) (items : V → List Echo) (r : Result V E) → moment ≤ LATEST_MOMENT
    → IfOk r (λ v. (least me : ℕ) (calls : List DistanceCall) → DistancesFit least me calls a.distances → items v ≡ distances.echoes_owed calls me moment) → IfOk r (λ v. AreSpellable a.distances.me moment (items v))
    → IfOk r (λ v. AreOwed a moment (items v))
owed_if_ok a moment items (Ok v) low value range = owed a moment (items v) low value range
owed_if_ok a moment items (Err e) low value range = tt

pub is_spellable : {W : Type 0} (a : AgentContent W) (moment : ℕ) (farewell : Bool) (me : ℕ) (page : Page) (rows : List FullName) (echoes : List Echo)
    → me ≡ a.config.me → moment ≤ LATEST_MOMENT → me < MEMBERS → is_page page → AreDueRows a farewell rows → AreOwed a moment echoes → IsSpellable (Session me moment farewell page rows echoes)
is_spellable a moment farewell me page rows echoes same low below paged due owed =
    (below, low, paged, subst (λ m. AreRows farewell m rows) (sym same) due.spelled, owed.spelled)

-- a session message of these rows and echoes
pub message_is : {W : Type 0} (a : AgentContent W) (moment : ℕ) (farewell : Bool) (me : ℕ) (page : Page) (rows : List FullName) (echoes : List Echo)
    → me ≡ a.config.me → page ≡ a.showing → AreDueRows a farewell rows → AreOwed a moment echoes → IsSpellable (Session me moment farewell page rows echoes)
    → IsSessionMessageOf a moment farewell (Session me moment farewell page rows echoes)
message_is a moment farewell me page rows echoes same shown due owed spellable = record {
  right = λ c made past fits. (same ∙ ap (λ (k : Config). k.me) fits.config, refl, refl, shown ∙ fits.showing, owed.is c made past fits, due.right c made past moment fits);
  sender = same;
  session = refl;
  farewell = refl;
  spellable = spellable;
}
