-- What a store and distances become by a session message.
use Rattle.std.proofs.Common.{◌≡◌, ℕ, Bool, true, false, List, [], ◌∷◌, ◌++◌, ap, sym, ◌∙◌, subst, append_assoc}
use Rattle.std.specs.Prelude.{Option, Some, option_map}
use Rattle.std.specs.List.{cons_option}
use Rattle.srm_names.specs.declared.page.Page.{Page}
use Rattle.srm_names.specs.declared.echo.Echo.{Echo}
use Rattle.srm_names.specs.declared.drawop.Drawop.{Drawop}
use Rattle.srm_names.specs.FullName.{FullName}
use Rattle.srm_codec.specs.declared.datagram.Datagram.{Datagram}
use Rattle.srm_codec.specs.declared.datagram.Datagram.TheVariants.{Session}
use Rattle.srm_codec.specs.Spelling.{names_in}
use Rattle.srm_store.specs.Finals.{Settling}
use Rattle.srm_store.specs.Stores.{StoreContent}
use Rattle.srm_store.specs.Fits.{StoreFits}
use Rattle.srm_distance.specs.Content.{DistancesContent}
use Rattle.srm_distance.specs.Fits.{DistancesFit, DistancesAdd}
use Rattle.srm_distance.specs.Calls as calls
use Rattle.srm_entries.specs.Distances.{echo_for}
use Rattle.srm_entries.specs.Verdicts.{settling_of}
use Rattle.srm_agent_state.specs.Growth.{HearsToo, LearnsToo, LearnsNames, SettlesToo}

-- what is known of the others after a session message, and after a farewell

hears_farewell : (me now sender sent : ℕ) (shown : Page) (rows : List FullName) (echoes : List Echo) (d a b : DistancesContent) → DistancesAdd (calls.Heard sender sent (echo_for me echoes) now) d a → DistancesAdd (calls.Forgot sender) a b
    → HearsToo me now (Session sender sent true shown rows echoes) d b
hears_farewell me now sender sent shown rows echoes d a b heard forgot = record {
  each = λ least cs h. subst (λ xs. DistancesFit least me xs b) (append_assoc cs (calls.Heard sender sent (echo_for me echoes) now ∷ []) (calls.Forgot sender ∷ []))
      (forgot.fits least me (cs ++ calls.Heard sender sent (echo_for me echoes) now ∷ []) (heard.fits least me cs h));
}

pub hears_leaver : (me now sender sent : ℕ) (farewell : Bool) (shown : Page) (rows : List FullName) (echoes : List Echo) (g : Datagram) (echo : Option (ℕ × ℕ)) (d0 d a b : DistancesContent) → g ≡ Session sender sent farewell shown rows echoes → farewell ≡ true
    → echo ≡ echo_for me echoes → d0 ≡ d → DistancesAdd (calls.Heard sender sent echo now) d0 a → DistancesAdd (calls.Forgot sender) a b → HearsToo me now g d b
hears_leaver me now sender sent farewell shown rows echoes g echo d0 d a b is f e same heard forgot =
    subst (λ x. HearsToo me now x d b) (sym (is ∙ ap (λ f. Session sender sent f shown rows echoes) f))
    (hears_farewell me now sender sent shown rows echoes d a b (subst (λ x. DistancesAdd (calls.Heard sender sent (echo_for me echoes) now) x a) same (subst (λ x. DistancesAdd (calls.Heard sender sent x now) d0 a) e heard)) forgot)

pub hears_stayer : (me now sender sent : ℕ) (farewell : Bool) (shown : Page) (rows : List FullName) (echoes : List Echo) (g : Datagram) (echo : Option (ℕ × ℕ)) (d0 d a : DistancesContent) → g ≡ Session sender sent farewell shown rows echoes → farewell ≡ false
    → echo ≡ echo_for me echoes → d0 ≡ d → DistancesAdd (calls.Heard sender sent echo now) d0 a → HearsToo me now g d a
hears_stayer me now sender sent farewell shown rows echoes g echo d0 d a is f e same heard =
    subst (λ x. HearsToo me now x d a) (sym (is ∙ ap (λ f. Session sender sent f shown rows echoes) f))
    (record { each = λ least cs h. (subst (λ x. DistancesAdd (calls.Heard sender sent (echo_for me echoes) now) x a) same (subst (λ x. DistancesAdd (calls.Heard sender sent x now) d0 a) e heard)).fits least me cs h })

-- what is learnt of the names, and then of the leaving
pub learns_by : (g : Datagram) (names : List FullName) (leaver : Option ℕ) (a b d : StoreContent) → names ≡ names_in g → settling_of (Some g) ≡ option_map (λ m. record { member = m; rows = names_in g }) leaver
    → LearnsNames names a b → SettlesToo leaver names b d → LearnsToo g a d
learns_by g names leaver a b d named settling shows settles = record {
  each = λ inserted evidence settled h.
      subst (λ o. StoreFits inserted (evidence ++ names_in g) (settled ++ cons_option o []) d) (sym settling)
      (subst (λ ns. StoreFits inserted (evidence ++ ns) (settled ++ cons_option (option_map (λ m. record { member = m; rows = ns }) leaver) []) d) named
      (settles.each inserted (evidence ++ names) settled (shows.each inserted evidence settled h)));
}

pub settles_one : (leaver : Option ℕ) (member : ℕ) (rows : List FullName) (a b : StoreContent) → leaver ≡ Some member
    → ((inserted : List Drawop) (evidence : List FullName) (settled : List Settling) → StoreFits inserted evidence settled a → StoreFits inserted evidence (settled ++ record { member = member; rows = rows } ∷ []) b) → SettlesToo leaver rows a b
settles_one leaver member rows a b is fits = subst (λ o. SettlesToo o rows a b) (sym is) (record { each = fits })
