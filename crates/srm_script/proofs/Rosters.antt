-- The settings of all members of one roster.
use Rattle.std.proofs.Common.{◌≡◌, ℕ, zero, suc, ◌<◌, List, [], ◌∷◌, ◌++◌, length, refl, ap, sym, ◌∙◌, subst, inl, inr, arith}
use Rattle.std.specs.Prelude.{Some, slice_get}
use Rattle.std.specs.List.{AllByRecursion}
use Rattle.std.proofs.lemmas.Option.{same_Some}
use Rattle.srm_names.proofs.Lists.{slice_get-snoc, from_places}
use Rattle.srm_entries.specs.Configs.{Config}
use Rattle.srm_world.specs.declared.start.Start.{Start}
use Rattle.srm_world.specs.Traces.{IsRoster, SameSession, started}
use Rattle.srm_world.proofs.Members.{places_from}

-- each of the settings is that of the member at its place, in one session
pub record AreSettings (members session : ℕ) (configs : List Config) : Type 0 where
  pub each : (k : ℕ) (c : Config) → slice_get configs k ≡ Some c → (c.me ≡ k) × (c.members ≡ members) × (c.session ≡ session)

pub no_settings : (members session : ℕ) (configs : List Config) → configs ≡ [] → AreSettings members session configs
no_settings members session configs none = record { each = λ k c at. let e = sym (ap (λ xs. slice_get xs k) none) ∙ at in absurd (cc) }

pub one_more : (members session : ℕ) (configs : List Config) (c : Config) → AreSettings members session configs → c.me ≡ length configs → c.members ≡ members → c.session ≡ session → AreSettings members session (configs ++ c ∷ [])
one_more members session configs c h me of in_session = record {
  each = λ k x at. elim (slice_get-snoc configs c k x at) [
    | inl old ↦ h.each k x old
    | inr last ↦ subst (λ (y : Config). (y.me ≡ k) × (y.members ≡ members) × (y.session ≡ session)) last.1 (me ∙ sym last.0, of, in_session)
  ];
}

as_many : (configs : List Config) → length (started configs) ≡ length configs
as_many [] = refl
as_many (c ∷ configs) = ap suc (as_many configs)

started_at : (configs : List Config) (k : ℕ) (a : Start) → slice_get (started configs) k ≡ Some a → (c : Config) × (slice_get configs k ≡ Some c) × (a.config ≡ c)
started_at [] k a at = absurd (cc)
started_at (c ∷ configs) zero a at = (c, refl, ap (λ (x : Start). x.config) (sym (same_Some _ a at)))
started_at (c ∷ configs) (suc k) a at = started_at configs k a at

pub is_roster : (members session : ℕ) (configs : List Config) → AreSettings members session configs → length configs ≡ members → 0 < members → IsRoster (started configs)
is_roster members session configs h long some = record {
  some = omega (arith, count, some);
  places = places_from (started configs) 0 (length (started configs)) (λ k a at.
      let (c, there, is) = started_at configs k a at in
      let s = h.each k c there in
      (ap (λ (x : Config). x.me) is ∙ s.0 ∙ omega arith, ap (λ (x : Config). x.members) is ∙ s.1 ∙ sym count));
  session = from_places (λ (a : Start). AllByRecursion (SameSession a) (started configs)) (started configs) (λ k a at.
      from_places (SameSession a) (started configs) (λ j b here. in_session k a at ∙ sym (in_session j b here)));
}
  where
    count : length (started configs) ≡ members
    count = as_many configs ∙ long

    in_session : (k : ℕ) (a : Start) → slice_get (started configs) k ≡ Some a → a.config.session ≡ session
    in_session k a at =
        let (c, there, is) = started_at configs k a at in
        ap (λ (x : Config). x.session) is ∙ (h.each k c there).2
