-- What a member knows of: at least what it heard named, and nothing outside the roster.
use Rattle.std.proofs.Common.{◌≡◌, ℕ, ◌≤◌, max, Bool, true, false, ◌||◌, List, [], ◌∷◌, ◌++◌, refl, ap, sym, ◌∙◌, subst, arith, inl, inr}
use Rattle.std.specs.Prelude.{nat_le, cond}
use Rattle.std.specs.List.{flat_map, list_any, AllByRecursion}
use Rattle.std.proofs.lemmas.List.{append-nil}
use Rattle.srm_names.specs.declared.stream.Stream.{Stream}
use Rattle.srm_names.specs.FullName.{FullName}
use Rattle.srm_names.specs.Histories.{steps, greatest}
use Rattle.srm_names.specs.Names.{same_stream}
use Rattle.srm_names.proofs.Snoc.{along}
use Rattle.srm_names.proofs.Lists.{Has, flat_map-Has}
use Rattle.srm_names.proofs.Same.{same_stream-is}
use Rattle.srm_entries.specs.Configs.{Config}
use Rattle.srm_entries.specs.declared.entry.Entry.{Entry}
use Rattle.srm_store.specs.Held.{number_in}
use Rattle.srm_entries.specs.Entries.{known, evidence_by}
use Rattle.srm_entries.specs.Runs.{EntryRight}
use Rattle.srm_entries.proofs.Adding.{known-snoc, shows}
use Rattle.srm_entries.proofs.Showing.{kind, hearing_fine, known_has, shown_drawing, shown_hearing, shown_quiet}

-- at least what was named
pub known_at_least : (es : List Entry) (e : Entry) (n : FullName) (s : Stream) → Has e es → Has n (evidence_by e) → same_stream s n.stream ≡ true → n.number ≤ known es s
known_at_least es e n s h k t = subst (λ (x : Stream). n.number ≤ known es x) (sym (same_stream-is s n.stream t)) (known_has es n (flat_map-Has evidence_by n e es h k))

-- nothing outside the roster

abbrev is_outside : ℕ → FullName → Bool
is_outside members n = nat_le members n.stream.source

outside_shown : (c : Config) (made : ℕ) (before : List Entry) (e : Entry) → nat_le c.members c.me ≡ false → EntryRight c made (record { before = before; this = e })
    → list_any (is_outside c.members) (evidence_by e) ≡ false
outside_shown c made before e m r = elim (kind c made before e r) [
  | inl drew ↦ ap (list_any (is_outside c.members)) (shown_drawing c before e drew) ∙ ap (λ b. b || false) m
  | inr k ↦ elim k [
    | inl h ↦ ap (list_any (is_outside c.members)) (shown_hearing e h) ∙ (hearing_fine c made before e h.0 r h.1).inside
    | inr quiet ↦ ap (list_any (is_outside c.members)) (shown_quiet e quiet)
  ]
]

none_numbered : (members : ℕ) (s : Stream) (ns : List FullName) → nat_le members s.source ≡ true → list_any (is_outside members) ns ≡ false → greatest (flat_map (number_in s) ns) ≡ 0
none_numbered members s [] m e = refl
none_numbered members s (n ∷ ns) m e = go (is_outside members n) refl (same_stream s n.stream) refl e (none_numbered members s ns m)
  where
    go : (o : Bool) → is_outside members n ≡ o → (b : Bool) → same_stream s n.stream ≡ b → (o || list_any (is_outside members) ns) ≡ false
        → (list_any (is_outside members) ns ≡ false → greatest (flat_map (number_in s) ns) ≡ 0) → greatest ((cond b (n.number ∷ []) []) ++ flat_map (number_in s) ns) ≡ 0
    go true p b q k more = absurd (cc)
    go false p true q k more =
        let same : is_outside members n ≡ true = subst (λ (t : Stream). nat_le members t.source ≡ true) (same_stream-is s n.stream q) m in
        let bad : true ≡ false = sym same ∙ p in
        absurd (cc)
    go false p false q k more = more k

-- of a source outside the roster nothing is known
pub known_inside : (c : Config) (made : ℕ) (es : List Entry) (s : Stream) → nat_le c.members c.me ≡ false → nat_le c.members s.source ≡ true
    → AllByRecursion (EntryRight c made) (steps es) → known es s ≡ 0
known_inside c made es s m o all =
    along (EntryRight c made) (λ xs. known xs s ≡ 0)
    (λ before e p r. known-snoc before e s ∙ both (known before s) (shows e s) p (ap (λ ns. greatest (flat_map (number_in s) ns)) (append-nil (evidence_by e)) ∙ none_numbered c.members s (evidence_by e) o (outside_shown c made before e m r)))
    [] es refl all
  where
    both : (a b : ℕ) → a ≡ 0 → b ≡ 0 → max a b ≡ 0
    both a b p q = omega arith
