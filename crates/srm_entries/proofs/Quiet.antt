-- What an entry that hears and draws nothing leaves as it was.
use Rattle.std.proofs.Common.{◌≡◌, ℕ, List, [], ◌∷◌, ◌++◌, refl, ap, ◌∙◌}
use Rattle.std.specs.Prelude.{None, option_to_list}
use Rattle.std.specs.List.{cons_option}
use Rattle.std.proofs.lemmas.List.{append-nil}
use Rattle.std.proofs.lemmas.List.Elements.{filter_map-append}
use Rattle.srm_names.specs.FullName.{FullName}
use Rattle.srm_names.proofs.Snoc.{flat_map-snoc}
use Rattle.srm_entries.specs.declared.entry.Entry.{Entry}
use Rattle.srm_entries.specs.Entries.{accepted, held, held_by, drawops_in, evidence_in, drawn, is_missing}
use Rattle.srm_entries.specs.Distances.{distance_calls, calls_in, calls_of}
use Rattle.srm_entries.specs.Verdicts.{settlings, settling_of}
use Rattle.srm_entries.proofs.Showing.{IsQuiet, held-snoc, shown-snoc, shown_quiet, drawn-snoc}

held_by_none : (e : Entry) → IsQuiet e → held_by e ≡ []
held_by_none e q = ap (λ o. option_to_list o ++ drawops_in (accepted e)) q.1 ∙ ap drawops_in q.0

pub same_held : (past : List Entry) (e : Entry) → IsQuiet e → held (past ++ e ∷ []) ≡ held past
same_held past e q = held-snoc past e ∙ ap (λ ds. held past ++ ds) (held_by_none e q) ∙ append-nil (held past)

pub same_shown : (past : List Entry) (e : Entry) → IsQuiet e → evidence_in (past ++ e ∷ []) ≡ evidence_in past
same_shown past e q = shown-snoc past e ∙ ap (λ ns. evidence_in past ++ ns) (shown_quiet e q) ∙ append-nil (evidence_in past)

pub same_drawn : (past : List Entry) (e : Entry) → IsQuiet e → drawn (past ++ e ∷ []) ≡ drawn past
same_drawn past e q = drawn-snoc past e ∙ ap (λ o. drawn past ++ option_to_list o) q.1 ∙ append-nil (drawn past)

pub same_settlings : (past : List Entry) (e : Entry) → accepted e ≡ None → settlings (past ++ e ∷ []) ≡ settlings past
same_settlings past e unheard =
    filter_map-append (λ (x : Entry). settling_of (accepted x)) past (e ∷ []) ∙ ap (λ o. settlings past ++ cons_option (settling_of o) []) unheard ∙ append-nil (settlings past)

pub same_missing : (past : List Entry) (e : Entry) (n : FullName) → IsQuiet e → is_missing (past ++ e ∷ []) n ≡ is_missing past n
same_missing past e n q = rw (same_held past e q, same_shown past e q) refl

-- and of the distances, one that hears no session message
pub same_distances : (me : ℕ) (past : List Entry) (e : Entry) → calls_of me e.moment (accepted e) ≡ [] → distance_calls me (past ++ e ∷ []) ≡ distance_calls me past
same_distances me past e none = flat_map-snoc (calls_in me) past e ∙ ap (λ cs. distance_calls me past ++ cs) none ∙ append-nil (distance_calls me past)
