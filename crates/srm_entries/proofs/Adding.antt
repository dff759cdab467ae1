-- What one more entry does to the definitions on entries.
use Rattle.std.proofs.Common.{◌≡◌, ℕ, max, Bool, true, false, not, ◌&&◌, ◌||◌, List, [], ◌∷◌, ◌++◌, refl, ap, ◌∙◌}
use Rattle.std.specs.Prelude.{if◌then◌else◌, None, nat_le}
use Rattle.std.specs.List.{flat_map, list_any}
use Rattle.std.proofs.lemmas.List.Folds.{list_any-append}
use Rattle.std.proofs.lemmas.Grind.{flat_map-append}
use Rattle.srm_names.specs.declared.stream.Stream.{Stream}
use Rattle.srm_names.specs.FullName.{FullName}
use Rattle.srm_names.specs.Histories.{steps, or_else, last_of, greatest, since}
use Rattle.srm_names.proofs.Lists.{greatest-append}
use Rattle.srm_names.proofs.Snoc.{steps-snoc, last_of-snoc, since-snoc, list_any-snoc}
use Rattle.srm_entries.specs.Configs.{Config}
use Rattle.srm_entries.specs.declared.entry.Entry.{Entry}
use Rattle.srm_timers.specs.declared.arm.ArmKind.TheVariants.{Ask, Fix}
use Rattle.srm_store.specs.Held.{number_in, has_name}
use Rattle.srm_entries.specs.Entries.{held, held_by, evidence_by, is_held, known, is_missing, evidence_in}
use Rattle.srm_entries.specs.Timers.{arm_in, last_ask, fix_running, repaired, held_off, holds_off}

-- what an entry shows of a stream
abbrev pub shows : Entry → Stream → ℕ
shows e s = greatest (flat_map (number_in s) (evidence_in (e ∷ [])))

pub known-snoc : (es : List Entry) (e : Entry) (s : Stream) → known (es ++ e ∷ []) s ≡ max (known es s) (shows e s)
known-snoc es e s =
    ap (λ ns. greatest (flat_map (number_in s) ns)) (flat_map-append evidence_by es (e ∷ []))
    ∙ ap greatest (flat_map-append (number_in s) (evidence_in es) (evidence_in (e ∷ [])))
    ∙ greatest-append (flat_map (number_in s) (evidence_in es)) (flat_map (number_in s) (evidence_in (e ∷ [])))

-- whether an entry gains the name
abbrev pub gains : Entry → FullName → Bool
gains e n = is_held (e ∷ []) n

pub is_held-snoc : (es : List Entry) (e : Entry) (n : FullName) → is_held (es ++ e ∷ []) n ≡ is_held es n || gains e n
is_held-snoc es e n = ap (list_any (has_name n)) (flat_map-append held_by es (e ∷ [])) ∙ list_any-append (has_name n) (held es) (held (e ∷ []))

pub is_missing-snoc : (es : List Entry) (e : Entry) (n : FullName)
    → is_missing (es ++ e ∷ []) n ≡ nat_le 1 n.number && nat_le n.number (max (known es n.stream) (shows e n.stream)) && not (is_held es n || gains e n)
is_missing-snoc es e n = rw (known-snoc es e n.stream, is_held-snoc es e n) refl

pub last_ask-snoc : (es : List Entry) (e : Entry) (n : FullName) → last_ask (es ++ e ∷ []) n ≡ or_else (arm_in Ask n e) (last_ask es n)
last_ask-snoc es e n = last_of-snoc (arm_in Ask n) es e

pub fix_running-snoc : (es : List Entry) (e : Entry) (n : FullName)
    → fix_running (es ++ e ∷ []) n ≡ (if repaired n e then None else or_else (arm_in Fix n e) (fix_running es n))
fix_running-snoc es e n = ap (last_of (arm_in Fix n)) (since-snoc (repaired n) es e) ∙ go (repaired n e)
  where
    go : (b : Bool) → last_of (arm_in Fix n) (if b then [] else since (repaired n) es ++ e ∷ []) ≡ (if b then None else or_else (arm_in Fix n e) (fix_running es n))
    go true = refl
    go false = last_of-snoc (arm_in Fix n) (since (repaired n) es) e

pub held_off-snoc : (c : Config) (es : List Entry) (e : Entry) (n : FullName) (now : ℕ)
    → held_off c (es ++ e ∷ []) n now ≡ held_off c es n now || holds_off c n now (record { before = es; this = e })
held_off-snoc c es e n now = ap (list_any (holds_off c n now)) (steps-snoc es e) ∙ list_any-snoc (holds_off c n now) (steps es) _

pub known-append : (es more : List Entry) (s : Stream) → known (es ++ more) s ≡ max (known es s) (known more s)
known-append es more s =
    ap (λ ns. greatest (flat_map (number_in s) ns)) (flat_map-append evidence_by es more)
    ∙ ap greatest (flat_map-append (number_in s) (evidence_in es) (evidence_in more))
    ∙ greatest-append (flat_map (number_in s) (evidence_in es)) (flat_map (number_in s) (evidence_in more))

pub is_held-append : (es more : List Entry) (n : FullName) → is_held (es ++ more) n ≡ is_held es n || is_held more n
is_held-append es more n = ap (list_any (has_name n)) (flat_map-append held_by es more) ∙ list_any-append (has_name n) (held es) (held more)
