-- How many timers entries set, one behind another.
use Rattle.std.proofs.Common.{◌≡◌, ℕ, ◌+◌, ◌<◌, List, [], ◌∷◌, ◌++◌, length, get_or, take, drop, sym, ap, ◌∙◌, arith, length-append, append-nil}
use Rattle.std.proofs.lemmas.Grind.{flat_map-append}
use Rattle.std.proofs.lemmas.List.{take-append-drop}
use Rattle.srm_entries.specs.declared.entry.Entry.{Entry}
use Rattle.srm_world.specs.WaitWords.{arms_in}
use Rattle.srm_frames.proofs.Elements.{taken_more}
use Rattle.srm_record.specs.Allowances.{timers_in}

pub timers-append : (es fs : List Entry) → timers_in (es ++ fs) ≡ timers_in es + timers_in fs
timers-append es fs = ap length (flat_map-append (λ (e : Entry). e.effects.arms) es fs) ∙ length-append (arms_in es) (arms_in fs)

one_entry : (e : Entry) → timers_in (e ∷ []) ≡ length e.effects.arms
one_entry e = ap length (append-nil e.effects.arms)

timers_next : (es : List Entry) (at : ℕ) (e : Entry) → at < length es → e ≡ get_or es at e → timers_in (take (at + 1) es) ≡ timers_in (take at es) + length e.effects.arms
timers_next es at e there is = ap timers_in (taken_more es at e there is) ∙ timers-append (take at es) (e ∷ []) ∙ ap (λ n. timers_in (take at es) + n) (one_entry e)

-- an entry set no more than were left
pub one_spent : (es : List Entry) (at all left rest : ℕ) (e : Entry) → at < length es → e ≡ get_or es at e → left + timers_in (take at es) ≡ all → rest + length e.effects.arms ≡ left → rest + timers_in (take (at + 1) es) ≡ all
one_spent es at all left rest e there is so spent = let next = timers_next es at e there is in omega arith

-- or more
pub over_spent : (es : List Entry) (at all left : ℕ) (e : Entry) → at < length es → e ≡ get_or es at e → left + timers_in (take at es) ≡ all → left < length e.effects.arms → all < timers_in es
over_spent es at all left e there is so more =
    let next : timers_in (take (at + 1) es) ≡ timers_in (take at es) + length e.effects.arms = timers_next es at e there is in
    let parts : timers_in es ≡ timers_in (take (at + 1) es) + timers_in (drop (at + 1) es) = ap timers_in (sym (take-append-drop (at + 1) es)) ∙ timers-append (take (at + 1) es) (drop (at + 1) es) in
    omega arith
