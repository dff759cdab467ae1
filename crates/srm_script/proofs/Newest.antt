-- What a lawful trace sends is spellable.
use Rattle.std.proofs.Common.{◌≡◌, ℕ, List, [], ◌∷◌, ◌++◌, refl, sym, subst, inl, inr}
use Rattle.std.specs.Prelude.{Some, slice_get}
use Rattle.std.specs.List.{AllByRecursion}
use Rattle.srm_names.specs.Histories.{Step, steps, steps_after}
use Rattle.srm_names.proofs.Lists.{Has, All-Has, slice_get-Has}
use Rattle.srm_codec.specs.Spelling.{IsSpellable}
use Rattle.srm_entries.specs.declared.entry.Entry.{Entry}
use Rattle.srm_entries.specs.Runs.{EntryRight}
use Rattle.srm_world.specs.Traces.{Trace, of_member}
use Rattle.srm_world.specs.Claims.{IsLawful}
use Rattle.srm_world.proofs.Members.{Has-of_member, run_of_entry}

-- each element of a history has its step
step_of : {X : Type 0} (x : X) (before xs : List X) → Has x xs → (s : Step X) × Has s (steps_after before xs) × (s.this ≡ x)
step_of x before [] h = absurd h
step_of x before (y ∷ ys) (inl e) = (record { before = before; this = y }, inl refl, sym e)
step_of x before (y ∷ ys) (inr h) = let more = step_of x (before ++ y ∷ []) ys h in (more.0, inr more.1, more.2)

pub sent_is_spellable : (t : Trace) (i : ℕ) (e : Entry) → IsLawful t → slice_get t.entries i ≡ Some e → AllByRecursion IsSpellable e.effects.outs
sent_is_spellable t i e law at =
    let there : Has e t.entries = slice_get-Has t.entries i e at in
    let r = run_of_entry t.starts t.entries e law.run there in
    let s = step_of e [] (of_member e.member t.entries) (Has-of_member e t.entries there) in
    let right : EntryRight r.config r.made s.0 = All-Has (EntryRight r.config r.made) s.0 (steps (of_member e.member t.entries)) r.run.each s.1 in
    subst (λ (x : Entry). AllByRecursion IsSpellable x.effects.outs) s.2 right.spelled
