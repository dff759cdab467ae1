-- The beginning of a record stays, call by call.
use Rattle.std.proofs.Common.{◌≡◌, ℕ, List, Option, Some, None, refl, ap, ◌∙◌}
use Rattle.srm_entries.specs.declared.entry.Entry.{Entry}
use Rattle.srm_frames.specs.declared.beginning.Beginning.{Beginning}
use Rattle.srm_record.specs.Writing.{FileView, NotesIn}
use Rattle.srm_record.specs.Begun.{begins_in, begun_with}

pub begins_so : (v : FileView) (b : Beginning) (held : Option (List ℕ)) → v.beginning ≡ b → v.first ≡ held → begins_in (Some v) ≡ Some (begun_with b held)
begins_so v b held is first = ap (λ (x : Beginning). Some (begun_with x v.first)) is ∙ ap (λ (x : Option (List ℕ)). Some (begun_with b x)) first

pub begins_on : (old new : Option FileView) (e : Entry) → NotesIn old new e → begins_in new ≡ begins_in old
begins_on None None e notes = refl
begins_on None (Some v) e notes = absurd notes
begins_on (Some u) None e notes = absurd notes
begins_on (Some u) (Some v) e notes = begins_so v u.beginning u.first notes.beginning notes.first
