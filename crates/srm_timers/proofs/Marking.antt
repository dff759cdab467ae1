-- What is kept of names in one table, read as who asked for them and until when they are held off.
use Rattle.std.proofs.Common.{◌≡◌, ℕ, ◌+◌, ◌<◌, Bool, true, false, List, [], ◌∷◌, map, length, get_or, take, Option, Some, None, cond, refl, sym, ap, ◌∙◌}
use Rattle.std.specs.Prelude.{if◌then◌else◌, find, nat_lt, unwrap_or, ◌||◌}
use Rattle.srm_names.specs.declared.limits.TheConstants.{MEMBERS}
use Rattle.srm_names.specs.FullName.{FullName}
use Rattle.srm_names.specs.Names.{same_name}
use Rattle.srm_names.proofs.Same.{same_name-is}
use Rattle.srm_deadlines.specs.declared.by_name.NamedValue.{NamedValue}
use Rattle.srm_deadlines.specs.Places.{value_at, value_in, is_at, has_place, KeepsPlaces, HasPlaces, KeepsValues, Sets}
use Rattle.srm_timers.specs.declared.marks.Mark.{Mark}
use Rattle.srm_timers.specs.FixCalls.{HoldsOff, HoldAllOff, asker_at, held_off_until}
use Rattle.srm_timers.specs.Marks.{asker_of, until_of, place_by, marks_of, MarkContent, HaveMarks, MarksKeepPlaces, NotesAsker, OffAsBefore}
use Rattle.srm_timers.specs.Distances.{distance_to}
use Rattle.srm_timers.proofs.FixSteps.{new_asker, held_longer, held_more}
pub use Rattle.srm_timers.proofs.FixSteps.{held_as_long}

module _ (f : Option Mark → Option ℕ) (none : f None ≡ None) where
  abbrev read : List (NamedValue Mark) → List (NamedValue ℕ)
  read places = map (place_by f) places

  pub read_at : (places : List (NamedValue Mark)) (n : FullName) → value_at (read places) n ≡ f (value_at places n)
  read_at [] n = sym none
  read_at (p ∷ places) n = go (same_name n p.name) (read_at places n)
    where
      go : (b : Bool) → value_at (read places) n ≡ f (value_at places n) → value_in (cond b (Some (place_by f p)) (find (is_at n) (read places))) ≡ f (value_in (cond b (Some p) (find (is_at n) places)))
      go true h = refl
      go false h = h

  pub has_at : (places : List (NamedValue Mark)) (n : FullName) → has_place (read places) n ≡ has_place places n
  has_at [] n = refl
  has_at (p ∷ places) n = ap (λ b. same_name n p.name || b) (has_at places n)

  keeps_by : (old new : List (NamedValue Mark)) → KeepsValues old new → KeepsValues (read old) (read new)
  keeps_by old new h = record { each = λ n. read_at new n ∙ ap f (h.each n) ∙ sym (read_at old n) }

  holds_by : (old new : List (NamedValue Mark)) → KeepsPlaces old new → KeepsPlaces (read old) (read new)
  holds_by old new h = record { each = λ n there. has_at new n ∙ h.each n (sym (has_at old n) ∙ there) }

  places_by : (names : List FullName) (places : List (NamedValue Mark)) → HasPlaces names places → HasPlaces names (read places)
  places_by names places h = record { each = λ n at. has_at places n ∙ h.each n at }

  if_read : (b : Bool) (v o : Option Mark) → f (if b then v else o) ≡ (if b then f v else f o)
  if_read true v o = refl
  if_read false v o = refl

  sets_by : (name : FullName) (v : Option Mark) (old new : List (NamedValue Mark)) → Sets name v old new → Sets name (f v) (read old) (read new)
  sets_by name v old new h = record {
    each = λ n. read_at new n ∙ ap f (h.each n) ∙ if_read (same_name n name) v (value_at old n) ∙ ap (λ o. if same_name n name then f v else o) (sym (read_at old n));
  }

-- the whole table
pub keeps_askers : (old new : List (NamedValue Mark)) → KeepsValues old new → KeepsValues (marks_of old).askers (marks_of new).askers
keeps_askers old new h = keeps_by asker_of refl old new h

pub keeps_holds : (old new : List (NamedValue Mark)) → KeepsValues old new → KeepsValues (marks_of old).held_off (marks_of new).held_off
keeps_holds old new h = keeps_by until_of refl old new h

pub marks_hold : (old new : List (NamedValue Mark)) → KeepsPlaces old new → MarksKeepPlaces (marks_of old) (marks_of new)
marks_hold old new h = record { askers = holds_by asker_of refl old new h; held_off = holds_by until_of refl old new h }

pub have_marks : (names : List FullName) (places : List (NamedValue Mark)) → HasPlaces names places → HaveMarks names (marks_of places)
have_marks names places h = record { askers = places_by asker_of refl names places h; held_off = places_by until_of refl names places h }

pub had_places : (names : List FullName) (places : List (NamedValue Mark)) → HasPlaces names (marks_of places).held_off → HasPlaces names places
had_places names places h = record { each = λ n at. sym (has_at until_of refl places n) ∙ h.each n at }

-- the place of a name, by either
pub asked_place : (places : List (NamedValue Mark)) (name : FullName) → has_place (marks_of places).askers name ≡ true → has_place places name ≡ true
asked_place places name there = sym (has_at asker_of refl places name) ∙ there

pub held_place : (places : List (NamedValue Mark)) (name : FullName) → has_place (marks_of places).held_off name ≡ true → has_place places name ≡ true
held_place places name there = sym (has_at until_of refl places name) ∙ there

-- the mark of a name
pub asker_read : (places : List (NamedValue Mark)) (name : FullName) (o : Option Mark) → value_at places name ≡ o → asker_of o ≡ value_at (marks_of places).askers name
asker_read places name o is = ap asker_of (sym is) ∙ sym (read_at asker_of refl places name)

pub until_read : (places : List (NamedValue Mark)) (name : FullName) (o : Option Mark) → value_at places name ≡ o → unwrap_or (until_of o) 0 ≡ unwrap_or (value_at (marks_of places).held_off name) 0
until_read places name o is = ap (λ m. unwrap_or (until_of m) 0) (sym is) ∙ ap (λ m. unwrap_or m 0) (sym (read_at until_of refl places name))

off_same : (places : List (NamedValue ℕ)) (name n : FullName) (k t : ℕ) → k ≡ unwrap_or (value_at places name) 0 → (b : Bool) → same_name n name ≡ b
    → nat_lt t (unwrap_or (if b then Some k else value_at places n) 0) ≡ nat_lt t (unwrap_or (value_at places n) 0)
off_same places name n k t is true same = ap (nat_lt t) (is ∙ ap (λ m. unwrap_or (value_at places m) 0) (sym (same_name-is n name same)))
off_same places name n k t is false other = refl

-- who asked for a name is noted
pub note_first : (name : FullName) (from k : ℕ) (old new : List (NamedValue Mark)) → value_at (marks_of old).askers name ≡ None → k ≡ unwrap_or (value_at (marks_of old).held_off name) 0
    → Sets name (Some (record { asker = Some from; until = k })) old new → NotesAsker name from (marks_of old).askers (marks_of new).askers × OffAsBefore (marks_of old).held_off (marks_of new).held_off
note_first name from k old new none is sets = (
  record { each = λ n. (sets_by asker_of refl name _ old new sets).each n ∙ new_asker name from n (value_at (marks_of old).askers) none (same_name n name) refl },
  record { each = λ n t. ap (λ o. nat_lt t (unwrap_or o 0)) ((sets_by until_of refl name _ old new sets).each n) ∙ off_same (marks_of old).held_off name n k t is (same_name n name) refl },
)

-- a name is held off for longer
pub held_on : (name : FullName) (asker : Option ℕ) (kept until : ℕ) (old new : List (NamedValue Mark)) → asker ≡ value_at (marks_of old).askers name → kept ≡ unwrap_or (value_at (marks_of old).held_off name) 0 → kept < until
    → Sets name (Some (record { asker = asker; until = until })) old new → HoldsOff name until (marks_of old).held_off (marks_of new).held_off × KeepsValues (marks_of old).askers (marks_of new).askers
held_on name asker kept until old new asked is less sets = (
  held_longer name until kept (marks_of old).held_off (marks_of new).held_off is less (sets_by until_of refl name _ old new sets),
  record { each = λ n. (sets_by asker_of refl name _ old new sets).each n ∙ same n (same_name n name) refl },
)
  where
    same : (n : FullName) (b : Bool) → same_name n name ≡ b → (if b then asker else value_at (marks_of old).askers n) ≡ value_at (marks_of old).askers n
    same n true e = asked ∙ ap (value_at (marks_of old).askers) (sym (same_name-is n name e))
    same n false e = refl

-- one more name of those that are held off
pub holds_more : (now : ℕ) (dist : List ℕ) (names : List FullName) (i : ℕ) (name : FullName) (old mid new : MarkContent) → i < length names → name ≡ get_or names i name
    → KeepsValues old.askers mid.askers → HoldAllOff now dist (take i names) old.askers old.held_off mid.held_off → HoldsOff name (held_off_until now dist mid.askers name) mid.held_off new.held_off → asker_at mid.askers name < MEMBERS
    → HoldAllOff now dist (take (i + 1) names) old.askers old.held_off new.held_off
holds_more now dist names i name old mid new lt is same so_far next near =
    let asker : asker_at mid.askers name ≡ asker_at old.askers name = ap (λ o. unwrap_or o name.stream.source) (same.each name) in
    held_more now dist names i name (distance_to dist (asker_at mid.askers name)) (asker_at mid.askers name) old.askers old.held_off mid.held_off new.held_off lt is asker near refl so_far next

pub keeps_through : (a b c : List (NamedValue ℕ)) → KeepsValues a b → KeepsValues b c → KeepsValues a c
keeps_through a b c p q = record { each = λ n. q.each n ∙ p.each n }

pub marks_through : (a b c : MarkContent) → MarksKeepPlaces a b → MarksKeepPlaces b c → MarksKeepPlaces a c
marks_through a b c p q = record { askers = record { each = λ n h. q.askers.each n (p.askers.each n h) }; held_off = record { each = λ n h. q.held_off.each n (p.held_off.each n h) } }
