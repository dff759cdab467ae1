-- The lanes of a member after one of them was written.
use Rattle.std.proofs.Common.{◌≡◌, ◌≢◌, ℕ, ◌<◌, List, [], ◌∷◌, ◌++◌, length, get_or, refl, ap, sym, ◌∙◌, subst, arith, inl, inr, eq-eqb}
use Rattle.std.specs.Prelude.{◌⊎◌, Result, Ok, Err, OnOk, Option, Some, slice_get, slice_set, option_to_list, drop, cond}
use Rattle.std.proofs.lemmas.Bool.{cases_eq, ne_eqb}
use Rattle.std.proofs.lemmas.List.{append-nil}
use Rattle.std.proofs.lemmas.Option.{same_Some, slice_get-get_or}
use Rattle.srm_names.specs.declared.page_msg.PageMsg.{PageMsg}
use Rattle.srm_names.proofs.Lists.{get_set_same, set_elsewhere}
use Rattle.srm_world.specs.Lane.{LaneContent}
use Rattle.srm_world.specs.Lanes.{HasRoom, Gains, Loses, in_lane}

-- one lane is written, and gains these messages
pub gains_at : (lanes : List LaneContent) (slot : ℕ) (w l : LaneContent) (more : List PageMsg) → slice_get lanes slot ≡ Some w → l.waiting ≡ w.waiting ++ more → Gains slot more lanes (slice_set lanes slot l)
gains_at lanes slot w l more at e = record { each = λ j x there. which j x there (cases_eq j slot) }
  where
    which : (j : ℕ) (x : LaneContent) → slice_get (slice_set lanes slot l) j ≡ Some x → ((j ≡ slot) ⊎ (j ≢ slot)) → (v : LaneContent) × (slice_get lanes j ≡ Some v) × (x.waiting ≡ v.waiting ++ in_lane slot more j)
    which j x there (inl same) =
        let is : l ≡ x = same_Some l x (sym (get_set_same lanes slot w l at) ∙ ap (slice_get (slice_set lanes slot l)) (sym same) ∙ there) in
        (w, ap (slice_get lanes) same ∙ at, ap (λ (v : LaneContent). v.waiting) (sym is) ∙ e ∙ ap (λ b. w.waiting ++ cond b more []) (sym (eq-eqb j slot same)))
    which j x there (inr differ) =
        (x, sym (set_elsewhere lanes slot j l differ) ∙ there, sym (append-nil x.waiting) ∙ ap (λ b. x.waiting ++ cond b more []) (sym (ne_eqb j slot differ)))

first_and_rest : (ms : List PageMsg) → ms ≡ option_to_list (slice_get ms 0) ++ drop 1 ms
first_and_rest [] = refl
first_and_rest (m ∷ ms) = refl

-- one lane is written, and has lost its first message
pub loses_at : (lanes : List LaneContent) (slot : ℕ) (w l : LaneContent) (message : Option PageMsg) → slice_get lanes slot ≡ Some w → message ≡ slice_get w.waiting 0 → l.waiting ≡ drop 1 w.waiting → Loses slot message lanes (slice_set lanes slot l)
loses_at lanes slot w l message at m rest = record {
  each = λ j x there. which j x there (cases_eq j slot);
  first = (w, at, m);
}
  where
    taken : w.waiting ≡ option_to_list message ++ l.waiting
    taken = first_and_rest w.waiting ∙ ap (λ o. option_to_list o ++ drop 1 w.waiting) (sym m) ∙ ap (λ ms. option_to_list message ++ ms) (sym rest)

    which : (j : ℕ) (x : LaneContent) → slice_get (slice_set lanes slot l) j ≡ Some x → ((j ≡ slot) ⊎ (j ≢ slot)) → (v : LaneContent) × (slice_get lanes j ≡ Some v) × (v.waiting ≡ in_lane slot (option_to_list message) j ++ x.waiting)
    which j x there (inl same) =
        let is : l ≡ x = same_Some l x (sym (get_set_same lanes slot w l at) ∙ ap (slice_get (slice_set lanes slot l)) (sym same) ∙ there) in
        (w, ap (slice_get lanes) same ∙ at, taken ∙ ap (λ (v : LaneContent). option_to_list message ++ v.waiting) is ∙ ap (λ b. cond b (option_to_list message) [] ++ x.waiting) (sym (eq-eqb j slot same)))
    which j x there (inr differ) =
        (x, sym (set_elsewhere lanes slot j l differ) ∙ there, ap (λ b. cond b (option_to_list message) [] ++ x.waiting) (sym (ne_eqb j slot differ)))

-- the lane at a slot that is read
pub read_at : (lanes : List LaneContent) (slot place : ℕ) (w : LaneContent) → w ≡ get_or lanes place w → place ≡ slot → slot < 8 → length lanes ≡ 8 → slice_get lanes slot ≡ Some w
read_at lanes slot place w is at l long = subst (λ k. slice_get lanes k ≡ Some w) at (slice_get-get_or lanes place w (omega (arith, at, long, l)) ∙ ap Some (sym is))

-- the same, of the lane that the code reads and writes at a place

pub gains : (lanes : List LaneContent) (slot place : ℕ) (w l : LaneContent) (more : List PageMsg) → w ≡ get_or lanes place w → place ≡ slot → slot < 8 → length lanes ≡ 8 → l.waiting ≡ w.waiting ++ more
    → Gains slot more lanes (slice_set lanes place l)
gains lanes slot place w l more is at below long e = subst (λ k. Gains slot more lanes (slice_set lanes k l)) (sym at) (gains_at lanes slot w l more (read_at lanes slot place w is at below long) e)

pub loses : (lanes : List LaneContent) (slot place : ℕ) (w l : LaneContent) (message : Option PageMsg) → w ≡ get_or lanes place w → place ≡ slot → slot < 8 → length lanes ≡ 8 → message ≡ slice_get w.waiting 0
    → l.waiting ≡ drop 1 w.waiting → Loses slot message lanes (slice_set lanes place l)
loses lanes slot place w l message is at below long m rest = subst (λ k. Loses slot message lanes (slice_set lanes k l)) (sym at) (loses_at lanes slot w l message (read_at lanes slot place w is at below long) m rest)

pub has_room : {T E : Type 0} (r : Result T E) (lanes : List LaneContent) (slot place : ℕ) (w l : LaneContent) → w ≡ get_or lanes place w → place ≡ slot → slot < 8 → length lanes ≡ 8 → OnOk r (length l.waiting < l.capacity)
    → OnOk r (HasRoom slot (slice_set lanes place l))
has_room (Err e) lanes slot place w l is at below long room = tt
has_room (Ok x) lanes slot place w l is at below long room = record {
  at = λ v there. subst (λ (u : LaneContent). length u.waiting < u.capacity)
      (same_Some l v (sym (get_set_same lanes slot w l (read_at lanes slot place w is at below long)) ∙ ap (λ k. slice_get (slice_set lanes k l) slot) (sym at) ∙ there)) room;
}
