-- Room for answers, and what stays ready.
use Rattle.std.proofs.Common.{◌≡◌, ℕ, zero, suc, ◌+◌, ◌-◌, ◌<◌, ◌≤◌, List, [], ◌∷◌, ◌++◌, Some, None, Bool, true, false, not, ◌&&◌, max, length, Result, Ok, Err, IsOk, get_or, take, drop, refl, sym, ap, ◌∙◌, subst, arith}
use Rattle.std.specs.Prelude.{◌||◌, nat_lt, nat_le, is_some, position, cond, if◌then◌else◌}
use Rattle.std.specs.List.{list_any, position_or_len}
use Rattle.std.proofs.lemmas.Bool.{false≢true, and_parts, or_right}
use Rattle.std.proofs.lemmas.Bool.Decides.{nat_tests}
use Rattle.std.proofs.lemmas.List.Quantifiers.{position-Some}
use Rattle.srm_names.specs.FullName.{FullName}
use Rattle.srm_names.specs.Names.{same_name, same_stream, among}
use Rattle.srm_names.proofs.Lists.{is_some_if}
use Rattle.srm_names.proofs.Same.{same_name-is, same_stream-itself}
use Rattle.srm_store.specs.Rooms.{RoomContent, is_room_for, has_room, StillHasOthers}
use Rattle.srm_store.specs.Tables.{places_of_stream, TableLearns, StillHasPlaces}
use Rattle.srm_store.specs.Stores.{StoreContent, IsReady, StaysReady}
use Rattle.srm_store.specs.declared.fault.StoreFault.{StoreFault}
use Rattle.srm_store.specs.declared.fault.StoreFault.TheVariants.{PageLimit, Memory}
use Rattle.srm_store.proofs.Fitting.{learns_known}
use Rattle.std.proofs.lemmas.List.Folds.{list_any_more}

any_below : {X : Type 0} (p : X → Bool) (xs : List X) → list_any p xs ≡ nat_lt (position_or_len p xs) (length xs)
any_below p [] = refl
any_below p (x ∷ xs) = go (p x) (any_below p xs)
  where
    go : (b : Bool) → list_any p xs ≡ nat_lt (position_or_len p xs) (length xs) → (b || list_any p xs) ≡ nat_lt (cond (not b) (1 + position_or_len p xs) 0) (suc (length xs))
    go true h = grind (arith, nat_tests)
    go false h = grind (arith, nat_tests)

position_any : {X : Type 0} (p : X → Bool) (xs : List X) → is_some (position p xs) ≡ list_any p xs
position_any p xs = is_some_if (nat_lt (position_or_len p xs) (length xs)) (position_or_len p xs) ∙ sym (any_below p xs)

pub no_room : (rooms : List RoomContent) (n : FullName) (count : ℕ) → position (is_room_for n count) rooms ≡ None → has_room rooms n count ≡ true → ⊥
no_room rooms n count e had = false≢true (ap is_some (sym e) ∙ position_any (is_room_for n count) rooms ∙ had)

any_removed : {X : Type 0} (p : X → Bool) (xs : List X) (i : ℕ) (d : X) → p (get_or xs i d) ≡ false → list_any p xs ≡ true → list_any p (take i xs ++ drop (suc i) xs) ≡ true
any_removed p [] i d out had = absurd (false≢true had)
any_removed p (x ∷ xs) zero d out had = sym (ap (λ b. b || list_any p xs) out) ∙ had
any_removed p (x ∷ xs) (suc i) d out had = go (p x) had (any_removed p xs i d out)
  where
    go : (b : Bool) → (b || list_any p xs) ≡ true → (list_any p xs ≡ true → list_any p (take i xs ++ drop (suc i) xs) ≡ true) → (b || list_any p (take i xs ++ drop (suc i) xs)) ≡ true
    go true had rest = refl
    go false had rest = rest had

-- the room that was found is taken away
module _ (rooms zs : List RoomContent) (n : FullName) (count i : ℕ) (room : RoomContent) (is : rooms ≡ zs) (at : position (is_room_for n count) zs ≡ Some i) (taken : room ≡ get_or rooms i room) where
  fitting : is_room_for n count room ≡ true
  fitting = ap (is_room_for n count) (taken ∙ ap (λ xs. get_or xs i room) is) ∙ (position-Some (is_room_for n count) zs i room at).1

  pub room_enough : count ≤ room.capacity
  room_enough = let enough : nat_le count room.capacity ≡ true = (and_parts (same_name room.name n) (nat_le count room.capacity) fitting).1 in grind (arith, nat_tests)

  pub others_left : (left : List RoomContent) → left ≡ take i rooms ++ drop (suc i) rooms → StillHasOthers n zs left
  others_left left e = record { each = λ m k other had. ap (λ xs. has_room xs m k) e ∙ any_removed (is_room_for m k) rooms i room (go m k other) (ap (λ xs. has_room xs m k) is ∙ had) }
    where
      named : room.name ≡ n
      named = same_name-is room.name n (and_parts (same_name room.name n) (nat_le count room.capacity) fitting).0

      go : (m : FullName) (k : ℕ) → same_name n m ≡ false → is_room_for m k (get_or rooms i room) ≡ false
      go m k other = ap (is_room_for m k) (sym taken) ∙ ap (λ b. b && nat_le k room.capacity) (ap (λ a. same_name a m) named ∙ other)

-- room for more is room for fewer
pub has_room-fewer : (rooms : List RoomContent) (n : FullName) (count fewer : ℕ) → fewer ≤ count → has_room rooms n count ≡ true → has_room rooms n fewer ≡ true
has_room-fewer [] n count fewer le had = had
has_room-fewer (room ∷ rooms) n count fewer le had = go (same_name room.name n) (nat_le count room.capacity) refl (nat_le fewer room.capacity) refl had (has_room-fewer rooms n count fewer le)
  where
    go : (a b : Bool) → nat_le count room.capacity ≡ b → (d : Bool) → nat_le fewer room.capacity ≡ d → ((a && b) || has_room rooms n count) ≡ true → (has_room rooms n count ≡ true → has_room rooms n fewer ≡ true) → ((a && d) || has_room rooms n fewer) ≡ true
    go true true e true f had rest = refl
    go true true e false f had rest = absurd (grind (arith, nat_tests))
    go true false e true f had rest = refl
    go true false e false f had rest = rest had
    go false b e d f had rest = rest had

-- what is known rises, and the answer to one name was given
pub ready_learns : (old new : StoreContent) (a : FullName) → TableLearns a old.table new.table → StillHasPlaces old.table new.table → StillHasOthers a old.rooms new.rooms → StaysReady old new
ready_learns old new a learns still others = record {
  each = λ n had. record {
    source = had.source;
    place = still.each n had.place;
    answer = go n (places_of_stream old.table n.stream).known (places_of_stream new.table n.stream).known (same_name a n) refl (same_stream n.stream a.stream) refl (learns_known a old.table new.table learns n.stream had.source) (nat_le n.number (places_of_stream old.table n.stream).known) refl had.answer;
  };
}
  where
    enough : (n : FullName) (k : ℕ) → n.number ≤ k → (nat_le n.number k || has_room new.rooms n (n.number - k)) ≡ true
    enough n k le = let e : nat_le n.number k ≡ true = grind (arith, nat_tests) in rw e refl

    rises : (k j m : ℕ) (d : Bool) → j ≡ (if d then max k m else k) → k ≤ j
    rises k j m true e = omega (arith, e)
    rises k j m false e = omega (arith, e)

    go : (n : FullName) (k j : ℕ) (b : Bool) → same_name a n ≡ b → (d : Bool) → same_stream n.stream a.stream ≡ d → j ≡ (if same_stream n.stream a.stream then max k a.number else k) → (f : Bool) → nat_le n.number k ≡ f → (f || has_room old.rooms n (n.number - k)) ≡ true → (nat_le n.number j || has_room new.rooms n (n.number - j)) ≡ true
    go n k j true same d e up f g had =
        let is = same_name-is a n same in
        let number : a.number ≡ n.number = ap (λ (m : FullName). m.number) is in
        let here : same_stream n.stream a.stream ≡ true = ap (λ (m : FullName). same_stream m.stream a.stream) (sym is) ∙ same_stream-itself a.stream in
        let top : j ≡ max k a.number = up ∙ ap (λ (x : Bool). if x then max k a.number else k) here in
        enough n j (omega (arith, top, number))
    go n k j false other d e up true g had = let le : n.number ≤ k = grind (arith, nat_tests) in enough n j (omega (arith, le, rises k j a.number (same_stream n.stream a.stream) up))
    go n k j false other d e up false g had = or_right (nat_le n.number j) _ (has_room-fewer new.rooms n (n.number - k) (n.number - j) (omega (arith, rises k j a.number (same_stream n.stream a.stream) up)) (others.each n (n.number - k) other had))

-- one more name has what those before it have
pub each_more : (names : List FullName) (i : ℕ) (name : FullName) (P Q : FullName → Type 0) → name ≡ get_or names i name → i < length names
    → ((n : FullName) → among (take i names) n ≡ true → P n) → ((n : FullName) → P n → Q n) → Q name → (n : FullName) → among (take (i + 1) names) n ≡ true → Q n
each_more names i name P Q at lt before stays here n there = go (among (take i names) n) refl (sym (list_any_more (same_name n) names i name lt) ∙ there)
  where
    go : (b : Bool) → among (take i names) n ≡ b → (among (take i names) n || same_name n (get_or names i name)) ≡ true → Q n
    go true e both = stays n (before n e)
    go false e both =
        let is : same_name n (get_or names i name) ≡ true = sym (ap (λ b. b || same_name n (get_or names i name)) e) ∙ both in
        subst Q (at ∙ sym (same_name-is n (get_or names i name) is)) here

pub ready_more : (names : List FullName) (i : ℕ) (name : FullName) (old new : StoreContent) → name ≡ get_or names i name → i < length names
    → ((n : FullName) → among (take i names) n ≡ true → IsReady n old) → StaysReady old new → IsReady name new → (n : FullName) → among (take (i + 1) names) n ≡ true → IsReady n new
ready_more names i name old new at lt before stays here = each_more names i name (λ n. IsReady n old) (λ n. IsReady n new) at lt before stays.each here

pub stays_on : (a b c : StoreContent) → StaysReady a b → StaysReady b c → StaysReady a c
stays_on a b c p q = record { each = λ n ready. q.each n (p.each n ready) }

-- what fails neither for page slots nor out of memory is done
pub not_refused : {X : Type 0} (r : Result X StoreFault) → (r ≡ Err PageLimit → ⊥) → (r ≡ Err Memory → ⊥) → IsOk r
not_refused (Ok x) slot memory = refl
not_refused (Err PageLimit) slot memory = absurd (slot refl)
not_refused (Err Memory) slot memory = absurd (memory refl)
