-- The members of a room's file.
use Rattle.std.proofs.Common.{◌≡◌, ◌≢◌, ℕ, ◌≤◌, ◌<◌, ◌==◌, ◌||◌, Bool, true, false, not, suc, get_or, drop, ◌+◌, List, [], ◌∷◌, ◌++◌, length, map, Result, Ok, Err, refl, sym, ap, subst, ◌∙◌, append_assoc, arith}
use Rattle.std.specs.Prelude.{IfOk, nat_lt}
use Rattle.std.specs.List.{AllByRecursion}
use Rattle.std.specs.Str.{bytes_eq}
use Rattle.std.proofs.lemmas.Bool.{or_parts, false≢true, ltb-false, le-ltb}
use Rattle.std.proofs.lemmas.Bool.Decides.{nat_tests}
use Rattle.std.proofs.lemmas.List.{append-nil}
use Rattle.std.proofs.lemmas.Slice.Eq.{bytes_eq-Decides}
use Rattle.toml.specs.Data.{Data, Items, no_items, item, Members}
use Rattle.toml.specs.View.{items_of, items_view, view}
use Rattle.toml.specs.declared.value.Value.{Value}
use Rattle.toml.proofs.Views.{items_view-drop}
use Rattle.srm_names.specs.declared.limits.TheConstants.{MEMBERS}
use Rattle.srm_room.specs.declared.fault.Fault.{Fault}
use Rattle.srm_room.specs.declared.field.Field.TheVariants as field
use Rattle.srm_room.specs.declared.field.Place.TheVariants as place
use Rattle.srm_room.specs.declared.room_member.RoomMember.{RoomMember}
use Rattle.srm_room.specs.Documents.{document, person_members, person_table}
use Rattle.srm_room.specs.Readings.{◌>>=◌, counted, judged, people_behind, people_in, person_at, person_in, table_of, text_in, values_in}
use Rattle.srm_room.specs.Rooms.{AreApart, ArePeople, Content, Differ, IsFrom, IsPerson, Person, has_address, has_name, is_address, is_name, person}
use Rattle.srm_room.proofs.Binding.{bind_IfOk, bind_step, guard_IfOk, not_false, test_IfOk, value_of}

pub people_count : (ms : List RoomMember) → length (map person ms) ≡ length ms
people_count [] = refl
people_count (m ∷ ms) = ap suc (people_count ms)

-- ---- reading one after the other

module _ (before : List Person) (vs : List Value) (i : ℕ) (d : Value) (below : i < length vs) where
  one_at : people_behind before (items_view (drop i vs)) ≡ (person_at before (view (get_or vs i d)) >>= λ p. people_behind (before ++ p ∷ []) (items_view (drop (i + 1) vs)))
  one_at = ap (people_behind before) (items_view-drop vs i d below)

  pub reads_on : (p : Person) → person_at before (view (get_or vs i d)) ≡ Ok p
      → people_behind before (items_view (drop i vs)) ≡ people_behind (before ++ p ∷ []) (items_view (drop (i + 1) vs))
  reads_on p e = one_at ∙ ap (λ r. r >>= λ q. people_behind (before ++ q ∷ []) (items_view (drop (i + 1) vs))) e

  pub reads_fault : (f : Fault) → person_at before (view (get_or vs i d)) ≡ Err f → people_behind before (items_view (drop i vs)) ≡ Err f
  reads_fault f e = one_at ∙ ap (λ r. r >>= λ q. people_behind (before ++ q ∷ []) (items_view (drop (i + 1) vs))) e

-- ---- texts that differ

differ : (xs ys : List ℕ) → bytes_eq xs ys ≡ false → xs ≢ ys
differ xs ys e same = false≢true (sym e ∙ (bytes_eq-Decides xs ys).1 same)

unequal : (xs ys : List ℕ) (b : Bool) → bytes_eq xs ys ≡ b → xs ≢ ys → b ≡ false
unequal xs ys true e other = absurd (other ((bytes_eq-Decides xs ys).0 e))
unequal xs ys false e other = refl

all_differ : (ps : List Person) (p : Person) → has_name ps p.name ≡ false → has_address ps p.address ≡ false → AllByRecursion (λ q. Differ q p) ps
all_differ [] p n a = tt
all_differ (q ∷ qs) p n a =
    let names = or_parts (bytes_eq q.name p.name) (has_name qs p.name) n in
    let addresses = or_parts (bytes_eq q.address p.address) (has_address qs p.address) a in
    (record { names = differ q.name p.name names.0; addresses = differ q.address p.address addresses.0 }, all_differ qs p names.1 addresses.1)

no_name : (ps : List Person) (p : Person) → AllByRecursion (λ q. Differ q p) ps → has_name ps p.name ≡ false
no_name [] p h = refl
no_name (q ∷ qs) p h = rw (unequal q.name p.name (bytes_eq q.name p.name) refl h.0.names, no_name qs p h.1)

no_address : (ps : List Person) (p : Person) → AllByRecursion (λ q. Differ q p) ps → has_address ps p.address ≡ false
no_address [] p h = refl
no_address (q ∷ qs) p h = rw (unequal q.address p.address (bytes_eq q.address p.address) refl h.0.addresses, no_address qs p h.1)

-- ---- one more member

module _ (P : Person → Type 0) where
  all-snoc : (ps : List Person) (p : Person) → AllByRecursion P ps → P p → AllByRecursion P (ps ++ p ∷ [])
  all-snoc [] p h one = (one, tt)
  all-snoc (q ∷ qs) p h one = (h.0, all-snoc qs p h.1 one)

  all-middle : (ps : List Person) (p : Person) (rest : List Person) → AllByRecursion P (ps ++ p ∷ rest) → P p
  all-middle [] p rest h = h.0
  all-middle (q ∷ qs) p rest h = all-middle qs p rest h.1

apart-snoc : (ps : List Person) (p : Person) → AreApart ps → AllByRecursion (λ q. Differ q p) ps → AreApart (ps ++ p ∷ [])
apart-snoc [] p h d = (tt, tt)
apart-snoc (q ∷ qs) p h d = (all-snoc (Differ q) qs p h.0 d.0, apart-snoc qs p h.1 d.1)

apart-before : (ps : List Person) (p : Person) (rest : List Person) → AreApart (ps ++ p ∷ rest) → AllByRecursion (λ q. Differ q p) ps
apart-before [] p rest h = tt
apart-before (q ∷ qs) p rest h = (all-middle (Differ q) qs p rest h.0, apart-before qs p rest h.1)

-- ---- what is read fits

record FitsBehind (before : List Person) (p : Person) : Type 0 where
  pub one : IsPerson p
  pub apart : AllByRecursion (λ q. Differ q p) before

judged-fits : (before : List Person) (p : Person) → IfOk (judged before p) (FitsBehind before)
judged-fits before p =
    guard_IfOk (not (is_name p.name)) _ _ (FitsBehind before) (λ n.
    guard_IfOk (not (is_address p.address)) _ _ (FitsBehind before) (λ a.
    guard_IfOk (has_name before p.name) _ _ (FitsBehind before) (λ m.
    guard_IfOk (has_address before p.address) _ _ (FitsBehind before) (λ b.
    record { one = record { named = not_false (is_name p.name) n; reached = not_false (is_address p.address) a }; apart = all_differ before p m b }))))

person_in-fits : (before : List Person) (ms : Members) → IfOk (person_in before ms) (FitsBehind before)
unfolding person_in
person_in-fits before ms =
    bind_IfOk (text_in (place.Member (length before)) field.Name ms) _ (FitsBehind before) (λ name _.
    bind_IfOk (text_in (place.Member (length before)) field.Address ms) _ (FitsBehind before) (λ address _.
    bind_IfOk _ (judged before) (FitsBehind before) (λ p _. judged-fits before p)))

person_at-fits : (before : List Person) (d : Data) → IfOk (person_at before d) (FitsBehind before)
person_at-fits before d = bind_IfOk (table_of (place.Member (length before)) field.Member d) (person_in before) (FitsBehind before) (λ ms _. person_in-fits before ms)

record Fit (ps : List Person) : Type 0 where
  pub each : AllByRecursion IsPerson ps
  pub apart : AreApart ps

people_behind-fit : (before : List Person) (ds : Items) → Fit before → IfOk (people_behind before ds) Fit
people_behind-fit before no_items h = h
people_behind-fit before (item d ds) h =
    bind_IfOk (person_at before d) (λ p. people_behind (before ++ p ∷ []) ds) Fit (λ p e.
    let fits = value_of (person_at before d) p (FitsBehind before) e (person_at-fits before d) in
    people_behind-fit (before ++ p ∷ []) ds (record { each = all-snoc IsPerson before p h.each fits.one; apart = apart-snoc before p h.apart fits.apart }))

some : (n : ℕ) → (n == 0) ≡ false → 1 ≤ n
some n e = grind (arith, nat_tests)

counted-fit : (ps : List Person) → Fit ps → IfOk (counted ps) ArePeople
counted-fit ps h =
    guard_IfOk (length ps == 0) _ _ ArePeople (λ n.
    guard_IfOk (nat_lt MEMBERS (length ps)) _ _ ArePeople (λ m.
    record { count = (some (length ps) n, ltb-false MEMBERS (length ps) m); each = h.each; apart = h.apart }))

pub people_in-fit : (ms : Members) → IfOk (people_in ms) ArePeople
unfolding people_in
people_in-fit ms =
    bind_IfOk (values_in ms) _ ArePeople (λ ds _.
    bind_IfOk (people_behind [] ds) counted ArePeople (λ ps e.
    counted-fit ps (value_of (people_behind [] ds) ps Fit e (people_behind-fit [] ds (record { each = tt; apart = tt })))))

-- ---- what is written is read again

judged_back : (before : List Person) (p : Person) → IsPerson p → AllByRecursion (λ q. Differ q p) before → judged before p ≡ Ok p
judged_back before p one apart = rw (one.named, one.reached, no_name before p apart, no_address before p apart)

person_back : (before : List Person) (p : Person) → IsPerson p → AllByRecursion (λ q. Differ q p) before → person_at before (person_table p) ≡ Ok p
unfolding person_in
person_back before p one apart = judged_back before p one apart

people_back : (before ps : List Person) → AllByRecursion IsPerson ps → AreApart (before ++ ps) → people_behind before (items_of (map person_table ps)) ≡ Ok (before ++ ps)
people_back before [] each apart = ap (λ (qs : List Person). Ok qs) (sym (append-nil before))
people_back before (p ∷ ps) each apart =
    let regrouped : (before ++ p ∷ []) ++ ps ≡ before ++ p ∷ ps = append_assoc before (p ∷ []) ps in
    let later = people_back (before ++ p ∷ []) ps each.1 (subst AreApart (sym regrouped) apart) in
    bind_step (person_at before (person_table p)) p (λ q. people_behind (before ++ q ∷ []) (items_of (map person_table ps))) _
    (person_back before p each.0 (apart-before before p ps apart))
    (later ∙ ap (λ (qs : List Person). Ok qs) regrouped)

not_none : (n : ℕ) → 1 ≤ n → (n == 0) ≡ false
not_none n e = grind (arith, nat_tests)

counted_back : (ps : List Person) → IsFrom 1 MEMBERS (length ps) → counted ps ≡ Ok ps
counted_back ps count = rw (not_none (length ps) count.0, le-ltb MEMBERS (length ps) count.1)

pub people_in-back : (r : Content) → ArePeople r.people → people_in (document r) ≡ Ok r.people
unfolding people_in values_in
people_in-back r people =
    bind_step (people_behind [] (items_of (map person_table r.people))) r.people counted _ (people_back [] r.people people.each people.apart) (counted_back r.people people.count)
