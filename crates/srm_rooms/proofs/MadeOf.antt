-- A document that says a room says what it was made of.
use Rattle.std.proofs.Common.{◌≡◌, ℕ, Bool, true, false, cond, List, [], ◌∷◌, ◌++◌, length, map, not, Result, Ok, Err, refl, sym, ap, subst, ◌∙◌, append_assoc}
use Rattle.std.specs.Prelude.{IfOk, nat_le, nat_lt, ◌&&◌, ◌==◌}
use Rattle.std.proofs.lemmas.List.{append-nil}
use Rattle.hex.specs.Hex.{IsBytes}
use Rattle.hex.proofs.HexLemmas.{decode_of-encode_lower}
use Rattle.toml.specs.View.{items_of}
use Rattle.srm_names.specs.declared.limits.TheConstants.{MEMBERS}
use Rattle.srm_room.specs.declared.fault.Fault.{Fault}
use Rattle.srm_room.specs.declared.field.Field.{Field}
use Rattle.srm_room.specs.declared.field.Field.TheVariants as field
use Rattle.srm_room.specs.declared.field.Place.{Place}
use Rattle.srm_room.specs.declared.field.Place.TheVariants as place
use Rattle.srm_room.specs.declared.room_settings.RoomSettings.{RoomSettings}
use Rattle.srm_room.specs.declared.room_settings.TheConstants.{GREATEST_WAIT}
use Rattle.srm_room.specs.Documents.{document, number, person_table, settings_members}
use Rattle.srm_room.specs.Readings.{◌>>=◌, counted, key_in, key_of_digits, number_in, number_of, people_behind, people_in, person_at, person_in, room_in, setting_in, settings_at, settings_in, values_in, wait_of, waits_in}
use Rattle.srm_room.specs.Rooms.{Content, IsRoom, Person, has_address, has_name, is_address, is_name}
use Rattle.srm_rooms.specs.Made.{IsMadeOf}

-- a step says this value, or none
record Says {A : Type 0} (r : Result A Fault) (x : A) : Type 0 where
  only : IfOk r (λ y. y ≡ x)

says : {A : Type 0} (x : A) → Says (Ok x) x
says x = record { only = refl }

-- two steps
says_then : {A B : Type 0} (r : Result A Fault) (x : A) (f : A → Result B Fault) (y : B) → Says r x → Says (f x) y → Says (r >>= f) y
says_then (Ok z) x f y one other = subst (λ z. Says (f z) y) (sym one.only) other
says_then (Err e) x f y one other = record { only = tt }

-- a test that is passed, and one that isn't
passed : {A : Type 0} (b : Bool) (x : A) (e : Fault) → Says (cond b (Ok x) (Err e)) x
passed true x e = says x
passed false x e = record { only = tt }

unless : {A : Type 0} (b : Bool) (e : Fault) (r : Result A Fault) (x : A) → Says r x → Says (cond b (Err e) r) x
unless true e r x other = record { only = tt }
unless false e r x other = other

number_says : (p : Place) (f : Field) (least greatest n : ℕ) → Says (number_of p f least greatest (number n)) n
number_says p f least greatest n = passed (nat_le least n && nat_le n greatest) n _

key_says : (r : Content) → IsBytes r.key → Says (key_in (document r)) r.key
unfolding key_in
key_says r bytes =
    subst (λ digits. Says (key_of_digits digits) r.key) (sym (decode_of-encode_lower r.key bytes)) (passed (nat_le 16 (length r.key) && nat_le (length r.key) 1024) r.key _)

person_says : (before : List Person) (p : Person) → Says (person_at before (person_table p)) p
unfolding person_in
person_says before p =
    unless (not (is_name p.name)) _ _ p
    (unless (not (is_address p.address)) _ _ p
    (unless (has_name before p.name) _ _ p
    (unless (has_address before p.address) _ _ p (says p))))

people_say : (before ps : List Person) → Says (people_behind before (items_of (map person_table ps))) (before ++ ps)
people_say before [] = record { only = sym (append-nil before) }
people_say before (p ∷ ps) =
    says_then (person_at before (person_table p)) p (λ q. people_behind (before ++ q ∷ []) (items_of (map person_table ps))) (before ++ p ∷ ps)
    (person_says before p)
    (subst (λ all. Says (people_behind (before ++ p ∷ []) (items_of (map person_table ps))) all) (append_assoc before (p ∷ []) ps) (people_say (before ++ p ∷ []) ps))

counted_say : (ps : List Person) → Says (counted ps) ps
counted_say ps = unless (length ps == 0) _ _ ps (unless (nat_lt MEMBERS (length ps)) _ _ ps (says ps))

people_in_say : (r : Content) → Says (people_in (document r)) r.people
unfolding people_in values_in
people_in_say r = says_then (people_behind [] (items_of (map person_table r.people))) r.people counted r.people (people_say [] r.people) (counted_say r.people)

wait_says : (n : ℕ) → Says (wait_of (number n)) n
wait_says n = number_says place.Settings field.Waits 0 GREATEST_WAIT n

waits_say : (s : RoomSettings) → Says (waits_in (settings_members s)) (record { c1 = s.c1; c2 = s.c2; d1 = s.d1; d2 = s.d2 })
unfolding waits_in
waits_say s =
    says_then (wait_of (number s.c1)) s.c1 _ _ (wait_says s.c1)
    (says_then (wait_of (number s.c2)) s.c2 _ _ (wait_says s.c2)
    (says_then (wait_of (number s.d1)) s.d1 _ _ (wait_says s.d1)
    (says_then (wait_of (number s.d2)) s.d2 _ _ (wait_says s.d2) (says _))))

setting_says : (f : Field) (least greatest n : ℕ) → Says (number_of place.Settings f least greatest (number n)) n
setting_says f least greatest n = number_says place.Settings f least greatest n

settings_say : (s : RoomSettings) → Says (settings_in (settings_members s)) s
unfolding settings_in
settings_say s =
    let ms = settings_members s in
    says_then (waits_in ms) _ _ _ (waits_say s)
    (says_then (setting_in field.LeastDistance 1 10000000 ms) s.least_distance _ _ (setting_says field.LeastDistance 1 10000000 s.least_distance)
    (says_then (setting_in field.Rate 1 100000000 ms) s.rate _ _ (setting_says field.Rate 1 100000000 s.rate)
    (says_then (setting_in field.Depth 1051 1000000 ms) s.depth _ _ (setting_says field.Depth 1051 1000000 s.depth)
    (says_then (setting_in field.Linger 0 30000000 ms) s.linger _ _ (setting_says field.Linger 0 30000000 s.linger)
    (says_then (setting_in field.MostMissing 1 16777216 ms) s.most_missing _ _ (setting_says field.MostMissing 1 16777216 s.most_missing) (says s))))))

-- a room's document says no other room
document_says : (r : Content) → IsBytes r.key → Says (room_in (document r)) r
unfolding room_in
document_says r bytes =
    let ms = document r in
    says_then (number_in place.Top field.Session 0 4294967295 ms) r.session _ _ (number_says place.Top field.Session 0 4294967295 r.session)
    (says_then (key_in ms) r.key _ _ (key_says r bytes)
    (says_then (people_in ms) r.people _ _ (people_in_say r)
    (says_then (settings_at ms) r.settings _ _ (settings_say r.settings) (says r))))

only_room : (read : Result Content Fault) (r room : Content) → Says read r → read ≡ Ok room → room ≡ r
only_room (Ok x) r room said is = let same : x ≡ r = said.only in cc
only_room (Err e) r room said is = cc

-- a room that was made of these has these
pub made : (session : ℕ) (key : List ℕ) (ps : List Person) (settings : RoomSettings) (room : Content) → IsBytes key → length key ≡ 32 → IsRoom room
    → room_in (document (record { session = session; key = key; people = ps; settings = settings })) ≡ Ok room → IsMadeOf ps room
made session key ps settings room bytes long is read =
    let r : Content = record { session = session; key = key; people = ps; settings = settings } in
    let same : room ≡ r = only_room (room_in (document r)) r room (document_says r bytes) read in
    record { is_room = is; people = ap (λ (s : Content). s.people) same; key_length = ap (λ (s : Content). length s.key) same ∙ long }
