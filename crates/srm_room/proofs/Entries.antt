-- The map of a table with one more key, and how deep a room's document is.
use Rattle.std.proofs.Common.{◌≡◌, ℕ, ◌≤◌, max, List, [], ◌∷◌, map, String, Global, Ordering, Less, Equal, Greater, string_bytes, string_cmp, refl, ap, ◌∙◌, arith}
use Rattle.std.specs.BTreeMap.{insert_entry}
use Rattle.std.specs.Ordering.{match_ordering}
use Rattle.toml.specs.Data.{Members, member, members_depth, items_depth}
use Rattle.toml.specs.View.{view, members_view, items_of}
use Rattle.toml.specs.declared.value.Value.{Value}
use Rattle.srm_room.specs.Documents.{document, person_table}
use Rattle.srm_room.specs.Putting.{put}
use Rattle.srm_room.specs.Readings.{size}
use Rattle.srm_room.specs.Rooms.{Person, Content}
use Rattle.std.proofs.Common.{length}

abbrev Entry : Type 0
Entry = String Global × Value

view-match_ordering : (o : Ordering) (a b c : List Entry) → members_view (match_ordering o a b c) ≡ match_ordering o (members_view a) (members_view b) (members_view c)
view-match_ordering Less a b c = refl
view-match_ordering Equal a b c = refl
view-match_ordering Greater a b c = refl

pub view-insert_entry : (es : List Entry) (k : String Global) (v : Value) → members_view (insert_entry string_cmp es k v) ≡ put (string_bytes k) (view v) (members_view es)
view-insert_entry [] k v = refl
view-insert_entry (e ∷ es) k v = view-match_ordering (string_cmp k e.0) _ _ _ ∙ rw (view-insert_entry es k v)

pub put_entry : (es : List Entry) (k : String Global) (name : List ℕ) (v : Value) → string_bytes k ≡ name
    → members_view (insert_entry string_cmp es k v) ≡ put name (view v) (members_view es)
put_entry es k name v e = view-insert_entry es k v ∙ ap (λ n. put n (view v) (members_view es)) e

-- a table has as many keys as its map has entries
pub keys_count : (es : List Entry) → size (members_view es) ≡ length es
keys_count [] = refl
keys_count (e ∷ es) = rw (keys_count es)

people_depth : (ps : List Person) → items_depth (items_of (map person_table ps)) ≤ 1
people_depth [] = omega arith
people_depth (p ∷ ps) = let e = people_depth ps in omega (arith, e)

-- a room's document is three tables deep
pub document_depth : (r : Content) → members_depth (document r) ≤ 80
document_depth r = let e = people_depth r.people in omega (arith, e)
