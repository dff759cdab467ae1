-- A drawop for which there is room is held.
use Rattle.std.proofs.Common.{◌≡◌, true, [], ◌∷◌, ap}
use Rattle.std.specs.Prelude.{◌||◌, false, Result, Ok, Err, IsOk, OnOk}
use Rattle.srm_names.specs.FullName.{FullName}
use Rattle.srm_names.proofs.Same.{same_page-itself, same_name-itself}
use Rattle.srm_store.specs.Stores.{StoreContent, HavePlaces}
use Rattle.srm_store.specs.PageTables.{is_in}
use Rattle.srm_store.specs.Tables.{HasPlaceFor}

pub ok_then : {X E P : Type 0} (r : Result X E) → IsOk r → OnOk r P → P
ok_then (Ok x) ok p = p
ok_then (Err e) ok p = absurd (cc)

pub on_page : (n : FullName) → is_in (n.stream.page ∷ []) n.stream.page ≡ true
on_page n = ap (λ b. b || false) (same_page-itself n.stream.page)

pub has_place : (n : FullName) (s : StoreContent) → HavePlaces (n ∷ []) s → HasPlaceFor n s.table
has_place n s r = r.each n (ap (λ b. b || false) (same_name-itself n))
