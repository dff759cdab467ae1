-- No fault of bytes is out of memory.
use Rattle.std.proofs.Common.{◌≡◌, ◌≢◌, ℕ, zero, suc, Bool, true, false, List, length, Option, Some, None, Result, Ok, Err}
use Rattle.std.specs.Prelude.{◌==◌, ◌||◌, ◌&&◌, not, ⊤, nat_lt, nat_le, take, drop, if◌then◌else◌}
use Rattle.std.specs.List.{list_all}
use Rattle.std.specs.Int.{Width, w8, w16, w32, w64, byte_len}
use Rattle.srm_names.specs.declared.limits.TheConstants.{MEMBERS, DRAWOPS, LONGEST_BODY, LATEST_MOMENT}
use Rattle.srm_names.specs.declared.echo.Echo.{Echo}
use Rattle.srm_names.specs.FullName.{FullName}
use Rattle.srm_codec.specs.declared.format.TheConstants.{MAGIC}
use Rattle.srm_codec.specs.declared.datagram.Datagram.{Datagram}
use Rattle.srm_codec.specs.declared.datagram.Datagram.TheVariants.{Request, Session}
use Rattle.srm_codec.specs.declared.fault.DecodeFault.{DecodeFault}
use Rattle.srm_codec.specs.declared.fault.DecodeFault.TheVariants.{Short, Magic, Version, Kind, Member, Number, Length, Order, Flags, Source, Memory}
use Rattle.srm_codec.specs.declared.fault.DecodeFault.TheVariants as faults
use Rattle.srm_codec.specs.Spelling.{asked_by}
use Rattle.srm_codec.specs.Judging.{◌>>=◌, Read, check, nothing_after, is_kind, is_wanted, is_above, is_later_echo, prefix_at, number_at, judged, magic_at, version_at, kind_at, session_at, member_at, moment_at, page_at, source_at, any_stream_at, stream_at, number_in_stream_at, name_at, size_at, body_at, drawop_at, mask_at, flag_at, echo_member_at, echo_at, items_at, list_at, only_drawop, data_of, request_of, packed_of, repair_of, session_of, contents_of, judge}

abbrev HasNone : {A : Type 0} → Result A DecodeFault → Type 0
HasNone (Ok x) = ⊤
HasNone (Err fault) = fault ≢ Memory

bind : {A B : Type 0} (r : Result A DecodeFault) (f : A → Result B DecodeFault) → HasNone r → ((x : A) → HasNone (f x)) → HasNone (r >>= f)
bind (Ok x) f n m = m x
bind (Err e) f n m = n

tested : {A : Type 0} (good : Bool) (fault : DecodeFault) (x : A) → fault ≢ Memory → HasNone (check good fault x)
tested true fault x n = tt
tested false fault x n = n

prefix : (n : ℕ) (bytes : List ℕ) → HasNone (prefix_at n bytes)
unfolding prefix_at
prefix n bytes = at (nat_lt (length bytes) n)
  where
    at : (short : Bool) → HasNone {A = List ℕ × List ℕ} (if short then Err Short else Ok (take n bytes, drop n bytes))
    at true = λ e. absurd cc
    at false = tt

number : (w : Width) (bytes : List ℕ) → HasNone (number_at w bytes)
number w bytes = bind (prefix_at (byte_len w) bytes) _ (prefix (byte_len w) bytes) (λ x. tt)

value : (w : Width) (good : ℕ → Bool) (fault : DecodeFault) (bytes : List ℕ) → fault ≢ Memory → HasNone (judged w good fault bytes)
value w good fault bytes n = bind (number_at w bytes) _ (number w bytes) (λ x. tested (good x.0) fault x n)

member : (bytes : List ℕ) → HasNone (member_at bytes)
unfolding member_at
member bytes = value w8 (λ n. nat_lt n MEMBERS) Member bytes (λ e. absurd cc)

moment : (bytes : List ℕ) → HasNone (moment_at bytes)
unfolding moment_at
moment bytes = value w64 (λ n. nat_le n LATEST_MOMENT) Number bytes (λ e. absurd cc)

page : (bytes : List ℕ) → HasNone (page_at bytes)
unfolding page_at
page bytes = bind (member_at bytes) _ (member bytes) (λ creator. bind (number_at w16 creator.1) _ (number w16 creator.1) (λ x. tt))

source : (wanted : Option ℕ) (bytes : List ℕ) → HasNone (source_at wanted bytes)
unfolding source_at
source wanted bytes = bind (member_at bytes) _ (member bytes) (λ x. tested (is_wanted wanted x.0) Source x (λ e. absurd cc))

any_stream : (wanted : Option ℕ) (bytes : List ℕ) → HasNone (any_stream_at wanted bytes)
unfolding any_stream_at
any_stream wanted bytes = bind (source_at wanted bytes) _ (source wanted bytes) (λ s. bind (page_at s.1) _ (page s.1) (λ x. tt))

stream : (wanted : Option ℕ) (last : Option FullName) (bytes : List ℕ) → HasNone (stream_at wanted last bytes)
unfolding stream_at
stream wanted last bytes = bind (any_stream_at wanted bytes) _ (any_stream wanted bytes) (λ x. tested (is_above last x.0) Order x (λ e. absurd cc))

number_in_stream : (bytes : List ℕ) → HasNone (number_in_stream_at bytes)
unfolding number_in_stream_at
number_in_stream bytes = value w32 (λ n. nat_le 1 n && nat_le n DRAWOPS) Number bytes (λ e. absurd cc)

name : (wanted : Option ℕ) (last : Option FullName) (bytes : List ℕ) → HasNone (name_at wanted last bytes)
unfolding name_at
name wanted last bytes = bind (stream_at wanted last bytes) _ (stream wanted last bytes) (λ s. bind (number_in_stream_at s.1) _ (number_in_stream s.1) (λ x. tt))

size : (bytes : List ℕ) → HasNone (size_at bytes)
unfolding size_at
size bytes = value w16 (λ n. nat_le n LONGEST_BODY) Length bytes (λ e. absurd cc)

body : (bytes : List ℕ) → HasNone (body_at bytes)
unfolding body_at
body bytes = bind (size_at bytes) _ (size bytes) (λ s. prefix s.0 s.1)

drawop : (wanted : Option ℕ) (bytes : List ℕ) → HasNone (drawop_at wanted bytes)
unfolding drawop_at
drawop wanted bytes = bind (name_at wanted None bytes) _ (name wanted None bytes) (λ n. bind (moment_at n.1) _ (moment n.1) (λ s. bind (body_at s.1) _ (body s.1) (λ x. tt)))

end : {A : Type 0} (read : A × List ℕ) → HasNone (nothing_after read)
end read = tested (length read.1 == 0) Length read.0 (λ e. absurd cc)

mask : (n : FullName) (bytes : List ℕ) → HasNone (mask_at n bytes)
unfolding mask_at
mask n bytes = value w32 (λ mask. not (mask == 0) && list_all (λ m. nat_le m.number DRAWOPS) (asked_by n mask)) Number bytes (λ e. absurd cc)

flag : (bytes : List ℕ) → HasNone (flag_at bytes)
unfolding flag_at
flag bytes = bind (judged w8 (λ n. nat_le n 1) Flags bytes) _ (value w8 (λ n. nat_le n 1) Flags bytes (λ e. absurd cc)) (λ x. tt)

echo_member : (last : Option Echo) (bytes : List ℕ) → HasNone (echo_member_at last bytes)
unfolding echo_member_at
echo_member last bytes = bind (member_at bytes) _ (member bytes) (λ x. tested (is_later_echo last x.0) Order x (λ e. absurd cc))

echo : (last : Option Echo) (bytes : List ℕ) → HasNone (echo_at last bytes)
unfolding echo_at
echo last bytes = bind (echo_member_at last bytes) _ (echo_member last bytes) (λ m. bind (moment_at m.1) _ (moment m.1) (λ t. bind (moment_at t.1) _ (moment t.1) (λ x. tt)))

items : {X : Type 0} (item : Option X → List ℕ → Read X) → ((last : Option X) (bytes : List ℕ) → HasNone (item last bytes)) → (n : ℕ) (last : Option X) (bytes : List ℕ) → HasNone (items_at item n last bytes)
unfolding items_at
items item each zero last bytes = tt
items item each (suc n) last bytes = bind (item last bytes) _ (each last bytes) (λ x. bind (items_at item n (Some x.0) x.1) _ (items item each n (Some x.0) x.1) (λ xs. tt))

list : {X : Type 0} (item : Option X → List ℕ → Read X) → ((last : Option X) (bytes : List ℕ) → HasNone (item last bytes)) → (bytes : List ℕ) → HasNone (list_at item bytes)
unfolding list_at
list item each bytes = bind (number_at w8 bytes) _ (number w8 bytes) (λ count. items item each count.0 None count.1)

drawop_alone : (wanted : Option ℕ) (bytes : List ℕ) → HasNone (only_drawop wanted bytes)
unfolding only_drawop
drawop_alone wanted bytes = bind (drawop_at wanted bytes) _ (drawop wanted bytes) (λ x. end x)

data_has : (sender : ℕ) (bytes : List ℕ) → HasNone (data_of sender bytes)
unfolding data_of
data_has sender bytes = bind (only_drawop (Some sender) bytes) _ (drawop_alone (Some sender) bytes) (λ x. tt)

request_has : (sender : ℕ) (bytes : List ℕ) → HasNone (request_of sender bytes)
unfolding request_of
request_has sender bytes = bind (name_at None None bytes) _ (name None None bytes) (λ n. end {A = Datagram} (Request sender n.0 0, n.1))

packed_has : (sender : ℕ) (bytes : List ℕ) → HasNone (packed_of sender bytes)
unfolding packed_of
packed_has sender bytes = bind (name_at None None bytes) _ (name None None bytes) (λ n. bind (mask_at n.0 n.1) _ (mask n.0 n.1) (λ m. end {A = Datagram} (Request sender n.0 m.0, m.1)))

repair_has : (sender : ℕ) (bytes : List ℕ) → HasNone (repair_of sender bytes)
unfolding repair_of
repair_has sender bytes = bind (only_drawop None bytes) _ (drawop_alone None bytes) (λ x. tt)

session_has : (sender : ℕ) (bytes : List ℕ) → HasNone (session_of sender bytes)
unfolding session_of
session_has sender bytes =
    bind (moment_at bytes) _ (moment bytes) (λ sent. bind (flag_at sent.1) _ (flag sent.1) (λ farewell. bind (page_at farewell.1) _ (page farewell.1) (λ shown.
    let wanted = if farewell.0 then Some sender else None in
    bind (list_at (name_at wanted) shown.1) _ (list (name_at wanted) (name wanted) shown.1) (λ rows. bind (list_at echo_at rows.1) _ (list echo_at echo rows.1) (λ echoes. end {A = Datagram} (Session sender sent.0 farewell.0 shown.0 rows.0 echoes.0, echoes.1))))))

contents_have : (version kind sender : ℕ) (bytes : List ℕ) → HasNone (contents_of version kind sender bytes)
unfolding contents_of
contents_have version kind sender bytes = of_kind (kind == 1) (kind == 2) (version == 1) (kind == 3)
  where
    of_kind : (first second plain third : Bool) → HasNone (if first then data_of sender bytes else if second then (if plain then request_of sender bytes else packed_of sender bytes) else if third then repair_of sender bytes else session_of sender bytes)
    of_kind true second plain third = data_has sender bytes
    of_kind false true true third = request_has sender bytes
    of_kind false true false third = packed_has sender bytes
    of_kind false false plain true = repair_has sender bytes
    of_kind false false plain false = session_has sender bytes

has_none : (session : ℕ) (bytes : List ℕ) → HasNone (judge session bytes)
unfolding judge magic_at version_at kind_at session_at
has_none session bytes =
    bind (magic_at bytes) _ (value w16 (λ n. n == MAGIC) Magic bytes (λ e. absurd cc)) (λ magic. bind (version_at magic.1) _ (value w8 (λ n. (n == 1) || (n == 2)) Version magic.1 (λ e. absurd cc)) (λ version.
    bind (kind_at version.0 version.1) _ (value w8 (is_kind version.0) Kind version.1 (λ e. absurd cc)) (λ kind. bind (session_at session kind.1) _ (value w32 (λ n. n == session) faults.Session kind.1 (λ e. absurd cc)) (λ number.
    bind (member_at number.1) _ (member number.1) (λ sender. contents_have version.0 kind.0 sender.0 sender.1)))))

pub never_memory : (session : ℕ) (bytes : List ℕ) → judge session bytes ≢ Err Memory
never_memory session bytes e = at (judge session bytes) (has_none session bytes) e
  where
    at : (r : Result Datagram DecodeFault) → HasNone r → r ≡ Err Memory → ⊥
    at (Ok g) n e = absurd cc
    at (Err fault) n e = n cc
