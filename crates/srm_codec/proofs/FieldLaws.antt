-- Each field is read as it is written.
use Rattle.std.proofs.Common.{◌≡◌, ℕ, zero, suc, ◌^◌, ◌<◌, ◌≤◌, Bool, true, false, cond, List, [], ◌∷◌, ◌++◌, length, get_or, take, drop, Ok, Err, Option, None, refl, sym, ap, subst, ◌∙◌, append_assoc, arith}
use Rattle.std.specs.Prelude.{◌==◌, nat_lt, nat_le, not, ◌&&◌}
use Rattle.std.specs.List.{list_all}
use Rattle.std.specs.Int.{Width, w8, w16, w32, w64, byte_len, from_be_bytes, to_be_bytes}
use Rattle.std.proofs.lemmas.Bool.{ltb-false, le-ltb, not-true, and_parts, and_from}
use Rattle.std.proofs.lemmas.Bool.Decides.{nat_tests}
use Rattle.std.proofs.lemmas.List.{take_at, drop_at, take-append-drop, length-append, length-take}
use Rattle.std.proofs.lemmas.Nat.{be_bytes_2, be_bytes_4, be_bytes_8, from_be_bytes-to_be_bytes_2, from_be_bytes-to_be_bytes_4, from_be_bytes-to_be_bytes_8}
use Rattle.srm_names.specs.declared.limits.TheConstants.{MEMBERS, PAGE_NUMBERS, DRAWOPS, LONGEST_BODY, LATEST_MOMENT}
use Rattle.srm_names.specs.declared.page.Page.{Page}
use Rattle.srm_names.specs.declared.stream.Stream.{Stream}
use Rattle.srm_names.specs.declared.drawop.Drawop.{Drawop}
use Rattle.srm_names.specs.declared.echo.Echo.{Echo}
use Rattle.srm_names.specs.FullName.{FullName}
use Rattle.srm_names.specs.Names.{stream_on}
use Rattle.srm_codec.specs.declared.fault.DecodeFault.{DecodeFault}
use Rattle.srm_codec.specs.declared.fault.DecodeFault.TheVariants.{Short, Member, Number, Order, Source, Flags}
use Rattle.srm_codec.specs.declared.fault.DecodeFault.TheVariants as faults
use Rattle.srm_codec.specs.Spelling.{asked_by, is_page, is_name, is_drawop, is_echo, flag, page_bytes, name_bytes, drawop_bytes, echo_bytes}
use Rattle.srm_codec.specs.Judging.{◌>>=◌, Read, prefix_at, number_at, judged, member_at, moment_at, page_at, is_wanted, source_at, is_above, any_stream_at, stream_at, number_in_stream_at, name_at, size_at, body_at, drawop_at, mask_at, flag_at, is_later_echo, echo_member_at, echo_at}
use Rattle.srm_codec.proofs.Readers.{IsBytes, IsBytes-drop, IsBytes-take, bind_ok, ok_is, Takes, Takes-then, Reads, renamed, checked, joined, three, respelled}

-- ---- numbers

-- the bytes of a number of this width
pub record IsWide (w : Width) (limit : ℕ) (write : ℕ → List ℕ) : Type 0 where
  pub len : (n : ℕ) → length (write n) ≡ byte_len w
  pub back : (bytes : List ℕ) → length bytes ≡ byte_len w → IsBytes bytes → write (from_be_bytes w bytes) ≡ bytes
  pub again : (n : ℕ) → n < limit → from_be_bytes w (write n) ≡ n
  pub below : (bytes : List ℕ) → IsBytes bytes → from_be_bytes w bytes < limit

abbrev pub one_byte : ℕ → List ℕ
one_byte n = n ∷ []

single : (bytes : List ℕ) → length bytes ≡ 1 → get_or bytes 0 0 ∷ [] ≡ bytes
single [] e = absurd (omega arith)
single (b ∷ []) e = refl
single (b ∷ c ∷ bytes) e = absurd (omega arith)

pub wide8 : IsWide w8 256 one_byte
wide8 = record {
  len = λ n. refl;
  back = λ bytes len fits. single bytes len;
  again = λ n lt. refl;
  below = λ bytes fits. fits 0;
}

pub wide16 : IsWide w16 (2 ^ 16) (to_be_bytes w16)
wide16 = record {
  len = λ n. refl;
  back = λ bytes len fits. be_bytes_2 bytes _ len fits refl;
  again = λ n lt. from_be_bytes-to_be_bytes_2 n lt;
  below = λ bytes fits. omega (arith, fits 0, fits 1);
}

pub wide32 : IsWide w32 (2 ^ 32) (to_be_bytes w32)
wide32 = record {
  len = λ n. refl;
  back = λ bytes len fits. be_bytes_4 bytes _ len fits refl;
  again = λ n lt. from_be_bytes-to_be_bytes_4 n lt;
  below = λ bytes fits. omega (arith, fits 0, fits 1, fits 2, fits 3);
}

pub wide64 : IsWide w64 (2 ^ 64) (to_be_bytes w64)
wide64 = record {
  len = λ n. refl;
  back = λ bytes len fits. be_bytes_8 bytes _ len fits refl;
  again = λ n lt. from_be_bytes-to_be_bytes_8 n lt;
  below = λ bytes fits. omega (arith, fits 0, fits 1, fits 2, fits 3, fits 4, fits 5, fits 6, fits 7);
}

-- this many bytes
short : {A : Type 0} (b : Bool) (x y : A) → cond b (Err Short) (Ok x) ≡ Ok y → (b ≡ false) × (x ≡ y)
short true x y e = absurd cc
short false x y e = (refl, cc)

pub prefix_takes : (n : ℕ) (bytes prefix rest : List ℕ) → IsBytes bytes → prefix_at n bytes ≡ Ok (prefix, rest) → Takes bytes prefix rest × ((length prefix ≡ n) × IsBytes prefix)
unfolding prefix_at
prefix_takes n bytes prefix rest fits e =
    let g = short (nat_lt (length bytes) n) (take n bytes, drop n bytes) (prefix, rest) e in
    let long : n ≤ length bytes = ltb-false _ _ g.0 in
    let made : Takes bytes (take n bytes) (drop n bytes) × ((length (take n bytes) ≡ n) × IsBytes (take n bytes)) =
    (record { parts = sym (take-append-drop n bytes); rest_fits = IsBytes-drop n bytes fits }, (omega (arith, length-take n bytes), IsBytes-take n bytes fits)) in
    subst (λ (p : List ℕ × List ℕ). Takes bytes p.0 p.1 × ((length p.0 ≡ n) × IsBytes p.0)) g.1 made

pub prefix_again : (n : ℕ) (prefix rest : List ℕ) → length prefix ≡ n → prefix_at n (prefix ++ rest) ≡ Ok (prefix, rest)
unfolding prefix_at
prefix_again n prefix rest len =
    let long : nat_lt (length (prefix ++ rest)) n ≡ false = le-ltb _ _ (omega (arith, length-append prefix rest)) in
    rw (long, take_at prefix rest n len, drop_at prefix rest n len) refl

pub number_reads : (w : Width) (limit : ℕ) (write : ℕ → List ℕ) → IsWide w limit write → Reads (number_at w) write (λ n. n < limit)
number_reads w limit write wide = record { takes = taking; again = reading }
  where
    taking : (bytes : List ℕ) (n : ℕ) (rest : List ℕ) → IsBytes bytes → number_at w bytes ≡ Ok (n, rest) → Takes bytes (write n) rest × (n < limit)
    taking bytes n rest fits e =
        let a = bind_ok (prefix_at (byte_len w) bytes) (λ prefix. Ok (from_be_bytes w prefix.0, prefix.1)) (n, rest) e in
        let t = prefix_takes (byte_len w) bytes a.0.0 a.0.1 fits a.1 in
        let made : Takes bytes (write (from_be_bytes w a.0.0)) a.0.1 × (from_be_bytes w a.0.0 < limit) =
        (subst (λ (text : List ℕ). Takes bytes text a.0.1) (sym (wide.back a.0.0 t.1.0 t.1.1)) t.0, wide.below a.0.0 t.1.1) in
        subst (λ (p : ℕ × List ℕ). Takes bytes (write p.0) p.1 × (p.0 < limit)) (ok_is (from_be_bytes w a.0.0, a.0.1) (n, rest) a.2) made

    reading : (n : ℕ) (rest : List ℕ) → n < limit → number_at w (write n ++ rest) ≡ Ok (n, rest)
    reading n rest lt =
        ap (λ (read : Read (List ℕ)). read >>= λ prefix. Ok (from_be_bytes w prefix.0, prefix.1)) (prefix_again (byte_len w) (write n) rest (wide.len n))
        ∙ ap (λ m. Ok (m, rest)) (wide.again n lt)

-- a number that passes a test, and what the test says
tested : (w : Width) (limit : ℕ) (write : ℕ → List ℕ) (good : ℕ → Bool) (fault : DecodeFault) (G : ℕ → Type 0) → IsWide w limit write
    → ((n : ℕ) → n < limit → good n ≡ true → G n) → ((n : ℕ) → G n → (n < limit) × (good n ≡ true)) → Reads (judged w good fault) write G
tested w limit write good fault G wide there back =
    renamed (judged w good fault) write (λ n. (n < limit) × (good n ≡ true)) G (λ n f. there n f.0 f.1) back
    (checked (number_at w) write (λ n. n < limit) good fault (number_reads w limit write wide))

pub member_reads : Reads member_at one_byte (λ n. n < MEMBERS)
unfolding member_at
member_reads = tested w8 256 one_byte (λ n. nat_lt n MEMBERS) Member (λ n. n < MEMBERS) wide8 (λ n lt good. grind (arith, nat_tests)) (λ n lt. (omega arith, grind (arith, nat_tests)))

pub moment_reads : Reads moment_at (to_be_bytes w64) (λ n. n ≤ LATEST_MOMENT)
unfolding moment_at
moment_reads = tested w64 (2 ^ 64) (to_be_bytes w64) (λ n. nat_le n LATEST_MOMENT) Number (λ n. n ≤ LATEST_MOMENT) wide64 (λ n lt good. grind (arith, nat_tests)) (λ n le. (omega arith, grind (arith, nat_tests)))

pub size_reads : Reads size_at (to_be_bytes w16) (λ n. n ≤ LONGEST_BODY)
unfolding size_at
size_reads = tested w16 (2 ^ 16) (to_be_bytes w16) (λ n. nat_le n LONGEST_BODY) faults.Length (λ n. n ≤ LONGEST_BODY) wide16 (λ n lt good. grind (arith, nat_tests)) (λ n le. (omega arith, grind (arith, nat_tests)))

pub number_in_stream_reads : Reads number_in_stream_at (to_be_bytes w32) (λ n. (1 ≤ n) × (n ≤ DRAWOPS))
unfolding number_in_stream_at
number_in_stream_reads =
    tested w32 (2 ^ 32) (to_be_bytes w32) (λ n. nat_le 1 n && nat_le n DRAWOPS) Number (λ n. (1 ≤ n) × (n ≤ DRAWOPS)) wide32
    (λ n lt good. (let k = and_parts (nat_le 1 n) (nat_le n DRAWOPS) good in (grind (arith, nat_tests), grind (arith, nat_tests))))
    (λ n h. (omega arith, and_from (nat_le 1 n) (nat_le n DRAWOPS) (grind (arith, nat_tests)) (grind (arith, nat_tests))))

-- ---- names

abbrev page_of : ℕ → ℕ → Page
page_of creator number = record { creator = creator; number = number }

abbrev name_of : Stream → ℕ → FullName
name_of stream number = record { stream = stream; number = number }

pub page_reads : Reads page_at page_bytes is_page
unfolding page_at page_bytes
page_reads = joined member_at one_byte (λ n. n < MEMBERS) (λ _. number_at w16) (λ _. to_be_bytes w16) (λ _ n. n < PAGE_NUMBERS) page_of (λ p. p.creator) (λ p. p.number)
    (record { whole = λ p. refl; first_of = λ a b. refl; second_of = λ a b. refl }) member_reads (λ _ _. number_reads w16 PAGE_NUMBERS (to_be_bytes w16) wide16)

abbrev pub is_source : Option ℕ → ℕ → Type 0
is_source wanted n = (n < MEMBERS) × (is_wanted wanted n ≡ true)

source_reads : (wanted : Option ℕ) → Reads (source_at wanted) one_byte (is_source wanted)
unfolding source_at
source_reads wanted = checked member_at one_byte (λ n. n < MEMBERS) (is_wanted wanted) Source member_reads

abbrev stream_bytes : Stream → List ℕ
stream_bytes s = s.source ∷ page_bytes s.page

any_stream_reads : (wanted : Option ℕ) → Reads (any_stream_at wanted) stream_bytes (λ s. is_source wanted s.source × is_page s.page)
unfolding any_stream_at
any_stream_reads wanted = joined (source_at wanted) one_byte (is_source wanted) (λ _. page_at) (λ _. page_bytes) (λ _. is_page) stream_on (λ s. s.source) (λ s. s.page)
    (record { whole = λ s. refl; first_of = λ a b. refl; second_of = λ a b. refl }) (source_reads wanted) (λ _ _. page_reads)

stream_reads : (wanted : Option ℕ) (last : Option FullName) → Reads (stream_at wanted last) stream_bytes (λ s. (is_source wanted s.source × is_page s.page) × (is_above last s ≡ true))
unfolding stream_at
stream_reads wanted last = checked (any_stream_at wanted) stream_bytes (λ s. is_source wanted s.source × is_page s.page) (is_above last) Order (any_stream_reads wanted)

-- a name that is read where this source is wanted and this row is the last
pub record IsNext (wanted : Option ℕ) (last : Option FullName) (name : FullName) : Type 0 where
  pub named : is_name name
  pub from : is_wanted wanted name.stream.source ≡ true
  pub above : is_above last name.stream ≡ true

pub name_reads : (wanted : Option ℕ) (last : Option FullName) → Reads (name_at wanted last) name_bytes (IsNext wanted last)
unfolding name_at name_bytes
name_reads wanted last =
    renamed (name_at wanted last) name_bytes (λ n. ((is_source wanted n.stream.source × is_page n.stream.page) × (is_above last n.stream ≡ true)) × ((1 ≤ n.number) × (n.number ≤ DRAWOPS))) (IsNext wanted last)
    (λ n h. record { named = (h.0.0.0.0, h.0.0.1, h.1.0, h.1.1); from = h.0.0.0.1; above = h.0.1 })
    (λ n h. ((((h.named.0, h.from), h.named.1), h.above), (h.named.2, h.named.3)))
    (joined (stream_at wanted last) stream_bytes (λ s. (is_source wanted s.source × is_page s.page) × (is_above last s ≡ true)) (λ _. number_in_stream_at) (λ _. to_be_bytes w32) (λ _ n. (1 ≤ n) × (n ≤ DRAWOPS)) name_of (λ n. n.stream) (λ n. n.number)
    (record { whole = λ n. refl; first_of = λ a b. refl; second_of = λ a b. refl }) (stream_reads wanted last) (λ _ _. number_in_stream_reads))

-- ---- drawops and echoes

body_bytes : List ℕ → List ℕ
body_bytes body = to_be_bytes w16 (length body) ++ body

body_reads : Reads body_at body_bytes (λ body. length body ≤ LONGEST_BODY)
unfolding body_at body_bytes
body_reads = record { takes = taking; again = reading }
  where
    taking : (bytes body rest : List ℕ) → IsBytes bytes → body_at bytes ≡ Ok (body, rest) → Takes bytes (body_bytes body) rest × (length body ≤ LONGEST_BODY)
    taking bytes body rest fits e =
        let a = bind_ok (size_at bytes) (λ size. prefix_at size.0 size.1) (body, rest) e in
        let t = size_reads.takes bytes a.0.0 a.0.1 fits a.1 in
        let f = prefix_takes a.0.0 a.0.1 body rest t.0.rest_fits a.2 in
        (Takes-then bytes (to_be_bytes w16 (length body)) a.0.1 body rest (subst (λ (n : ℕ). Takes bytes (to_be_bytes w16 n) a.0.1) (sym f.1.0) t.0) f.0, omega (arith, t.1, f.1.0))

    reading : (body rest : List ℕ) → length body ≤ LONGEST_BODY → body_at (body_bytes body ++ rest) ≡ Ok (body, rest)
    reading body rest le =
        ap (λ (bytes : List ℕ). size_at bytes >>= λ size. prefix_at size.0 size.1) (append_assoc (to_be_bytes w16 (length body)) body rest)
        ∙ ap (λ (read : Read ℕ). read >>= λ size. prefix_at size.0 size.1) (size_reads.again (length body) (body ++ rest) le)
        ∙ prefix_again (length body) body rest refl

abbrev drawop_of : FullName → ℕ → List ℕ → Drawop
drawop_of name stamp body = record { name = name; stamp = stamp; body = body }

-- a drawop whose source, where one is wanted, is that one
pub record IsWanted (wanted : Option ℕ) (drawop : Drawop) : Type 0 where
  pub fits : is_drawop drawop
  pub from : is_wanted wanted drawop.name.stream.source ≡ true

four : (a b c d : List ℕ) → a ++ (b ++ (c ++ d)) ≡ a ++ b ++ c ++ d
four a b c d = sym (append_assoc (a ++ b) c d ∙ append_assoc a b (c ++ d))

drawop_spelled : (d : Drawop) → name_bytes d.name ++ (to_be_bytes w64 d.stamp ++ body_bytes d.body) ≡ drawop_bytes d
unfolding drawop_bytes body_bytes
drawop_spelled d = four (name_bytes d.name) (to_be_bytes w64 d.stamp) (to_be_bytes w16 (length d.body)) d.body

pub drawop_reads : (wanted : Option ℕ) → Reads (drawop_at wanted) drawop_bytes (IsWanted wanted)
unfolding drawop_at
drawop_reads wanted =
    respelled (drawop_at wanted) (λ d. name_bytes d.name ++ (to_be_bytes w64 d.stamp ++ body_bytes d.body)) drawop_bytes (IsWanted wanted) drawop_spelled
    (renamed (drawop_at wanted) (λ d. name_bytes d.name ++ (to_be_bytes w64 d.stamp ++ body_bytes d.body)) (λ d. IsNext wanted None d.name × ((d.stamp ≤ LATEST_MOMENT) × (length d.body ≤ LONGEST_BODY))) (IsWanted wanted)
    (λ d h. record { fits = (h.0.named, h.1.0, h.1.1); from = h.0.from })
    (λ d h. (record { named = h.fits.0; from = h.from; above = refl }, (h.fits.1, h.fits.2)))
    (three (name_at wanted None) name_bytes (IsNext wanted None) moment_at (to_be_bytes w64) (λ n. n ≤ LATEST_MOMENT) body_at body_bytes (λ body. length body ≤ LONGEST_BODY) drawop_of (λ d. d.name) (λ d. d.stamp) (λ d. d.body)
    (record { whole = λ d. refl; first_of = λ a b. refl; second_of = λ a b. refl }) (name_reads wanted None) moment_reads body_reads))

-- an echo of a member after that of the last one
pub record IsNextEcho (last : Option Echo) (echo : Echo) : Type 0 where
  pub fits : is_echo echo
  pub above : is_later_echo last echo.member ≡ true

abbrev echo_of : ℕ → ℕ → ℕ → Echo
echo_of member t1 delay = record { member = member; t1 = t1; delay = delay }

pub echo_reads : (last : Option Echo) → Reads (echo_at last) echo_bytes (IsNextEcho last)
unfolding echo_at echo_member_at echo_bytes
echo_reads last =
    renamed (echo_at last) echo_bytes (λ e. ((e.member < MEMBERS) × (is_later_echo last e.member ≡ true)) × ((e.t1 ≤ LATEST_MOMENT) × (e.delay ≤ LATEST_MOMENT))) (IsNextEcho last)
    (λ e h. record { fits = (h.0.0, h.1.0, h.1.1); above = h.0.1 })
    (λ e h. ((h.fits.0, h.above), (h.fits.1, h.fits.2)))
    (three (echo_member_at last) one_byte (λ n. (n < MEMBERS) × (is_later_echo last n ≡ true)) moment_at (to_be_bytes w64) (λ n. n ≤ LATEST_MOMENT) moment_at (to_be_bytes w64) (λ n. n ≤ LATEST_MOMENT) echo_of (λ e. e.member) (λ e. e.t1) (λ e. e.delay)
    (record { whole = λ e. refl; first_of = λ a b. refl; second_of = λ a b. refl })
    (checked member_at one_byte (λ n. n < MEMBERS) (is_later_echo last) Order member_reads) moment_reads moment_reads)

-- ---- flags and masks

abbrev pub flag_bytes : Bool → List ℕ
flag_bytes b = flag b ∷ []

pub flag_reads : Reads flag_at flag_bytes (λ _. Unit {0})
unfolding flag_at
flag_reads = record { takes = taking; again = reading }
  where
    flags_reads : Reads (judged w8 (λ n. nat_le n 1) Flags) one_byte (λ n. n ≤ 1)
    flags_reads = tested w8 256 one_byte (λ n. nat_le n 1) Flags (λ n. n ≤ 1) wide8 (λ n lt good. grind (arith, nat_tests)) (λ n le. (omega arith, grind (arith, nat_tests)))

    seen : (n : ℕ) → n ≤ 1 → flag (n == 1) ≡ n
    seen zero le = refl
    seen (suc zero) le = refl
    seen (suc (suc n)) le = absurd (omega arith)

    taking : (bytes : List ℕ) (b : Bool) (rest : List ℕ) → IsBytes bytes → flag_at bytes ≡ Ok (b, rest) → Takes bytes (flag_bytes b) rest × Unit {0}
    taking bytes b rest fits e =
        let a = bind_ok (judged w8 (λ n. nat_le n 1) Flags bytes) (λ flags. Ok (flags.0 == 1, flags.1)) (b, rest) e in
        let t = flags_reads.takes bytes a.0.0 a.0.1 fits a.1 in
        subst (λ (p : Bool × List ℕ). Takes bytes (flag_bytes p.0) p.1 × Unit {0}) (ok_is (a.0.0 == 1, a.0.1) (b, rest) a.2)
        (subst (λ (n : ℕ). Takes bytes (n ∷ []) a.0.1) (sym (seen a.0.0 t.1)) t.0, tt)

    back : (b : Bool) → (flag b ≤ 1) × ((flag b == 1) ≡ b)
    back true = (omega arith, refl)
    back false = (omega arith, refl)

    reading : (b : Bool) (rest : List ℕ) → Unit {0} → flag_at (flag_bytes b ++ rest) ≡ Ok (b, rest)
    reading b rest _ =
        ap (λ (read : Read ℕ). read >>= λ flags. Ok (flags.0 == 1, flags.1)) (flags_reads.again (flag b) rest (back b).0)
        ∙ ap (λ (c : Bool). Ok (c, rest)) (back b).1

-- a mask that names a number, and none past the limit
pub record IsMask (name : FullName) (mask : ℕ) : Type 0 where
  pub some : (mask == 0) ≡ false
  pub narrow : mask < 2 ^ 32
  pub within : list_all (λ n. nat_le n.number DRAWOPS) (asked_by name mask) ≡ true

pub mask_reads : (name : FullName) → Reads (mask_at name) (to_be_bytes w32) (IsMask name)
unfolding mask_at
mask_reads name =
    tested w32 (2 ^ 32) (to_be_bytes w32) (λ mask. not (mask == 0) && list_all (λ n. nat_le n.number DRAWOPS) (asked_by name mask)) Number (IsMask name) wide32
    (λ mask lt good. (let k = and_parts (not (mask == 0)) (list_all (λ n. nat_le n.number DRAWOPS) (asked_by name mask)) good in record { some = not-true (mask == 0) k.0; narrow = lt; within = k.1 }))
    (λ mask h. (h.narrow, and_from (not (mask == 0)) (list_all (λ n. nat_le n.number DRAWOPS) (asked_by name mask)) (ap not h.some) h.within))
