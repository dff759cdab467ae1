-- Judging undoes spelling: what is judged to be a datagram is its spelling, and a spelling is judged to be its datagram.
use Rattle.std.proofs.Common.{◌≡◌, ◌≢◌, ℕ, zero, suc, ◌^◌, ◌<◌, ◌≤◌, Bool, true, false, List, ◌++◌, take, drop, Result, Ok, Err, refl, sym, ap, subst, ◌∙◌, append_assoc, arith, eq-eqb, inl, inr}
use Rattle.std.specs.Prelude.{◌==◌, ◌||◌, ◌⊎◌, IfOk, IsOk, if◌then◌else◌}
use Rattle.std.specs.Int.{w8, w16, w32, to_be_bytes, from_be_bytes}
use Rattle.std.proofs.lemmas.Bool.{eqb-true}
use Rattle.std.proofs.lemmas.Bool.Decides.{nat_tests}
use Rattle.std.proofs.lemmas.Nat.{from_be_bytes-to_be_bytes_4}
use Rattle.srm_names.specs.declared.limits.TheConstants.{MEMBERS}
use Rattle.srm_names.specs.FullName.{FullName}
use Rattle.srm_codec.specs.declared.format.TheConstants.{MAGIC}
use Rattle.srm_codec.specs.declared.datagram.Datagram.{Datagram}
use Rattle.srm_codec.specs.declared.datagram.Datagram.TheVariants.{Data, Request, Repair, Session}
use Rattle.srm_codec.specs.declared.fault.DecodeFault.{DecodeFault}
use Rattle.srm_codec.specs.declared.fault.DecodeFault.TheVariants.{Magic, Version, Kind}
use Rattle.srm_codec.specs.declared.fault.DecodeFault.TheVariants as faults
use Rattle.srm_codec.specs.Spelling.{IsSpellable, head, name_bytes, drawop_bytes, request_bytes, spelling, Spells}
use Rattle.srm_codec.specs.Reading.{IsJudged, takes_memory}
use Rattle.srm_codec.specs.Laws.{JudgingUndoesSpelling, SpellingsAreUnique}
use Rattle.srm_codec.specs.Judging.{◌>>=◌, Read, number_at, magic_at, version_at, is_kind, kind_at, session_at, member_at, contents_of, judge}
use Rattle.srm_codec.proofs.Readers.{IsBytes, bind_ok, ok_is, Takes, Takes-then, Reads, checked}
use Rattle.srm_codec.proofs.Faults.{never_memory}
use Rattle.srm_codec.proofs.FieldLaws.{one_byte, wide8, wide16, wide32, number_reads, member_reads}
use Rattle.srm_codec.proofs.ContentLaws.{Completes, data_taken, data_again, repair_taken, repair_again, request_taken, request_again, packed_taken, packed_again, told_bytes, told_spelled, session_taken, session_again}

-- ---- the head

magic_reads : Reads magic_at (to_be_bytes w16) (λ n. (n < 2 ^ 16) × ((n == MAGIC) ≡ true))
unfolding magic_at
magic_reads = checked (number_at w16) (to_be_bytes w16) (λ n. n < 2 ^ 16) (λ n. n == MAGIC) Magic (number_reads w16 (2 ^ 16) (to_be_bytes w16) wide16)

abbrev is_version : ℕ → Bool
is_version n = (n == 1) || (n == 2)

version_reads : Reads version_at one_byte (λ n. (n < 256) × (is_version n ≡ true))
unfolding version_at
version_reads = checked (number_at w8) one_byte (λ n. n < 256) is_version Version (number_reads w8 256 one_byte wide8)

kind_reads : (version : ℕ) → Reads (kind_at version) one_byte (λ n. (n < 256) × (is_kind version n ≡ true))
unfolding kind_at
kind_reads version = checked (number_at w8) one_byte (λ n. n < 256) (is_kind version) Kind (number_reads w8 256 one_byte wide8)

session_reads : (session : ℕ) → Reads (session_at session) (to_be_bytes w32) (λ n. (n < 2 ^ 32) × ((n == session) ≡ true))
unfolding session_at
session_reads session = checked (number_at w32) (to_be_bytes w32) (λ n. n < 2 ^ 32) (λ n. n == session) faults.Session (number_reads w32 (2 ^ 32) (to_be_bytes w32) wide32)

-- what is read of the head, and what stands behind it
pub record HasHead (session : ℕ) (bytes : List ℕ) (g : Datagram) : Type 0 where
  pub version : ℕ
  pub kind : ℕ
  pub sender : ℕ
  pub rest : List ℕ
  pub parts : bytes ≡ head version kind session sender ++ rest
  pub rest_fits : IsBytes rest
  pub session_fits : session < 2 ^ 32
  pub is_version : is_version version ≡ true
  pub is_kind : is_kind version kind ≡ true
  pub is_member : sender < MEMBERS
  pub contents : contents_of version kind sender rest ≡ Ok g

abbrev behind_sender : ℕ → ℕ → ℕ × List ℕ → Result Datagram DecodeFault
behind_sender version kind sender = contents_of version kind sender.0 sender.1

abbrev behind_session : ℕ → ℕ → ℕ × List ℕ → Result Datagram DecodeFault
behind_session version kind number = member_at number.1 >>= behind_sender version kind

abbrev behind_kind : ℕ → ℕ → ℕ × List ℕ → Result Datagram DecodeFault
behind_kind session version kind = session_at session kind.1 >>= behind_session version kind.0

abbrev behind_version : ℕ → ℕ × List ℕ → Result Datagram DecodeFault
behind_version session version = kind_at version.0 version.1 >>= behind_kind session version.0

abbrev behind_magic : ℕ → ℕ × List ℕ → Result Datagram DecodeFault
behind_magic session magic = version_at magic.1 >>= behind_version session

head_parts : (version kind session sender : ℕ) → to_be_bytes w16 MAGIC ++ (one_byte version ++ (one_byte kind ++ (to_be_bytes w32 session ++ one_byte sender))) ≡ head version kind session sender
unfolding head
head_parts version kind session sender = refl

head_taken : (session : ℕ) (bytes : List ℕ) (g : Datagram) → IsBytes bytes → judge session bytes ≡ Ok g → HasHead session bytes g
unfolding judge
head_taken session bytes g fits e =
    let a = bind_ok (magic_at bytes) (behind_magic session) g e in
    let t = magic_reads.takes bytes a.0.0 a.0.1 fits a.1 in
    let b = bind_ok (version_at a.0.1) (behind_version session) g a.2 in
    let u = version_reads.takes a.0.1 b.0.0 b.0.1 t.0.rest_fits b.1 in
    let c = bind_ok (kind_at b.0.0 b.0.1) (behind_kind session b.0.0) g b.2 in
    let v = (kind_reads b.0.0).takes b.0.1 c.0.0 c.0.1 u.0.rest_fits c.1 in
    let d = bind_ok (session_at session c.0.1) (behind_session b.0.0 c.0.0) g c.2 in
    let w = (session_reads session).takes c.0.1 d.0.0 d.0.1 v.0.rest_fits d.1 in
    let f = bind_ok (member_at d.0.1) (behind_sender b.0.0 c.0.0) g d.2 in
    let x = member_reads.takes d.0.1 f.0.0 f.0.1 w.0.rest_fits f.1 in
    let is : d.0.0 ≡ session = eqb-true _ _ w.1.1 in
    let number : Takes c.0.1 (to_be_bytes w32 session) d.0.1 = subst (λ (n : ℕ). Takes c.0.1 (to_be_bytes w32 n) d.0.1) is w.0 in
    let magic : Takes bytes (to_be_bytes w16 MAGIC) a.0.1 = subst (λ (n : ℕ). Takes bytes (to_be_bytes w16 n) a.0.1) (eqb-true _ _ t.1.1) t.0 in
    let n4 = Takes-then c.0.1 (to_be_bytes w32 session) d.0.1 (one_byte f.0.0) f.0.1 number x.0 in
    let n3 = Takes-then b.0.1 (one_byte c.0.0) c.0.1 (to_be_bytes w32 session ++ one_byte f.0.0) f.0.1 v.0 n4 in
    let n2 = Takes-then a.0.1 (one_byte b.0.0) b.0.1 (one_byte c.0.0 ++ (to_be_bytes w32 session ++ one_byte f.0.0)) f.0.1 u.0 n3 in
    let n1 = Takes-then bytes (to_be_bytes w16 MAGIC) a.0.1 (one_byte b.0.0 ++ (one_byte c.0.0 ++ (to_be_bytes w32 session ++ one_byte f.0.0))) f.0.1 magic n2 in
    record {
      version = b.0.0;
      kind = c.0.0;
      sender = f.0.0;
      rest = f.0.1;
      parts = n1.parts ∙ ap (λ (text : List ℕ). text ++ f.0.1) (head_parts b.0.0 c.0.0 session f.0.0);
      rest_fits = n1.rest_fits;
      session_fits = subst (λ (n : ℕ). n < 2 ^ 32) is w.1.0;
      is_version = u.1.1;
      is_kind = v.1.1;
      is_member = x.1;
      contents = f.2;
    }

small_version : (n : ℕ) → is_version n ≡ true → n < 256
small_version n e = grind (arith, nat_tests)

small_kind : (version n : ℕ) → is_kind version n ≡ true → n < 256
small_kind version n e = grind (arith, nat_tests)

head_again : (version kind session sender : ℕ) (rest : List ℕ) → is_version version ≡ true → is_kind version kind ≡ true → session < 2 ^ 32 → sender < MEMBERS
    → judge session (head version kind session sender ++ rest) ≡ contents_of version kind sender rest
unfolding judge head
head_again version kind session sender rest v k s m =
    ap (λ (read : Read ℕ). read >>= behind_magic session) (magic_reads.again MAGIC (one_byte version ++ (one_byte kind ++ (to_be_bytes w32 session ++ (one_byte sender ++ rest)))) (omega arith, refl))
    ∙ ap (λ (read : Read ℕ). read >>= behind_version session) (version_reads.again version (one_byte kind ++ (to_be_bytes w32 session ++ (one_byte sender ++ rest))) (small_version version v, v))
    ∙ ap (λ (read : Read ℕ). read >>= behind_kind session version) ((kind_reads version).again kind (to_be_bytes w32 session ++ (one_byte sender ++ rest)) (small_kind version kind k, k))
    ∙ ap (λ (read : Read ℕ). read >>= behind_session version kind) ((session_reads session).again session (one_byte sender ++ rest) (s, eq-eqb session session refl))
    ∙ ap (λ (read : Read ℕ). read >>= behind_sender version kind) (member_reads.again sender rest m)

-- ---- the contents

one_of_four : (n : ℕ) → 1 ≤ n → n ≤ 4 → (n ≡ 1) ⊎ ((n ≡ 2) ⊎ ((n ≡ 3) ⊎ (n ≡ 4)))
one_of_four zero low high = absurd (omega arith)
one_of_four (suc zero) low high = inl refl
one_of_four (suc (suc zero)) low high = inr (inl refl)
one_of_four (suc (suc (suc zero))) low high = inr (inr (inl refl))
one_of_four (suc (suc (suc (suc zero)))) low high = inr (inr (inr refl))
one_of_four (suc (suc (suc (suc (suc n))))) low high = absurd (omega arith)

one_of_two : (n : ℕ) → is_version n ≡ true → (n ≡ 1) ⊎ (n ≡ 2)
one_of_two n e = elim (one_of_four n (grind (arith, nat_tests)) (grind (arith, nat_tests))) [
  | inl a ↦ inl a
  | inr (inl b) ↦ inr b
  | inr (inr others) ↦ absurd (grind (arith, nat_tests))
]

abbrev IsTaken : ℕ → List ℕ → Datagram → ℕ → ℕ → Type 0
IsTaken sender bytes g version kind = contents_of version kind sender bytes ≡ Ok g → Completes version kind sender bytes g

plain_taken : (kind sender : ℕ) (bytes : List ℕ) (g : Datagram) → is_kind 1 kind ≡ true → sender < MEMBERS → IsBytes bytes → IsTaken sender bytes g 1 kind
unfolding contents_of
plain_taken kind sender bytes g k member fits =
    elim (one_of_four kind (grind (arith, nat_tests)) (grind (arith, nat_tests))) [
      | inl one ↦ subst (IsTaken sender bytes g 1) (sym one) (λ e. data_taken sender bytes g fits e)
      | inr (inl two) ↦ subst (IsTaken sender bytes g 1) (sym two) (λ e. request_taken sender bytes g fits member e)
      | inr (inr (inl three)) ↦ subst (IsTaken sender bytes g 1) (sym three) (λ e. repair_taken sender bytes g fits member e)
      | inr (inr (inr four)) ↦ subst (IsTaken sender bytes g 1) (sym four) (λ e. session_taken sender bytes g fits member e)
    ]

request_alone : (kind : ℕ) → is_kind 2 kind ≡ true → kind ≡ 2
request_alone kind k = grind (arith, nat_tests)

contents_taken : (version kind sender : ℕ) (bytes : List ℕ) (g : Datagram) → is_version version ≡ true → is_kind version kind ≡ true → sender < MEMBERS → IsBytes bytes → IsTaken sender bytes g version kind
unfolding contents_of
contents_taken version kind sender bytes g v k member fits =
    elim (one_of_two version v) [
      | inl one ↦ subst (λ n. IsTaken sender bytes g n kind) (sym one) (plain_taken kind sender bytes g (ap (λ n. is_kind n kind) (sym one) ∙ k) member fits)
      | inr two ↦ subst (λ n. IsTaken sender bytes g n kind) (sym two) (subst (IsTaken sender bytes g 2) (sym (request_alone kind (ap (λ n. is_kind n kind) (sym two) ∙ k))) (λ e. packed_taken sender bytes g fits member e))
    ]

-- what is judged to be a datagram is its spelling
pub judged_spells : (session : ℕ) (bytes : List ℕ) (g : Datagram) → IsBytes bytes → judge session bytes ≡ Ok g → Spells session g bytes
judged_spells session bytes g fits e =
    let h = head_taken session bytes g fits e in
    let c = contents_taken h.version h.kind h.sender h.rest g h.is_version h.is_kind h.is_member h.rest_fits h.contents in
    record { spellable = c.fits; text = h.parts ∙ c.spelled session }

-- a spelling is judged to be its datagram
request_judged : (session sender : ℕ) (name : FullName) (mask : ℕ) (none : Bool) → (mask == 0) ≡ none → session < 2 ^ 32 → IsSpellable (Request sender name mask) → judge session (request_bytes session sender name mask) ≡ Ok (Request sender name mask)
unfolding contents_of request_bytes
request_judged session sender name mask true e lt (member, narrow, all) =
    let is : mask ≡ 0 = eqb-true _ _ e in
    subst (λ n. judge session (request_bytes session sender name n) ≡ Ok (Request sender name n)) (sym is)
    (head_again 1 2 session sender (name_bytes name) refl refl lt member ∙ request_again sender name all.0)
request_judged session sender name mask false e lt (member, narrow, all) =
    ap (λ (b : Bool). judge session (if b then head 1 2 session sender ++ name_bytes name else head 2 2 session sender ++ name_bytes name ++ to_be_bytes w32 mask)) e
    ∙ ap (judge session) (append_assoc (head 2 2 session sender) (name_bytes name) (to_be_bytes w32 mask))
    ∙ head_again 2 2 session sender (name_bytes name ++ to_be_bytes w32 mask) refl refl lt member
    ∙ packed_again sender name mask e narrow all

pub spelling_judged : (session : ℕ) (g : Datagram) → session < 2 ^ 32 → IsSpellable g → judge session (spelling session g) ≡ Ok g
unfolding contents_of spelling
spelling_judged session (Data d) lt fits = head_again 1 1 session d.name.stream.source (drawop_bytes d) refl refl lt fits.0.0 ∙ data_again d fits
spelling_judged session (Request sender name mask) lt fits = request_judged session sender name mask (mask == 0) refl lt fits
spelling_judged session (Repair sender d) lt (member, fits) = head_again 1 3 session sender (drawop_bytes d) refl refl lt member ∙ repair_again sender d fits
spelling_judged session (Session sender sent farewell shown rows echoes) lt fits =
    ap (judge session) (sym (told_spelled session sender sent farewell shown rows echoes))
    ∙ head_again 1 4 session sender (told_bytes sent farewell shown rows echoes) refl refl lt fits.0
    ∙ session_again sender sent farewell shown rows echoes fits

-- the session is spelled too
session_number : List ℕ → ℕ
session_number bytes = from_be_bytes w32 (take 4 (drop 4 bytes))

session_in : (version kind session sender : ℕ) (rest : List ℕ) → session < 2 ^ 32 → session_number (head version kind session sender ++ rest) ≡ session
unfolding head session_number
session_in version kind session sender rest lt = from_be_bytes-to_be_bytes_4 session lt

session_in_request : (session sender : ℕ) (name : FullName) (mask : ℕ) (none : Bool) → session < 2 ^ 32
    → session_number (if none then head 1 2 session sender ++ name_bytes name else head 2 2 session sender ++ name_bytes name ++ to_be_bytes w32 mask) ≡ session
session_in_request session sender name mask true lt = session_in 1 2 session sender (name_bytes name) lt
session_in_request session sender name mask false lt = ap session_number (append_assoc (head 2 2 session sender) (name_bytes name) (to_be_bytes w32 mask)) ∙ session_in 2 2 session sender (name_bytes name ++ to_be_bytes w32 mask) lt

session_spelled : (session : ℕ) (g : Datagram) → session < 2 ^ 32 → session_number (spelling session g) ≡ session
unfolding spelling request_bytes
session_spelled session (Data d) lt = session_in 1 1 session d.name.stream.source (drawop_bytes d) lt
session_spelled session (Request sender name mask) lt = session_in_request session sender name mask (mask == 0) lt
session_spelled session (Repair sender d) lt = session_in 1 3 session sender (drawop_bytes d) lt
session_spelled session (Session sender sent farewell shown rows echoes) lt =
    ap session_number (sym (told_spelled session sender sent farewell shown rows echoes))
    ∙ session_in 1 4 session sender (told_bytes sent farewell shown rows echoes) lt

-- the two laws
pub spells_judged : (session : ℕ) (bytes : List ℕ) (g : Datagram) → session < 2 ^ 32 → Spells session g bytes → judge session bytes ≡ Ok g
spells_judged session bytes g lt s = ap (judge session) s.text ∙ spelling_judged session g lt s.spellable

pub undoes : JudgingUndoesSpelling
undoes session bytes g lt fits = (judged_spells session bytes g fits, spells_judged session bytes g lt)

pub unique : SpellingsAreUnique
unique session other bytes g h lt lt' s t =
    let same : session ≡ other = sym (session_spelled session g lt) ∙ ap session_number (sym s.text ∙ t.text) ∙ session_spelled other h lt' in
    (same, ok_is g h (sym (spells_judged session bytes g lt s) ∙ ap (λ n. judge n bytes) same ∙ spells_judged other bytes h lt' t))

abbrev read : Datagram → Result Datagram DecodeFault
read g = Ok g

abbrev failed : DecodeFault → Result Datagram DecodeFault
failed f = Err f

-- what an answer of the reader says of spellings
pub judged_is_spelled : (session : ℕ) (bytes : List ℕ) (answer : Result Datagram DecodeFault) → IsBytes bytes → IsJudged takes_memory answer (judge session bytes) → IfOk answer (λ g. Spells session g bytes)
judged_is_spelled session bytes (Ok g) fits e = judged_spells session bytes g fits e
judged_is_spelled session bytes (Err f) fits e = tt

pub spelled_is_read : (session : ℕ) (bytes : List ℕ) (answer : Result Datagram DecodeFault) (g : Datagram) → session < 2 ^ 32 → Spells session g bytes → IsJudged takes_memory answer (judge session bytes)
    → (answer ≡ Ok g) ⊎ (answer ≡ Err faults.Memory)
spelled_is_read session bytes (Ok h) g lt s e = inl (sym e ∙ spells_judged session bytes g lt s)
spelled_is_read session bytes (Err f) g lt s (inl e) = absurd (differ (sym (spells_judged session bytes g lt s) ∙ e))
  where
    differ : {f : DecodeFault} → read g ≡ Err f → ⊥
    differ e = cc
spelled_is_read session bytes (Err f) g lt s (inr e) = inr (ap failed e.0)

-- out of memory is an answer only to valid bytes
pub memory_is_for_good : (session : ℕ) (bytes : List ℕ) (answer : Result Datagram DecodeFault) → IsJudged takes_memory answer (judge session bytes) → answer ≡ Err faults.Memory → IsOk (judge session bytes)
memory_is_for_good session bytes answer judged e = at answer (judge session bytes) (never_memory session bytes) judged e
  where
    passed : (r : Result Datagram DecodeFault) (g : Datagram) → r ≡ Ok g → IsOk r
    passed r g e = rw e refl

    at : (a r : Result Datagram DecodeFault) → r ≢ Err faults.Memory → IsJudged takes_memory a r → a ≡ Err faults.Memory → IsOk r
    at (Ok g) r never judged e = absurd cc
    at (Err f) r never (inl k) e = absurd (never (k ∙ e))
    at (Err f) r never (inr k) e = passed r k.1 k.2
