-- A beginning is read as it is written.
use Rattle.std.proofs.Common.{◌≡◌, ℕ, ◌+◌, ◌-◌, ◌<◌, ◌≤◌, ◌^◌, true, false, List, ◌++◌, length, take, drop, Ok, Some, None, refl, sym, ap, ◌∙◌, append_assoc, arith, length-append, lit<}
use Rattle.std.specs.Int.{w8, w32, w64, to_be_bytes}
use Rattle.std.proofs.lemmas.List.{take_at}
use Rattle.srm_names.specs.declared.limits.TheConstants.{MEMBERS, LATEST_MOMENT}
use Rattle.srm_names.specs.Histories.{IsPrefix}
use Rattle.srm_codec.specs.Spelling.{AreBytes}
use Rattle.srm_codec.specs.Judging.{number_at, member_at, moment_at}
use Rattle.srm_codec.proofs.Readers.{IsBytes, ok_is, Reads, joined, three}
use Rattle.srm_codec.proofs.FieldLaws.{one_byte, member_reads, moment_reads}
use Rattle.srm_entries.specs.Configs.{Config, IsConfig}
use Rattle.srm_frames.specs.declared.beginning.Beginning.{Beginning}
use Rattle.srm_frames.specs.declared.format.TheConstants.{MAGIC, VERSION}
use Rattle.srm_frames.specs.Checksums.{crc_32}
use Rattle.srm_frames.specs.Frames.{sealed}
use Rattle.srm_frames.specs.Beginnings.{identity_fields, limit_fields, wait_fields, origin_fields, beginning_fields, beginning_text}
use Rattle.srm_frames.specs.Readings.{identity_at, limits_at, pair_at, waits_at, config_of, config_at, origin_at, beginning_of, fields_at}
use Rattle.srm_frames.specs.WhatIsRead.{IsBeginning, HasNoBeginning, first_bytes, versioned}
use Rattle.srm_frames.specs.Begun.{in_front_of, AreFieldsAt, IsChecked}
use Rattle.srm_frames.proofs.ChecksumBounds.{checksum_fits}
use Rattle.srm_frames.proofs.FrameLaws.{byte_reads, word_reads, long_reads}

abbrev triple : ℕ → ℕ → ℕ → ℕ × ℕ × ℕ
triple a b c = (a, b, c)

abbrev two : ℕ → ℕ → ℕ × ℕ
two a b = (a, b)

abbrev both : ℕ × ℕ → ℕ × ℕ → (ℕ × ℕ) × (ℕ × ℕ)
both a b = (a, b)

abbrev identity_text : ℕ × ℕ × ℕ → List ℕ
identity_text i = one_byte i.0 ++ (one_byte i.1 ++ to_be_bytes w32 i.2)

abbrev IdentityFits : ℕ × ℕ × ℕ → Type 0
IdentityFits i = (i.0 < MEMBERS) × ((i.1 < 256) × (i.2 < 2 ^ 32))

identity_reads : Reads identity_at identity_text IdentityFits
unfolding identity_at
identity_reads = three member_at one_byte (λ n. n < MEMBERS) (number_at w8) one_byte (λ n. n < 256) (number_at w32) (to_be_bytes w32) (λ n. n < 2 ^ 32) triple (λ i. i.0) (λ i. i.1) (λ i. i.2)
    (record { whole = λ i. refl; first_of = λ a b. refl; second_of = λ a b. refl }) member_reads byte_reads word_reads

abbrev limits_text : ℕ × ℕ × ℕ → List ℕ
limits_text l = to_be_bytes w32 l.0 ++ (to_be_bytes w32 l.1 ++ to_be_bytes w32 l.2)

abbrev LimitsFit : ℕ × ℕ × ℕ → Type 0
LimitsFit l = (l.0 < 2 ^ 32) × ((l.1 < 2 ^ 32) × (l.2 < 2 ^ 32))

limits_read : Reads limits_at limits_text LimitsFit
unfolding limits_at
limits_read = three (number_at w32) (to_be_bytes w32) (λ n. n < 2 ^ 32) (number_at w32) (to_be_bytes w32) (λ n. n < 2 ^ 32) (number_at w32) (to_be_bytes w32) (λ n. n < 2 ^ 32) triple (λ l. l.0) (λ l. l.1) (λ l. l.2)
    (record { whole = λ l. refl; first_of = λ a b. refl; second_of = λ a b. refl }) word_reads word_reads word_reads

abbrev pair_text : ℕ × ℕ → List ℕ
pair_text p = one_byte p.0 ++ one_byte p.1

abbrev PairFits : ℕ × ℕ → Type 0
PairFits p = (p.0 < 256) × (p.1 < 256)

pair_reads : Reads pair_at pair_text PairFits
unfolding pair_at
pair_reads = joined (number_at w8) one_byte (λ n. n < 256) (λ _. number_at w8) (λ _. one_byte) (λ _ n. n < 256) two (λ p. p.0) (λ p. p.1)
    (record { whole = λ p. refl; first_of = λ a b. refl; second_of = λ a b. refl }) byte_reads (λ _ _. byte_reads)

abbrev waits_text : (ℕ × ℕ) × (ℕ × ℕ) → List ℕ
waits_text w = pair_text w.0 ++ pair_text w.1

abbrev WaitsFit : (ℕ × ℕ) × (ℕ × ℕ) → Type 0
WaitsFit w = PairFits w.0 × PairFits w.1

waits_read : Reads waits_at waits_text WaitsFit
unfolding waits_at
waits_read = joined pair_at pair_text PairFits (λ _. pair_at) (λ _. pair_text) (λ _. PairFits) both (λ w. w.0) (λ w. w.1)
    (record { whole = λ w. refl; first_of = λ a b. refl; second_of = λ a b. refl }) pair_reads (λ _ _. pair_reads)

abbrev identity_in : Config → ℕ × ℕ × ℕ
identity_in c = (c.me, c.members, c.session)

abbrev limits_in : Config → ℕ × ℕ × ℕ
limits_in c = (c.rate, c.depth, c.least_distance)

abbrev waits_in : Config → (ℕ × ℕ) × (ℕ × ℕ)
waits_in c = ((c.c1, c.c2), (c.d1, c.d2))

abbrev config_text : Config → List ℕ
config_text c = identity_text (identity_in c) ++ (limits_text (limits_in c) ++ waits_text (waits_in c))

abbrev ConfigFits : Config → Type 0
ConfigFits c = IdentityFits (identity_in c) × (LimitsFit (limits_in c) × WaitsFit (waits_in c))

config_reads : Reads config_at config_text ConfigFits
unfolding config_at
config_reads = three identity_at identity_text IdentityFits limits_at limits_text LimitsFit waits_at waits_text WaitsFit config_of identity_in limits_in waits_in
    (record { whole = λ c. refl; first_of = λ a b. refl; second_of = λ a b. refl }) identity_reads limits_read waits_read

abbrev origin_text : ℕ × ℕ × ℕ → List ℕ
origin_text o = to_be_bytes w64 o.0 ++ (to_be_bytes w64 o.1 ++ to_be_bytes w64 o.2)

abbrev OriginFits : ℕ × ℕ × ℕ → Type 0
OriginFits o = (o.0 < 2 ^ 64) × ((o.1 ≤ LATEST_MOMENT) × (o.2 < 2 ^ 64))

origin_reads : Reads origin_at origin_text OriginFits
unfolding origin_at
origin_reads = three (number_at w64) (to_be_bytes w64) (λ n. n < 2 ^ 64) moment_at (to_be_bytes w64) (λ n. n ≤ LATEST_MOMENT) (number_at w64) (to_be_bytes w64) (λ n. n < 2 ^ 64) triple (λ o. o.0) (λ o. o.1) (λ o. o.2)
    (record { whole = λ o. refl; first_of = λ a b. refl; second_of = λ a b. refl }) long_reads moment_reads long_reads

abbrev origin_in : Beginning → ℕ × ℕ × ℕ
origin_in b = (b.seed, b.made, b.wall)

abbrev fields_text : Beginning → List ℕ
fields_text b = config_text b.config ++ origin_text (origin_in b)

abbrev FieldsFit : Beginning → Type 0
FieldsFit b = ConfigFits b.config × OriginFits (origin_in b)

fields_read : Reads fields_at fields_text FieldsFit
unfolding fields_at
fields_read = joined config_at config_text ConfigFits (λ _. origin_at) (λ _. origin_text) (λ _. OriginFits) beginning_of (λ b. b.config) origin_in
    (record { whole = λ b. refl; first_of = λ a b. refl; second_of = λ a b. refl }) config_reads (λ _ _. origin_reads)

-- ---- the fields with what stands before them

fields_are : (b : Beginning) → versioned ++ fields_text b ≡ beginning_fields b
unfolding beginning_fields identity_fields limit_fields wait_fields origin_fields
fields_are b = simp append_assoc

pub text_of_fields : (b : Beginning) (rest : List ℕ) → beginning_text b ++ rest ≡ versioned ++ (fields_text b ++ (to_be_bytes w32 (crc_32 (beginning_fields b)) ++ rest))
unfolding sealed
text_of_fields b rest =
    let sum = to_be_bytes w32 (crc_32 (beginning_fields b)) in
    append_assoc (beginning_fields b) sum rest
    ∙ ap (λ (fields : List ℕ). fields ++ (sum ++ rest)) (sym (fields_are b))
    ∙ append_assoc versioned (fields_text b) (sum ++ rest)

fit : (b : Beginning) → IsBeginning b → FieldsFit b
fit b is =
    let c = is.config in
    (((omega arith, (omega arith, is.session)), ((omega arith, (omega arith, omega arith)), ((omega arith, omega arith), (omega arith, omega arith)))), (is.seed, (is.made, is.wall)))

is_beginning : (b : Beginning) → FieldsFit b → IsConfig b.config → IsBeginning b
is_beginning b fits config = record { config = config; session = fits.0.0.1.1; made = fits.1.1.0; seed = fits.1.0; wall = fits.1.1.1 }

-- behind the version, what follows is known
cancel : (a b : List ℕ) → versioned ++ a ≡ versioned ++ b → a ≡ b
cancel a b e = ap (drop 5) e

pub fields_again : (b : Beginning) (rest : List ℕ) → IsBeginning b → fields_at (fields_text b ++ rest) ≡ Ok (b, rest)
fields_again b rest is = fields_read.again b rest (fit b is)

-- what stands in front of the checksum
front_is : (whole r left : List ℕ) (b : Beginning) → whole ≡ versioned ++ r → r ≡ fields_text b ++ left → in_front_of whole left ≡ beginning_fields b
front_is whole r left b e h =
    let parts : whole ≡ beginning_fields b ++ left =
    e ∙ ap (λ (t : List ℕ). versioned ++ t) h ∙ sym (append_assoc versioned (fields_text b) left) ∙ ap (λ (t : List ℕ). t ++ left) (fields_are b) in
    let long : length whole ≡ length (beginning_fields b) + length left = ap length parts ∙ length-append (beginning_fields b) left in
    ap (λ (t : List ℕ). take (length whole - length left) t) parts ∙ take_at (beginning_fields b) left (length whole - length left) (omega arith)

-- a beginning that was read
pub record IsBegunWith (whole : List ℕ) (b : Beginning) (rest : List ℕ) : Type 0 where
  pub text : whole ≡ beginning_text b ++ rest
  pub is : IsBeginning b
  pub bytes : AreBytes rest

pub begun_ok : (whole r left rest : List ℕ) (b : Beginning) → whole ≡ versioned ++ r → IsBytes r → fields_at r ≡ Ok (b, left) → IsConfig b.config
    → number_at w32 left ≡ Ok (crc_32 (in_front_of whole left), rest) → IsBegunWith whole b rest
begun_ok whole r left rest b e fits fields config sum =
    let t = fields_read.takes r b left fits fields in
    let u = word_reads.takes left (crc_32 (in_front_of whole left)) rest t.0.rest_fits sum in
    let front : in_front_of whole left ≡ beginning_fields b = front_is whole r left b e t.0.parts in
    record {
      text = e ∙ ap (λ (x : List ℕ). versioned ++ x) (t.0.parts ∙ ap (λ (x : List ℕ). fields_text b ++ x) (u.0.parts ∙ ap (λ (x : List ℕ). to_be_bytes w32 (crc_32 x) ++ rest) front)) ∙ sym (text_of_fields b rest);
      is = is_beginning b t.1 config;
      bytes = u.0.rest_fits;
    }

pub no_fields : (whole r : List ℕ) → whole ≡ versioned ++ r → ((b : Beginning) (rest : List ℕ) → fields_at r ≡ Ok (b, rest) → IsConfig b.config → ⊥) → HasNoBeginning whole
no_fields whole r e none = λ b rest is text.
    let sum = to_be_bytes w32 (crc_32 (beginning_fields b)) in
    let there : r ≡ fields_text b ++ (sum ++ rest) = cancel r (fields_text b ++ (sum ++ rest)) (sym e ∙ text ∙ text_of_fields b rest) in
    none b (sum ++ rest) (ap fields_at there ∙ fields_again b (sum ++ rest) is) is.config

pub no_checksum : (whole r left : List ℕ) (c : Beginning) → whole ≡ versioned ++ r → fields_at r ≡ Ok (c, left)
    → ((rest : List ℕ) → number_at w32 left ≡ Ok (crc_32 (in_front_of whole left), rest) → ⊥) → HasNoBeginning whole
no_checksum whole r left c e fields none = λ b rest is text.
    let sum = to_be_bytes w32 (crc_32 (beginning_fields b)) in
    let there : r ≡ fields_text b ++ (sum ++ rest) = cancel r (fields_text b ++ (sum ++ rest)) (sym e ∙ text ∙ text_of_fields b rest) in
    let same : (c, left) ≡ (b, sum ++ rest) = ok_is (c, left) (b, sum ++ rest) (sym fields ∙ ap fields_at there ∙ fields_again b (sum ++ rest) is) in
    let left_is : left ≡ sum ++ rest = ap (λ (x : Beginning × List ℕ). x.1) same in
    let front : in_front_of whole left ≡ beginning_fields b = front_is whole r left b e (there ∙ ap (λ (x : List ℕ). fields_text b ++ x) (sym left_is)) in
    none rest (ap (number_at w32) left_is ∙ word_reads.again (crc_32 (beginning_fields b)) rest (checksum_fits (beginning_fields b)) ∙ ap (λ (x : List ℕ). Ok (crc_32 x, rest)) (sym front))

-- a beginning is read in one way only
pub record AreSameBeginnings (b c : Beginning) (r s : List ℕ) : Type 0 where
  pub beginning : b ≡ c
  pub rest : r ≡ s

pub same_beginning : (b c : Beginning) (r s : List ℕ) → IsBeginning b → IsBeginning c → beginning_text b ++ r ≡ beginning_text c ++ s → AreSameBeginnings b c r s
same_beginning b c r s ib ic e =
    let x = to_be_bytes w32 (crc_32 (beginning_fields b)) in
    let y = to_be_bytes w32 (crc_32 (beginning_fields c)) in
    let there : fields_text b ++ (x ++ r) ≡ fields_text c ++ (y ++ s) = cancel _ _ (sym (text_of_fields b r) ∙ e ∙ text_of_fields c s) in
    let same : (b, x ++ r) ≡ (c, y ++ s) = ok_is (b, x ++ r) (c, y ++ s) (sym (fields_again b (x ++ r) ib) ∙ ap fields_at there ∙ fields_again c (y ++ s) ic) in
    record {
      beginning = ap (λ (p : Beginning × List ℕ). p.0) same;
      rest = ap (λ (p : Beginning × List ℕ). drop 4 p.1) same;
    }

-- the front of a beginning
pub begins_versioned : (b : Beginning) (rest : List ℕ) → IsPrefix versioned (beginning_text b ++ rest)
begins_versioned b rest = (fields_text b ++ (to_be_bytes w32 (crc_32 (beginning_fields b)) ++ rest), sym (text_of_fields b rest))

-- ---- what reading answers

pub no_magic : (bytes : List ℕ) → ((rest : List ℕ) → number_at w32 bytes ≡ Ok (MAGIC, rest) → ⊥) → IsPrefix first_bytes bytes → ⊥
no_magic bytes none (rest, e) = none rest (ap (number_at w32) (sym e) ∙ word_reads.again MAGIC rest (lit< tt))

pub no_version : (bytes r : List ℕ) → AreBytes bytes → number_at w32 bytes ≡ Ok (MAGIC, r) → ((rest : List ℕ) → number_at w8 r ≡ Ok (VERSION, rest) → ⊥)
    → IsPrefix first_bytes bytes × (IsPrefix versioned bytes → ⊥)
no_version bytes r fits magic none =
    let t = word_reads.takes bytes MAGIC r fits magic in
    ((r, sym t.0.parts), λ prefix. none prefix.0 (ap (number_at w8) (ap (drop 4) (sym t.0.parts ∙ sym prefix.1)) ∙ byte_reads.again VERSION prefix.0 (lit< tt)))

pub has_version : (bytes r rest : List ℕ) → AreBytes bytes → number_at w32 bytes ≡ Ok (MAGIC, r) → number_at w8 r ≡ Ok (VERSION, rest) → (bytes ≡ versioned ++ rest) × AreBytes rest
has_version bytes r rest fits magic version =
    let t = word_reads.takes bytes MAGIC r fits magic in
    let u = byte_reads.takes r VERSION rest t.0.rest_fits version in
    (t.0.parts ∙ ap (λ (x : List ℕ). first_bytes ++ x) u.0.parts, u.0.rest_fits)

pub no_settings : (whole r rest : List ℕ) → (whole ≡ versioned ++ r) × AreBytes r → AreFieldsAt None r rest → IsPrefix versioned whole × HasNoBeginning whole
no_settings whole r rest version none = ((r, sym version.0), no_fields whole r version.0 none)

pub wrong_checksum : (whole r left rest : List ℕ) (b : Beginning) → (whole ≡ versioned ++ r) × AreBytes r → AreFieldsAt (Some b) r left → IsChecked false whole left rest → IsPrefix versioned whole × HasNoBeginning whole
wrong_checksum whole r left rest b version fields wrong = ((r, sym version.0), no_checksum whole r left b version.0 fields.0 wrong)

pub is_begun : (whole r left rest : List ℕ) (b : Beginning) → (whole ≡ versioned ++ r) × AreBytes r → AreFieldsAt (Some b) r left → IsChecked true whole left rest
    → (whole ≡ beginning_text b ++ rest) × IsBeginning b × AreBytes rest
is_begun whole r left rest b version fields sum =
    let t = begun_ok whole r left rest b version.0 version.1 fields.0 fields.1 sum in
    (t.text, t.is, t.bytes)
