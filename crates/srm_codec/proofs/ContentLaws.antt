-- What stands behind the head is read as it is written, kind by kind.
use Rattle.std.proofs.Common.{◌≡◌, ℕ, ◌^◌, ◌<◌, Bool, true, false, List, [], ◌∷◌, ◌++◌, length, map, Result, Ok, Option, Some, None, refl, sym, ap, subst, ◌∙◌, append_assoc, arith, eq-eqb}
use Rattle.std.specs.Prelude.{◌==◌, nat_le, ◌↔◌, IsTrue, if◌then◌else◌}
use Rattle.std.specs.List.{list_all, AllByRecursion}
use Rattle.std.specs.Int.{w32, w64, to_be_bytes}
use Rattle.std.proofs.lemmas.Bool.{eqb-true, and_parts, and_from, false≢true}
use Rattle.std.proofs.lemmas.Bool.Decides.{nat_tests}
use Rattle.std.proofs.lemmas.List.{append-nil, nil_from_length}
use Rattle.srm_names.specs.declared.limits.TheConstants.{MEMBERS, DRAWOPS}
use Rattle.srm_names.specs.declared.page.Page.{Page}
use Rattle.srm_names.specs.declared.drawop.Drawop.{Drawop}
use Rattle.srm_names.specs.declared.echo.Echo.{Echo}
use Rattle.srm_names.specs.FullName.{FullName}
use Rattle.srm_names.specs.Names.{named}
use Rattle.srm_codec.specs.declared.datagram.Datagram.{Datagram}
use Rattle.srm_codec.specs.declared.datagram.Datagram.TheVariants.{Data, Request, Repair, Session}
use Rattle.srm_codec.specs.declared.fault.DecodeFault.{DecodeFault}
use Rattle.srm_codec.specs.declared.fault.DecodeFault.TheVariants.{Length}
use Rattle.srm_codec.specs.Spelling.{bits_set, asked_by, is_name, is_drawop, IsSpellable, head, page_bytes, name_bytes, drawop_bytes, echo_bytes, request_bytes, spelling}
use Rattle.srm_codec.specs.Judging.{◌>>=◌, Read, nothing_after, moment_at, flag_at, page_at, name_at, mask_at, list_at, echo_at, drawop_at, only_drawop, data_of, request_of, packed_of, repair_of, session_of}
use Rattle.srm_codec.proofs.Readers.{IsBytes, bind_ok, check_ok, ok_is, Takes, Takes-then, ReadsAll, closed}
use Rattle.srm_codec.proofs.FieldLaws.{moment_reads, page_reads, name_reads, drawop_reads, IsWanted, flag_bytes, flag_reads, mask_reads}
use Rattle.srm_codec.proofs.ListLaws.{list_bytes, wanted_in, rows_reads, echoes_reads}
use Rattle.srm_codec.proofs.Asked.{at_bit}

-- these bytes behind the head complete the spelling of a datagram
pub record Completes (version kind sender : ℕ) (bytes : List ℕ) (g : Datagram) : Type 0 where
  pub spelled : (session : ℕ) → head version kind session sender ++ bytes ≡ spelling session g
  pub fits : IsSpellable g

all_taken : (bytes text rest : List ℕ) → Takes bytes text rest → (length rest == 0) ≡ true → bytes ≡ text
all_taken bytes text rest t e = t.parts ∙ ap (λ (r : List ℕ). text ++ r) (nil_from_length rest (eqb-true _ _ e)) ∙ append-nil text

-- ---- drawops

only_reads : (wanted : Option ℕ) → ReadsAll (only_drawop wanted) drawop_bytes (IsWanted wanted)
unfolding only_drawop
only_reads wanted = closed (drawop_at wanted) drawop_bytes (IsWanted wanted) (drawop_reads wanted)

abbrev repaired : ℕ → Drawop → Datagram
repaired sender drawop = Repair sender drawop

pub data_taken : (sender : ℕ) (bytes : List ℕ) (g : Datagram) → IsBytes bytes → data_of sender bytes ≡ Ok g → Completes 1 1 sender bytes g
unfolding data_of spelling
data_taken sender bytes g fits e =
    let a = bind_ok (only_drawop (Some sender) bytes) (λ drawop. Ok (Data drawop)) g e in
    let t = (only_reads (Some sender)).takes bytes a.0 fits a.1 in
    let from : a.0.name.stream.source ≡ sender = eqb-true _ _ t.1.from in
    subst (λ (h : Datagram). Completes 1 1 sender bytes h) (ok_is (Data a.0) g a.2) (record {
      spelled = λ session. ap (λ (b : List ℕ). head 1 1 session sender ++ b) t.0 ∙ ap (λ (s : ℕ). head 1 1 session s ++ drawop_bytes a.0) (sym from);
      fits = t.1.fits;
    })

pub data_again : (d : Drawop) → is_drawop d → data_of d.name.stream.source (drawop_bytes d) ≡ Ok (Data d)
unfolding data_of
data_again d fits = ap (λ (r : Result Drawop DecodeFault). r >>= λ drawop. Ok (Data drawop)) ((only_reads (Some d.name.stream.source)).again d (record { fits = fits; from = eq-eqb d.name.stream.source d.name.stream.source refl }))

pub repair_taken : (sender : ℕ) (bytes : List ℕ) (g : Datagram) → IsBytes bytes → sender < MEMBERS → repair_of sender bytes ≡ Ok g → Completes 1 3 sender bytes g
unfolding repair_of spelling
repair_taken sender bytes g fits member e =
    let a = bind_ok (only_drawop None bytes) (λ drawop. Ok (repaired sender drawop)) g e in
    let t = (only_reads None).takes bytes a.0 fits a.1 in
    subst (λ (h : Datagram). Completes 1 3 sender bytes h) (ok_is (Repair sender a.0) g a.2) (record {
      spelled = λ session. ap (λ (b : List ℕ). head 1 3 session sender ++ b) t.0;
      fits = (member, t.1.fits);
    })

pub repair_again : (sender : ℕ) (d : Drawop) → is_drawop d → repair_of sender (drawop_bytes d) ≡ Ok (Repair sender d)
unfolding repair_of
repair_again sender d fits = ap (λ (r : Result Drawop DecodeFault). r >>= λ drawop. Ok (repaired sender drawop)) ((only_reads None).again d (record { fits = fits; from = refl }))

-- ---- requests

asked_alone : (name : FullName) → asked_by name 0 ≡ name ∷ []
unfolding bits_set
asked_alone name = refl

abbrev in_range : FullName → Bool
in_range n = nat_le n.number DRAWOPS

each_named : (name : FullName) (bits : List ℕ) → is_name name → list_all in_range (map (at_bit name) bits) ≡ true → AllByRecursion is_name (map (at_bit name) bits)
each_named name [] fits e = tt
each_named name (bit ∷ bits) fits e =
    let k = and_parts (in_range (at_bit name bit)) (list_all in_range (map (at_bit name) bits)) e in
    ((fits.0, fits.1, omega arith, grind (arith, nat_tests)), each_named name bits fits k.1)

names_asked : (name : FullName) (mask : ℕ) → is_name name → list_all in_range (asked_by name mask) ≡ true → AllByRecursion is_name (asked_by name mask)
names_asked name mask fits e = (fits, each_named name (bits_set 32 mask) fits (and_parts (in_range name) (list_all in_range (map (at_bit name) (bits_set 32 mask))) e).1)

all_in_range : (names : List FullName) → AllByRecursion is_name names → list_all in_range names ≡ true
all_in_range [] all = refl
all_in_range (n ∷ names) (fits, all) = and_from (in_range n) (list_all in_range names) (grind (arith, nat_tests, fits.3)) (all_in_range names all)

abbrev asking : ℕ → FullName → ℕ → Datagram
asking sender name mask = Request sender name mask

pub request_taken : (sender : ℕ) (bytes : List ℕ) (g : Datagram) → IsBytes bytes → sender < MEMBERS → request_of sender bytes ≡ Ok g → Completes 1 2 sender bytes g
unfolding request_of spelling request_bytes
request_taken sender bytes g fits member e =
    let a = bind_ok (name_at None None bytes) (λ name. nothing_after (asking sender name.0 0, name.1)) g e in
    let b = check_ok (length a.0.1 == 0) Length (asking sender a.0.0 0) g a.2 in
    let t = (name_reads None None).takes bytes a.0.0 a.0.1 fits a.1 in
    subst (λ (h : Datagram). Completes 1 2 sender bytes h) b.1 (record {
      spelled = λ session. ap (λ (b : List ℕ). head 1 2 session sender ++ b) (all_taken bytes (name_bytes a.0.0) a.0.1 t.0 b.0);
      fits = (member, omega arith, subst (λ (names : List FullName). AllByRecursion is_name names) (sym (asked_alone a.0.0)) (t.1.named, tt));
    })

pub request_again : (sender : ℕ) (name : FullName) → is_name name → request_of sender (name_bytes name) ≡ Ok (Request sender name 0)
unfolding request_of
request_again sender name fits =
    ap (λ (b : List ℕ). name_at None None b >>= λ name. nothing_after (asking sender name.0 0, name.1)) (sym (append-nil (name_bytes name)))
    ∙ ap (λ (r : Read FullName). r >>= λ name. nothing_after (asking sender name.0 0, name.1)) ((name_reads None None).again name [] (record { named = fits; from = refl; above = refl }))

abbrev behind_mask : ℕ → FullName → ℕ × List ℕ → Result Datagram DecodeFault
behind_mask sender name mask = nothing_after (asking sender name mask.0, mask.1)

abbrev behind_name : ℕ → FullName × List ℕ → Result Datagram DecodeFault
behind_name sender name = mask_at name.0 name.1 >>= behind_mask sender name.0

pub packed_taken : (sender : ℕ) (bytes : List ℕ) (g : Datagram) → IsBytes bytes → sender < MEMBERS → packed_of sender bytes ≡ Ok g → Completes 2 2 sender bytes g
unfolding packed_of spelling request_bytes
packed_taken sender bytes g fits member e =
    let a = bind_ok (name_at None None bytes) (behind_name sender) g e in
    let t = (name_reads None None).takes bytes a.0.0 a.0.1 fits a.1 in
    let b = bind_ok (mask_at a.0.0 a.0.1) (behind_mask sender a.0.0) g a.2 in
    let u = (mask_reads a.0.0).takes a.0.1 b.0.0 b.0.1 t.0.rest_fits b.1 in
    let c = check_ok (length b.0.1 == 0) Length (asking sender a.0.0 b.0.0) g b.2 in
    let text = Takes-then bytes (name_bytes a.0.0) a.0.1 (to_be_bytes w32 b.0.0) b.0.1 t.0 u.0 in
    let whole : bytes ≡ name_bytes a.0.0 ++ to_be_bytes w32 b.0.0 = all_taken bytes (name_bytes a.0.0 ++ to_be_bytes w32 b.0.0) b.0.1 text c.0 in
    subst (λ (h : Datagram). Completes 2 2 sender bytes h) c.1 (record {
      spelled = λ session. ap (λ (b : List ℕ). head 2 2 session sender ++ b) whole ∙ sym (append_assoc (head 2 2 session sender) (name_bytes a.0.0) (to_be_bytes w32 b.0.0)) ∙ packed_form session sender a.0.0 b.0.0 u.1.some;
      fits = (member, u.1.narrow, names_asked a.0.0 b.0.0 t.1.named u.1.within);
    })
  where
    packed_form : (session sender : ℕ) (name : FullName) (mask : ℕ) → (mask == 0) ≡ false → head 2 2 session sender ++ name_bytes name ++ to_be_bytes w32 mask ≡ request_bytes session sender name mask
    packed_form session sender name mask e = sym (ap (λ (b : Bool). if b then head 1 2 session sender ++ name_bytes name else head 2 2 session sender ++ name_bytes name ++ to_be_bytes w32 mask) e)

pub packed_again : (sender : ℕ) (name : FullName) (mask : ℕ) → (mask == 0) ≡ false → mask < 2 ^ 32 → AllByRecursion is_name (asked_by name mask) → packed_of sender (name_bytes name ++ to_be_bytes w32 mask) ≡ Ok (Request sender name mask)
unfolding packed_of
packed_again sender name mask some narrow all =
    ap (λ (r : Read FullName). r >>= behind_name sender) ((name_reads None None).again name (to_be_bytes w32 mask) (record { named = all.0; from = refl; above = refl }))
    ∙ ap (λ (b : List ℕ). mask_at name b >>= behind_mask sender name) (sym (append-nil (to_be_bytes w32 mask)))
    ∙ ap (λ (r : Read ℕ). r >>= behind_mask sender name) ((mask_reads name).again mask [] (record { some = some; narrow = narrow; within = all_in_range (asked_by name mask) all }))

-- ---- session messages

abbrev told : ℕ → ℕ → Bool → Page → List FullName → List Echo → Datagram
told sender sent farewell shown rows echoes = Session sender sent farewell shown rows echoes

abbrev behind_echoes : ℕ → ℕ → Bool → Page → List FullName → List Echo × List ℕ → Result Datagram DecodeFault
behind_echoes sender sent farewell shown rows echoes = nothing_after (told sender sent farewell shown rows echoes.0, echoes.1)

abbrev behind_rows : ℕ → ℕ → Bool → Page → List FullName × List ℕ → Result Datagram DecodeFault
behind_rows sender sent farewell shown rows = list_at echo_at rows.1 >>= behind_echoes sender sent farewell shown rows.0

abbrev behind_page : ℕ → ℕ → Bool → Page × List ℕ → Result Datagram DecodeFault
behind_page sender sent farewell shown = list_at (name_at (wanted_in farewell sender)) shown.1 >>= behind_rows sender sent farewell shown.0

abbrev behind_flag : ℕ → ℕ → Bool × List ℕ → Result Datagram DecodeFault
behind_flag sender sent farewell = page_at farewell.1 >>= behind_page sender sent farewell.0

abbrev behind_sent : ℕ → ℕ × List ℕ → Result Datagram DecodeFault
behind_sent sender sent = flag_at sent.1 >>= behind_flag sender sent.0

grouped : (h s f p r e : List ℕ) → h ++ (s ++ (f ++ (p ++ (r ++ e)))) ≡ h ++ s ++ (f ++ p) ++ r ++ e
grouped h s f p r e = simp append_assoc

-- the fields behind the head of a session message
abbrev pub told_bytes : ℕ → Bool → Page → List FullName → List Echo → List ℕ
told_bytes sent farewell shown rows echoes = to_be_bytes w64 sent ++ (flag_bytes farewell ++ (page_bytes shown ++ (list_bytes name_bytes rows ++ list_bytes echo_bytes echoes)))

pub told_spelled : (session sender sent : ℕ) (farewell : Bool) (shown : Page) (rows : List FullName) (echoes : List Echo)
    → head 1 4 session sender ++ told_bytes sent farewell shown rows echoes ≡ spelling session (Session sender sent farewell shown rows echoes)
unfolding spelling
told_spelled session sender sent farewell shown rows echoes = grouped (head 1 4 session sender) (to_be_bytes w64 sent) (flag_bytes farewell) (page_bytes shown) (list_bytes name_bytes rows) (list_bytes echo_bytes echoes)

pub session_taken : (sender : ℕ) (bytes : List ℕ) (g : Datagram) → IsBytes bytes → sender < MEMBERS → session_of sender bytes ≡ Ok g → Completes 1 4 sender bytes g
unfolding session_of
session_taken sender bytes g fits member e =
    let a = bind_ok (moment_at bytes) (behind_sent sender) g e in
    let t = moment_reads.takes bytes a.0.0 a.0.1 fits a.1 in
    let b = bind_ok (flag_at a.0.1) (behind_flag sender a.0.0) g a.2 in
    let u = flag_reads.takes a.0.1 b.0.0 b.0.1 t.0.rest_fits b.1 in
    let c = bind_ok (page_at b.0.1) (behind_page sender a.0.0 b.0.0) g b.2 in
    let v = page_reads.takes b.0.1 c.0.0 c.0.1 u.0.rest_fits c.1 in
    let d = bind_ok (list_at (name_at (wanted_in b.0.0 sender)) c.0.1) (behind_rows sender a.0.0 b.0.0 c.0.0) g c.2 in
    let w = (rows_reads b.0.0 sender).takes c.0.1 d.0.0 d.0.1 v.0.rest_fits d.1 in
    let f = bind_ok (list_at echo_at d.0.1) (behind_echoes sender a.0.0 b.0.0 c.0.0 d.0.0) g d.2 in
    let x = echoes_reads.takes d.0.1 f.0.0 f.0.1 w.0.rest_fits f.1 in
    let z = check_ok (length f.0.1 == 0) Length (told sender a.0.0 b.0.0 c.0.0 d.0.0 f.0.0) g f.2 in
    let n4 = Takes-then c.0.1 (list_bytes name_bytes d.0.0) d.0.1 (list_bytes echo_bytes f.0.0) f.0.1 w.0 x.0 in
    let n3 = Takes-then b.0.1 (page_bytes c.0.0) c.0.1 (list_bytes name_bytes d.0.0 ++ list_bytes echo_bytes f.0.0) f.0.1 v.0 n4 in
    let n2 = Takes-then a.0.1 (flag_bytes b.0.0) b.0.1 (page_bytes c.0.0 ++ (list_bytes name_bytes d.0.0 ++ list_bytes echo_bytes f.0.0)) f.0.1 u.0 n3 in
    let n1 = Takes-then bytes (to_be_bytes w64 a.0.0) a.0.1 (flag_bytes b.0.0 ++ (page_bytes c.0.0 ++ (list_bytes name_bytes d.0.0 ++ list_bytes echo_bytes f.0.0))) f.0.1 t.0 n2 in
    let whole : bytes ≡ told_bytes a.0.0 b.0.0 c.0.0 d.0.0 f.0.0 = all_taken bytes (told_bytes a.0.0 b.0.0 c.0.0 d.0.0 f.0.0) f.0.1 n1 z.0 in
    subst (λ (h : Datagram). Completes 1 4 sender bytes h) z.1 (record {
      spelled = λ session. ap (λ (b : List ℕ). head 1 4 session sender ++ b) whole ∙ told_spelled session sender a.0.0 b.0.0 c.0.0 d.0.0 f.0.0;
      fits = (member, t.1, v.1, w.1, x.1);
    })

pub session_again : (sender sent : ℕ) (farewell : Bool) (shown : Page) (rows : List FullName) (echoes : List Echo) → IsSpellable (Session sender sent farewell shown rows echoes)
    → session_of sender (told_bytes sent farewell shown rows echoes) ≡ Ok (Session sender sent farewell shown rows echoes)
unfolding session_of
session_again sender sent farewell shown rows echoes (member, moment, page, are_rows, are_echoes) =
    ap (λ (r : Read ℕ). r >>= behind_sent sender) (moment_reads.again sent (flag_bytes farewell ++ (page_bytes shown ++ (list_bytes name_bytes rows ++ list_bytes echo_bytes echoes))) moment)
    ∙ ap (λ (r : Read Bool). r >>= behind_flag sender sent) (flag_reads.again farewell (page_bytes shown ++ (list_bytes name_bytes rows ++ list_bytes echo_bytes echoes)) tt)
    ∙ ap (λ (r : Read Page). r >>= behind_page sender sent farewell) (page_reads.again shown (list_bytes name_bytes rows ++ list_bytes echo_bytes echoes) page)
    ∙ ap (λ (r : Read (List FullName)). r >>= behind_rows sender sent farewell shown) ((rows_reads farewell sender).again rows (list_bytes echo_bytes echoes) are_rows)
    ∙ ap (λ (b : List ℕ). list_at echo_at b >>= behind_echoes sender sent farewell shown rows) (sym (append-nil (list_bytes echo_bytes echoes)))
    ∙ ap (λ (r : Read (List Echo)). r >>= behind_echoes sender sent farewell shown rows) (echoes_reads.again echoes [] are_echoes)

-- what is asked for is in range exactly where no number is past the limit
pub asked_answer : (name : FullName) (mask : ℕ) (answer : Bool) → is_name name → answer ≡ list_all in_range (asked_by name mask) → IsTrue answer ↔ AllByRecursion is_name (asked_by name mask)
asked_answer name mask true fits e = (λ _. names_asked name mask fits (sym e), λ _. refl)
asked_answer name mask false fits e = (λ h. absurd (false≢true h), λ all. absurd (false≢true (e ∙ all_in_range (asked_by name mask) all)))
