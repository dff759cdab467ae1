-- Numbers, the key and the settings of a room's file.
use Rattle.std.proofs.Common.{◌≡◌, ℕ, ◌<◌, ◌≤◌, ◌&&◌, pos, negsuc, true, nat_le, le-leb, List, [], ◌∷◌, length, Result, Ok, Err, refl, sym, ap, ◌∙◌, arith}
use Rattle.std.specs.Prelude.{IfOk}
use Rattle.std.proofs.lemmas.Bool.{and_parts, leb-true}
use Rattle.hex.specs.Hex.{IsBytes, decode_of, encode_lower}
use Rattle.hex.specs.declared.error.FromHexError.{FromHexError}
use Rattle.hex.proofs.HexLemmas.{decode_of-ok, decode_of-encode_lower}
use Rattle.toml.specs.Data.{Data, string, integer, float, boolean, datetime, array, table, Items, no_items, item, Members}
use Rattle.toml.specs.View.{items_view}
use Rattle.toml.specs.declared.value.Value.{Value}
use Rattle.srm_room.specs.declared.fault.Fault.TheVariants as fault
use Rattle.srm_room.specs.declared.field.Field.{Field}
use Rattle.srm_room.specs.declared.field.Field.TheVariants as field
use Rattle.srm_room.specs.declared.field.Place.{Place}
use Rattle.srm_room.specs.declared.field.Place.TheVariants as place
use Rattle.srm_room.specs.declared.reading_settings.Waits.{Waits}
use Rattle.srm_room.specs.declared.room_settings.RoomSettings.{RoomSettings}
use Rattle.srm_room.specs.declared.room_settings.TheConstants.{GREATEST_WAIT}
use Rattle.srm_room.specs.Documents.{document, settings_members}
use Rattle.srm_room.specs.Readings.{◌>>=◌, array_of, key_in, key_of_digits, number_in, number_of, setting_in, settings_at, settings_in, size, table_of, text_in, value_in, wait_of, waits_in, waits_of}
use Rattle.srm_room.specs.Rooms.{AreSettings, Content, IsFrom}
use Rattle.srm_room.proofs.Binding.{bind_IfOk, bind_step, test_IfOk, value_of}

-- ---- numbers

pub number_of-from : (p : Place) (f : Field) (least greatest : ℕ) (d : Data) → IfOk (number_of p f least greatest d) (IsFrom least greatest)
number_of-from p f least greatest (integer (pos n)) =
    test_IfOk (nat_le least n && nat_le n greatest) n _ (IsFrom least greatest) (λ t.
    let parts = and_parts (nat_le least n) (nat_le n greatest) t in
    (leb-true least n parts.0, leb-true n greatest parts.1))
number_of-from p f least greatest (integer (negsuc n)) = tt
number_of-from p f least greatest (string s) = tt
number_of-from p f least greatest (float x) = tt
number_of-from p f least greatest (boolean b) = tt
number_of-from p f least greatest (datetime t) = tt
number_of-from p f least greatest (array ds) = tt
number_of-from p f least greatest (table ms) = tt

pub number_in-from : (p : Place) (f : Field) (least greatest : ℕ) (ms : Members) → IfOk (number_in p f least greatest ms) (IsFrom least greatest)
number_in-from p f least greatest ms = bind_IfOk (value_in p f ms) (number_of p f least greatest) (IsFrom least greatest) (λ d _. number_of-from p f least greatest d)

-- a number at a key is in its range
pub is_from : (p : Place) (f : Field) (least greatest : ℕ) (ms : Members) (n : ℕ) → number_in p f least greatest ms ≡ Ok n → IsFrom least greatest n
is_from p f least greatest ms n e = value_of (number_in p f least greatest ms) n (IsFrom least greatest) e (number_in-from p f least greatest ms)

pub number_back : (p : Place) (f : Field) (least greatest n : ℕ) → least ≤ n → n ≤ greatest → number_of p f least greatest (integer (pos n)) ≡ Ok n
number_back p f least greatest n low high = rw (le-leb least n low, le-leb n greatest high)

-- ---- the key

pub record KeyFits (key : List ℕ) : Type 0 where
  pub bytes : IsBytes key
  pub long : IsFrom 16 1024 (length key)

digits_fit : (r : Result (List ℕ) FromHexError) → ((key : List ℕ) → r ≡ Ok key → IsBytes key) → IfOk (key_of_digits r) KeyFits
digits_fit (Ok key) h =
    test_IfOk (nat_le 16 (length key) && nat_le (length key) 1024) key _ KeyFits (λ t.
    let parts = and_parts (nat_le 16 (length key)) (nat_le (length key) 1024) t in
    record { bytes = h key refl; long = (leb-true 16 (length key) parts.0, leb-true (length key) 1024 parts.1) })
digits_fit (Err e) h = tt

pub key_in-fits : (ms : Members) → IfOk (key_in ms) KeyFits
unfolding key_in
key_in-fits ms = bind_IfOk (text_in place.Top field.Key ms) (λ digits. key_of_digits (decode_of digits)) KeyFits (λ digits _. digits_fit (decode_of digits) (λ key e. (decode_of-ok digits key e).3))

digits_back : (key : List ℕ) → IsFrom 16 1024 (length key) → key_of_digits (Ok key) ≡ Ok key
digits_back key long = rw (le-leb 16 (length key) long.0, le-leb (length key) 1024 long.1)

pub key_back : (r : Content) → IsBytes r.key → IsFrom 16 1024 (length r.key) → key_in (document r) ≡ Ok r.key
unfolding key_in
key_back r bytes long = ap key_of_digits (decode_of-encode_lower r.key bytes) ∙ digits_back r.key long

-- ---- the settings

pub record AreWaits (w : Waits) : Type 0 where
  pub c1 : w.c1 ≤ GREATEST_WAIT
  pub c2 : w.c2 ≤ GREATEST_WAIT
  pub d1 : w.d1 ≤ GREATEST_WAIT
  pub d2 : w.d2 ≤ GREATEST_WAIT

wait_fits : (d : Data) (n : ℕ) → wait_of d ≡ Ok n → n ≤ GREATEST_WAIT
wait_fits d n e = (value_of (wait_of d) n (IsFrom 0 GREATEST_WAIT) e (number_of-from place.Settings field.Waits 0 GREATEST_WAIT d)).1

waits_fit : (ds : Items) → IfOk (waits_of ds) AreWaits
waits_fit no_items = tt
waits_fit (item a no_items) = tt
waits_fit (item a (item b no_items)) = tt
waits_fit (item a (item b (item c no_items))) = tt
waits_fit (item a (item b (item c (item d no_items)))) =
    bind_IfOk (wait_of a) _ AreWaits (λ c1 e1.
    bind_IfOk (wait_of b) _ AreWaits (λ c2 e2.
    bind_IfOk (wait_of c) _ AreWaits (λ d1 e3.
    bind_IfOk (wait_of d) _ AreWaits (λ d2 e4.
    record { c1 = wait_fits a c1 e1; c2 = wait_fits b c2 e2; d1 = wait_fits c d1 e3; d2 = wait_fits d d2 e4 }))))
waits_fit (item a (item b (item c (item d (item e ds))))) = tt

waits_in-fit : (ms : Members) → IfOk (waits_in ms) AreWaits
unfolding waits_in
waits_in-fit ms =
    bind_IfOk (value_in place.Settings field.Waits ms) _ AreWaits (λ d _.
    bind_IfOk (array_of place.Settings field.Waits d) _ AreWaits (λ ds _. waits_fit ds))

settings_in-fit : (ms : Members) → IfOk (settings_in ms) AreSettings
unfolding settings_in
settings_in-fit ms =
    bind_IfOk (waits_in ms) _ AreSettings (λ w w_is.
    bind_IfOk (setting_in field.LeastDistance 1 10000000 ms) _ AreSettings (λ least e1.
    bind_IfOk (setting_in field.Rate 1 100000000 ms) _ AreSettings (λ rate e2.
    bind_IfOk (setting_in field.Depth 1051 1000000 ms) _ AreSettings (λ depth e3.
    bind_IfOk (setting_in field.Linger 0 30000000 ms) _ AreSettings (λ linger e4.
    bind_IfOk (setting_in field.MostMissing 1 16777216 ms) _ AreSettings (λ most e5.
    let waits = value_of (waits_in ms) w AreWaits w_is (waits_in-fit ms) in
    test_IfOk _ _ _ AreSettings (λ _. record {
      c1 = waits.c1;
      c2 = waits.c2;
      d1 = waits.d1;
      d2 = waits.d2;
      least_distance = is_from place.Settings field.LeastDistance 1 10000000 ms least e1;
      rate = is_from place.Settings field.Rate 1 100000000 ms rate e2;
      depth = is_from place.Settings field.Depth 1051 1000000 ms depth e3;
      linger = (is_from place.Settings field.Linger 0 30000000 ms linger e4).1;
      most_missing = is_from place.Settings field.MostMissing 1 16777216 ms most e5;
    })))))))

pub settings_at-fit : (ms : Members) → IfOk (settings_at ms) AreSettings
settings_at-fit ms =
    bind_IfOk (value_in place.Top field.Settings ms) _ AreSettings (λ d _.
    bind_IfOk (table_of place.Top field.Settings d) _ AreSettings (λ s _. settings_in-fit s))

-- fewer than four waits, and more
pub few_waits : (vs : List Value) → length vs < 4 → waits_of (items_view vs) ≡ Err (fault.Wrong place.Settings field.Waits)
few_waits [] h = refl
few_waits (a ∷ []) h = refl
few_waits (a ∷ b ∷ []) h = refl
few_waits (a ∷ b ∷ c ∷ []) h = refl
few_waits (a ∷ b ∷ c ∷ d ∷ vs) h = absurd (omega arith)

pub many_waits : (vs : List Value) → 4 < length vs → waits_of (items_view vs) ≡ Err (fault.Wrong place.Settings field.Waits)
many_waits [] h = absurd (omega arith)
many_waits (a ∷ []) h = absurd (omega arith)
many_waits (a ∷ b ∷ []) h = absurd (omega arith)
many_waits (a ∷ b ∷ c ∷ []) h = absurd (omega arith)
many_waits (a ∷ b ∷ c ∷ d ∷ []) h = absurd (omega arith)
many_waits (a ∷ b ∷ c ∷ d ∷ e ∷ vs) h = refl

abbrev waits_from : RoomSettings → Waits
waits_from s = record { c1 = s.c1; c2 = s.c2; d1 = s.d1; d2 = s.d2 }

wait_back : (n : ℕ) → n ≤ GREATEST_WAIT → wait_of (integer (pos n)) ≡ Ok n
wait_back n high = number_back place.Settings field.Waits 0 GREATEST_WAIT n (omega arith) high

waits_back : (s : RoomSettings) → AreSettings s → waits_in (settings_members s) ≡ Ok (waits_from s)
unfolding waits_in
waits_back s fits =
    bind_step (wait_of (integer (pos s.c1))) s.c1 _ _ (wait_back s.c1 fits.c1)
    (bind_step (wait_of (integer (pos s.c2))) s.c2 _ _ (wait_back s.c2 fits.c2)
    (bind_step (wait_of (integer (pos s.d1))) s.d1 _ _ (wait_back s.d1 fits.d1)
    (bind_step (wait_of (integer (pos s.d2))) s.d2 _ _ (wait_back s.d2 fits.d2) refl)))

pub settings_back : (s : RoomSettings) → AreSettings s → settings_in (settings_members s) ≡ Ok s
unfolding settings_in
settings_back s fits =
    let ms = settings_members s in
    bind_step (waits_in ms) (waits_from s) _ _ (waits_back s fits)
    (bind_step (setting_in field.LeastDistance 1 10000000 ms) s.least_distance _ _ (number_back place.Settings field.LeastDistance 1 10000000 s.least_distance fits.least_distance.0 fits.least_distance.1)
    (bind_step (setting_in field.Rate 1 100000000 ms) s.rate _ _ (number_back place.Settings field.Rate 1 100000000 s.rate fits.rate.0 fits.rate.1)
    (bind_step (setting_in field.Depth 1051 1000000 ms) s.depth _ _ (number_back place.Settings field.Depth 1051 1000000 s.depth fits.depth.0 fits.depth.1)
    (bind_step (setting_in field.Linger 0 30000000 ms) s.linger _ _ (number_back place.Settings field.Linger 0 30000000 s.linger (omega arith) fits.linger)
    (bind_step (setting_in field.MostMissing 1 16777216 ms) s.most_missing _ _ (number_back place.Settings field.MostMissing 1 16777216 s.most_missing fits.most_missing.0 fits.most_missing.1) refl)))))
