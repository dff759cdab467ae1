-- Request and repair timers: which an entry sets, and which a tick ends.
use Rattle.std.specs.Prelude.{ℕ, ◌+◌, ◌*◌, ◌≤◌, nat_lt, Bool, false, not, ◌&&◌, ◌||◌, List, [], ◌∷◌, ◌++◌, find, if◌then◌else◌, Option, Some, None, unwrap_or, option_map, is_some}
use Rattle.std.specs.List.{list_any, AllByRecursion}
use Rattle.srm_names.specs.FullName.{FullName}
use Rattle.srm_names.specs.Histories.{Step, steps, first_of, last_of, since}
use Rattle.srm_names.specs.Names.{same_name, among, AreExactly}
use Rattle.srm_codec.specs.declared.datagram.Datagram.{Datagram}
use Rattle.srm_codec.specs.declared.datagram.Datagram.TheVariants.{Request, Repair}
use Rattle.srm_codec.specs.Spelling.{asked_by}
use Rattle.srm_entries.specs.Configs.{Config}
use Rattle.srm_entries.specs.declared.entry.Entry.{Entry}
use Rattle.srm_timers.specs.declared.arm.Arm.{Arm}
use Rattle.srm_timers.specs.declared.arm.ArmKind.{ArmKind}
use Rattle.srm_timers.specs.declared.arm.ArmKind.TheVariants.{Ask, Fix}
use Rattle.srm_entries.specs.Entries.{accepted, ticked, state, is_gone, is_held, is_missing}
use Rattle.srm_timers.specs.declared.arm.Armed.{Armed}
use Rattle.srm_timers.specs.Arms as timers
use Rattle.srm_timers.specs.Arms.{ArmsAre, same_kind, ran_out, WaitBasis, next_exponent, backs_off}
use Rattle.srm_timers.specs.Timers.{armed_at}
use Rattle.srm_timers.specs.AskCalls.{ask_basis}
use Rattle.srm_timers.specs.FixCalls.{fix_basis, held_until}
use Rattle.srm_entries.specs.Distances.{distance}

abbrev pub arm_in : ArmKind → FullName → Entry → Option Armed
arm_in kind n e =
    option_map (armed_at e.moment) (find (λ a. same_kind kind a.kind && same_name n a.name) e.effects.arms)

abbrev pub last_ask : List Entry → FullName → Option Armed
last_ask es n = last_of (arm_in Ask n) es

-- who requests the name
abbrev pub asker_in : FullName → Option Datagram → Option ℕ
asker_in n (Some (Request sender name mask)) = if among (asked_by name mask) n then Some sender else None
asker_in n _ = None

abbrev pub asker : FullName → Entry → Option ℕ
asker n e = asker_in n (accepted e)

abbrev pub asks_for : FullName → Entry → Bool
asks_for n e = is_some (asker n e)

abbrev pub repairs_in : FullName → Option Datagram → Bool
repairs_in n (Some (Repair sender drawop)) = same_name n drawop.name
repairs_in n _ = false

-- a repair of the name was heard or made
abbrev pub repaired : FullName → Entry → Bool
repaired n e = repairs_in n (accepted e) || among e.effects.fixes n

abbrev pub ask_due : List Entry → FullName → ℕ → Bool
ask_due es n now = not (is_gone (state es)) && is_missing es n && ran_out now (last_ask es n)

abbrev pub only_if : Bool → Option Armed → Option Armed
only_if b o = if b then o else None

-- the request timer of a name that is missing
abbrev pub ask_running : List Entry → FullName → Option Armed
ask_running es n = only_if (is_missing es n) (last_ask es n)

abbrev pub first_asker : List Entry → FullName → ℕ
first_asker es n = unwrap_or (first_of (asker n) es) n.stream.source

-- a repair holds the name off for three distances to the member that asked first, as both were known at that entry
abbrev pub holds_off : Config → FullName → ℕ → Step Entry → Bool
holds_off c n now s =
    repaired n s.this && nat_lt now (held_until s.this.moment (distance c (s.before ++ s.this ∷ []) (first_asker s.before n)))

abbrev pub held_off : Config → List Entry → FullName → ℕ → Bool
held_off c es n now = list_any (holds_off c n now) (steps es)

-- the repair timer that runs: the last one set since a repair was heard or made
abbrev pub fix_running : List Entry → FullName → Option Armed
fix_running es n = last_of (arm_in Fix n) (since (repaired n) es)

abbrev pub fix_due : List Entry → FullName → ℕ → Bool
fix_due es n now = not (is_gone (state es)) && ran_out now (fix_running es n)

-- The exponent of the request timer that the entry sets for the name:
-- it sets a timer where the name becomes missing, where a request for it is heard that isn't ignored, and where the member requests it itself.
abbrev pub ask_exponent : List Entry → Entry → FullName → Option ℕ
ask_exponent before e n =
    if is_missing before n
    then (if asks_for n e then backs_off e.moment (last_ask before n) else if among e.effects.asks n then option_map next_exponent (last_ask before n) else None)
    else if is_missing (before ++ e ∷ []) n then Some (if asks_for n e then 1 else 0) else None

abbrev pub ask_basis_of : Config → List Entry → Entry → FullName → Option WaitBasis
ask_basis_of c before e n =
    option_map (λ i. ask_basis i (distance c (before ++ e ∷ []) n.stream.source)) (ask_exponent before e n)

-- a request for a held name sets a repair timer, if none runs and the name isn't held off
abbrev pub fix_basis_of : Config → List Entry → Entry → FullName → Option WaitBasis
fix_basis_of c before e n =
    if is_held before n && not (is_some (fix_running before n)) && not (held_off c before n e.moment)
    then option_map (λ a. fix_basis (distance c before a)) (asker n e)
    else None

abbrev pub basis_of : Config → List Entry → Entry → FullName → Option WaitBasis
basis_of c before e n = if is_held before n then fix_basis_of c before e n else ask_basis_of c before e n

-- the ends of the range that a timer's wait is chosen from
abbrev pub low_of : Config → Arm → ℕ
low_of c a = times a.kind
  where
    times : ArmKind → ℕ
    times Ask = timers.low_of c.c1 a
    times Fix = c.d1 * a.distance

abbrev pub high_of : Config → Arm → ℕ
high_of c a = times a.kind
  where
    times : ArmKind → ℕ
    times Ask = timers.high_of c.c1 c.c2 a
    times Fix = (c.d1 + c.d2) * a.distance

-- the entry sets these timers and no others, in order of name
pub record ArmsRight (c : Config) (before : List Entry) (e : Entry) : Type 0 where
  pub are : ArmsAre (basis_of c before e) e.effects.arms
  pub waits : AllByRecursion (λ a. (low_of c a ≤ a.wait) × (a.wait ≤ high_of c a)) e.effects.arms

-- A tick requests and repairs exactly the names whose timers ran out. No other entry does.
pub record TimersRight (before : List Entry) (e : Entry) : Type 0 where
  pub asks : AreExactly (λ n. ticked e && ask_due before n e.moment) e.effects.asks
  pub fixes : AreExactly (λ n. ticked e && fix_due before n e.moment) e.effects.fixes
