-- What the calls of a member's timers say of one more entry, for every run that the timers fit.
use Rattle.std.specs.Prelude.{◌≡◌, ◌⊎◌, ℕ, ◌<◌, Bool, true, false, not, ◌&&◌, List, [], ◌∷◌, ◌++◌, if◌then◌else◌, Option, Some, None, option_map, option_to_list, IfSome}
use Rattle.srm_names.specs.declared.limits.TheConstants.{MEMBERS}
use Rattle.srm_names.specs.FullName.{FullName}
use Rattle.srm_names.specs.Names.{AreExactly, ascending, name_below}
use Rattle.srm_codec.specs.declared.datagram.Datagram.{Datagram}
use Rattle.srm_codec.specs.declared.datagram.Datagram.TheVariants.{Data, Request, Repair, Session}
use Rattle.srm_codec.specs.Spelling.{asked_by, IsSpellable}
use Rattle.srm_store.specs.Fits.{StoreFits}
use Rattle.srm_store.specs.Stores.{StoreContent}
use Rattle.srm_timers.specs.declared.arm.Arm.{Arm}
use Rattle.srm_timers.specs.declared.arm.ArmKind.TheVariants.{Ask, Fix}
use Rattle.srm_timers.specs.Arms.{AreChosen, RunsOutFirst, ran_out, plan_of, backs_off}
use Rattle.srm_timers.specs.AskCalls.{AskCall, AskFits, AskAdds, AskDue, AskTimersRun, ask_timer, ask_plan, sets}
use Rattle.srm_timers.specs.FixCalls.{Asked, FixContent, FixAdds, NotesRequest, FixDue, FixRepairs, sets_fix}
use Rattle.srm_timers.specs.Distances.{distance_to}
use Rattle.srm_entries.specs.declared.entry.Entry.{Entry}
use Rattle.srm_entries.specs.Configs.{Config}
use Rattle.srm_entries.specs.Entries.{accepted, ticked, state, is_gone, held, evidence_in, is_missing}
use Rattle.srm_entries.specs.Distances.{distance}
use Rattle.srm_entries.specs.Timers.{low_of, high_of, last_ask, fix_running, ArmsRight, TimersRight, ask_running}
use Rattle.srm_entries.specs.Outstanding.{becomes_missing}
use Rattle.srm_entries.specs.Verdicts.{settlings}
use Rattle.srm_agent_state.specs.TimersKept.{TimersFit, TimersContent, HaveSettings}

-- settings and random numbers

-- whatever settings these timers have, they still have
pub record KeepSettings (old new : TimersContent) : Type 0 where
  pub each : (c : Config) → HaveSettings c old → HaveSettings c new

-- the next random numbers choose the waits of the timers, one each, in order; no other is consumed
pub record WaitsAreChosen {W : Type 0} (next_word : W → ℕ × W) (t : TimersContent) (from : W) (arms : List Arm) (to : W) : Type 0 where
  pub each : (c : Config) → HaveSettings c t → AreChosen next_word (low_of c) (high_of c) from arms to

-- distances

-- the table has the distances after these entries
pub record AreDistancesAfter (c : Config) (es : List Entry) (dist : List ℕ) : Type 0 where
  pub each : (m : ℕ) → m < MEMBERS → distance_to dist m ≡ distance c es m

-- entries

-- the names are all that the entry makes missing, in order of name
abbrev pub AreNewlyMissing : List Entry → Entry → List FullName → Type 0
AreNewlyMissing past e names = AreExactly (becomes_missing past e) names

-- a datagram was heard and accepted at a moment, and these timers were set; nothing was requested or repaired
pub record HearsWith (g : Datagram) (now : ℕ) (set : List Arm) (e : Entry) : Type 0 where
  pub heard : accepted e ≡ Some g
  pub read : IsSpellable g
  pub moment : e.moment ≡ now
  pub drawn : e.effects.drawn ≡ None
  pub arms : e.effects.arms ≡ set
  pub asks : e.effects.asks ≡ []
  pub fixes : e.effects.fixes ≡ []

-- a tick at a moment: what was requested and repaired, and which timers were set
pub record TicksWith (asked repaired : List FullName) (now : ℕ) (set : List Arm) (e : Entry) : Type 0 where
  pub ticked : ticked e ≡ true
  pub heard : accepted e ≡ None
  pub moment : e.moment ≡ now
  pub drawn : e.effects.drawn ≡ None
  pub arms : e.effects.arms ≡ set
  pub asks : e.effects.asks ≡ asked
  pub fixes : e.effects.fixes ≡ repaired

-- the entry sets the right timers, and the timers fit the run with the entry added
pub record TimersAdd (c : Config) (past : List Entry) (e : Entry) (new : TimersContent) : Type 0 where
  pub arms : ArmsRight c past e
  pub fits : TimersFit c (past ++ e ∷ []) new

abbrev pub IsDataOf : FullName → Datagram → Type 0
IsDataOf name (Data drawop) = drawop.name ≡ name
IsDataOf name _ = ⊥

abbrev pub IsRepairOf : FullName → Datagram → Type 0
IsRepairOf name (Repair sender drawop) = drawop.name ≡ name
IsRepairOf name _ = ⊥

-- data of a name, or a repair of it
abbrev pub IsDrawopOf : Bool → FullName → Datagram → Type 0
IsDrawopOf false = IsDataOf
IsDrawopOf true = IsRepairOf

abbrev pub IsSession : Datagram → Type 0
IsSession (Session sender sent farewell shown rows echoes) = Unit {0}
IsSession _ = ⊥

abbrev pub IsRequestOf : ℕ → List FullName → Datagram → Type 0
IsRequestOf from asked (Request sender name mask) = (sender ≡ from) × (asked_by name mask ≡ asked)
IsRequestOf from asked _ = ⊥

-- calls

-- whatever run the timers fitted, they still fit
pub record TimersStay (old new : TimersContent) : Type 0 where
  pub each : (c : Config) (past : List Entry) → TimersFit c past old → TimersFit c past new

-- such a datagram was heard, and makes these names missing; the distances are those after it
pub record TimersHear (is : Datagram → Type 0) (newly_missing : List FullName) (dist : List ℕ) (now : ℕ) (arms : List Arm) (old new : TimersContent) : Type 0 where
  pub each : (c : Config) (past : List Entry) (e : Entry) (g : Datagram) → is g → HearsWith g now arms e → TimersFit c past old
      → AreNewlyMissing past e newly_missing → AreDistancesAfter c (past ++ e ∷ []) dist → TimersAdd c past e new

-- a repair of a name ends its repair timer and holds it off; data changes nothing of these
abbrev pub FixEnds : Bool → ℕ → List ℕ → FullName → FixContent → FixContent → Type 0
FixEnds false now dist name old new = new ≡ old
FixEnds true now dist name old new = FixRepairs now dist (name ∷ []) old new

-- a request was heard; the store is as it was before
pub record TimersHearRequest (s : StoreContent) (from : ℕ) (asked newly_missing : List FullName) (dist : List ℕ) (now : ℕ) (arms : List Arm) (old new : TimersContent) : Type 0 where
  pub each : (c : Config) (past : List Entry) (e : Entry) (g : Datagram) → IsRequestOf from asked g → HearsWith g now arms e → TimersFit c past old
      → StoreFits (held past) (evidence_in past) (settlings past) s
      → AreNewlyMissing past e newly_missing → AreDistancesAfter c (past ++ e ∷ []) dist → TimersAdd c past e new

-- the names are those whose request timers have expired, in order
abbrev pub AreToAsk : ℕ → List Entry → List FullName → Type 0
AreToAsk now past names = AreExactly (λ n. is_missing past n && ran_out now (last_ask past n)) names

-- the names are those whose repair timers have expired, in order
abbrev pub AreToFix : ℕ → List Entry → List FullName → Type 0
AreToFix now past names = AreExactly (λ n. ran_out now (fix_running past n)) names

pub record AsksRanOut (now : ℕ) (t : TimersContent) (names : List FullName) : Type 0 where
  pub each : (c : Config) (past : List Entry) → TimersFit c past t → AreToAsk now past names

pub record FixesRanOut (now : ℕ) (t : TimersContent) (names : List FullName) : Type 0 where
  pub each : (c : Config) (past : List Entry) → TimersFit c past t → AreToFix now past names

-- these are the names whose request timers have expired, in order, and each has one
pub record AreDueAsks (now : ℕ) (t : TimersContent) (names : List FullName) : Type 0 where
  pub due : AskDue now t.asks names
  pub rising : ascending name_below names ≡ true
  pub run : AskTimersRun names t.asks

-- and those whose repair timers have expired
pub record AreDueFixes (now : ℕ) (t : TimersContent) (names : List FullName) : Type 0 where
  pub due : FixDue now t.fixes names
  pub rising : ascending name_below names ≡ true

-- One name of a request: who asked is noted. A held name gets a repair timer, if none runs and it isn't held off. The request timer of a name
-- that isn't held is set again, if one runs and the request isn't ignored.
pub record IsRequestHeard (is_held : Bool) (name : FullName) (from : ℕ) (dist : List ℕ) (now : ℕ) (arm : Option Arm) (old new : TimersContent) : Type 0 where
  pub fixes : FixAdds (Asked name from ∷ (if is_held then sets_fix now (option_to_list arm) else [])) old.fixes new.fixes
  pub asks : AskAdds (if is_held then [] else sets now (option_to_list arm)) old.asks new.asks
  pub kind : IfSome arm (λ a. a.kind ≡ (if is_held then Fix else Ask))
  pub to_fix : is_held ≡ true → NotesRequest name (distance_to dist from) true now old.fixes arm
  pub to_ask : is_held ≡ false → (c1 c2 : ℕ) (calls : List AskCall) → AskFits c1 c2 calls old.asks
      → option_map plan_of arm ≡ option_map (ask_plan name (distance_to dist name.stream.source)) (backs_off now (ask_timer calls name))

-- a tick of a member that isn't gone requests and repairs what is due; the distances are those after it
pub record TimersTick (asks fixes : List FullName) (dist : List ℕ) (now : ℕ) (arms : List Arm) (old new : TimersContent) : Type 0 where
  pub each : (c : Config) (past : List Entry) (e : Entry) → TicksWith asks fixes now arms e → TimersFit c past old → is_gone (state past) ≡ false
      → AreToAsk now past asks → AreToFix now past fixes → AreDistancesAfter c (past ++ e ∷ []) dist → TimersAdd c past e new × TimersRight past e

abbrev pub IsBefore : ℕ → Option ℕ → Type 0
IsBefore u None = Unit {0}
IsBefore u (Some t) = u < t

-- the first timer expires at this moment; without a moment no timer ever does
pub record FirstOfBothRunsOut (past : List Entry) (moment : Option ℕ) : Type 0 where
  pub no_ask : (u : ℕ) → IsBefore u moment → (n : FullName) → ran_out u (ask_running past n) ≡ false
  pub no_fix : (u : ℕ) → IsBefore u moment → (n : FullName) → ran_out u (fix_running past n) ≡ false
  pub is_one : IfSome moment (λ t. (n : FullName) × ((ran_out t (ask_running past n) ≡ true) ⊎ (ran_out t (fix_running past n) ≡ true)))

-- the first request timer of all expires at this moment, and none runs where there is none
pub record RequestsNext (t : TimersContent) (moment : Option ℕ) : Type 0 where
  pub each : (c : Config) (past : List Entry) → TimersFit c past t → RunsOutFirst (ask_running past) moment

-- and the first repair timer
pub record RepairsNext (t : TimersContent) (moment : Option ℕ) : Type 0 where
  pub each : (c : Config) (past : List Entry) → TimersFit c past t → RunsOutFirst (fix_running past) moment

pub record TimersNext (t : TimersContent) (moment : Option ℕ) : Type 0 where
  pub each : (c : Config) (past : List Entry) → TimersFit c past t → FirstOfBothRunsOut past moment
