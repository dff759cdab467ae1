-- A replay does what was done.
use Rattle.std.specs.Prelude.{◌≡◌, ℕ, ◌<◌, Bool, true, false, not, List, [], map, filter, None}
use Rattle.std.specs.List.{AllByRecursion}
use Rattle.srm_entries.specs.declared.entry.Entry.{Entry}
use Rattle.srm_entries.specs.declared.entry.Input.{Input}
use Rattle.srm_entries.specs.declared.entry.Input.TheVariants.{Noise}
use Rattle.srm_entries.specs.Configs.{Config}
use Rattle.srm_entries.specs.Entries.{accepted}
use Rattle.srm_entries.specs.Giving.{given_in}
use Rattle.srm_entries.specs.Runs.{IsMemberRun}
use Rattle.srm_world.specs.WaitWords.{AreByWords}
use Rattle.srm_replays.specs.Calls.{acts}

-- the moment of a call, and what the member was handed
abbrev pub call_of : Entry → ℕ × Input
call_of e = (e.moment, e.input)

-- the entries of the calls that act
abbrev pub acting : List Entry → List Entry
acting es = filter acts es

abbrev pub is_noise : Input → Bool
is_noise Noise = true
is_noise _ = false

-- the entries of all calls but noise
abbrev pub but_noise : List Entry → List Entry
but_noise es = filter (λ e. not (is_noise e.input)) es

-- The second run is handed exactly the calls that act in the first, each at its moment, in order, and noise between them.
abbrev pub IsReplayOf : List Entry → List Entry → Type 0
IsReplayOf es fs = map call_of (but_noise fs) ≡ map call_of (acting es)

-- a run of a member that was made at a moment, whose generator chose the waits, from this state on
pub record IsRunByWords {W : Type 0} (next_word : W → ℕ × W) (c : Config) (made : ℕ) (from : W) (es : List Entry) : Type 0 where
  pub run : IsMemberRun c made es
  pub to : W
  pub words : AreByWords next_word c from es to

-- The law: where a replay has the same settings and random numbers, each call that acted acts again, with the same entry, its effects, outs and waits included. The
-- member is one of its roster, as each is that was made.
abbrev pub ReplayLaw : Type 0 → Type 0
ReplayLaw W = (next_word : W → ℕ × W) (c : Config) (made : ℕ) (from : W) (es fs : List Entry) → c.me < c.members
    → IsRunByWords next_word c made from es → IsRunByWords next_word c made from fs → IsReplayOf es fs → acting fs ≡ acting es

-- The same of two runs in which the same calls act, each at its moment, whatever else they are handed.
abbrev pub AgreementLaw : Type 0 → Type 0
AgreementLaw W = (next_word : W → ℕ × W) (c : Config) (made : ℕ) (from : W) (es fs : List Entry) → c.me < c.members
    → IsRunByWords next_word c made from es → IsRunByWords next_word c made from fs → map call_of (acting fs) ≡ map call_of (acting es) → acting fs ≡ acting es

-- Nobody can tell that the call was made: it heard nothing, sent nothing, and gave the page workers nothing.
pub record IsUnseen (e : Entry) : Type 0 where
  pub heard : accepted e ≡ None
  pub sent : e.effects.outs ≡ []
  pub given : (slot : ℕ) → given_in slot e.input e.effects.message ≡ None

-- if the call doesn't act, it is unseen
abbrev pub RestsUnseen : Entry → Type 0
RestsUnseen e = acts e ≡ false → IsUnseen e

-- In every run of a member the calls that don't act are unseen.
abbrev pub UnseenLaw : Type 0
UnseenLaw = (c : Config) (made : ℕ) (es : List Entry) → IsMemberRun c made es → AllByRecursion RestsUnseen es
