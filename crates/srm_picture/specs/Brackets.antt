-- Timers from the entry that sets them to the one that ends them.
use Rattle.std.specs.Prelude.{◌≡◌, ◌⊎◌, ℕ, ◌<◌, Bool, true, false, ◌||◌, ◌&&◌, List, map, length, slice_get, Option, Some, MatchOption}
use Rattle.std.specs.List.{enumerate_from, list_any, AllByRecursion}
use Rattle.srm_names.specs.FullName.{FullName}
use Rattle.srm_names.specs.declared.drawop.Drawop.{Drawop}
use Rattle.srm_names.specs.Names.{same_name, among}
use Rattle.srm_codec.specs.declared.datagram.Datagram.{Datagram}
use Rattle.srm_timers.specs.declared.arm.Arm.{Arm}
use Rattle.srm_timers.specs.declared.arm.ArmKind.{ArmKind}
use Rattle.srm_timers.specs.declared.arm.ArmKind.TheVariants.{Ask, Fix}
use Rattle.srm_timers.specs.Arms.{same_kind}
use Rattle.srm_entries.specs.declared.entry.Entry.{Entry}
use Rattle.srm_entries.specs.Entries.{accepted, is_gone, drawops_in}
use Rattle.srm_entries.specs.Timers.{repairs_in}
use Rattle.srm_picture.specs.declared.bracket.TimerEnd.{TimerEnd}
use Rattle.srm_picture.specs.declared.bracket.TimerEnd.TheVariants.{RanOut, BackedOff, Cancelled}
use Rattle.srm_picture.specs.declared.bracket.BracketEnd.{BracketEnd}
use Rattle.srm_picture.specs.declared.bracket.Bracket.{Bracket}
use Rattle.srm_picture.specs.declared.point.Point.{Point}
use Rattle.srm_picture.specs.ByEntry.{by_entry, point_of}

-- a timer, and the entry that set it
pub record Timer : Type 0 where
  pub from : Point
  pub kind : ArmKind
  pub name : FullName

-- the names that the entry requests, or repairs
abbrev pub handed_out : ArmKind → Entry → List FullName
handed_out Ask e = e.effects.asks
handed_out Fix e = e.effects.fixes

abbrev pub hands_out : ArmKind → FullName → Entry → Bool
hands_out kind n e = among (handed_out kind e) n

-- the entry sets a timer of the same kind and name
abbrev pub sets_anew : ArmKind → FullName → Entry → Bool
sets_anew kind n e = list_any (λ (b : Arm). same_kind kind b.kind && same_name n b.name) e.effects.arms

-- the drawop that a timer was to request came, or a repair like the one that it was to send
abbrev pub cancelled_by : ArmKind → FullName → Option Datagram → Bool
cancelled_by Ask n accepted = list_any (λ (d : Drawop). same_name n d.name) (drawops_in accepted)
cancelled_by Fix n accepted = repairs_in n accepted

-- the entry accepts that datagram, or the member is gone
abbrev pub cancels : ArmKind → FullName → Entry → Bool
cancels kind n e = is_gone e.effects.state || cancelled_by kind n (accepted e)

-- How a later entry of the member ends a timer. It expired if the entry requests or repairs its name. It backed off if the entry sets it
-- again without that. It was cancelled if the entry cancels it and does neither.
abbrev pub EndsLater : ArmKind → FullName → Entry → TimerEnd → Type 0
EndsLater kind n e RanOut = hands_out kind n e ≡ true
EndsLater kind n e BackedOff = (hands_out kind n e ≡ false) × (sets_anew kind n e ≡ true)
EndsLater kind n e Cancelled = (hands_out kind n e ≡ false) × (sets_anew kind n e ≡ false) × (cancels kind n e ≡ true)

-- the entry that sets a timer ends it only if the member is gone by it
abbrev pub EndsItself : Entry → TimerEnd → Type 0
EndsItself e how = (is_gone e.effects.state ≡ true) × (how ≡ Cancelled)

-- the entry at this index is of the timer's member, and ends the timer so
pub record EndsIn (t : Timer) (index : ℕ) (e : Entry) (how : TimerEnd) : Type 0 where
  pub member : e.member ≡ t.from.member
  pub so : ((t.from.entry < index) × EndsLater t.kind t.name e how) ⊎ ((index ≡ t.from.entry) × EndsItself e how)

-- none of the first n entries ends the timer in any way
abbrev pub NoneEnds : List Entry → Timer → ℕ → Type 0
NoneEnds es t n = (index : ℕ) (e : Entry) (how : TimerEnd) → index < n → slice_get es index ≡ Some e → ¬ (EndsIn t index e how)

-- the first entry that ends the timer, and how
pub record Ends (es : List Entry) (t : Timer) (end : BracketEnd) : Type 0 where
  pub entry : Entry
  pub at : slice_get es end.entry ≡ Some entry
  pub so : EndsIn t end.entry entry end.ending
  pub first : NoneEnds es t end.entry

-- the timer ends there and so; None if no entry ends it
abbrev pub EndIs : List Entry → Timer → Option BracketEnd → Type 0
EndIs es t end = MatchOption end (NoneEnds es t (length es)) (Ends es t)

abbrev pub timer : Point → Arm → Timer
timer place a = record { from = place; kind = a.kind; name = a.name }

-- a timer with its place among those that its entry sets
abbrev pub numbered_timer : Point → ℕ × Arm → ℕ × Timer
numbered_timer place p = (p.0, timer place p.1)

abbrev pub timers_of : Point → List Arm → List (ℕ × Timer)
timers_of place arms = map (numbered_timer place) (enumerate_from 0 arms)

abbrev pub timers_in : ℕ × Entry → List (ℕ × Timer)
timers_in r = timers_of (point_of r) r.1.effects.arms

abbrev pub timer_of : Bracket → Timer
timer_of b = record { from = b.from; kind = b.kind; name = b.name }

abbrev pub numbered : Bracket → ℕ × Timer
numbered b = (b.nth, timer_of b)

-- the bracket ends where its timer does, and how it does
abbrev pub EndsRight : List Entry → Bracket → Type 0
EndsRight es b = EndIs es (timer_of b) b.end

-- one bracket for each of these timers, in their order
pub record AreBracketsOf (es : List Entry) (timers : List (ℕ × Timer)) (bs : List Bracket) : Type 0 where
  pub are : map numbered bs ≡ timers
  pub ends : AllByRecursion (EndsRight es) bs

-- one for each timer that the entries set, in order
abbrev pub AreBrackets : List Entry → List Bracket → Type 0
AreBrackets es bs = AreBracketsOf es (by_entry timers_in es) bs
