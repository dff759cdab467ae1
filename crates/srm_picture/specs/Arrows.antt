-- The datagrams that were sent, their arrivals, and the arrows from one to the other.
use Rattle.std.specs.Prelude.{◌≡◌, ℕ, ◌==◌, Bool, true, false, List, [], ◌∷◌, map, filter, Some, slice_get, if◌then◌else◌}
use Rattle.std.specs.List.{enumerate_from, AllByRecursion}
use Rattle.srm_names.specs.Histories.{Step, steps}
use Rattle.srm_codec.specs.declared.datagram.Datagram.{Datagram}
use Rattle.srm_entries.specs.declared.entry.Entry.{Entry}
use Rattle.srm_entries.specs.declared.entry.Input.{Input}
use Rattle.srm_entries.specs.declared.entry.Input.TheVariants.{Heard, Noise}
use Rattle.srm_entries.specs.declared.entry.Verdict.{Verdict}
use Rattle.srm_entries.specs.declared.entry.Verdict.TheVariants.{Done}
use Rattle.srm_entries.specs.Entries.{sent}
use Rattle.srm_entries.specs.Kinds.{kind_of}
use Rattle.srm_picture.specs.declared.arrow.Launch.{Launch}
use Rattle.srm_picture.specs.declared.arrow.Arrival.{Arrival}
use Rattle.srm_picture.specs.declared.arrow.ArrowEnd.{ArrowEnd}
use Rattle.srm_picture.specs.declared.arrow.ArrowEnd.TheVariants.{Accepted, Ignored, Lost}
use Rattle.srm_picture.specs.declared.arrow.Arrow.{Arrow}
use Rattle.srm_picture.specs.declared.point.Point.{Point}
use Rattle.srm_picture.specs.ByEntry.{by_entry, point_of}

abbrev pub launch : Point → ℕ × Datagram → Launch
launch place p = record { from = place; nth = p.0; kind = kind_of p.1 }

abbrev pub launched_in : ℕ × Entry → List Launch
launched_in r = map (launch (point_of r)) (enumerate_from 0 r.1.effects.outs)

-- each datagram that the entries sent, in order
abbrev pub launches_in : List Entry → List Launch
launches_in es = by_entry launched_in es

-- the input is the arrival of this datagram; to a gone member it is noise
abbrev pub IsComing : Datagram → Input → Type 0
IsComing g (Heard h) = h ≡ g
IsComing g Noise = Unit {0}
IsComing g _ = ⊥

abbrev pub something_comes : Input → Bool
something_comes (Heard h) = true
something_comes Noise = true
something_comes _ = false

abbrev pub is_done : Verdict → Bool
is_done Done = true
is_done _ = false

-- in this entry the datagram with this number came, which had been sent before
pub record IsArrival (es : List Entry) (h : Arrival) : Type 0 where
  pub step : Step Entry
  pub datagram : Datagram
  pub at : slice_get (steps es) h.at.entry ≡ Some step
  pub member : step.this.member ≡ h.at.member
  pub sent : slice_get (sent step.before) h.number ≡ Some datagram
  pub comes : IsComing datagram step.this.input
  pub accepted : h.accepted ≡ is_done step.this.verdict

abbrev pub coming_in : ℕ × Entry → List Point
coming_in r = if something_comes r.1.input then point_of r ∷ [] else []

-- each is an arrival, and each entry of a datagram or noise has one, in order
pub record AreArrivals (es : List Entry) (hs : List Arrival) : Type 0 where
  pub each : AllByRecursion (IsArrival es) hs
  pub places : map (λ (h : Arrival). h.at) hs ≡ by_entry coming_in es

abbrev pub arrow_end : Arrival → ArrowEnd
arrow_end h = if h.accepted then Accepted h.at else Ignored h.at

abbrev pub arrow_to : ℕ × Launch → Arrival → Arrow
arrow_to p h = record { number = p.0; launch = p.1; end = arrow_end h }

abbrev pub arrivals_of : ℕ → List Arrival → List Arrival
arrivals_of n hs = filter (λ (h : Arrival). h.number == n) hs

-- one arrow to nobody, if there is none
abbrev pub or_lost : ℕ × Launch → List Arrow → List Arrow
or_lost p [] = record { number = p.0; launch = p.1; end = Lost } ∷ []
or_lost p (a ∷ arrows) = a ∷ arrows

-- a datagram's arrows: one to each arrival, or one to nobody if it never came
abbrev pub arrows_of : List Arrival → ℕ × Launch → List Arrow
arrows_of hs p = or_lost p (map (arrow_to p) (arrivals_of p.0 hs))

abbrev pub arrows_in : List Launch → List Arrival → List Arrow
arrows_in ls hs = by_entry (arrows_of hs) ls
