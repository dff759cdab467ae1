-- The parts of a turn.
use Rattle.std.specs.Prelude.{◌≡◌, ◌⊎◌, ℕ, ◌<◌, ◌≤◌, ◌==◌, ◌+◌, ◌-◌, max, Bool, true, false, ◌&&◌, ◌||◌, List, [], ◌∷◌, ◌++◌, map, length, slice_get, Option, Some, None, is_none, option_to_list, is_some, MatchBool, if◌then◌else◌}
use Rattle.std.specs.Bool.{OnTrue}
use Rattle.std.specs.List.{AllByRecursion, list_any}
use Rattle.srm_names.specs.declared.limits.TheConstants.{PAGES}
use Rattle.srm_pages.specs.declared.stroke.Stroke.{Stroke}
use Rattle.srm_pages.specs.Ends.{FeedView, WellView, credit_of}
use Rattle.srm_names.specs.Moments.{has_come}
use Rattle.srm_entries.specs.declared.entry.Entry.{Entry}
use Rattle.srm_entries.specs.declared.entry.Input.{Input}
use Rattle.srm_entries.specs.declared.entry.Input.TheVariants.{Gave, AskedLeave, Ticked}
use Rattle.srm_entries.specs.Giving.{given}
use Rattle.srm_entries.specs.Admitting.{AdmitsDraw}
use Rattle.srm_outbox.specs.declared.out.Out.{Out}
use Rattle.srm_outbox.specs.Outs.{AreOutsOf}
use Rattle.srm_world.specs.Traces.{Journal}
use Rattle.srm_world.specs.Claims.{IsLawfulJournal}
use Rattle.srm_world.specs.Recording.{with_entry, with_entries, IsAt, EntersEach}
use Rattle.srm_node.specs.declared.limits.TheConstants.{BUFFER_BYTES, DATAGRAMS_A_TURN, STROKES_A_TURN, STROKES_AT_LEAST}
use Rattle.srm_wire.specs.Wires.{Told, TellsMore, ReceivesEach, all_told, answered_with, none_there, it_failed}
use Rattle.srm_node.specs.Carrying.{Carries, CarriesEach, drawing}
use Rattle.srm_node.specs.declared.missing_limit.MissingLimit.{MissingLimit}
use Rattle.srm_node.specs.Limits.{Outcome, BecomesEach, entries_of, counting_each}

-- LISTENING

-- So many datagrams came. Each has its entry, unless it was dropped for what may be missing, which is counted. And then receive answered this, if anything. Each
-- receive was one of the wire, and a wire that tells has told of them.
pub record Listens {X : Type 0} (Receives : X → ℕ → List (Option (List ℕ)) → X → Type 0) (now count : ℕ) (last : List (List (Option (List ℕ)))) (limit kept : MissingLimit) (old new : Journal) (was is : Option Told) (before after : X) : Type 0 where
  pub came : List (List ℕ)
  pub outcomes : List Outcome
  pub counted : length came ≡ count
  pub grown : new ≡ with_entries old (entries_of outcomes)
  pub each : BecomesEach now limit.most old came outcomes
  pub dropped : kept ≡ counting_each outcomes limit
  pub told : TellsMore (map (λ b. Some b) came ++ all_told last) [] was is
  pub receives : ReceivesEach Receives BUFFER_BYTES (map answered_with came ++ last) before after

-- as many came as a turn receives, or fewer and then none was there
abbrev pub HearingIsWhole : ℕ → List (List (Option (List ℕ))) → Type 0
HearingIsWhole count last = ((count ≡ DATAGRAMS_A_TURN) × (last ≡ [])) ⊎ ((count < DATAGRAMS_A_TURN) × (last ≡ none_there ∷ []))

-- How hearing ends: with a receive that failed, before as many came as a turn receives; else all was heard.
abbrev pub HearingEnds : Bool → ℕ → List (List (Option (List ℕ))) → Type 0
HearingEnds true count last = (count < DATAGRAMS_A_TURN) × (last ≡ it_failed ∷ [])
HearingEnds false count last = HearingIsWhole count last

-- what came was heard or dropped, so many datagrams, and all of it unless a call failed
pub record Listened {X : Type 0} (Receives : X → ℕ → List (Option (List ℕ)) → X → Type 0) (now count : ℕ) (failed : Bool) (limit kept : MissingLimit) (old new : Journal) (was is : Option Told) (before after : X) : Type 0 where
  pub last : List (List (Option (List ℕ)))
  pub listens : Listens Receives now count last limit kept old new was is before after
  pub ends : HearingEnds failed count last

-- Memory ran out: what came was heard or dropped, but for the last of it, which is lost.
pub record ListenedCut {X : Type 0} (Receives : X → ℕ → List (Option (List ℕ)) → X → Type 0) (now : ℕ) (limit kept : MissingLimit) (old new : Journal) (was is : Option Told) (before after : X) : Type 0 where
  pub count : ℕ
  pub lost : List ℕ
  pub few : count < DATAGRAMS_A_TURN
  pub listens : Listens Receives now count (answered_with lost ∷ []) limit kept old new was is before after

-- DRAWING

-- how many strokes a turn may draw that heard so many datagrams: 64 less these, and never fewer than 8
abbrev pub strokes_after : ℕ → ℕ
strokes_after heard = max (STROKES_A_TURN - heard) STROKES_AT_LEAST

-- strokes that were popped stand behind the one in hand, and so often none was found
pub record PopsStrokes (nones : ℕ) (from to : WellView) (hand all : List Stroke) : Type 0 where
  pub popped : List Stroke
  pub received : to ≡ record from { received = from.received ++ popped; nones = from.nones + nones }
  pub all_is : all ≡ hand ++ popped

-- whether the rate lets this stroke's datagram go at once, at this moment: a body that is too long counts as the longest
abbrev pub IsAdmitted : ℕ → Journal → Stroke → Bool → Type 0
IsAdmitted now j s answer = AdmitsDraw j.start.config j.start.made j.entries (length s.body) now answer

-- the entry is of this stroke's draw, which the rate let go
pub record IsDrawing (now : ℕ) (j : Journal) (s : Stroke) (e : Entry) : Type 0 where
  pub moment : IsAt now j e
  pub input : e.input ≡ drawing s
  pub admitted : IsAdmitted now j s true

-- the journal has one more entry, of this stroke's draw
pub record DrawsOne (now : ℕ) (s : Stroke) (old new : Journal) : Type 0 where
  pub entry : Entry
  pub grown : new ≡ with_entry old entry
  pub is_drawing : IsDrawing now old s entry

-- an entry for each of these strokes, in order, and no other
abbrev pub DrawsEach : ℕ → Journal → List Stroke → List Entry → Type 0
DrawsEach now j strokes es = EntersEach (IsDrawing now) j strokes es

-- of these strokes the first so many are drawn in order, each with its entry, and the others kept
pub record DrawsOf (now count : ℕ) (all kept : List Stroke) (old new : Journal) : Type 0 where
  pub strokes : List Stroke
  pub entries : List Entry
  pub counted : length strokes ≡ count
  pub grown : new ≡ with_entries old entries
  pub each : DrawsEach now old strokes entries
  pub all_is : all ≡ strokes ++ kept

-- once where it is so, else never
abbrev pub once : Bool → ℕ
once true = 1
once false = 0

-- Strokes were popped until none was found, or for another cause before, and all but the one in hand drawn in order, so many.
pub record DrawsStrokes (now count : ℕ) (none_found : Bool) (old new : Journal) (from to : WellView) (hand kept : Option Stroke) : Type 0 where
  pub all : List Stroke
  pub pops : PopsStrokes (once none_found) from to (option_to_list hand) all
  pub draws : DrawsOf now count all (option_to_list kept) old new

-- As many were drawn as the turn might, so that it isn't known whether more are left; or fewer, and the stroke queue had none; or the one in hand isn't admitted.
abbrev pub DrawingEnds : (now most count : ℕ) → Bool → Journal → Option Stroke → Type 0
DrawingEnds now most count none_left j (Some s) = (none_left ≡ false) × IsAdmitted now j s false
DrawingEnds now most count none_left j None = MatchBool none_left (count < most) (count ≡ most)

-- Strokes were drawn, at most so many, until there was cause to end. None is left exactly where the stroke queue was found to have none.
pub record DrewStrokes (now most : ℕ) (none_left : Bool) (old new : Journal) (from to : WellView) (hand kept : Option Stroke) : Type 0 where
  pub count : ℕ
  pub few : count ≤ most
  pub draws : DrawsStrokes now count none_left old new from to hand kept
  pub ends : DrawingEnds now most count none_left new kept

-- Memory ran out: the stroke that needed it is in hand.
pub record DrewStrokesCut (now most : ℕ) (old new : Journal) (from to : WellView) (hand kept : Option Stroke) : Type 0 where
  pub count : ℕ
  pub few : count < most
  pub draws : DrawsStrokes now count false old new from to hand kept
  pub in_hand : is_some kept ≡ true

-- LEAVING

-- it leaves where no stroke is left, nothing more comes of its producers, and it is to by now
abbrev pub is_to_leave : (none_left drained : Bool) → Option ℕ → ℕ → Bool
is_to_leave none_left drained asked now = none_left && (drained && has_come now asked)

-- one that left isn't to leave again
abbrev pub still_asked : Bool → Option ℕ → Option ℕ
still_asked true asked = None
still_asked false asked = asked

-- Where it leaves, the journal has one more entry, of that; else none.
pub record Leaves (now : ℕ) (leaves : Bool) (old new : Journal) : Type 0 where
  pub entries : List Entry
  pub grown : new ≡ with_entries old entries
  pub moments : AllByRecursion (IsAt now old) entries
  pub inputs : map (λ (e : Entry). e.input) entries ≡ (if leaves then AskedLeave ∷ [] else [])

-- TICKING

-- The entry is a tick's, which sends these, each spelled in the session.
pub record IsTick (session : ℕ) (e : Entry) (outs : List Out) : Type 0 where
  pub input : e.input ≡ Ticked
  pub sends : AreOutsOf session outs e.effects.outs

-- the journal has one more entry, of a tick that sends these
pub record Ticks (now : ℕ) (outs : List Out) (old new : Journal) : Type 0 where
  pub entry : Entry
  pub grown : new ≡ with_entry old entry
  pub moment : IsAt now old entry
  pub is_tick : IsTick old.start.config.session entry outs

-- GIVING

abbrev pub gives_in : ℕ → Input → Bool
gives_in slot (Gave j) = slot == j
gives_in slot _ = false

-- the slot's next message was asked for, and there was none
abbrev pub gave_nothing : ℕ → Entry → Bool
gave_nothing slot e = gives_in slot e.input && is_none e.effects.message

-- no credit is left as far as was seen, or there was nothing to give, or the feed is disconnected
abbrev pub is_served : ℕ → List Entry → FeedView → Bool
is_served slot es f = (credit_of f == 0) || list_any (gave_nothing slot) es || f.disconnected

-- what a feed has put, has seen taken and whether it is disconnected may change, and no more
abbrev pub SameFeed : FeedView → FeedView → Type 0
SameFeed f g = g ≡ record f { put = g.put; seen = g.seen; disconnected = g.disconnected }

-- The slot was given messages, which by the law of runs have the last moment, and its lane carries them. At the end it is served.
pub record Gives (slot : ℕ) (ended : Bool) (old new : Journal) (from to : FeedView) : Type 0 where
  pub entries : List Entry
  pub grown : new ≡ with_entries old entries
  pub inputs : AllByRecursion (λ (e : Entry). e.input ≡ Gave slot) entries
  pub lawful : IsLawfulJournal new
  pub carries : Carries (given new.entries slot) to
  pub same : SameFeed from to
  pub served : OnTrue ended (is_served slot entries to ≡ true)

abbrev pub SameFeeds : List FeedView → List FeedView → Type 0
SameFeeds from to = (slot : ℕ) (f g : FeedView) → slice_get from slot ≡ Some f → slice_get to slot ≡ Some g → SameFeed f g

abbrev pub is_give : Input → Bool
is_give (Gave slot) = true
is_give _ = false

-- Slots were given messages, and their lanes carry them. Those below this one are served.
pub record GivesUpTo (below : ℕ) (old new : Journal) (from to : List FeedView) : Type 0 where
  pub entries : List Entry
  pub grown : new ≡ with_entries old entries
  pub inputs : AllByRecursion (λ (e : Entry). is_give e.input ≡ true) entries
  pub lawful : IsLawfulJournal new
  pub carries : CarriesEach new to
  pub slots : length to ≡ length from
  pub same : SameFeeds from to
  pub served : (slot : ℕ) (f : FeedView) → slot < below → slice_get to slot ≡ Some f → is_served slot entries f ≡ true

-- Memory ran out in one of the slots; those before are served.
pub record GaveSome (old new : Journal) (from to : List FeedView) : Type 0 where
  pub slot : ℕ
  pub few : slot < PAGES
  pub gives : GivesUpTo slot old new from to
