-- What a world keeps, and what an event does to it.
use Rattle.std.specs.Prelude.{◌≡◌, ℕ, ◌<◌, Bool, true, false, List, [], ◌∷◌, ◌++◌, length, map, Some, None, slice_get, IfSome, Contains}
use Rattle.std.specs.List.{AllByRecursion}
use Rattle.srm_entries.specs.declared.entry.Entry.{Entry}
use Rattle.srm_outbox.specs.declared.out.Out.{Out}
use Rattle.srm_entries.specs.Entries.{sent, accepted}
use Rattle.srm_outbox.specs.Outs.{IsOut, datagrams_of}
use Rattle.srm_world.specs.declared.event.Event.{Event}
use Rattle.srm_world.specs.declared.start.Start.{Start}
use Rattle.srm_world.specs.declared.world.World.TheInside.{Inside}
use Rattle.srm_world.specs.Traces.{Trace, of_member}
use Rattle.srm_world.specs.WaitWords.{WorldView, AreByOwnWords}
use Rattle.srm_world.specs.Events.{IsEntryOf, required_input}
use Rattle.srm_world.specs.Claims.{IsLawful}
use Rattle.srm_world.specs.Participants.{ParticipantContent, ParticipantFits}
use Rattle.srm_world.specs.Sent.{all_of}

-- each member fits its own entries
abbrev pub AllFit : {W : Type 0} → List Start → List (ParticipantContent W) → List Entry → Type 0
AllFit {W = W} starts ps es = (m : ℕ) (a : Start) (p : ParticipantContent W) → slice_get starts m ≡ Some a → slice_get ps m ≡ Some p → ParticipantFits a.config a.made (of_member m es) p

-- what was sent is what the entries say, each datagram with its bytes in the session of every member
pub record AreSent (starts : List Start) (sents : List Out) (es : List Entry) : Type 0 where
  pub same : datagrams_of sents ≡ sent es
  pub spelled : (m : ℕ) (a : Start) → slice_get starts m ≡ Some a → AllByRecursion (IsOut a.config.session) sents

-- the members and what was sent are those of the trace, which is lawful
pub record AreWorld {W : Type 0} (ps : List (ParticipantContent W)) (sents : List Out) (t : Trace) : Type 0 where
  pub count : length ps ≡ length t.starts
  pub fit : AllFit t.starts ps t.entries
  pub sent : AreSent t.starts sents t.entries
  pub lawful : IsLawful t

-- the generators of the members
abbrev pub words_of : {W : Type 0} → List (ParticipantContent W) → List W
words_of {W = W} ps = map (λ (p : ParticipantContent W). p.agent.words) ps

abbrev pub world_view : {W : Type 0} → Inside W → WorldView W
world_view w = record { trace = w.trace; words = words_of w.participants.items }

abbrev pub IsWorld : {W : Type 0} → Inside W → Type 0
IsWorld w = AreWorld w.participants.items (all_of w.sent) w.trace

-- the entry is of the event, and hears only what was sent; the members and the datagrams fit the entries with this one added
pub record EntersTrace {W : Type 0} (starts : List Start) (es : List Entry) (event : Event) (ps : List (ParticipantContent W)) (sents : List Out) (e : Entry) : Type 0 where
  pub asks : required_input starts es event ≡ Some e.input
  pub is_entry : IsEntryOf starts es event e.input e
  pub inside : e.member < length starts
  pub hears : IfSome (accepted e) (Contains (sent es))
  pub fit : AllFit starts ps (es ++ e ∷ [])
  pub sent : AreSent starts sents (es ++ e ∷ [])

-- the same for every world that has these members and sent these datagrams; the member's generator chose the waits
pub record EntersAll {W : Type 0} (next_word : W → ℕ × W) (old new : List (ParticipantContent W)) (sents more : List Out) (event : Event) (e : Entry) : Type 0 where
  pub enters : (t : Trace) → AreWorld old sents t → EntersTrace t.starts t.entries event new more e
  pub words : (t : Trace) → AreWorld old sents t → AreByOwnWords next_word t.starts (words_of old) (e ∷ []) (words_of new)
  pub count : length new ≡ length old

-- the event asks nothing of any member
pub record Skips {W : Type 0} (old new : List (ParticipantContent W)) (sents more : List Out) (event : Event) : Type 0 where
  pub nothing : (t : Trace) → AreWorld old sents t → required_input t.starts t.entries event ≡ None
  pub same : new ≡ old
  pub sent : more ≡ sents

-- nothing was sent, no random number was consumed, and the members fit the same entries
pub record KeepsParticipants {W : Type 0} (old new : List (ParticipantContent W)) (sents more : List Out) : Type 0 where
  pub fits : (starts : List Start) (es : List Entry) → AllFit starts old es → AllFit starts new es
  pub words : words_of new ≡ words_of old
  pub count : length new ≡ length old
  pub sent : more ≡ sents

abbrev pub after_entry : Trace → Entry → Trace
after_entry t e = record { starts = t.starts; entries = t.entries ++ e ∷ [] }

-- The trace has one entry more, which is of the event. Or the event was skipped, and the trace is the same.
abbrev pub Appends : {W : Type 0} → (W → ℕ × W) → List (ParticipantContent W) → List (ParticipantContent W) → List Out → List Out → Event → Trace → Trace → Bool → Type 0
Appends next_word old new sents more event t now true = (e : Entry) × EntersAll next_word old new sents more event e × (now ≡ after_entry t e)
Appends next_word old new sents more event t now false = Skips old new sents more event × (now ≡ t)
