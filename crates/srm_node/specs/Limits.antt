-- How many drawops may be missing, and which datagrams are dropped for it.
use Rattle.std.specs.Prelude.{◌≡◌, ◌⊎◌, ℕ, ◌<◌, ◌≤◌, ◌+◌, false, List, [], ◌∷◌, Option, Some, None, IsOk}
use Rattle.std.specs.List.{filter_map}
use Rattle.srm_codec.specs.Judging.{judge}
use Rattle.srm_entries.specs.declared.entry.Entry.{Entry}
use Rattle.srm_entries.specs.Entries.{is_gone, state}
use Rattle.srm_entries.specs.Outstanding.{missing_in_all, WouldMiss}
use Rattle.srm_wire.specs.Wires.{one_more, counted_with}
use Rattle.srm_wire.specs.declared.counts.WireCounts.{WireCounts}
use Rattle.srm_world.specs.Traces.{Journal}
use Rattle.srm_world.specs.Recording.{with_entry, IsHearing, HearsEach}
use Rattle.srm_node.specs.declared.missing_limit.MissingLimit.{MissingLimit}
use Rattle.srm_node.specs.declared.missing_limit.Judged.{Judged}
use Rattle.srm_node.specs.declared.missing_limit.Judged.TheVariants.{Within, Excess, Unjudged}

-- so many drawops may be missing, or any number, and nothing was dropped yet
abbrev pub limited_to : Option ℕ → MissingLimit
limited_to most = record { most = most; excess = 0; unjudged = 0 }

-- the limit is so much from now on, and what was dropped stays counted
abbrev pub with_most : Option ℕ → MissingLimit → MissingLimit
with_most most l = record l { most = most }

-- Hearing these bytes would make drawops missing, and then more than may be.
pub record WouldExceed (most : ℕ) (j : Journal) (bytes : List ℕ) : Type 0 where
  pub more : ℕ
  pub would_miss : WouldMiss j.start.config j.entries bytes more
  pub some : 0 < more
  pub many : most < missing_in_all j.entries + more

-- It would make none missing, or no more than may be.
pub record StaysWithin (most : ℕ) (j : Journal) (bytes : List ℕ) : Type 0 where
  pub more : ℕ
  pub would_miss : WouldMiss j.start.config j.entries bytes more
  pub within : (more ≡ 0) ⊎ (missing_in_all j.entries + more ≤ most)

-- Memory may run out as a member is asked: only for a datagram of its session, and as long as it isn't gone.
pub record MayBeUnjudged (j : Journal) (bytes : List ℕ) : Type 0 where
  pub here : is_gone (state j.entries) ≡ false
  pub spelled : IsOk (judge j.start.config.session bytes)

-- What a limit says of bytes that come to the member of this journal. Without one all are to be heard.
abbrev pub Judges : Option ℕ → Journal → List ℕ → Judged → Type 0
Judges None j bytes Within = Unit {0}
Judges None j bytes Excess = ⊥
Judges None j bytes Unjudged = ⊥
Judges (Some most) j bytes Within = StaysWithin most j bytes
Judges (Some most) j bytes Excess = WouldExceed most j bytes
Judges (Some most) j bytes Unjudged = MayBeUnjudged j bytes

-- what became of a datagram: it was heard, by this entry, or dropped, without one
pub data Outcome : Type 0 where
  Heard : (entry : Entry) → Outcome
  TooMuch : Outcome
  NotJudged : Outcome

abbrev pub Becomes : ℕ → Option ℕ → Journal → List ℕ → Outcome → Type 0
Becomes now most j bytes (Heard e) = Judges most j bytes Within × IsHearing now j bytes e
Becomes now most j bytes TooMuch = Judges most j bytes Excess
Becomes now most j bytes NotJudged = Judges most j bytes Unjudged

abbrev pub journal_after : Journal → Outcome → Journal
journal_after j (Heard e) = with_entry j e
journal_after j TooMuch = j
journal_after j NotJudged = j

-- each of these datagrams, one after another, was heard or dropped
abbrev pub BecomesEach : ℕ → Option ℕ → Journal → List (List ℕ) → List Outcome → Type 0
BecomesEach now most j [] [] = Unit {0}
BecomesEach now most j (bytes ∷ came) (outcome ∷ outcomes) = Becomes now most j bytes outcome × BecomesEach now most (journal_after j outcome) came outcomes
BecomesEach now most j _ _ = ⊥

-- a datagram was heard: the journal has one more entry, of it
pub record HearsOne (now : ℕ) (bytes : List ℕ) (old new : Journal) : Type 0 where
  pub entry : Entry
  pub grown : new ≡ with_entry old entry
  pub is_hearing : IsHearing now old bytes entry

abbrev pub entry_of : Outcome → Option Entry
entry_of (Heard e) = Some e
entry_of TooMuch = None
entry_of NotJudged = None

-- the entries of those that were heard
abbrev pub entries_of : List Outcome → List Entry
entries_of outcomes = filter_map entry_of outcomes

-- one more that would make too much missing
abbrev pub one_excess : MissingLimit → MissingLimit
one_excess l = record l { excess = one_more l.excess }

-- one more that wasn't judged
abbrev pub one_unjudged : MissingLimit → MissingLimit
one_unjudged l = record l { excess = one_more l.excess; unjudged = one_more l.unjudged }

-- what was dropped is counted, and no other
abbrev pub counting : Outcome → MissingLimit → MissingLimit
counting (Heard e) l = l
counting TooMuch l = one_excess l
counting NotJudged l = one_unjudged l

abbrev pub counting_each : List Outcome → MissingLimit → MissingLimit
counting_each [] l = l
counting_each (outcome ∷ outcomes) l = counting_each outcomes (counting outcome l)

-- a datagram was heard, or dropped and counted
pub record TakesOne (now : ℕ) (bytes : List ℕ) (limit kept : MissingLimit) (old new : Journal) : Type 0 where
  pub outcome : Outcome
  pub becomes : Becomes now limit.most old bytes outcome
  pub grown : new ≡ journal_after old outcome
  pub counted : kept ≡ counting outcome limit

-- Without a limit each datagram that comes is heard, and none is counted as dropped.
abbrev pub AllIsHeard : Type 0
AllIsHeard = (now : ℕ) (j : Journal) (came : List (List ℕ)) (outcomes : List Outcome) (l : MissingLimit) → BecomesEach now None j came outcomes → HearsEach now j came (entries_of outcomes) × (counting_each outcomes l ≡ l)

-- what a wire has counted, and with it what the node above it dropped
abbrev pub with_excess : ℕ → WireCounts → WireCounts
with_excess excess c = record c { dropped = record c.dropped { excess = counted_with c.dropped.excess excess } }
