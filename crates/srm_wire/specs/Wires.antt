-- What a wire may tell, and what its calls do to the count of its failures.
use Rattle.std.specs.Prelude.{◌≡◌, ℕ, ◌+◌, min, ◌-◌, ◌^◌, ◌<◌, ◌≤◌, ◌==◌, ◌⊎◌, Bool, true, false, not, ◌||◌, List, [], ◌∷◌, ◌++◌, map, filter, take, Option, Some, None, option_map, Result, Ok, Err}
use Rattle.std.specs.Bool.{OnTrue, OnFalse}
use Rattle.std.specs.List.{flat_map}
use Rattle.srm_names.specs.Histories.{count_up}
use Rattle.srm_wire.specs.declared.sent.Sent.{Sent}

-- what a wire tells: what its `receive` returned, None too, and what its `send` took
pub record Told : Type 0 where
  pub came : List (Option (List ℕ))
  pub went : List Sent

-- what was told, and then so much more
abbrev pub told_more : List (Option (List ℕ)) → List Sent → Told → Told
told_more came went t = record { came = t.came ++ came; went = t.went ++ went }

-- A wire that tells has told this besides. One that doesn't tell still tells nothing.
pub record TellsMore (came : List (Option (List ℕ))) (went : List Sent) (old new : Option Told) : Type 0 where
  pub told : new ≡ option_map (told_more came went) old

-- what receive returned with this buffer; an Err isn't told
abbrev pub answered : {E : Type 0} → List ℕ → Result (Option ℕ) E → List (Option (List ℕ))
answered buffer (Ok (Some count)) = Some (take count buffer) ∷ []
answered buffer (Ok None) = None ∷ []
answered buffer (Err _) = []

-- what send took; an Err isn't told
abbrev pub sent_by : {T E : Type 0} → ℕ → List ℕ → Result T E → List Sent
sent_by to bytes (Ok _) = record { to = to; bytes = bytes } ∷ []
sent_by to bytes (Err _) = []

-- the three answers of a receive, as they are told: bytes, none there, or a failure
abbrev pub answered_with : List ℕ → List (Option (List ℕ))
answered_with bytes = Some bytes ∷ []

abbrev pub none_there : List (Option (List ℕ))
none_there = None ∷ []

abbrev pub it_failed : List (Option (List ℕ))
it_failed = []

-- what is told of several answers, in order
abbrev pub all_told : List (List (Option (List ℕ))) → List (Option (List ℕ))
all_told answers = flat_map (λ told. told) answers

-- bytes to a member
abbrev pub bytes_to : ℕ → List ℕ → Sent
bytes_to to bytes = record { to = to; bytes = bytes }

-- whether a receive failed: only then nothing is told of it
abbrev pub is_failed : List (Option (List ℕ)) → Bool
is_failed [] = true
is_failed (_ ∷ _) = false

-- the greatest count of 64 bits
abbrev pub greatest_count : ℕ
greatest_count = 2 ^ 64 - 1

-- one more, up to the greatest count
abbrev pub one_more : ℕ → ℕ
one_more count = min (count + 1) greatest_count

-- the count rose, or is at its greatest
abbrev pub RoseOrFull : ℕ → ℕ → Type 0
RoseOrFull old new = (old < new) ⊎ (greatest_count ≤ new)

-- the count doesn't fall; if a call failed, it rose or is at its greatest
abbrev pub CountsIf : Bool → ℕ → ℕ → Type 0
CountsIf failed old new = (old ≤ new) × OnTrue failed (RoseOrFull old new)

-- these members but one
abbrev pub but : ℕ → List ℕ → List ℕ
but me members = filter (λ m. not (m == me)) members

-- the members of a roster but one, in order of number
abbrev pub others : ℕ → ℕ → List ℕ
others me members = but me (count_up 0 members)

-- the same bytes to each of these
abbrev pub sends_to : List ℕ → List ℕ → List Sent
sends_to members bytes = map (λ to. record { to = to; bytes = bytes }) members

-- each of these datagrams in order, each to every other member in order of number
abbrev pub dispatched : ℕ → ℕ → List (List ℕ) → List Sent
dispatched me members datagrams = flat_map (sends_to (others me members)) datagrams

-- some of these, in their order
abbrev pub AreSomeOf : {A : Type 0} → List A → List A → Type 0
AreSomeOf [] all = Unit {0}
AreSomeOf (x ∷ xs) [] = ⊥
AreSomeOf (x ∷ xs) (y ∷ ys) = ((x ≡ y) × AreSomeOf xs ys) ⊎ AreSomeOf (x ∷ xs) ys

-- These were sent in order, and failures were counted. All of them went, or some in their order if a send failed. Nothing was received
-- meanwhile.
pub record Sends (failed : Bool) (all : List Sent) (count counted : ℕ) (old new : Option Told) : Type 0 where
  pub failures : CountsIf failed count counted
  pub went : List Sent
  pub some : AreSomeOf went all
  pub whole : OnFalse failed (went ≡ all)
  pub tells : TellsMore [] went old new

-- Each of these was tried, one after another, whatever failed before; each send is as the wire's relation says. `failed` says whether one failed.
abbrev pub SendsEach : {W : Type 0} → (W → Sent → Bool → W → Type 0) → Bool → List Sent → W → W → Type 0
SendsEach Sends failed [] old new = (failed ≡ false) × (new ≡ old)
SendsEach {W} Sends failed (sent ∷ more) old new = (between : W) × (lost : Bool) × (later : Bool) × (failed ≡ (lost || later)) × Sends old sent lost between × SendsEach Sends later more between new

-- These are the answers of receives, one after another, failed ones too, into a buffer of this length; each is as the wire's relation says.
abbrev pub ReceivesEach : {W : Type 0} → (W → ℕ → List (Option (List ℕ)) → W → Type 0) → ℕ → List (List (Option (List ℕ))) → W → W → Type 0
ReceivesEach Receives room [] old new = new ≡ old
ReceivesEach {W} Receives room (answer ∷ more) old new = (between : W) × Receives old room answer between × ReceivesEach Receives room more between new

-- the failures of a wire and some more, up to the greatest count
abbrev pub counted_with : ℕ → ℕ → ℕ
counted_with below own = min (below + own) greatest_count
