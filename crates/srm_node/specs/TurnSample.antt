-- What the examples of whole turns have in common: eight feeds, a turn that heard nothing, and gives that serve each page slot.
use Rattle.std.specs.Prelude.{◌≡◌, ℕ, zero, suc, true, false, List, [], ◌∷◌, ◌++◌, Option, Some, None, slice_get, refl}
use Rattle.std.specs.List.{AllByRecursion}
use Rattle.std.proofs.Common.{arith, inr, sym, subst}
use Rattle.std.proofs.lemmas.Option.{same_Some}
use Rattle.srm_names.specs.FullName.{FullName}
use Rattle.srm_names.specs.Names.{first_page}
use Rattle.srm_names.specs.declared.page_msg.PageMsg.{PageMsg}
use Rattle.srm_names.specs.declared.page_msg.PageMsg.TheVariants.{Open}
use Rattle.srm_pages.specs.Ends.{FeedView, WellView, LaneId}
use Rattle.srm_entries.specs.declared.entry.Entry.{Entry}
use Rattle.srm_entries.specs.declared.entry.Input.TheVariants.{Gave}
use Rattle.srm_entries.specs.declared.state.AgentState.{AgentState}
use Rattle.srm_entries.specs.Entries.{state, is_missing}
use Rattle.srm_entries.specs.Timers.{fix_running}
use Rattle.srm_entries.specs.Giving.{MessageRight}
use Rattle.srm_entries.specs.Runs.{EntryRight, MomentRight, expected_state}
use Rattle.srm_world.specs.Traces.{Journal, CanBeHanded, IsHandable}
use Rattle.srm_world.specs.Claims.{IsLawfulJournal}
use Rattle.srm_node.specs.Carrying.{CarriesEach}
use Rattle.srm_node.specs.Parts.{GivesUpTo, SameFeed, is_give, is_served}
use Rattle.srm_node.specs.Showing.{ShowsAsked}
use Rattle.srm_node.specs.Limits.{limited_to}
use Rattle.srm_node.specs.Nodes.{NodeView}
use Rattle.srm_node.specs.Calls.{Calls}
use Rattle.srm_node.specs.Turns.{ReadsNow, HearsNow, LooksNow, ShowsNow, Paused}
use Rattle.srm_entries.specs.Sample.{config}
use Rattle.srm_entries.proofs.Plain.{plain, right}

-- WHAT HOLDS OF EACH FEED

abbrev pub AllAt : (ℕ → FeedView → Type 0) → List FeedView → Type 0
AllAt P [] = Unit {0}
AllAt P (f ∷ fs) = P zero f × AllAt (λ k g. P (suc k) g) fs

pub at_each : (P : ℕ → FeedView → Type 0) (fs : List FeedView) → AllAt P fs → (slot : ℕ) (f : FeedView) → slice_get fs slot ≡ Some f → P slot f
at_each P [] h slot f at_f = cc
at_each P (x ∷ xs) h zero f at_f = subst (P zero) (same_Some x f at_f) h.0
at_each P (x ∷ xs) h (suc k) f at_f = at_each (λ i g. P (suc i) g) xs h.1 k f at_f

-- A NODE THAT HEARS NOTHING

abbrev pub feed : ℕ → List PageMsg → LaneId → FeedView
feed slot put lane = record { put = put; seen = 0; disconnected = false; slot = slot; lane = lane; board = lane.board }

-- eight feeds: the first one put these, and each other one those
abbrev pub eight : List PageMsg → List PageMsg → LaneId → List FeedView
eight put rest lane = feed 0 put lane ∷ feed 1 rest lane ∷ feed 2 rest lane ∷ feed 3 rest lane ∷ feed 4 rest lane ∷ feed 5 rest lane ∷ feed 6 rest lane ∷ feed 7 rest lane ∷ []

abbrev pub journal : List Entry → Journal
journal es = record { start = record { config = config 0; made = 0 }; entries = es }

-- a node whose wire and clock are the numbers of their calls
abbrev pub Node : Type 0
Node = NodeView ℕ ℕ

-- each call counts, no send fails, and each reading tells 1
abbrev pub calls : Calls ℕ ℕ
calls = record {
  reads = λ old told new. (told ≡ 1) × (new ≡ suc old);
  receives = λ old room answer new. (room ≡ 4096) × (new ≡ suc old);
  sends = λ old sent failed new. (failed ≡ false) × (new ≡ suc old);
  pauses = λ old micros new. new ≡ suc old;
}

-- member 0 of two over a wire that tells, which did no turn yet, waited once, and is to leave at this moment, if at any
abbrev pub unturned : Option ℕ → LaneId → WellView → Node
unturned asked lane well = record { limit = limited_to None; journal = journal []; feeds = eight [] [] lane; well = well; hand = None; asked = asked; control = None; failures = 0; told = Some (record { came = []; went = [] }); wire = 1; clock = 1 }

-- before it waited, by one call of its wire and one reading of its clock
abbrev pub unpaused : Option ℕ → LaneId → WellView → Node
unpaused asked lane well = record (unturned asked lane well) { wire = 0; clock = 0 }

pub waits_once : (asked : Option ℕ) (lane : LaneId) (well : WellView) → Paused calls (unpaused asked lane well) (unturned asked lane well)
waits_once asked lane well = record { told = 1; reads = (refl, refl); micros = 0; short = omega arith; pauses = refl; failures = omega arith; same = refl }

-- the clock was read once more
abbrev pub read_once : Option ℕ → LaneId → WellView → Node
read_once asked lane well = record (unturned asked lane well) { clock = 2 }

pub reads_once : (asked : Option ℕ) (lane : LaneId) (well : WellView) → ReadsNow calls.reads 1 (unturned asked lane well) (read_once asked lane well)
reads_once asked lane well = record { told = 1; reads = (refl, refl); counts = refl; same = refl }

-- one receive told that no datagram is there
abbrev pub heard_nothing : Option ℕ → LaneId → WellView → Node
heard_nothing asked lane well = record (read_once asked lane well) { told = Some (record { came = None ∷ []; went = [] }); wire = 2 }

pub hears_nothing : (asked : Option ℕ) (lane : LaneId) (well : WellView) → HearsNow calls.receives 1 0 false (read_once asked lane well) (heard_nothing asked lane well)
hears_nothing asked lane well = record {
  listened = record {
    last = (None ∷ []) ∷ [];
    listens = record { came = []; outcomes = []; counted = refl; grown = refl; each = tt; dropped = refl; told = record { told = refl }; receives = (2, (refl, refl), refl) };
    ends = inr (omega arith, refl);
  };
  failures = (omega arith, tt);
  same = refl;
}

-- the producers said that they are done
abbrev pub looked : Option ℕ → LaneId → WellView → Node
looked asked lane well = record (heard_nothing asked lane well) { well = record well { done_at = Some well.nones } }

pub looks_once : (asked : Option ℕ) (lane : LaneId) (well : WellView) → LooksNow (heard_nothing asked lane well) (looked asked lane well)
looks_once asked lane well = record { pens_done = true; same = refl }

-- a node without a control shows nothing
pub shows_nothing : (n : Node) → n.control ≡ None → ShowsNow 1 n n
shows_nothing n none = record { shows = subst (λ c. ShowsAsked 1 n.journal n.journal c c) (sym none) (refl, refl); same = refl }

-- GIVES

-- a give at moment 1 after which the member is in this state: of a message, or of none
abbrev pub gives_as : AgentState → ℕ → Option PageMsg → Entry
gives_as s slot message = plain 0 1 (Gave slot) None [] message s

-- slot 0 is given its page
abbrev pub opens_as : AgentState → Entry
opens_as s = gives_as s 0 (Some (Open first_page))

-- a give that the entries before it allow
pub give_right : (s : AgentState) (past : List Entry) (slot : ℕ) (message : Option PageMsg) → ((n : FullName) → is_missing past n ≡ false) → ((n : FullName) → is_missing (past ++ gives_as s slot message ∷ []) n ≡ false)
    → ((n : FullName) → fix_running past n ≡ None) → MomentRight (config 0) 0 past (gives_as s slot message) → MessageRight (config 0) past (Gave slot) message → s ≡ expected_state (state past) false (Some (Gave slot))
    → EntryRight (config 0) 0 (record { before = past; this = gives_as s slot message })
give_right s past slot message here next fix moment given after = right (config 0) 0 past 0 1 (Gave slot) None [] message s here next (λ n. refl) fix refl moment refl refl tt tt tt refl given after

-- a recorder takes such calls at moment 1
pub handed_at_1 : (es : List Entry) → AllByRecursion (λ (e : Entry). (e.moment ≡ 1) × CanBeHanded e.input) es → AllByRecursion IsHandable es
handed_at_1 [] all = tt
handed_at_1 (e ∷ es) all = (record { moment = omega (arith, all.0.0); input = all.0.1 }, handed_at_1 es all.1)

-- the first feed puts these by the gives, and each other one those
pub gives_up_to : (put rest : List PageMsg) (past gives : List Entry) (lane : LaneId) → AllByRecursion (λ (e : Entry). is_give e.input ≡ true) gives → IsLawfulJournal (journal (past ++ gives))
    → CarriesEach (journal (past ++ gives)) (eight put rest lane) → AllAt (λ k y. is_served k gives y ≡ true) (eight put rest lane)
    → GivesUpTo 8 (journal past) (journal (past ++ gives)) (eight [] [] lane) (eight put rest lane)
gives_up_to put rest past gives lane inputs lawful carries served = record {
  entries = gives;
  grown = refl;
  inputs = inputs;
  lawful = lawful;
  carries = carries;
  slots = refl;
  same = λ slot f g at_f at_g. at_each (λ k y. (x : FeedView) → slice_get (eight [] [] lane) k ≡ Some x → SameFeed x y) (eight put rest lane)
      (is 0 put, (is 1 rest, (is 2 rest, (is 3 rest, (is 4 rest, (is 5 rest, (is 6 rest, (is 7 rest, tt)))))))) slot g at_g f at_f;
  served = λ slot f below at_f. at_each (λ k y. is_served k gives y ≡ true) (eight put rest lane) served slot f at_f;
}
  where
    is : (slot : ℕ) (more : List PageMsg) (x : FeedView) → Some (feed slot [] lane) ≡ Some x → SameFeed x (feed slot more lane)
    is slot more x at_x = subst (λ (y : FeedView). SameFeed y (feed slot more lane)) (same_Some (feed slot [] lane) x at_x) refl
