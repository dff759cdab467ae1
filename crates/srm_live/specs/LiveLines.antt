-- The lines that a live member prints of the messages that its page workers take.
use Rattle.std.specs.Prelude.{◌≡◌, ◌⊎◌, ℕ, Bool, true, false, not, ◌&&◌, List, [], ◌∷◌, ◌++◌, map, slice_get, Some, codes}
use Rattle.std.specs.Fmt.{decimal}
use Rattle.srm_names.specs.declared.page_msg.PageMsg.{PageMsg}
use Rattle.srm_names.specs.declared.page_msg.PageMsg.TheVariants.{Open, Draw, Left, Close}
use Rattle.srm_names.specs.Histories.{IsPrefix}
use Rattle.srm_names.specs.PageFeeds.{is_close}
use Rattle.srm_node.specs.Working.{SeesEach}
use Rattle.srm_options.specs.MemberNames.{called}
use Rattle.srm_script.specs.TookLines.{page_text}
use Rattle.srm_live.specs.Readable.{readable_text}

-- The line of a message that the worker of a slot took: as a member prints it that isn't live, but members have their names, if they have any, and a body is its readable text.
abbrev pub live_line : List (List ℕ) → ℕ → ℕ → PageMsg → List ℕ
live_line names me slot (Open page) = codes "took " ++ (called names me ++ (codes " " ++ (decimal slot ++ (codes " open " ++ (page_text page ++ codes "\n")))))
live_line names me slot (Draw drawop) = codes "took " ++ (called names me ++ (codes " " ++ (decimal slot ++ (codes " draw " ++ (called names drawop.name.stream.source ++ (codes " " ++ (decimal drawop.name.number ++ (codes " " ++ (readable_text drawop.body ++ codes "\n")))))))))
live_line names me slot (Left member) = codes "took " ++ (called names me ++ (codes " " ++ (decimal slot ++ (codes " left " ++ (called names member ++ codes "\n")))))
live_line names me slot Close = codes "took " ++ (called names me ++ (codes " " ++ (decimal slot ++ codes " close\n")))

-- what members are called, the member, the lines that a sink printed, and whether it couldn't print one
pub record PrintingView : Type 0 where
  pub names : List (List ℕ)
  pub me : ℕ
  pub lines : List (List ℕ)
  pub failed : Bool

-- nothing was printed yet
abbrev pub new_printing : List (List ℕ) → ℕ → PrintingView
new_printing names me = record { names = names; me = me; lines = []; failed = false }

-- one couldn't be printed
abbrev pub failed_printing : PrintingView → PrintingView
failed_printing p = record p { failed = true }

-- A sink printed a line, behind all before, or couldn't.
abbrev pub PutsOrFails : PrintingView → List ℕ → PrintingView → Type 0
PutsOrFails old line new = (new ≡ record old { lines = old.lines ++ line ∷ [] }) ⊎ (new ≡ failed_printing old)

-- A sink printed the line of a message, behind all before, or couldn't. Once it couldn't it prints nothing more.
abbrev pub PrintsOrFails : PrintingView → ℕ → PageMsg → PrintingView → Type 0
PrintsOrFails old slot m new = ((old.failed ≡ false) × (new ≡ record old { lines = old.lines ++ live_line old.names old.me slot m ∷ [] })) ⊎ (new ≡ failed_printing old)

-- So it does of each message that it sees. It stops its worker at the close alone, if it couldn't print one.
abbrev pub PrintsLine : PrintingView → ℕ → PageMsg → Bool → PrintingView → Type 0
PrintsLine old slot m goes_on new = (goes_on ≡ not (is_close m && new.failed)) × PrintsOrFails old slot m new

-- A sink that saw these messages of a slot, and could print each, printed exactly their lines, in order.
abbrev pub PrintsAllLaw : Type 0
PrintsAllLaw = (slot : ℕ) (stopped : Bool) (ms : List PageMsg) (old new : PrintingView) → SeesEach PrintsLine slot stopped ms old new → new.failed ≡ false
    → new.lines ≡ old.lines ++ map (live_line old.names old.me slot) ms

-- One that couldn't print each printed exactly the lines of the first of them, in order.
abbrev pub PrintsFrontLaw : Type 0
PrintsFrontLaw = (slot : ℕ) (stopped : Bool) (ms : List PageMsg) (old new : PrintingView) → SeesEach PrintsLine slot stopped ms old new
    → (front : List PageMsg) × IsPrefix front ms × (new.lines ≡ old.lines ++ map (live_line old.names old.me slot) front)

-- the sink of each slot printed exactly the lines of what its worker took, in order
abbrev pub PrintedEach : List PrintingView → List (List PageMsg) → Type 0
PrintedEach sinks took = (slot : ℕ) (s : PrintingView) (ms : List PageMsg) → slice_get sinks slot ≡ Some s → slice_get took slot ≡ Some ms
    → (last : PrintingView) × SeesEach PrintsLine slot false ms s last × (last.lines ≡ s.lines ++ map (live_line s.names s.me slot) ms)
