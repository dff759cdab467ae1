-- Lines as they are typed, and what is drawn of them.
use Rattle.std.specs.Prelude.{◌≡◌, ◌≢◌, ℕ, nat_lt, Bool, true, false, List, [], ◌∷◌, ◌++◌, map, length, Option, Some, None, IfSome, if◌then◌else◌}
use Rattle.srm_names.specs.declared.limits.TheConstants.{LONGEST_BODY}
use Rattle.srm_names.specs.declared.page.Page.{Page}
use Rattle.srm_names.specs.Names.{first_page}
use Rattle.srm_pages.specs.declared.stroke.Stroke.{Stroke as AStroke}
use Rattle.srm_pages.specs.Ends.{PenView}
use Rattle.srm_control.specs.declared.command.PageCommand.{PageCommand}
use Rattle.srm_control.specs.Ends.{ControlView}
use Rattle.srm_live.specs.declared.typed.Typed.{Typed}
use Rattle.srm_live.specs.declared.typed.Typed.TheVariants.{Stroke, TooLong, Order}
use Rattle.srm_live.specs.declared.command.Command.TheVariants.{Leave}
use Rattle.srm_live.specs.Commands.{said_of}
use Rattle.srm_live.specs.Asking.{Answers, Place, asked_by, asked_list, commands_of, place_after, place_answered, Hears, HearsLast}
use Rattle.srm_wire.specs.Wires.{one_more}
use Rattle.srm_member.specs.Lines.{lines_of}
use Rattle.srm_member.specs.Strokes.{stroke_on}

-- a page, and a body that is drawn there
abbrev pub Drawn : Type 0
Drawn = Page × List ℕ

-- the stroke that the producer of this number sends of it
abbrev pub pen_stroke : ℕ → Drawn → AStroke
pen_stroke pen d = stroke_on d.0 pen d.1

-- what is drawn of a line that ended, on the page where who types stands
abbrev pub drawn_at : Page → Typed → List Drawn
drawn_at page (Stroke body) = (page, body) ∷ []
drawn_at page (TooLong number) = []
drawn_at page (Order command) = []

-- a line that tells the member to leave
abbrev pub is_leave : Typed → Bool
is_leave (Order (Some Leave)) = true
is_leave _ = false

-- what a line says and then the lines behind it: nothing counts from the one on that tells the member to leave
abbrev pub said_then : Typed → List Typed → List Typed
said_then typed later = if is_leave typed then [] else typed ∷ later

-- What lines say, in order, up to the first that tells the member to leave. One that is too long says nothing.
abbrev pub said_by : List (List ℕ) → List Typed
said_by [] = []
said_by (l ∷ ls) = if nat_lt LONGEST_BODY (length l) then said_by ls else said_then (said_of l) (said_by ls)

abbrev pub said_in : List ℕ → List Typed
said_in text = said_by (lines_of text)

-- What is drawn of what lines say, in order, where who types stands by then. Behind a command without its answer nothing is drawn.
abbrev pub strokes_by : Option Place → List Typed → List Drawn
strokes_by None ts = []
strokes_by (Some place) [] = []
strokes_by (Some place) (t ∷ ts) = drawn_at place.page t ++ strokes_by (place_after t place) ts

-- the strokes of a text that is drawn as it is typed, by the answers to its commands
abbrev pub strokes_in : Page → Answers → List ℕ → List Drawn
strokes_in page answers text = strokes_by (Some (record { page = page; answers = answers })) (said_in text)

-- what lines ask the node for, in order
abbrev pub asked_of : List Typed → List PageCommand
asked_of [] = []
asked_of (t ∷ ts) = asked_list (asked_by t) ++ asked_of ts

-- what a text asks the node for, up to the line that tells the member to leave
abbrev pub asked_in : List ℕ → List PageCommand
asked_in text = asked_of (said_in text)

-- The line that is being typed: its number, from 1, the page where who types it stands, and what is kept of it, which tells whether it is too long.
pub record LineContent : Type 0 where
  pub number : ℕ
  pub page : Page
  pub kept : List ℕ

-- a line with a byte more; of one that is too long already no more is kept
abbrev pub with_byte : ℕ → LineContent → LineContent
with_byte byte l = if nat_lt LONGEST_BODY (length l.kept) then l else record l { kept = l.kept ++ byte ∷ [] }

-- what a line becomes as it ends: what it says, or one that is too long
abbrev pub typed_of : LineContent → Typed
typed_of l = if nat_lt LONGEST_BODY (length l.kept) then TooLong l.number else said_of l.kept

-- the next line, before anything of it is typed
abbrev pub line_after : LineContent → LineContent
line_after l = record l { number = one_more l.number; kept = [] }

-- who draws what is typed: the producer that sends the strokes, and the control that asks the node for pages
pub record TypistView : Type 0 where
  pub pen : PenView
  pub control : ControlView

-- the producer sent these strokes more
abbrev pub PenSent : List Drawn → PenView → PenView → Type 0
PenSent drawn old new = new ≡ record old { sent = old.sent ++ map (pen_stroke old.number) drawn }

-- nothing was drawn and no page begun, but pages may have been shown
pub record Stays (old new : TypistView) : Type 0 where
  pub pen : new.pen ≡ old.pen
  pub heard : Hears [] old.control new.control

-- the same, but for a last command that has no answer yet
pub record Ends (old new : TypistView) : Type 0 where
  pub pen : new.pen ≡ old.pen
  pub heard : HearsLast [] old.control new.control

-- A command was answered by what turns from one page to another, and nothing was drawn.
pub record Turns (command : PageCommand) (page : Page) (old : TypistView) (turned : Page) (new : TypistView) : Type 0 where
  pub given : Answers
  pub turns : (later : Answers) → place_answered command page (given ++ later) ≡ Some (record { page = turned; answers = later })
  pub asks : command ∷ [] ≡ commands_of given
  pub pen : new.pen ≡ old.pen
  pub heard : Hears given old.control new.control

-- Of a line that ended, and goes on, the producer sent what is drawn of it, and who types stands there now: by the answers that came to what it asks for, however many more there are behind
-- them.
pub record Does (typed : Typed) (page : Page) (old : TypistView) (turned : Page) (new : TypistView) : Type 0 where
  pub goes_on : is_leave typed ≡ false
  pub given : Answers
  pub turns : (later : Answers) → place_after typed (record { page = page; answers = given ++ later }) ≡ Some (record { page = turned; answers = later })
  pub asks : asked_list (asked_by typed) ≡ commands_of given
  pub sent : PenSent (drawn_at page typed) old.pen new.pen
  pub heard : Hears given old.control new.control

-- a line tells the member to leave, and nothing was drawn
pub record Leaves (typed : Typed) (old new : TypistView) : Type 0 where
  pub leave : is_leave typed ≡ true
  pub stays : Stays old new

-- what a line says was done, and who types stands there now, or it tells the member to leave
abbrev pub DoesOrLeaves : Typed → Page → TypistView → Option Page → TypistView → Type 0
DoesOrLeaves typed page old (Some turned) new = Does typed page old turned new
DoesOrLeaves typed page old None new = Leaves typed old new

-- the producer is the same, but for what it sent
pub record SamePen (old new : PenView) : Type 0 where
  pub is : new ≡ record old { sent = new.sent }

-- the control is the same, but for what it sent and took
pub record SameControl (old new : ControlView) : Type 0 where
  pub is : new ≡ record old { commanded = new.commanded; answers = new.answers; waiting = new.waiting }

pub record SameTypist (old new : TypistView) : Type 0 where
  pub pen : SamePen old.pen new.pen
  pub control : SameControl old.control new.control

-- no byte of these is a line end
abbrev pub HasNoEnd : List ℕ → Type 0
HasNoEnd [] = Unit {0}
HasNoEnd (b ∷ bs) = (b ≢ 10) × HasNoEnd bs

-- Behind a line's prefix these bytes were typed. What was drawn are the strokes that ended with them: whatever else is typed and answered, these come first,
-- and behind them those of the prefix that is begun now. So do the commands that were answered.
pub record DrawsTyped (bytes : List ℕ) (page : Page) (typed_before : List ℕ) (old : TypistView) (turned : Page) (begun : List ℕ) (new : TypistView) : Type 0 where
  pub given : Answers
  pub drawn : List Drawn
  pub strokes : HasNoEnd typed_before → (later : Answers) (more : List ℕ) → strokes_in page (given ++ later) (typed_before ++ (bytes ++ more)) ≡ drawn ++ strokes_in turned later (begun ++ more)
  pub asks : HasNoEnd typed_before → (more : List ℕ) → asked_in (typed_before ++ (bytes ++ more)) ≡ commands_of given ++ asked_in (begun ++ more)
  pub one : HasNoEnd typed_before → HasNoEnd begun
  pub sent : PenSent drawn old.pen new.pen
  pub heard : Hears given old.control new.control

-- Of these bytes a line tells the member to leave, and what is typed before it was drawn: whatever follows, there are no other strokes, and no other commands.
pub record DrawsLeft (bytes : List ℕ) (page : Page) (typed_before : List ℕ) (old new : TypistView) : Type 0 where
  pub given : Answers
  pub drawn : List Drawn
  pub strokes : HasNoEnd typed_before → (later : Answers) (more : List ℕ) → strokes_in page (given ++ later) (typed_before ++ (bytes ++ more)) ≡ drawn
  pub asks : HasNoEnd typed_before → (more : List ℕ) → asked_in (typed_before ++ (bytes ++ more)) ≡ commands_of given
  pub sent : PenSent drawn old.pen new.pen
  pub heard : Hears given old.control new.control

-- who types goes on behind these bytes, or told the member to leave
abbrev pub DrawsOrLeaves : Bool → List ℕ → Page → List ℕ → TypistView → Page → List ℕ → TypistView → Type 0
DrawsOrLeaves true bytes page typed_before old turned begun new = DrawsTyped bytes page typed_before old turned begun new
DrawsOrLeaves false bytes page typed_before old turned begun new = DrawsLeft bytes page typed_before old new

-- some of these bytes were drawn, from the first on
pub record DrawsSome (bytes : List ℕ) (page : Page) (typed_before : List ℕ) (old new : TypistView) : Type 0 where
  pub done : List ℕ
  pub rest : List ℕ
  pub split : bytes ≡ done ++ rest
  pub turned : Page
  pub begun : List ℕ
  pub between : TypistView
  pub draws : DrawsTyped done page typed_before old turned begun between
  pub ends : Ends between new

-- Of a text that is known, this is left to be read. What was read was drawn, but for the prefix of a line that is begun.
pub record Reads (text : List ℕ) (left : Option (List ℕ)) (page : Page) (begun : List ℕ) (old new : TypistView) : Type 0 where
  pub rest : List ℕ
  pub left_is : left ≡ Some rest
  pub given : Answers
  pub drawn : List Drawn
  pub strokes : (later : Answers) → strokes_in first_page (given ++ later) text ≡ drawn ++ strokes_in page later (begun ++ rest)
  pub asks : asked_in text ≡ commands_of given ++ asked_in (begun ++ rest)
  pub one : HasNoEnd begun
  pub sent : PenSent drawn old.pen new.pen
  pub heard : Hears given old.control new.control

-- the last line of a text, which lacks its end, was drawn, or tells the member to leave
pub record DrawsLast (page : Page) (typed_before : List ℕ) (old new : TypistView) : Type 0 where
  pub given : Answers
  pub drawn : List Drawn
  pub strokes : HasNoEnd typed_before → (later : Answers) → strokes_in page (given ++ later) (typed_before ++ []) ≡ drawn
  pub asks : HasNoEnd typed_before → asked_in (typed_before ++ []) ≡ commands_of given
  pub sent : PenSent drawn old.pen new.pen
  pub heard : Hears given old.control new.control

-- the same of what may be known of a text
abbrev pub ReadsOf : (known left : Option (List ℕ)) → Page → List ℕ → TypistView → TypistView → Type 0
ReadsOf known left page begun old new = IfSome known (λ text. Reads text left page begun old new)

-- By these answers, which came, the producer sent all strokes of a text but those that are left behind them, each once and in order.
pub record SentAllBut (text : List ℕ) (answers : Answers) (left : List Drawn) (old new : TypistView) : Type 0 where
  pub drawn : List Drawn
  pub split : strokes_in first_page answers text ≡ drawn ++ left
  pub sent : PenSent drawn old.pen new.pen
  pub heard : HearsLast answers old.control new.control

-- Each command of a text, up to the line that tells the member to leave, has its answer, which came, and by these the producer sent the text's strokes: all of them, each once and in order.
pub record SentAll (text : List ℕ) (old new : TypistView) : Type 0 where
  pub answers : Answers
  pub asked : asked_in text ≡ commands_of answers
  pub sent : PenSent (strokes_in first_page answers text) old.pen new.pen
  pub heard : Hears answers old.control new.control

-- the same of what may be known of a text
abbrev pub SentAllOf : Option (List ℕ) → TypistView → TypistView → Type 0
SentAllOf known old new = IfSome known (λ text. SentAll text old new)

-- of a text that is known, the producer sent a prefix of the strokes, each once and in order
abbrev pub SentPrefixOf : Option (List ℕ) → TypistView → TypistView → Type 0
SentPrefixOf known old new = IfSome known (λ text. (answers : Answers) × (left : List Drawn) × SentAllBut text answers left old new)
