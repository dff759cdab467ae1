-- What is typed byte by byte is drawn line by line.
use Rattle.std.proofs.Common.{◌≡◌, ◌≢◌, ℕ, ◌+◌, ◌<◌, ◌≤◌, Bool, true, false, List, [], ◌∷◌, ◌++◌, length, take, drop, get_or, refl, ap, sym, ◌∙◌, subst, arith}
use Rattle.std.specs.Bool.{OnTrue}
use Rattle.std.specs.Prelude.{map, nat_lt, if◌then◌else◌, Option, Some, None, Result, Ok, Err, OnOk, OnErr, IfOk, IfSome, MatchOption}
use Rattle.std.specs.Io.KnownBytes.{Consumes, Keeps, IsAtEnd}
use Rattle.std.proofs.lemmas.Bool.{ltb-true, lt-ltb}
use Rattle.std.proofs.lemmas.List.{append-nil, append_assoc, map-append, length-append, take_more, take-append-drop, take_all}
use Rattle.srm_names.specs.declared.limits.TheConstants.{LONGEST_BODY}
use Rattle.srm_names.specs.declared.page.Page.{Page}
use Rattle.srm_names.specs.Names.{first_page}
use Rattle.srm_pages.specs.Ends.{PenView}
use Rattle.srm_pages.specs.declared.stroke.Stroke.{Stroke as AStroke}
use Rattle.srm_control.specs.declared.command.PageCommand.{PageCommand}
use Rattle.srm_control.specs.declared.command.PageCommand.TheVariants as commands
use Rattle.srm_control.specs.declared.command.PageRefusal.{PageRefusal}
use Rattle.srm_control.specs.Ends.{ControlView}
use Rattle.srm_live.specs.declared.cut.ReadingEnd.{ReadingEnd}
use Rattle.srm_live.specs.declared.typed.Typed.{Typed}
use Rattle.srm_live.specs.declared.typed.Typed.TheVariants.{Stroke, TooLong, Order}
use Rattle.srm_live.specs.declared.command.Command.TheVariants.{Show, Begin, Pages, Who, Leave, Help}
use Rattle.srm_live.specs.Commands.{said_of}
use Rattle.srm_member.specs.Lines.{lines_of, before_first}
use Rattle.srm_member.specs.Strokes.{stroke_on}
use Rattle.srm_member.proofs.Splitting.{other}
use Rattle.srm_live.specs.Asking.{Answers, Place, answer_to, asked_by, asked_list, commands_of, page_after, place_after, HearsBut, Hears, HearsLast}
use Rattle.srm_live.specs.Typing.{Drawn, pen_stroke, drawn_at, is_leave, said_then, said_by, said_in, strokes_by, strokes_in, asked_of, asked_in, LineContent, with_byte, typed_of, line_after, TypistView, PenSent, SameControl, SameTypist, Stays, Ends, Turns, Does, Leaves, DoesOrLeaves, HasNoEnd, DrawsTyped, DrawsLeft, DrawsOrLeaves, DrawsSome, DrawsLast, Reads, ReadsOf, SentAllOf, SentPrefixOf}
use Rattle.srm_live.proofs.Askings.{same_command-itself, commands-append, hears_none, hears_on, hears_last, hears_first, hears_still, hears_so}

-- THE LINES OF A FRONT AND WHAT IS BEHIND IT

-- these lines, with a prefix before the first
abbrev before_lines : List ℕ → List (List ℕ) → List (List ℕ)
before_lines typed_before [] = typed_before ∷ []
before_lines typed_before (l ∷ ls) = (typed_before ++ l) ∷ ls

before_first_lines : (c d : ℕ) (ds : List ℕ) (ls : List (List ℕ)) → before_first c (before_lines (d ∷ ds) ls) ≡ before_lines (c ∷ d ∷ ds) ls
before_first_lines c d ds [] = refl
before_first_lines c d ds (l ∷ ls) = refl

one_before : (c : ℕ) (ls : List (List ℕ)) → before_first c ls ≡ before_lines (c ∷ []) ls
one_before c [] = refl
one_before c (l ∷ ls) = refl

-- a prefix that has no line end stands before the first line behind it
lines_behind : (c : ℕ) (cs more : List ℕ) → HasNoEnd (c ∷ cs) → lines_of ((c ∷ cs) ++ more) ≡ before_lines (c ∷ cs) (lines_of more)
lines_behind c [] more h = other c (lines_of more) h.0 ∙ one_before c (lines_of more)
lines_behind c (d ∷ ds) more h = other c (lines_of ((d ∷ ds) ++ more)) h.0 ∙ ap (before_first c) (lines_behind d ds more h.1) ∙ before_first_lines c d ds (lines_of more)

line_ends : (typed_before more : List ℕ) → HasNoEnd typed_before → lines_of (typed_before ++ 10 ∷ more) ≡ typed_before ∷ lines_of more
line_ends [] more h = refl
line_ends (c ∷ cs) more h = other c (lines_of (cs ++ 10 ∷ more)) h.0 ∙ ap (before_first c) (line_ends cs more h.1)

behind_before : (c : ℕ) (ls : List (List ℕ)) → drop 1 (before_first c ls) ≡ drop 1 ls
behind_before c [] = refl
behind_before c (l ∷ ls) = refl

-- where who types stands on a page, and these answers are to come
abbrev at : Page → Answers → Place
at page answers = record { page = page; answers = answers }

long_line : (l : List ℕ) (ls : List (List ℕ)) → nat_lt LONGEST_BODY (length l) ≡ true → said_by (l ∷ ls) ≡ said_by ls
long_line l ls long = rw long refl

-- a prefix that is too long says nothing, whatever is behind it
long_before : (typed_before : List ℕ) (ls : List (List ℕ)) → nat_lt LONGEST_BODY (length typed_before) ≡ true → said_by (before_lines typed_before ls) ≡ said_by (drop 1 ls)
long_before typed_before [] long = long_line typed_before [] long
long_before typed_before (l ∷ ls) long = long_line (typed_before ++ l) ls (lt-ltb LONGEST_BODY (length (typed_before ++ l)) (omega (arith, ltb-true LONGEST_BODY (length typed_before) long, length-append typed_before l)))

-- so one byte more of it changes nothing
no_room : (typed_before more : List ℕ) (byte : ℕ) → HasNoEnd typed_before → byte ≢ 10 → nat_lt LONGEST_BODY (length typed_before) ≡ true → said_in (typed_before ++ byte ∷ more) ≡ said_in (typed_before ++ more)
no_room [] more byte h not_end long = absurd (omega (arith, ltb-true LONGEST_BODY 0 long))
no_room (c ∷ cs) more byte h not_end long =
    ap said_by (lines_behind c cs (byte ∷ more) h)
    ∙ long_before (c ∷ cs) (lines_of (byte ∷ more)) long
    ∙ ap (λ ls. said_by (drop 1 ls)) (other byte (lines_of more) not_end)
    ∙ ap said_by (behind_before byte (lines_of more))
    ∙ sym (long_before (c ∷ cs) (lines_of more) long)
    ∙ sym (ap said_by (lines_behind c cs more h))

-- ONE BYTE

no_end_more : (typed_before : List ℕ) (byte : ℕ) → HasNoEnd typed_before → byte ≢ 10 → HasNoEnd (typed_before ++ byte ∷ [])
no_end_more [] byte h not_end = (not_end, tt)
no_end_more (c ∷ cs) byte h not_end = (h.0, no_end_more cs byte h.1 not_end)

sent_none : (pen : PenView) → PenSent [] pen pen
sent_none pen = ap (λ sent. record pen { sent = sent }) (sym (append-nil pen.sent))

sent_still : (old new : PenView) → new ≡ old → PenSent [] old new
sent_still old new is = is ∙ sent_none old

pub draws_none : (page : Page) (typed_before : List ℕ) (t : TypistView) → DrawsTyped [] page typed_before t page typed_before t
draws_none page typed_before t = record { given = []; drawn = []; strokes = λ h later more. refl; asks = λ h more. refl; one = λ h. h; sent = sent_none t.pen; heard = hears_none t.control }

-- a byte that is no line end
pub draws_byte : (byte : ℕ) (l new : LineContent) (t : TypistView) → byte ≢ 10 → new ≡ with_byte byte l → DrawsTyped (byte ∷ []) l.page l.kept t new.page new.kept t
draws_byte byte l new t not_end is = subst (λ n. DrawsTyped (byte ∷ []) l.page l.kept t n.page n.kept t) (sym is) (go (nat_lt LONGEST_BODY (length l.kept)) refl)
  where
    go : (b : Bool) → nat_lt LONGEST_BODY (length l.kept) ≡ b → DrawsTyped (byte ∷ []) l.page l.kept t (if b then l else record l { kept = l.kept ++ byte ∷ [] }).page (if b then l else record l { kept = l.kept ++ byte ∷ [] }).kept t
    go true long = record {
      given = [];
      drawn = [];
      strokes = λ h later more. ap (strokes_by (Some (at l.page later))) (no_room l.kept more byte h not_end long);
      asks = λ h more. ap asked_of (no_room l.kept more byte h not_end long);
      one = λ h. h;
      sent = sent_none t.pen;
      heard = hears_none t.control;
    }
    go false short = record {
      given = [];
      drawn = [];
      strokes = λ h later more. ap (strokes_in l.page later) (sym (append_assoc l.kept (byte ∷ []) more));
      asks = λ h more. ap asked_in (sym (append_assoc l.kept (byte ∷ []) more));
      one = λ h. no_end_more l.kept byte h not_end;
      sent = sent_none t.pen;
      heard = hears_none t.control;
    }

-- the strokes of lines where the first one goes on
first_strokes : (place : Place) (l : LineContent) (ls : List (List ℕ)) → is_leave (typed_of l) ≡ false → strokes_by (Some place) (said_by (l.kept ∷ ls)) ≡ drawn_at place.page (typed_of l) ++ strokes_by (place_after (typed_of l) place) (said_by ls)
first_strokes place l ls goes_on = go (nat_lt LONGEST_BODY (length l.kept)) goes_on
  where
    go : (b : Bool) → is_leave (if b then TooLong l.number else said_of l.kept) ≡ false → strokes_by (Some place) (if b then said_by ls else said_then (said_of l.kept) (said_by ls))
        ≡ drawn_at place.page (if b then TooLong l.number else said_of l.kept) ++ strokes_by (place_after (if b then TooLong l.number else said_of l.kept) place) (said_by ls)
    go true goes_on = refl
    go false goes_on = ap (λ b. strokes_by (Some place) (if b then [] else said_of l.kept ∷ said_by ls)) goes_on

-- and what they ask for
first_asks : (l : LineContent) (ls : List (List ℕ)) → is_leave (typed_of l) ≡ false → asked_of (said_by (l.kept ∷ ls)) ≡ asked_list (asked_by (typed_of l)) ++ asked_of (said_by ls)
first_asks l ls goes_on = go (nat_lt LONGEST_BODY (length l.kept)) goes_on
  where
    go : (b : Bool) → is_leave (if b then TooLong l.number else said_of l.kept) ≡ false → asked_of (if b then said_by ls else said_then (said_of l.kept) (said_by ls)) ≡ asked_list (asked_by (if b then TooLong l.number else said_of l.kept)) ++ asked_of (said_by ls)
    go true goes_on = refl
    go false goes_on = ap (λ b. asked_of (if b then [] else said_of l.kept ∷ said_by ls)) goes_on

-- lines say nothing where the first tells the member to leave
left_said : (l : LineContent) (ls : List (List ℕ)) → is_leave (typed_of l) ≡ true → said_by (l.kept ∷ ls) ≡ []
left_said l ls leave = go (nat_lt LONGEST_BODY (length l.kept)) leave
  where
    go : (b : Bool) → is_leave (if b then TooLong l.number else said_of l.kept) ≡ true → (if b then said_by ls else said_then (said_of l.kept) (said_by ls)) ≡ []
    go true leave = cc
    go false leave = ap (λ b. if b then [] else said_of l.kept ∷ said_by ls) leave

-- a line end
draws_end : (l : LineContent) (typed : Typed) (old : TypistView) (turned : Page) (new : TypistView) → typed ≡ typed_of l → Does typed l.page old turned new → DrawsTyped (10 ∷ []) l.page l.kept old turned [] new
draws_end l typed old turned new is does =
    let d : Does (typed_of l) l.page old turned new = subst (λ t. Does t l.page old turned new) is does in
    record {
      given = d.given;
      drawn = drawn_at l.page (typed_of l);
      strokes = λ h later more.
          ap (λ ls. strokes_by (Some (at l.page (d.given ++ later))) (said_by ls)) (line_ends l.kept more h)
          ∙ first_strokes (at l.page (d.given ++ later)) l (lines_of more) d.goes_on
          ∙ ap (λ place. drawn_at l.page (typed_of l) ++ strokes_by place (said_in more)) (d.turns later);
      asks = λ h more. ap (λ ls. asked_of (said_by ls)) (line_ends l.kept more h) ∙ first_asks l (lines_of more) d.goes_on ∙ ap (λ cs. cs ++ asked_in more) d.asks;
      one = λ h. tt;
      sent = d.sent;
      heard = d.heard;
    }

-- the same, as the line is taken, and the page noted
pub draws_line_end : (byte : ℕ) (l after last : LineContent) (typed : Typed) (page : Page) (old : TypistView) (turned : Page) (new : TypistView) → byte ≡ 10 → typed ≡ typed_of l → after ≡ line_after l → page ≡ after.page → Does typed page old turned new → last ≡ record after { page = turned }
    → DrawsTyped (byte ∷ []) l.page l.kept old last.page last.kept new
draws_line_end byte l after last typed page old turned new end is next page_is does noted =
    let at_page : page ≡ l.page = page_is ∙ ap (λ (x : LineContent). x.page) next in
    let kept : last.kept ≡ [] = ap (λ (x : LineContent). x.kept) noted ∙ ap (λ (x : LineContent). x.kept) next in
    let here : DrawsTyped (10 ∷ []) l.page l.kept old turned [] new = draws_end l typed old turned new is (subst (λ p. Does typed p old turned new) at_page does) in
    let there : DrawsTyped (10 ∷ []) l.page l.kept old last.page [] new = subst (λ p. DrawsTyped (10 ∷ []) l.page l.kept old p [] new) (sym (ap (λ (x : LineContent). x.page) noted)) here in
    subst (λ b. DrawsTyped (b ∷ []) l.page l.kept old last.page last.kept new) (sym end) (subst (λ k. DrawsTyped (10 ∷ []) l.page l.kept old last.page k new) (sym kept) there)

-- the line that ends tells the member to leave
pub draws_leave : (byte : ℕ) (l : LineContent) (typed : Typed) (old new : TypistView) → byte ≡ 10 → typed ≡ typed_of l → Leaves typed old new → DrawsLeft (byte ∷ []) l.page l.kept old new
draws_leave byte l typed old new end is leaves =
    let leave : is_leave (typed_of l) ≡ true = ap is_leave (sym is) ∙ leaves.leave in
    let none : HasNoEnd l.kept → (more : List ℕ) → said_in (l.kept ++ (byte ∷ more)) ≡ [] = λ h more. ap (λ b. said_in (l.kept ++ (b ∷ more))) end ∙ ap said_by (line_ends l.kept more h) ∙ left_said l (lines_of more) leave in
    record {
      given = [];
      drawn = [];
      strokes = λ h later more. ap (strokes_by (Some (at l.page later))) (none h more);
      asks = λ h more. ap asked_of (none h more);
      sent = sent_still old.pen new.pen leaves.stays.pen;
      heard = leaves.stays.heard;
    }

-- WHO STAYS

pub stays_none : (t : TypistView) → Stays t t
stays_none t = record { pen = refl; heard = hears_none t.control }

pub stays_on : (old mid new : TypistView) → Stays old mid → Stays mid new → Stays old new
stays_on old mid new h k = record { pen = k.pen ∙ h.pen; heard = hears_on 0 [] [] old.control mid.control new.control h.heard k.heard }

pub ends_none : (t : TypistView) → Ends t t
ends_none t = record { pen = refl; heard = hears_so [] t.control t.control (hears_none t.control) }

pub ends_still : (old new : TypistView) → new ≡ old → Ends old new
ends_still old new is = subst (Ends old) (sym is) (ends_none old)

pub ends_heard : (old new : TypistView) → new.pen ≡ old.pen → HearsLast [] old.control new.control → Ends old new
ends_heard old new pen heard = record { pen = pen; heard = heard }

-- WHAT A LINE DOES

-- a command that asks for a page turns to the one that is shown, or to none
turns_by : (command : PageCommand) (page : Page) (outcome : Result Page PageRefusal) (old new : TypistView) → new.pen ≡ old.pen → Hears (answer_to command outcome ∷ []) old.control new.control → Turns command page old (page_after page outcome) new
turns_by command page outcome old new pen heard = record {
  given = answer_to command outcome ∷ [];
  turns = λ later. rw (same_command-itself command) refl;
  asks = refl;
  pen = pen;
  heard = heard;
}

pub turns_shown : (command : PageCommand) (page shown : Page) (old new : TypistView) → new.pen ≡ old.pen → Hears (answer_to command (Ok shown) ∷ []) old.control new.control → Turns command page old shown new
turns_shown command page shown old new pen heard = turns_by command page (Ok shown) old new pen heard

pub turns_refused : (command : PageCommand) (page : Page) (refusal : PageRefusal) (old new : TypistView) → new.pen ≡ old.pen → Hears (answer_to command (Err refusal) ∷ []) old.control new.control → Turns command page old page new
turns_refused command page refusal old new pen heard = turns_by command page (Err refusal) old new pen heard

pub does_show : (named page : Page) (old : TypistView) (turned : Page) (new : TypistView) → Turns (commands.Show named) page old turned new → Does (Order (Some (Show named))) page old turned new
does_show named page old turned new h = record { goes_on = refl; given = h.given; turns = h.turns; asks = h.asks; sent = sent_still old.pen new.pen h.pen; heard = h.heard }

pub does_begin : (page : Page) (old : TypistView) (turned : Page) (new : TypistView) → Turns commands.Begin page old turned new → Does (Order (Some Begin)) page old turned new
does_begin page old turned new h = record { goes_on = refl; given = h.given; turns = h.turns; asks = h.asks; sent = sent_still old.pen new.pen h.pen; heard = h.heard }

-- one that asks for none
pub does_no_command : (page : Page) (t : TypistView) → Does (Order None) page t page t
does_no_command page t = record { goes_on = refl; given = []; turns = λ later. refl; asks = refl; sent = sent_none t.pen; heard = hears_none t.control }

pub does_pages : (page : Page) (t : TypistView) → Does (Order (Some Pages)) page t page t
does_pages page t = record { goes_on = refl; given = []; turns = λ later. refl; asks = refl; sent = sent_none t.pen; heard = hears_none t.control }

pub does_who : (page : Page) (t : TypistView) → Does (Order (Some Who)) page t page t
does_who page t = record { goes_on = refl; given = []; turns = λ later. refl; asks = refl; sent = sent_none t.pen; heard = hears_none t.control }

pub does_help : (page : Page) (t : TypistView) → Does (Order (Some Help)) page t page t
does_help page t = record { goes_on = refl; given = []; turns = λ later. refl; asks = refl; sent = sent_none t.pen; heard = hears_none t.control }

-- a line that is too long, or a stroke
pub does_nothing : (number : ℕ) (page : Page) (t : TypistView) → Does (TooLong number) page t page t
does_nothing number page t = record { goes_on = refl; given = []; turns = λ later. refl; asks = refl; sent = sent_none t.pen; heard = hears_none t.control }

pub does_stroke : (body : List ℕ) (page : Page) (old new : TypistView) → new ≡ record old { pen = record old.pen { sent = old.pen.sent ++ stroke_on page old.pen.number body ∷ [] } } → Does (Stroke body) page old page new
does_stroke body page old new is = record {
  goes_on = refl;
  given = [];
  turns = λ later. refl;
  asks = refl;
  sent = ap (λ (t : TypistView). t.pen) is;
  heard = hears_still old.control new.control (ap (λ (t : TypistView). t.control) is);
}

-- what tells the member to leave
pub leaves : (t : TypistView) → Leaves (Order (Some Leave)) t t
leaves t = record { leave = refl; stays = stays_none t }

-- behind one who stays
pub does_behind : (r : Result (Option Page) ReadingEnd) (typed : Typed) (page : Page) (old mid new : TypistView) → Stays old mid → IfOk r (λ turned. DoesOrLeaves typed page mid turned new) → IfOk r (λ turned. DoesOrLeaves typed page old turned new)
does_behind (Err e) typed page old mid new h does = tt
does_behind (Ok None) typed page old mid new h does = record { leave = does.leave; stays = stays_on old mid new h does.stays }
does_behind (Ok (Some turned)) typed page old mid new h does = record {
  goes_on = does.goes_on;
  given = does.given;
  turns = does.turns;
  asks = does.asks;
  sent = does.sent ∙ ap (λ (p : PenView). record p { sent = p.sent ++ map (pen_stroke p.number) (drawn_at page typed) }) h.pen;
  heard = hears_last 0 does.given old.control mid.control new.control h.heard does.heard;
}

pub ends_behind : (r : Result (Option Page) ReadingEnd) (old mid new : TypistView) → Stays old mid → OnErr r (Ends mid new) → OnErr r (Ends old new)
ends_behind (Ok turned) old mid new h k = tt
ends_behind (Err e) old mid new h k = record { pen = k.pen ∙ h.pen; heard = hears_last 1 [] old.control mid.control new.control h.heard k.heard }

-- MANY BYTES

sent_more : (a b : List Drawn) (old mid new : PenView) → PenSent a old mid → PenSent b mid new → PenSent (a ++ b) old new
sent_more a b old mid new one two =
    let spelled : Drawn → AStroke = pen_stroke old.number in
    let joined : (old.sent ++ map spelled a) ++ map spelled b ≡ old.sent ++ map spelled (a ++ b) =
    append_assoc old.sent (map spelled a) (map spelled b) ∙ ap (λ more. old.sent ++ more) (sym (map-append spelled a b)) in
    let over_old : record mid { sent = mid.sent ++ map (pen_stroke mid.number) b } ≡ record old { sent = (old.sent ++ map spelled a) ++ map spelled b } =
    ap (λ (p : PenView). record p { sent = p.sent ++ map (pen_stroke p.number) b }) one in
    two ∙ over_old ∙ ap (λ sent. record old { sent = sent }) joined

draws_on : (a b : List ℕ) (page : Page) (typed_before : List ℕ) (old : TypistView) (between : Page) (begun : List ℕ) (mid : TypistView) (turned : Page) (left : List ℕ) (new : TypistView)
    → DrawsTyped a page typed_before old between begun mid → DrawsTyped b between begun mid turned left new → DrawsTyped (a ++ b) page typed_before old turned left new
draws_on a b page typed_before old between begun mid turned left new one two = record {
  given = one.given ++ two.given;
  drawn = one.drawn ++ two.drawn;
  strokes = λ h later more.
      ap (λ g. strokes_in page g (typed_before ++ ((a ++ b) ++ more))) (append_assoc one.given two.given later)
      ∙ ap (λ t. strokes_in page (one.given ++ (two.given ++ later)) (typed_before ++ t)) (append_assoc a b more)
      ∙ one.strokes h (two.given ++ later) (b ++ more)
      ∙ ap (λ t. one.drawn ++ t) (two.strokes (one.one h) later more)
      ∙ sym (append_assoc one.drawn two.drawn (strokes_in turned later (left ++ more)));
  asks = λ h more.
      ap (λ t. asked_in (typed_before ++ t)) (append_assoc a b more)
      ∙ one.asks h (b ++ more)
      ∙ ap (λ cs. commands_of one.given ++ cs) (two.asks (one.one h) more)
      ∙ sym (append_assoc (commands_of one.given) (commands_of two.given) (asked_in (left ++ more)))
      ∙ ap (λ cs. cs ++ asked_in (left ++ more)) (sym (commands-append one.given two.given));
  one = λ h. two.one (one.one h);
  sent = sent_more one.drawn two.drawn old.pen mid.pen new.pen one.sent two.sent;
  heard = hears_on 0 one.given two.given old.control mid.control new.control one.heard two.heard;
}

pub draws_more : (bytes : List ℕ) (i byte : ℕ) (page : Page) (typed_before : List ℕ) (old : TypistView) (between : Page) (begun : List ℕ) (mid : TypistView) (turned : Page) (left : List ℕ) (new : TypistView) → i < length bytes → byte ≡ get_or bytes i 0
    → DrawsTyped (take i bytes) page typed_before old between begun mid → DrawsTyped (byte ∷ []) between begun mid turned left new → DrawsTyped (take (i + 1) bytes) page typed_before old turned left new
draws_more bytes i byte page typed_before old between begun mid turned left new few is one two =
    subst (λ done. DrawsTyped done page typed_before old turned left new) (ap (λ b. take i bytes ++ b ∷ []) is ∙ sym (take_more bytes i 0 few)) (draws_on (take i bytes) (byte ∷ []) page typed_before old between begun mid turned left new one two)

-- and of the last a line tells the member to leave
left_on : (a b : List ℕ) (page : Page) (typed_before : List ℕ) (old : TypistView) (between : Page) (begun : List ℕ) (mid new : TypistView) → DrawsTyped a page typed_before old between begun mid → DrawsLeft b between begun mid new → DrawsLeft (a ++ b) page typed_before old new
left_on a b page typed_before old between begun mid new one two = record {
  given = one.given ++ two.given;
  drawn = one.drawn ++ two.drawn;
  strokes = λ h later more.
      ap (λ g. strokes_in page g (typed_before ++ ((a ++ b) ++ more))) (append_assoc one.given two.given later)
      ∙ ap (λ t. strokes_in page (one.given ++ (two.given ++ later)) (typed_before ++ t)) (append_assoc a b more)
      ∙ one.strokes h (two.given ++ later) (b ++ more)
      ∙ ap (λ t. one.drawn ++ t) (two.strokes (one.one h) later more);
  asks = λ h more.
      ap (λ t. asked_in (typed_before ++ t)) (append_assoc a b more) ∙ one.asks h (b ++ more) ∙ ap (λ cs. commands_of one.given ++ cs) (two.asks (one.one h) more) ∙ sym (commands-append one.given two.given);
  sent = sent_more one.drawn two.drawn old.pen mid.pen new.pen one.sent two.sent;
  heard = hears_on 0 one.given two.given old.control mid.control new.control one.heard two.heard;
}

-- nothing behind that line counts
left_within : (done rest : List ℕ) (page : Page) (typed_before : List ℕ) (old new : TypistView) → DrawsLeft done page typed_before old new → DrawsLeft (done ++ rest) page typed_before old new
left_within done rest page typed_before old new h = record {
  given = h.given;
  drawn = h.drawn;
  strokes = λ one later more. ap (λ t. strokes_in page (h.given ++ later) (typed_before ++ t)) (append_assoc done rest more) ∙ h.strokes one later (rest ++ more);
  asks = λ one more. ap (λ t. asked_in (typed_before ++ t)) (append_assoc done rest more) ∙ h.asks one (rest ++ more);
  sent = h.sent;
  heard = h.heard;
}

pub draws_left : (bytes : List ℕ) (i byte : ℕ) (page : Page) (typed_before : List ℕ) (old : TypistView) (between : Page) (begun : List ℕ) (mid new : TypistView) → i < length bytes → byte ≡ get_or bytes i 0 → DrawsTyped (take i bytes) page typed_before old between begun mid
    → DrawsLeft (byte ∷ []) between begun mid new → DrawsLeft bytes page typed_before old new
draws_left bytes i byte page typed_before old between begun mid new few is one two =
    subst (λ all. DrawsLeft all page typed_before old new)
    (ap (λ done. done ++ drop (i + 1) bytes) (ap (λ b. take i bytes ++ b ∷ []) is ∙ sym (take_more bytes i 0 few)) ∙ take-append-drop (i + 1) bytes)
    (left_within (take i bytes ++ byte ∷ []) (drop (i + 1) bytes) page typed_before old new (left_on (take i bytes) (byte ∷ []) page typed_before old between begun mid new one two))

-- where that is said
pub typed_if : (b : Bool) (bytes : List ℕ) (page : Page) (typed_before : List ℕ) (old : TypistView) (turned : Page) (begun : List ℕ) (new : TypistView) → DrawsOrLeaves b bytes page typed_before old turned begun new → b ≡ true → DrawsTyped bytes page typed_before old turned begun new
typed_if true bytes page typed_before old turned begun new draws is = draws
typed_if false bytes page typed_before old turned begun new draws is = cc

pub left_if : (b : Bool) (bytes : List ℕ) (page : Page) (typed_before : List ℕ) (old : TypistView) (turned : Page) (begun : List ℕ) (new : TypistView) → DrawsOrLeaves b bytes page typed_before old turned begun new → b ≡ false → DrawsLeft bytes page typed_before old new
left_if false bytes page typed_before old turned begun new draws is = draws
left_if true bytes page typed_before old turned begun new draws is = cc

-- what holds in any case holds of an error
pub if_err : {T E : Type 0} (r : Result T E) {P : Type 0} → P → OnErr r P
if_err (Ok _) p = tt
if_err (Err _) p = p

-- some of these bytes, and nothing more
pub draws_some : (bytes : List ℕ) (i : ℕ) (page : Page) (typed_before : List ℕ) (old : TypistView) (turned : Page) (begun : List ℕ) (mid new : TypistView) → DrawsTyped (take i bytes) page typed_before old turned begun mid → Ends mid new → DrawsSome bytes page typed_before old new
draws_some bytes i page typed_before old turned begun mid new h ends = record {
  done = take i bytes;
  rest = drop i bytes;
  split = sym (take-append-drop i bytes);
  turned = turned;
  begun = begun;
  between = mid;
  draws = h;
  ends = ends;
}

pub draws_all : (bytes : List ℕ) (i : ℕ) (page : Page) (typed_before : List ℕ) (old : TypistView) (turned : Page) (begun : List ℕ) (new : TypistView) → length bytes ≤ i → DrawsTyped (take i bytes) page typed_before old turned begun new
    → DrawsTyped bytes page typed_before old turned begun new
draws_all bytes i page typed_before old turned begun new all h = subst (λ done. DrawsTyped done page typed_before old turned begun new) (take_all i bytes all) h

-- A TEXT THAT IS READ

last_line : (kept : List ℕ) → kept ≢ [] → HasNoEnd kept → lines_of (kept ++ []) ≡ kept ∷ []
last_line [] some h = absurd (some refl)
last_line (c ∷ cs) some h = lines_behind c cs [] h

-- the last line, which lacks its end
draws_last : (l : LineContent) (typed : Typed) (old : TypistView) (turned : Page) (new : TypistView) → l.kept ≢ [] → typed ≡ typed_of l → Does typed l.page old turned new → DrawsLast l.page l.kept old new
draws_last l typed old turned new some is does = record {
  given = d.given;
  drawn = drawn_at l.page (typed_of l);
  strokes = λ h later. last h later;
  asks = λ h. ap (λ ls. asked_of (said_by ls)) (last_line l.kept some h) ∙ first_asks l [] d.goes_on ∙ append-nil (asked_list (asked_by (typed_of l))) ∙ d.asks;
  sent = d.sent;
  heard = d.heard;
}
  where
    d : Does (typed_of l) l.page old turned new
    d = subst (λ t. Does t l.page old turned new) is does

    last : HasNoEnd l.kept → (later : Answers) → strokes_in l.page (d.given ++ later) (l.kept ++ []) ≡ drawn_at l.page (typed_of l)
    last h later =
        ap (λ ls. strokes_by (Some (at l.page (d.given ++ later))) (said_by ls)) (last_line l.kept some h)
        ∙ first_strokes (at l.page (d.given ++ later)) l [] d.goes_on
        ∙ ap (λ place. drawn_at l.page (typed_of l) ++ strokes_by place []) (d.turns later)
        ∙ append-nil (drawn_at l.page (typed_of l))

-- the same, as the line is taken
pub draws_last_line : (l after : LineContent) (typed : Typed) (page : Page) (old : TypistView) (turned : Option Page) (new : TypistView) → l.kept ≢ [] → typed ≡ typed_of l → after ≡ line_after l → page ≡ after.page → DoesOrLeaves typed page old turned new → DrawsLast l.page l.kept old new
draws_last_line l after typed page old (Some turned) new some is next page_is does = draws_last l typed old turned new some is (subst (λ p. Does typed p old turned new) (page_is ∙ ap (λ (x : LineContent). x.page) next) does)
draws_last_line l after typed page old None new some is next page_is left =
    let leave : is_leave (typed_of l) ≡ true = ap is_leave (sym is) ∙ left.leave in
    let none : HasNoEnd l.kept → said_in (l.kept ++ []) ≡ [] = λ h. ap said_by (last_line l.kept some h) ∙ left_said l [] leave in
    record {
      given = [];
      drawn = [];
      strokes = λ h later. ap (strokes_by (Some (at l.page later))) (none h);
      asks = λ h. ap asked_of (none h);
      sent = sent_still old.pen new.pen left.stays.pen;
      heard = left.stays.heard;
    }

pub draws_no_last : (page : Page) (typed_before : List ℕ) (t : TypistView) → typed_before ≡ [] → DrawsLast page typed_before t t
draws_no_last page typed_before t none = record { given = []; drawn = []; strokes = λ h later. ap (λ f. strokes_in page later (f ++ [])) none; asks = λ h. ap (λ f. asked_in (f ++ [])) none; sent = sent_none t.pen; heard = hears_none t.control }

pub reads_none : (known : Option (List ℕ)) (t : TypistView) → ReadsOf known known first_page [] t t
reads_none None t = tt
reads_none (Some text) t = record { rest = text; left_is = refl; given = []; drawn = []; strokes = λ later. refl; asks = refl; one = tt; sent = sent_none t.pen; heard = hears_none t.control }

-- nothing is drawn yet
pub prefix_none : (known : Option (List ℕ)) (t : TypistView) → SentPrefixOf known t t
prefix_none None t = tt
prefix_none (Some text) t = ([], strokes_in first_page [] text, record { drawn = []; split = refl; sent = sent_none t.pen; heard = hears_so [] t.control t.control (hears_none t.control) })

-- what was drawn stays so
pub prefix_stays : (known : Option (List ℕ)) (old mid new : TypistView) → SentPrefixOf known old mid → Stays mid new → SentPrefixOf known old new
prefix_stays None old mid new h k = tt
prefix_stays (Some text) old mid new (answers, left, h) k = (
  answers,
  left,
  record {
    drawn = h.drawn;
    split = h.split;
    sent = k.pen ∙ h.sent;
    heard = hears_first 1 answers old.control mid.control new.control h.heard k.heard;
  },
)

pub all_stays : (b : Bool) (known : Option (List ℕ)) (old mid new : TypistView) → OnTrue b (SentAllOf known old mid) → Stays mid new → OnTrue b (SentAllOf known old new)
all_stays false known old mid new h k = tt
all_stays true None old mid new h k = tt
all_stays true (Some text) old mid new h k = record { answers = h.answers; asked = h.asked; sent = k.pen ∙ h.sent; heard = hears_first 0 h.answers old.control mid.control new.control h.heard k.heard }

-- WHO DRAWS

pub same_none : (t : TypistView) → SameTypist t t
same_none t = record { pen = record { is = refl }; control = record { is = refl } }

control_heard : (n : ℕ) (some : Answers) (old mid new : ControlView) → SameControl old mid → HearsBut n some mid new → SameControl old new
control_heard n some old mid new h heard =
    let commanded : List PageCommand = mid.commanded ++ heard.sent in
    let answers : Answers = mid.answers ++ heard.took in
    let waiting : ℕ = new.waiting in
    let over : new ≡ record old { commanded = commanded; answers = answers; waiting = waiting } = heard.is ∙ ap (λ (c : ControlView). record c { commanded = commanded; answers = answers; waiting = waiting }) h.is in
    record { is = subst (λ (n : ControlView). n ≡ record old { commanded = n.commanded; answers = n.answers; waiting = n.waiting }) (sym over) refl }

same_sent : (n : ℕ) (drawn : List Drawn) (some : Answers) (old mid new : TypistView) → SameTypist old mid → PenSent drawn mid.pen new.pen → HearsBut n some mid.control new.control → SameTypist old new
same_sent n drawn some old mid new h sent heard =
    let more : List AStroke = mid.pen.sent ++ map (pen_stroke mid.pen.number) drawn in
    record {
      pen = record { is = sent ∙ ap (λ (p : PenView). record p { sent = more }) h.pen.is ∙ ap (λ s. record old.pen { sent = s }) (sym (ap (λ (p : PenView). p.sent) sent)) };
      control = control_heard n some old.control mid.control new.control h.control heard;
    }

pub same_stays : (old mid new : TypistView) → SameTypist old mid → Stays mid new → SameTypist old new
same_stays old mid new h k = same_sent 0 [] [] old mid new h (sent_still mid.pen new.pen k.pen) k.heard

pub same_ends : (old mid new : TypistView) → SameTypist old mid → Ends mid new → SameTypist old new
same_ends old mid new h k = same_sent 1 [] [] old mid new h (sent_still mid.pen new.pen k.pen) k.heard

pub same_typed : (bytes : List ℕ) (page : Page) (typed_before : List ℕ) (old mid : TypistView) (turned : Page) (begun : List ℕ) (new : TypistView) → SameTypist old mid → DrawsTyped bytes page typed_before mid turned begun new → SameTypist old new
same_typed bytes page typed_before old mid turned begun new h draws = same_sent 0 draws.drawn draws.given old mid new h draws.sent draws.heard

pub same_some : (bytes : List ℕ) (page : Page) (typed_before : List ℕ) (old mid new : TypistView) → SameTypist old mid → DrawsSome bytes page typed_before mid new → SameTypist old new
same_some bytes page typed_before old mid new h some = same_ends old some.between new (same_typed some.done page typed_before old mid some.turned some.begun some.between h some.draws) some.ends

pub same_left : (bytes : List ℕ) (page : Page) (typed_before : List ℕ) (old mid new : TypistView) → SameTypist old mid → DrawsLeft bytes page typed_before mid new → SameTypist old new
same_left bytes page typed_before old mid new h left = same_sent 0 left.drawn left.given old mid new h left.sent left.heard

-- of the last line
pub same_last : {T E : Type 0} (r : Result T E) (page : Page) (typed_before : List ℕ) (old mid new : TypistView) → SameTypist old mid → OnOk r (DrawsLast page typed_before mid new) → OnErr r (Ends mid new) → SameTypist old new
same_last (Ok _) page typed_before old mid new h last cut = same_sent 0 last.drawn last.given old mid new h last.sent last.heard
same_last (Err _) page typed_before old mid new h last cut = same_ends old mid new h cut

rest_is : (left after : Option (List ℕ)) (bytes rest : List ℕ) → left ≡ Some rest → Consumes left after bytes → (ys : List ℕ) × (after ≡ Some ys) × (rest ≡ bytes ++ ys)
rest_is None after bytes rest is took = absurd cc
rest_is (Some xs) None bytes rest is took = absurd took
rest_is (Some xs) (Some ys) bytes rest is took =
    let same : xs ≡ rest = cc in
    (ys, refl, sym same ∙ took)

reads_more : (known left after : Option (List ℕ)) (bytes : List ℕ) (page : Page) (begun : List ℕ) (old mid : TypistView) (turned : Page) (next : List ℕ) (new : TypistView) → ReadsOf known left page begun old mid → Consumes left after bytes
    → DrawsTyped bytes page begun mid turned next new → ReadsOf known after turned next old new
reads_more None left after bytes page begun old mid turned next new h took draws = tt
reads_more (Some text) left after bytes page begun old mid turned next new h took draws =
    let r = rest_is left after bytes h.rest h.left_is took in
    record {
      rest = r.0;
      left_is = r.1;
      given = h.given ++ draws.given;
      drawn = h.drawn ++ draws.drawn;
      strokes = λ later.
          ap (λ g. strokes_in first_page g text) (append_assoc h.given draws.given later)
          ∙ h.strokes (draws.given ++ later)
          ∙ ap (λ t. h.drawn ++ strokes_in page (draws.given ++ later) (begun ++ t)) r.2
          ∙ ap (λ t. h.drawn ++ t) (draws.strokes h.one later r.0)
          ∙ sym (append_assoc h.drawn draws.drawn (strokes_in turned later (next ++ r.0)));
      asks =
          h.asks
          ∙ ap (λ t. commands_of h.given ++ asked_in (begun ++ t)) r.2
          ∙ ap (λ cs. commands_of h.given ++ cs) (draws.asks h.one r.0)
          ∙ sym (append_assoc (commands_of h.given) (commands_of draws.given) (asked_in (next ++ r.0)))
          ∙ ap (λ cs. cs ++ asked_in (next ++ r.0)) (sym (commands-append h.given draws.given));
      one = draws.one h.one;
      sent = sent_more h.drawn draws.drawn old.pen mid.pen new.pen h.sent draws.sent;
      heard = hears_on 0 h.given draws.given old.control mid.control new.control h.heard draws.heard;
    }

kept_is : (left after : Option (List ℕ)) (rest : List ℕ) → left ≡ Some rest → Keeps left after → after ≡ Some rest
kept_is None after rest is kept = absurd cc
kept_is (Some xs) None rest is kept = absurd kept
kept_is (Some xs) (Some ys) rest is kept = ap Some kept ∙ is

-- nothing was there to read
reads_then_stays : (known left after : Option (List ℕ)) (page : Page) (begun : List ℕ) (old mid new : TypistView) → ReadsOf known left page begun old mid → Keeps left after → Stays mid new → ReadsOf known after page begun old new
reads_then_stays None left after page begun old mid new h kept k = tt
reads_then_stays (Some text) left after page begun old mid new h kept k = record {
  rest = h.rest;
  left_is = kept_is left after h.rest h.left_is kept;
  given = h.given;
  drawn = h.drawn;
  strokes = h.strokes;
  asks = h.asks;
  one = h.one;
  sent = k.pen ∙ h.sent;
  heard = hears_first 0 h.given old.control mid.control new.control h.heard k.heard;
}

-- reading ended, and nothing more was drawn
pub reads_cut : (known left : Option (List ℕ)) (page : Page) (begun : List ℕ) (old mid new : TypistView) → ReadsOf known left page begun old mid → Ends mid new → SentPrefixOf known old new
reads_cut None left page begun old mid new h k = tt
reads_cut (Some text) left page begun old mid new h k = (
  h.given ++ [],
  strokes_in page [] (begun ++ h.rest),
  record {
    drawn = h.drawn;
    split = h.strokes [];
    sent = k.pen ∙ h.sent;
    heard = hears_on 1 h.given [] old.control mid.control new.control h.heard k.heard;
  },
)

pub reads_end : (known left : Option (List ℕ)) (page : Page) (begun : List ℕ) (old new : TypistView) → ReadsOf known left page begun old new → SentPrefixOf known old new
reads_end known left page begun old new h = reads_cut known left page begun old new new h (ends_none new)

-- it ended within these bytes
reads_some : (known left after : Option (List ℕ)) (bytes : List ℕ) (page : Page) (begun : List ℕ) (old mid new : TypistView) → ReadsOf known left page begun old mid → Consumes left after bytes → DrawsSome bytes page begun mid new → SentPrefixOf known old new
reads_some None left after bytes page begun old mid new h took draws = tt
reads_some (Some text) left after bytes page begun old mid new h took some =
    let r = rest_is left after bytes h.rest h.left_is took in
    let draws = some.draws in
    let all : h.rest ≡ some.done ++ (some.rest ++ r.0) = r.2 ∙ ap (λ t. t ++ r.0) some.split ∙ append_assoc some.done some.rest r.0 in
    let behind : List Drawn = strokes_in some.turned [] (some.begun ++ (some.rest ++ r.0)) in (
      h.given ++ (draws.given ++ []),
      behind,
      record {
        drawn = h.drawn ++ draws.drawn;
        split =
            h.strokes (draws.given ++ [])
            ∙ ap (λ t. h.drawn ++ strokes_in page (draws.given ++ []) (begun ++ t)) all
            ∙ ap (λ t. h.drawn ++ t) (draws.strokes h.one [] (some.rest ++ r.0))
            ∙ sym (append_assoc h.drawn draws.drawn behind);
        sent = some.ends.pen ∙ sent_more h.drawn draws.drawn old.pen mid.pen some.between.pen h.sent draws.sent;
        heard = hears_on 1 h.given (draws.given ++ []) old.control mid.control new.control h.heard (hears_on 1 draws.given [] mid.control some.between.control new.control draws.heard some.ends.heard);
      },
    )

at_end : (left : Option (List ℕ)) (rest : List ℕ) → left ≡ Some rest → IsAtEnd left → rest ≡ []
at_end None rest is end = absurd cc
at_end (Some xs) rest is end =
    let same : xs ≡ rest = cc in
    sym same ∙ end

-- the input ended, and the last line was drawn
reads_all : (known left : Option (List ℕ)) (page : Page) (begun : List ℕ) (old mid new : TypistView) → ReadsOf known left page begun old mid → IsAtEnd left → DrawsLast page begun mid new → SentAllOf known old new
reads_all None left page begun old mid new h end last = tt
reads_all (Some text) left page begun old mid new h end last =
    let none : h.rest ≡ [] = at_end left h.rest h.left_is end in
    let drawn : strokes_in first_page (h.given ++ last.given) text ≡ h.drawn ++ last.drawn =
    ap (λ g. strokes_in first_page (h.given ++ g) text) (sym (append-nil last.given))
    ∙ h.strokes (last.given ++ [])
    ∙ ap (λ t. h.drawn ++ strokes_in page (last.given ++ []) (begun ++ t)) none
    ∙ ap (λ t. h.drawn ++ t) (last.strokes h.one []) in
    record {
      answers = h.given ++ last.given;
      asked = h.asks ∙ ap (λ t. commands_of h.given ++ asked_in (begun ++ t)) none ∙ ap (λ cs. commands_of h.given ++ cs) (last.asks h.one) ∙ sym (commands-append h.given last.given);
      sent = subst (λ (ds : List Drawn). PenSent ds old.pen new.pen) (sym drawn) (sent_more h.drawn last.drawn old.pen mid.pen new.pen h.sent last.sent);
      heard = hears_on 0 h.given last.given old.control mid.control new.control h.heard last.heard;
    }

-- of these bytes a line tells the member to leave
reads_left : (known left after : Option (List ℕ)) (bytes : List ℕ) (page : Page) (begun : List ℕ) (old mid new : TypistView) → ReadsOf known left page begun old mid → Consumes left after bytes → DrawsLeft bytes page begun mid new → SentAllOf known old new
reads_left None left after bytes page begun old mid new h took draws = tt
reads_left (Some text) left after bytes page begun old mid new h took draws =
    let r = rest_is left after bytes h.rest h.left_is took in
    let drawn : strokes_in first_page (h.given ++ draws.given) text ≡ h.drawn ++ draws.drawn =
    ap (λ g. strokes_in first_page (h.given ++ g) text) (sym (append-nil draws.given))
    ∙ h.strokes (draws.given ++ [])
    ∙ ap (λ t. h.drawn ++ strokes_in page (draws.given ++ []) (begun ++ t)) r.2
    ∙ ap (λ t. h.drawn ++ t) (draws.strokes h.one [] r.0) in
    record {
      answers = h.given ++ draws.given;
      asked = h.asks ∙ ap (λ t. commands_of h.given ++ asked_in (begun ++ t)) r.2 ∙ ap (λ cs. commands_of h.given ++ cs) (draws.asks h.one r.0) ∙ sym (commands-append h.given draws.given);
      sent = subst (λ (ds : List Drawn). PenSent ds old.pen new.pen) (sym drawn) (sent_more h.drawn draws.drawn old.pen mid.pen new.pen h.sent draws.sent);
      heard = hears_on 0 h.given draws.given old.control mid.control new.control h.heard draws.heard;
    }

prefix_of_all : (known : Option (List ℕ)) (old new : TypistView) → SentAllOf known old new → SentPrefixOf known old new
prefix_of_all None old new h = tt
prefix_of_all (Some text) old new h = (
  h.answers,
  [],
  record {
    drawn = strokes_in first_page h.answers text;
    split = sym (append-nil (strokes_in first_page h.answers text));
    sent = h.sent;
    heard = hears_so h.answers old.control new.control h.heard;
  },
)

-- A READ

-- what a read that answered so did to the known bytes that are left
abbrev pub Took : Option ℕ → List ℕ → (left after : Option (List ℕ)) → Type 0
Took some buffer left after = MatchOption some (Keeps left after) (λ n. Consumes left after (take n buffer))

took_bytes : (some : Option ℕ) (n : ℕ) (buffer : List ℕ) (left after : Option (List ℕ)) → Took some buffer left after → some ≡ Some n → Consumes left after (take n buffer)
took_bytes some n buffer left after took is = subst (λ o. Took o buffer left after) is took

kept_bytes : (some : Option ℕ) (buffer : List ℕ) (left after : Option (List ℕ)) → Took some buffer left after → some ≡ None → Keeps left after
kept_bytes some buffer left after took is = subst (λ o. Took o buffer left after) is took

-- nothing was there
pub read_none : (known left after : Option (List ℕ)) (some : Option ℕ) (buffer : List ℕ) (page : Page) (begun : List ℕ) (old mid new : TypistView) → ReadsOf known left page begun old mid → Took some buffer left after → some ≡ None → Stays mid new → ReadsOf known after page begun old new
read_none known left after some buffer page begun old mid new h took is stays = reads_then_stays known left after page begun old mid new h (kept_bytes some buffer left after took is) stays

-- so many bytes were read, and drawn
pub read_drawn : (known left after : Option (List ℕ)) (some : Option ℕ) (n : ℕ) (buffer : List ℕ) (page : Page) (begun : List ℕ) (old mid : TypistView) (turned : Page) (next : List ℕ) (new : TypistView) → ReadsOf known left page begun old mid → Took some buffer left after
    → some ≡ Some n → DrawsTyped (take n buffer) page begun mid turned next new → ReadsOf known after turned next old new
read_drawn known left after some n buffer page begun old mid turned next new h took is draws = reads_more known left after (take n buffer) page begun old mid turned next new h (took_bytes some n buffer left after took is) draws

-- so many were read, and a line among them tells the member to leave
pub read_left : (known left after : Option (List ℕ)) (some : Option ℕ) (n : ℕ) (buffer : List ℕ) (page : Page) (begun : List ℕ) (old mid new : TypistView) → ReadsOf known left page begun old mid → Took some buffer left after → some ≡ Some n → DrawsLeft (take n buffer) page begun mid new
    → SentAllOf known old new × SentPrefixOf known old new
read_left known left after some n buffer page begun old mid new h took is draws =
    let all = reads_left known left after (take n buffer) page begun old mid new h (took_bytes some n buffer left after took is) draws in
    (all, prefix_of_all known old new all)

-- so many were read, and some of them drawn
pub read_cut : (known left after : Option (List ℕ)) (some : Option ℕ) (n : ℕ) (buffer : List ℕ) (page : Page) (begun : List ℕ) (old mid new : TypistView) → ReadsOf known left page begun old mid → Took some buffer left after → some ≡ Some n
    → DrawsSome (take n buffer) page begun mid new → SentPrefixOf known old new
read_cut known left after some n buffer page begun old mid new h took is draws = reads_some known left after (take n buffer) page begun old mid new h (took_bytes some n buffer left after took is) draws

ended_known : (known left after : Option (List ℕ)) (some : Option ℕ) (buffer : List ℕ) (page : Page) (begun : List ℕ) (old mid : TypistView) → ReadsOf known left page begun old mid → Took some buffer left after → some ≡ Some 0 → ReadsOf known after page begun old mid
ended_known known left after some buffer page begun old mid h took is = reads_more known left after [] page begun old mid page begun mid h (took_bytes some 0 buffer left after took is) (draws_none page begun mid)

-- the input ended, and the last line was drawn or not
pub read_last : {T E : Type 0} (r : Result T E) (known left after : Option (List ℕ)) (some : Option ℕ) (buffer : List ℕ) (page : Page) (begun : List ℕ) (old mid new : TypistView) → ReadsOf known left page begun old mid → Took some buffer left after → some ≡ Some 0
    → IfSome some (λ n. n ≡ 0 → IsAtEnd after) → OnOk r (DrawsLast page begun mid new) → OnErr r (Ends mid new) → OnOk r (SentAllOf known old new) × SentPrefixOf known old new
read_last r known left after some buffer page begun old mid new h took is end last cut = go r last cut
  where
    here : ReadsOf known after page begun old mid
    here = ended_known known left after some buffer page begun old mid h took is

    none : IsAtEnd after
    none = (subst (λ o. IfSome o (λ n. n ≡ 0 → IsAtEnd after)) is end) refl

    go : {X Y : Type 0} (r : Result X Y) → OnOk r (DrawsLast page begun mid new) → OnErr r (Ends mid new) → OnOk r (SentAllOf known old new) × SentPrefixOf known old new
    go (Ok _) last cut =
        let all = reads_all known after page begun old mid new here none last in
        (all, prefix_of_all known old new all)
    go (Err _) last cut = (tt, reads_cut known after page begun old mid new here cut)
