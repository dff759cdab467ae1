-- What a control hears, put together.
use Rattle.std.proofs.Common.{◌≡◌, inl, inr, ⊎_elim, ℕ, ◌+◌, ◌-◌, ◌≤◌, Bool, true, false, List, [], ◌∷◌, ◌++◌, map, refl, ap, sym, ◌∙◌, subst, append_assoc, arith}
use Rattle.std.specs.Bool.{OnTrue, OnFalse}
use Rattle.std.specs.Prelude.{Option, Some, None, MatchOption}
use Rattle.std.proofs.lemmas.List.{append-nil, map-append}
use Rattle.srm_names.specs.declared.page.Page.{Page}
use Rattle.srm_names.proofs.Same.{same_page-itself}
use Rattle.srm_control.specs.declared.command.PageCommand.{PageCommand}
use Rattle.srm_control.specs.declared.command.PageCommand.TheVariants.{Show, Begin}
use Rattle.srm_control.specs.declared.command.PageAnswer.{PageAnswer}
use Rattle.srm_control.specs.Ends.{ControlView}
use Rattle.srm_live.specs.Asking.{Answers, answer_to, same_command, commands_of, AreAmong, begins, begins_in, Takes, HearsBut, Hears, HearsLast}

pub same_command-itself : (command : PageCommand) → same_command command command ≡ true
same_command-itself (Show page) = same_page-itself page
same_command-itself Begin = refl

-- AMONG

among_behind : (some a b : Answers) → AreAmong some b → AreAmong some (a ++ b)
among_behind [] a b h = tt
among_behind (x ∷ some) [] b h = h
among_behind (x ∷ some) (y ∷ a) b h = inr (among_behind (x ∷ some) a b h)

pub among_before : (some a b : Answers) → AreAmong some a → AreAmong some (a ++ b)
among_before [] a b h = tt
among_before (x ∷ some) [] b h = absurd h
among_before (x ∷ some) (y ∷ a) b h = ⊎_elim (λ p. inl (p.0, among_before some a b p.1)) (λ p. inr (among_before (x ∷ some) a b p)) h

among_on : (some a more b : Answers) → AreAmong some a → AreAmong more b → AreAmong (some ++ more) (a ++ b)
among_on [] a more b h k = among_behind more a b k
among_on (x ∷ some) [] more b h k = absurd h
among_on (x ∷ some) (y ∷ a) more b h k = ⊎_elim (λ p. inl (p.0, among_on some a more b p.1 k)) (λ p. inr (among_on (x ∷ some) a more b p k)) h

-- PAGES THAT BEGIN

pub begins-append : (a b : List PageCommand) → begins (a ++ b) ≡ begins a + begins b
begins-append [] b = omega arith
begins-append (Show page ∷ cs) b = begins-append cs b
begins-append (Begin ∷ cs) b = omega (arith, begins-append cs b)

pub commands-append : (a b : Answers) → commands_of (a ++ b) ≡ commands_of a ++ commands_of b
commands-append a b = map-append (λ (x : PageAnswer). x.command) a b

begins_in-append : (a b : Answers) → begins_in (a ++ b) ≡ begins_in a + begins_in b
begins_in-append a b = ap begins (commands-append a b) ∙ begins-append (commands_of a) (commands_of b)

begins-one : (command : PageCommand) → begins (command ∷ []) ≤ 1
begins-one (Show page) = omega arith
begins-one Begin = omega arith

-- TAKING

pub takes_none : (c : ControlView) → Takes [] c c
takes_none c = record { took = []; is = ap (λ answers. record c { answers = answers }) (sym (append-nil c.answers)); among = tt }

-- what others were told, and then these
pub takes_last : (b : Answers) (x y z : ControlView) → Takes [] x y → Takes b y z → Takes b x z
takes_last b x y z h k = record {
  took = h.took ++ k.took;
  is =
      k.is
      ∙ ap (λ (c : ControlView). record c { answers = c.answers ++ k.took; waiting = z.waiting }) h.is
      ∙ ap (λ answers. record x { answers = answers; waiting = z.waiting }) (append_assoc x.answers h.took k.took);
  among = among_behind b h.took k.took k.among;
}

-- what was told to others alone
pub takes_more : (b : Answers) (x y z : ControlView) → Takes [] x y → Takes b y z → Takes [] x z
takes_more b x y z h k =
    let all = takes_last b x y z h k in
    record { took = all.took; is = all.is; among = tt }

pub takes_any : (r : Option PageAnswer) (old new : ControlView) → MatchOption r (new ≡ old) (λ a. new ≡ record old { answers = old.answers ++ a ∷ []; waiting = old.waiting - 1 }) → MatchOption r (Takes [] old new) (λ a. Takes (a ∷ []) old new)
takes_any None old new is = subst (Takes [] old) (sym is) (takes_none old)
takes_any (Some a) old new is = record {
  took = a ∷ [];
  is = subst (λ (n : ControlView). n ≡ record old { answers = old.answers ++ a ∷ []; waiting = n.waiting }) (sym is) refl;
  among = inl (refl, tt);
}

-- HEARING

pub hears_none : (c : ControlView) → Hears [] c c
hears_none c = record {
  sent = [];
  took = [];
  is = ap (λ commanded. record c { commanded = commanded }) (sym (append-nil c.commanded)) ∙ ap (λ answers. record c { commanded = c.commanded ++ []; answers = answers }) (sym (append-nil c.answers));
  among = tt;
  begun = omega arith;
}

hears_by : (m n more : ℕ) (a b : Answers) (x y z : ControlView) → m + n ≤ more → HearsBut m a x y → HearsBut n b y z → HearsBut more (a ++ b) x z
hears_by m n more a b x y z few h k = record {
  sent = h.sent ++ k.sent;
  took = h.took ++ k.took;
  is =
      k.is
      ∙ ap (λ (c : ControlView). record c { commanded = c.commanded ++ k.sent; answers = c.answers ++ k.took; waiting = z.waiting }) h.is
      ∙ ap (λ commanded. record x { commanded = commanded; answers = (x.answers ++ h.took) ++ k.took; waiting = z.waiting }) (append_assoc x.commanded h.sent k.sent)
      ∙ ap (λ answers. record x { commanded = x.commanded ++ (h.sent ++ k.sent); answers = answers; waiting = z.waiting }) (append_assoc x.answers h.took k.took);
  among = among_on a h.took b k.took h.among k.among;
  begun = omega (arith, few, h.begun, k.begun, begins-append h.sent k.sent, begins_in-append a b);
}

-- one behind another: only the last may have a command without its answer
pub hears_on : (n : ℕ) (a b : Answers) (x y z : ControlView) → Hears a x y → HearsBut n b y z → HearsBut n (a ++ b) x z
hears_on n a b x y z h k = hears_by 0 n n a b x y z (omega arith) h k

-- behind what was told to others
pub hears_last : (n : ℕ) (b : Answers) (x y z : ControlView) → Hears [] x y → HearsBut n b y z → HearsBut n b x z
hears_last n b x y z h k = hears_on n [] b x y z h k

pub hears_two : (x y z : ControlView) → Hears [] x y → Hears [] y z → Hears [] x z
hears_two x y z h k = hears_on 0 [] [] x y z h k

-- and before it
pub hears_first : (n : ℕ) (a : Answers) (x y z : ControlView) → HearsBut n a x y → Hears [] y z → HearsBut n a x z
hears_first n a x y z h k = subst (λ g. HearsBut n g x z) (append-nil a) (hears_by n 0 n a [] x y z (omega arith) h k)

pub hears_still : (old new : ControlView) → new ≡ old → Hears [] old new
hears_still old new is = subst (Hears [] old) (sym is) (hears_none old)

-- the answer to the last command isn't missing
pub hears_so : (some : Answers) (old new : ControlView) → Hears some old new → HearsLast some old new
hears_so some old new h = record { sent = h.sent; took = h.took; is = h.is; among = h.among; begun = omega (arith, h.begun) }

-- A COMMAND

abbrev Sent : PageCommand → ControlView → ControlView → Type 0
Sent command old new = new ≡ record old { commanded = old.commanded ++ command ∷ []; waiting = old.waiting + 1 }

after_sent : (command : PageCommand) (some : Answers) (x y z : ControlView) → Sent command x y → (t : Takes some y z) → z ≡ record x { commanded = x.commanded ++ command ∷ []; answers = x.answers ++ t.took; waiting = z.waiting }
after_sent command some x y z sent t = t.is ∙ ap (λ (c : ControlView). record c { answers = c.answers ++ t.took; waiting = z.waiting }) sent

-- it has its answer
pub hears_answer : (answer : PageAnswer) (command : PageCommand) (x y z : ControlView) → Sent command x y → Takes (answer ∷ []) y z → answer.command ≡ command → Hears (answer_to command answer.outcome ∷ []) x z
hears_answer answer command x y z sent t is = subst (λ c. Hears (answer_to c answer.outcome ∷ []) x z) is (record {
  sent = command ∷ [];
  took = t.took;
  is = after_sent command (answer ∷ []) x y z sent t;
  among = t.among;
  begun = subst (λ c. begins (c ∷ []) ≤ begins (answer.command ∷ []) + 0) is (omega arith);
})

-- or not
pub hears_no_answer : (command : PageCommand) (some : Answers) (x y z : ControlView) → Sent command x y → Takes some y z → HearsLast [] x z
hears_no_answer command some x y z sent t = record {
  sent = command ∷ [];
  took = t.took;
  is = after_sent command some x y z sent t;
  among = tt;
  begun = begins-one command;
}

pub hears_no_command : (old new : ControlView) → new ≡ old → HearsLast [] old new
hears_no_command old new is = hears_so [] old new (hears_still old new is)

-- a page is shown that nobody asked for
pub hears_shown : (page : Page) (b : Bool) (old new : ControlView) → OnTrue b (Sent (Show page) old new) → OnFalse b (new ≡ old) → Hears [] old new
unfolding takes_none
hears_shown page true old new sent none = record {
  sent = Show page ∷ [];
  took = [];
  is = after_sent (Show page) [] old new new sent (takes_none new);
  among = tt;
  begun = omega arith;
}
hears_shown page false old new sent none = hears_still old new none

-- an answer that nobody waits for
pub hears_taken : (r : Option PageAnswer) (old new : ControlView) → MatchOption r (Takes [] old new) (λ a. Takes (a ∷ []) old new) → Hears [] old new
hears_taken r old new h =
    let t = any r h in
    record {
      sent = [];
      took = t.took;
      is = t.is ∙ ap (λ commanded. record old { commanded = commanded; answers = old.answers ++ t.took; waiting = new.waiting }) (sym (append-nil old.commanded));
      among = tt;
      begun = omega arith;
    }
  where
    any : (r : Option PageAnswer) → MatchOption r (Takes [] old new) (λ a. Takes (a ∷ []) old new) → Takes [] old new
    any None h = h
    any (Some a) h = takes_more (a ∷ []) old old new (takes_none old) h
