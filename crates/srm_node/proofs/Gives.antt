-- Giving one message after another, and one slot after another.
use Rattle.std.proofs.Common.{◌≡◌, ◌≢◌, ℕ, ◌+◌, ◌<◌, ◌==◌, ◌||◌, ◌&&◌, Bool, true, false, List, [], ◌∷◌, ◌++◌, length, get_or, refl, ap, sym, ◌∙◌, subst, inl, inr, arith, eq-eqb}
use Rattle.std.specs.Prelude.{◌⊎◌, Option, Some, None, Result, Ok, Err, MatchBool, slice_get, slice_set, cond, is_none}
use Rattle.std.specs.Bool.{OnTrue}
use Rattle.std.specs.List.{AllByRecursion, list_any, cons_option}
use Rattle.std.proofs.lemmas.Bool.{cases_eq, ne_eqb}
use Rattle.std.proofs.lemmas.List.{append-nil, length-set}
use Rattle.std.proofs.lemmas.Option.{same_Some, slice_get_read}
use Rattle.std.proofs.lemmas.List.Folds.{list_any-append}
use Rattle.srm_names.specs.declared.limits.TheConstants.{PAGES}
use Rattle.srm_names.specs.declared.page_msg.PageMsg.{PageMsg}
use Rattle.srm_names.specs.PageFeeds.{is_page_feed}
use Rattle.srm_names.proofs.Lists.{AllByRecursion-append, all_by, get_set_same, set_elsewhere}
use Rattle.srm_pages.specs.Ends.{FeedView, credit_of}
use Rattle.srm_entries.specs.declared.entry.Entry.{Entry}
use Rattle.srm_entries.specs.declared.entry.Input.TheVariants.{Gave}
use Rattle.srm_entries.specs.declared.entry.Verdict.{Verdict}
use Rattle.srm_entries.specs.declared.entry.Verdict.TheVariants.{Done, Ignored, Refused}
use Rattle.srm_entries.specs.declared.fault.AgentFault.{AgentFault}
use Rattle.srm_entries.specs.Giving.{given, given_in}
use Rattle.srm_entries.proofs.Feeding.{given-append}
use Rattle.srm_agent.specs.Noting.{AnswersAs}
use Rattle.srm_world.specs.Traces.{Journal}
use Rattle.srm_world.specs.Claims.{IsLawfulJournal}
use Rattle.srm_world.specs.Recording.{Records, with_entry}
use Rattle.srm_world.proofs.HearsAll.{grows_nothing, grown_on}
use Rattle.srm_node.specs.Carrying.{Carries, CarriesEach}
use Rattle.srm_node.specs.Parts.{Gives, GivesUpTo, GaveSome, SameFeed, is_served, gave_nothing, gives_in, is_give}
use Rattle.srm_node.proofs.Rightly.{give_done}

abbrev Given : Entry → Option PageMsg → Type 0
Given e message = message ≡ e.effects.message

abbrev GavesAll : ℕ → List Entry → Type 0
GavesAll slot es = AllByRecursion (λ (e : Entry). e.input ≡ Gave slot) es

given_one : (e : Entry) (slot : ℕ) → e.input ≡ Gave slot → given (e ∷ []) slot ≡ cons_option e.effects.message []
given_one e slot is = ap (λ i. cons_option (given_in slot i e.effects.message) []) is ∙ ap (λ b. cons_option (cond b e.effects.message None) []) (eq-eqb slot slot refl)

given_elsewhere : (es : List Entry) (slot j : ℕ) → j ≢ slot → GavesAll slot es → given es j ≡ []
given_elsewhere [] slot j ne all = refl
given_elsewhere (e ∷ es) slot j ne all =
    ap (λ i. cons_option (given_in j i e.effects.message) (given es j)) all.0 ∙ ap (λ b. cons_option (cond b e.effects.message None) (given es j)) (ne_eqb j slot ne) ∙ given_elsewhere es slot j ne all.1

never_both : {f : AgentFault} (a : Result (Option PageMsg) AgentFault) (message : Option PageMsg) → a ≡ Err f → a ≡ Ok message → ⊥
never_both a message p q = cc

-- the entry of a give
is_given : (j k : Journal) (slot : ℕ) (answer : Result (Option PageMsg) AgentFault) → Records None (Gave slot) Given j k answer → (message : Option PageMsg) → answer ≡ Ok message
    → (e : Entry) × (k ≡ with_entry j e) × (e.input ≡ Gave slot) × (message ≡ e.effects.message)
is_given j k slot answer (inr (is, same)) message ok = absurd (never_both answer message is ok)
is_given j k slot answer (inl (e, grows, input, answers)) message ok = (e, grows.grown, input, which e.verdict answers)
  where
    which : (v : Verdict) → AnswersAs (Given e) v answer → message ≡ e.effects.message
    which Done h = subst (AnswersAs (Given e) Done) ok h
    which (Ignored cause) h = absurd h
    which (Refused fault) h = absurd (never_both answer message h ok)

-- where memory ran out there is none
is_refused : (j k : Journal) (slot : ℕ) (fault : AgentFault) → IsLawfulJournal k → Records None (Gave slot) Given j k (Err fault) → k ≡ j
is_refused j k slot fault lawful (inr (is, same)) = same
is_refused j k slot fault lawful (inl (e, grows, input, answers)) =
    absurd (let a : AnswersAs (Given e) Done (Err fault) = subst (λ v. AnswersAs (Given e) v (Err fault)) (give_done j k e slot grows.grown lawful input) answers in a)

gives_same : (slot : ℕ) (j : Journal) (f g : FeedView) → IsLawfulJournal j → Carries (given j.entries slot) g → SameFeed f g → Gives slot false j j f g
gives_same slot j f g lawful carries same = record { entries = []; grown = grows_nothing j; inputs = tt; lawful = lawful; carries = carries; same = same; served = tt }

pub gives_none : (slot : ℕ) (j : Journal) (f : FeedView) → IsLawfulJournal j → Carries (given j.entries slot) f → Gives slot false j j f f
gives_none slot j f lawful carries = gives_same slot j f f lawful carries refl

pub gives_refused : (slot : ℕ) (j k : Journal) (f : FeedView) (fault : AgentFault) → IsLawfulJournal k → Records None (Gave slot) Given j k (Err fault) → Carries (given j.entries slot) f → Gives slot false j k f f
gives_refused slot j k f fault lawful r carries =
    subst (λ x. Gives slot false j x f f) (sym (is_refused j k slot fault lawful r)) (gives_none slot j f (subst IsLawfulJournal (is_refused j k slot fault lawful r) lawful) carries)

carried : (gave : List PageMsg) (f : FeedView) → f.disconnected ≡ false → Carries gave f → gave ≡ f.put
carried gave f stands h = subst (λ b. MatchBool b ((back : PageMsg) × (gave ≡ f.put ++ back ∷ [])) (gave ≡ f.put)) stands h

pub carries_standing : (gave : List PageMsg) (f : FeedView) → f.disconnected ≡ false → gave ≡ f.put → Carries gave f
carries_standing gave f stands h = subst (λ b. MatchBool b ((back : PageMsg) × (gave ≡ f.put ++ back ∷ [])) (gave ≡ f.put)) (sym stands) h

carries_lost : (gave : List PageMsg) (f : FeedView) (back : PageMsg) → f.disconnected ≡ true → gave ≡ f.put ++ back ∷ [] → Carries gave f
carries_lost gave f back lost h = subst (λ b. MatchBool b ((m : PageMsg) × (gave ≡ f.put ++ m ∷ [])) (gave ≡ f.put)) (sym lost) (back, h)

given_after : (j k : Journal) (slot : ℕ) (e : Entry) → k ≡ with_entry j e → e.input ≡ Gave slot → given k.entries slot ≡ given j.entries slot ++ cons_option e.effects.message []
given_after j k slot e grown input = ap (λ (x : Journal). given x.entries slot) grown ∙ given-append j.entries (e ∷ []) slot ∙ ap (λ xs. given j.entries slot ++ xs) (given_one e slot input)

one_served : (e : Entry) (slot : ℕ) (f : FeedView) → e.input ≡ Gave slot → e.effects.message ≡ None → is_served slot (e ∷ []) f ≡ true
one_served e slot f input none = three (credit_of f == 0) (list_any (gave_nothing slot) (e ∷ [])) f.disconnected nothing
  where
    nothing : list_any (gave_nothing slot) (e ∷ []) ≡ true
    nothing = ap (λ b. b || false) (ap (λ i. gives_in slot i && is_none e.effects.message) input ∙ ap (λ b. b && is_none e.effects.message) (eq-eqb slot slot refl) ∙ ap is_none none)

    three : (a b c : Bool) → b ≡ true → (a || b || c) ≡ true
    three a b c h = grind arith

-- there was nothing to give
pub gives_nothing : (slot : ℕ) (j k : Journal) (f : FeedView) (message : Option PageMsg) → IsLawfulJournal k → Records None (Gave slot) Given j k (Ok message) → message ≡ None → f.disconnected ≡ false → Carries (given j.entries slot) f → Gives slot true j k f f
gives_nothing slot j k f message lawful r none stands carries =
    let (e, grown, input, is) = is_given j k slot (Ok message) r message refl in
    let nothing : e.effects.message ≡ None = sym is ∙ none in
    record {
      entries = e ∷ [];
      grown = grown;
      inputs = (input, tt);
      lawful = lawful;
      carries = carries_standing (given k.entries slot) f stands (given_after j k slot e grown input ∙ ap (λ m. given j.entries slot ++ cons_option m []) nothing ∙ append-nil (given j.entries slot) ∙ carried (given j.entries slot) f stands carries);
      same = refl;
      served = one_served e slot f input nothing;
    }

given_message : (j k : Journal) (slot : ℕ) (e : Entry) (f : FeedView) (m : PageMsg) → k ≡ with_entry j e → e.input ≡ Gave slot → Some m ≡ e.effects.message → f.disconnected ≡ false → Carries (given j.entries slot) f
    → given k.entries slot ≡ f.put ++ m ∷ []
given_message j k slot e f m grown input is stands carries =
    given_after j k slot e grown input ∙ ap (λ o. given j.entries slot ++ cons_option o []) (sym is) ∙ ap (λ xs. xs ++ m ∷ []) (carried (given j.entries slot) f stands carries)

-- the message may be put
pub may_put : (slot : ℕ) (j k : Journal) (f : FeedView) (message : Option PageMsg) (m : PageMsg) → IsLawfulJournal k → Records None (Gave slot) Given j k (Ok message) → message ≡ Some m → f.disconnected ≡ false → Carries (given j.entries slot) f
    → is_page_feed (f.put ++ m ∷ []) ≡ true
may_put slot j k f message m lawful r some stands carries =
    let (e, grown, input, is) = is_given j k slot (Ok message) r message refl in
    subst (λ xs. is_page_feed xs ≡ true) (given_message j k slot e f m grown input (sym some ∙ is) stands carries) (lawful.gives.feeds slot)

-- the message was put
pub gives_put : (slot : ℕ) (j k : Journal) (f g : FeedView) (message : Option PageMsg) (m : PageMsg) → IsLawfulJournal k → Records None (Gave slot) Given j k (Ok message) → message ≡ Some m → f.disconnected ≡ false → Carries (given j.entries slot) f
    → g ≡ record f { put = f.put ++ m ∷ [] } → Gives slot false j k f g
gives_put slot j k f g message m lawful r some stands carries put =
    let (e, grown, input, is) = is_given j k slot (Ok message) r message refl in
    record {
      entries = e ∷ [];
      grown = grown;
      inputs = (input, tt);
      lawful = lawful;
      carries = subst (λ (h : FeedView). Carries (given k.entries slot) h) (sym put)
          (carries_standing (given k.entries slot) (record f { put = f.put ++ m ∷ [] }) stands (given_message j k slot e f m grown input (sym some ∙ is) stands carries));
      same = subst (λ (h : FeedView). SameFeed f h) (sym put) refl;
      served = tt;
    }

-- the message came back
pub gives_lost : (slot : ℕ) (j k : Journal) (f g : FeedView) (message : Option PageMsg) (m : PageMsg) → IsLawfulJournal k → Records None (Gave slot) Given j k (Ok message) → message ≡ Some m → f.disconnected ≡ false → Carries (given j.entries slot) f
    → g ≡ record f { disconnected = true } → Gives slot true j k f g
gives_lost slot j k f g message m lawful r some stands carries lost =
    let (e, grown, input, is) = is_given j k slot (Ok message) r message refl in
    record {
      entries = e ∷ [];
      grown = grown;
      inputs = (input, tt);
      lawful = lawful;
      carries = subst (λ (h : FeedView). Carries (given k.entries slot) h) (sym lost)
          (carries_lost (given k.entries slot) (record f { disconnected = true }) m refl (given_message j k slot e f m grown input (sym some ∙ is) stands carries));
      same = subst (λ (h : FeedView). SameFeed f h) (sym lost) refl;
      served = served_if_lost slot (e ∷ []) g (ap (λ (h : FeedView). h.disconnected) lost);
    }
  where
    three : (a b c : Bool) → c ≡ true → (a || b || c) ≡ true
    three a b c h = grind arith

    served_if_lost : (slot : ℕ) (es : List Entry) (f : FeedView) → f.disconnected ≡ true → is_served slot es f ≡ true
    served_if_lost slot es f h = three (credit_of f == 0) (list_any (gave_nothing slot) es) f.disconnected h

served_back : (slot : ℕ) (es fs : List Entry) (f : FeedView) → is_served slot fs f ≡ true → is_served slot (es ++ fs) f ≡ true
served_back slot es fs f h = ap (λ b. (credit_of f == 0) || b || f.disconnected) (list_any-append (gave_nothing slot) es fs) ∙ four (credit_of f == 0) (list_any (gave_nothing slot) es) (list_any (gave_nothing slot) fs) f.disconnected h
  where
    four : (a b c d : Bool) → (a || c || d) ≡ true → (a || (b || c) || d) ≡ true
    four a b c d h = grind arith

served_front : (slot : ℕ) (es fs : List Entry) (f : FeedView) → is_served slot es f ≡ true → is_served slot (es ++ fs) f ≡ true
served_front slot es fs f h = ap (λ b. (credit_of f == 0) || b || f.disconnected) (list_any-append (gave_nothing slot) es fs) ∙ four (credit_of f == 0) (list_any (gave_nothing slot) es) (list_any (gave_nothing slot) fs) f.disconnected h
  where
    four : (a b c d : Bool) → (a || b || d) ≡ true → (a || (b || c) || d) ≡ true
    four a b c d h = grind arith

pub same_on : (f g h : FeedView) → SameFeed f g → SameFeed g h → SameFeed f h
same_on f g h same more = more ∙ ap (λ (x : FeedView). record x { put = h.put; seen = h.seen; disconnected = h.disconnected }) same

-- some messages, and then more
pub gives_on : (slot : ℕ) (ended : Bool) (a b c : Journal) (f g h : FeedView) → Gives slot false a b f g → Gives slot ended b c g h → Gives slot ended a c f h
gives_on slot ended a b c f g h x y = record {
  entries = x.entries ++ y.entries;
  grown = grown_on a b c x.entries y.entries x.grown y.grown;
  inputs = AllByRecursion-append (λ (e : Entry). e.input ≡ Gave slot) x.entries y.entries x.inputs y.inputs;
  lawful = y.lawful;
  carries = y.carries;
  same = same_on f g h x.same y.same;
  served = which ended y.served;
}
  where
    which : (b : Bool) → OnTrue b (is_served slot y.entries h ≡ true) → OnTrue b (is_served slot (x.entries ++ y.entries) h ≡ true)
    which true s = served_back slot x.entries y.entries h s
    which false s = tt

-- more was seen taken
pub gives_looked : (slot : ℕ) (a b : Journal) (f g h : FeedView) → Gives slot false a b f g → h ≡ record g { seen = h.seen } → Gives slot false a b f h
gives_looked slot a b f g h x looked = record {
  entries = x.entries;
  grown = x.grown;
  inputs = x.inputs;
  lawful = x.lawful;
  carries = subst (λ (y : FeedView). Carries (given b.entries slot) y) (sym looked) x.carries;
  same = same_on f g h x.same (looked ∙ ap (λ (put : List PageMsg). record g { put = put; seen = h.seen }) (sym (ap (λ (y : FeedView). y.put) looked)) ∙ ap (λ (lost : Bool). record g { put = h.put; seen = h.seen; disconnected = lost }) (sym (ap (λ (y : FeedView). y.disconnected) looked)));
  served = tt;
}

-- SLOTS

pub up_none : (j : Journal) (fs : List FeedView) → IsLawfulJournal j → CarriesEach j fs → GivesUpTo 0 j j fs fs
up_none j fs lawful carries = record {
  entries = [];
  grown = grows_nothing j;
  inputs = tt;
  lawful = lawful;
  carries = carries;
  slots = refl;
  same = λ slot f g at_f at_g. subst (λ (x : FeedView). SameFeed f x) (same_Some f g (sym at_f ∙ at_g)) refl;
  served = λ slot f below at_f. absurd (omega arith);
}

-- one slot was given more
pub up_stops : (n : ℕ) (ended : Bool) (a b c : Journal) (fs gs hs : List FeedView) (g h : FeedView) → GivesUpTo n a b fs gs → slice_get gs n ≡ Some g → Gives n ended b c g h → hs ≡ slice_set gs n h → GivesUpTo n a c fs hs
up_stops n ended a b c fs gs hs g h x at_g y is = record {
  entries = x.entries ++ y.entries;
  grown = grown_on a b c x.entries y.entries x.grown y.grown;
  inputs = AllByRecursion-append (λ (e : Entry). is_give e.input ≡ true) x.entries y.entries x.inputs (all_by (λ (e : Entry). e.input ≡ Gave n) (λ (e : Entry). is_give e.input ≡ true) y.entries (λ e is_gave. ap is_give is_gave) y.inputs);
  lawful = y.lawful;
  carries = λ j f at_f. carried_at j f (subst (λ xs. slice_get xs j ≡ Some f) is at_f) (cases_eq j n);
  slots = ap length is ∙ length-set gs n h ∙ x.slots;
  same = λ j f k at_f at_k. same_at j f k at_f (subst (λ xs. slice_get xs j ≡ Some k) is at_k) (cases_eq j n);
  served = λ j f below at_f. served_front j x.entries y.entries f (x.served j f below (sym (set_elsewhere gs n j h (λ e. lower j below e)) ∙ subst (λ xs. slice_get xs j ≡ Some f) is at_f));
}
  where
    lower : (j : ℕ) → j < n → j ≡ n → ⊥
    lower j below e = omega arith

    same_given : (j : ℕ) → j ≢ n → given b.entries j ≡ given c.entries j
    same_given j ne = sym (ap (λ (q : Journal). given q.entries j) y.grown ∙ given-append b.entries y.entries j ∙ ap (λ xs. given b.entries j ++ xs) (given_elsewhere y.entries n j ne y.inputs) ∙ append-nil (given b.entries j))

    carried_at : (j : ℕ) (f : FeedView) → slice_get (slice_set gs n h) j ≡ Some f → ((j ≡ n) ⊎ (j ≢ n)) → Carries (given c.entries j) f
    carried_at j f at_f (inl same) =
        let is_h : h ≡ f = same_Some h f (sym (get_set_same gs n g h at_g) ∙ ap (slice_get (slice_set gs n h)) (sym same) ∙ at_f) in
        subst (λ (i : ℕ). Carries (given c.entries i) f) (sym same) (subst (λ (z : FeedView). Carries (given c.entries n) z) is_h y.carries)
    carried_at j f at_f (inr ne) = subst (λ xs. Carries xs f) (same_given j ne) (x.carries j f (sym (set_elsewhere gs n j h ne) ∙ at_f))

    same_at : (j : ℕ) (f k : FeedView) → slice_get fs j ≡ Some f → slice_get (slice_set gs n h) j ≡ Some k → ((j ≡ n) ⊎ (j ≢ n)) → SameFeed f k
    same_at j f k at_f at_k (inl same) =
        let is_h : h ≡ k = same_Some h k (sym (get_set_same gs n g h at_g) ∙ ap (slice_get (slice_set gs n h)) (sym same) ∙ at_k) in
        subst (λ (z : FeedView). SameFeed f z) is_h (same_on f g h (x.same j f g at_f (ap (slice_get gs) same ∙ at_g)) y.same)
    same_at j f k at_f at_k (inr ne) = x.same j f k at_f (sym (set_elsewhere gs n j h ne) ∙ at_k)

-- one slot more was served
pub up_more : (n : ℕ) (a b c : Journal) (fs gs hs : List FeedView) (g h : FeedView) → GivesUpTo n a b fs gs → slice_get gs n ≡ Some g → Gives n true b c g h → hs ≡ slice_set gs n h → GivesUpTo (n + 1) a c fs hs
unfolding up_stops
up_more n a b c fs gs hs g h x at_g y is = let z = up_stops n true a b c fs gs hs g h x at_g y is in record {
  entries = x.entries ++ y.entries;
  grown = z.grown;
  inputs = z.inputs;
  lawful = z.lawful;
  carries = z.carries;
  slots = z.slots;
  same = z.same;
  served = λ j f below at_f. served_at j f below (subst (λ xs. slice_get xs j ≡ Some f) is at_f) (cases_eq j n);
}
  where
    served_at : (j : ℕ) (f : FeedView) → j < n + 1 → slice_get (slice_set gs n h) j ≡ Some f → ((j ≡ n) ⊎ (j ≢ n)) → is_served j (x.entries ++ y.entries) f ≡ true
    served_at j f below at_f (inl same) =
        let is_h : h ≡ f = same_Some h f (sym (get_set_same gs n g h at_g) ∙ ap (slice_get (slice_set gs n h)) (sym same) ∙ at_f) in
        subst (λ (i : ℕ). is_served i (x.entries ++ y.entries) f ≡ true) (sym same) (served_back n x.entries y.entries f (subst (λ (w : FeedView). is_served n y.entries w ≡ true) is_h y.served))
    served_at j f below at_f (inr ne) = served_front j x.entries y.entries f (x.served j f (omega arith) (sym (set_elsewhere gs n j h ne) ∙ at_f))

-- as the code has it: the feed at a place
at_slot : (gs : List FeedView) (i n : ℕ) (g : FeedView) → i ≡ n → n < length gs → g ≡ get_or gs i g → slice_get gs n ≡ Some g
at_slot gs i n g same below is = slice_get_read gs (length gs) n g refl below (is ∙ ap (λ k. get_or gs k g) same)

pub up_step : (n i : ℕ) (a b c : Journal) (fs gs : List FeedView) (g h : FeedView) → GivesUpTo n a b fs gs → i ≡ n → n < length fs → g ≡ get_or gs i g → Gives n true b c g h → GivesUpTo (n + 1) a c fs (slice_set gs i h)
up_step n i a b c fs gs g h x same below is y =
    up_more n a b c fs gs (slice_set gs i h) g h x (at_slot gs i n g same (omega (arith, x.slots)) is) y (ap (λ k. slice_set gs k h) same)

pub up_stop : (n i : ℕ) (a b c : Journal) (fs gs : List FeedView) (g h : FeedView) → GivesUpTo n a b fs gs → i ≡ n → n < length fs → n < PAGES → g ≡ get_or gs i g → Gives n false b c g h → GaveSome a c fs (slice_set gs i h)
up_stop n i a b c fs gs g h x same below few is y = record {
  slot = n;
  few = few;
  gives = up_stops n false a b c fs gs (slice_set gs i h) g h x (at_slot gs i n g same (omega (arith, x.slots)) is) y (ap (λ k. slice_set gs k h) same);
}
