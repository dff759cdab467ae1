-- Local actions: which kind an entry shows, and the list that has those of all.
use Rattle.std.proofs.Common.{◌≡◌, ℕ, ◌+◌, ◌<◌, Bool, true, false, List, [], ◌∷◌, ◌++◌, length, get_or, take, refl, ap, sym, ◌∙◌, subst, inl, inr, arith}
use Rattle.std.specs.Prelude.{◌⊎◌, Option, Some, None, map, nat_lt, option_map, option_to_list, slice_get, Contains}
use Rattle.std.specs.List.{AllByRecursion}
use Rattle.std.proofs.lemmas.Bool.{and_parts, and_from, lt-ltb, ltb-true}
use Rattle.std.proofs.lemmas.List.{append-nil, map-append, take_more, length-take-le}
use Rattle.std.proofs.lemmas.Option.{none-some, same_Some, slice_get_within, get_or_from_slice_get}
use Rattle.srm_names.specs.declared.page.Page.{Page}
use Rattle.srm_names.specs.declared.page_msg.PageMsg.{PageMsg}
use Rattle.srm_names.specs.declared.page_msg.PageMsg.TheVariants.{Open, Draw, Left, Close}
use Rattle.srm_names.specs.Names.{ascending}
use Rattle.srm_names.proofs.Lists.{Has, Has-append, Has-front, Has-back, Has-contained, Has-slice_get, slice_get-front, slice_get-snoc}
use Rattle.srm_entries.specs.declared.entry.Entry.{Entry}
use Rattle.srm_entries.specs.declared.fault.AgentFault.{AgentFault}
use Rattle.srm_entries.specs.declared.entry.Input.{Input}
use Rattle.srm_entries.specs.declared.entry.Input.TheVariants.{Drew as Draws, Heard, Noise, Ticked, Showed, AskedLeave, Gave as Gives, Took as Takes}
use Rattle.srm_entries.specs.declared.entry.Verdict.{Verdict}
use Rattle.srm_entries.specs.declared.entry.Verdict.TheVariants.{Done, Ignored, Refused}
use Rattle.srm_entries.specs.Entries.{done, done_input}
use Rattle.srm_entries.specs.Effects.{becomes_gone}
use Rattle.srm_picture.specs.declared.action.LocalActionKind.{LocalActionKind}
use Rattle.srm_picture.specs.declared.action.LocalActionKind.TheVariants.{Drew, Gave, Took, Other, Gone}
use Rattle.srm_picture.specs.declared.action.LocalAction.{LocalAction}
use Rattle.srm_picture.specs.OneThat.{IsOneThat}
use Rattle.srm_picture.specs.Actions.{is_drawop, message_kind, Shows, drew, gave, took, went, gave_other, took_other, showed, asked, refused, action, IsAction, AddsAction, index_of, AreActions}
use Rattle.srm_picture.proofs.KindTable.{option_kind, gone_kind, done_kind, kind_for, action_kind}

-- the kind that an entry shows

done_parts : (v : Verdict) (i j : Input) → done_input v i ≡ Some j → (v ≡ Done) × (i ≡ j)
done_parts Done i j e = (refl, same_Some i j e)
done_parts (Ignored cause) i j e = absurd (none-some j e)
done_parts (Refused fault) i j e = absurd (none-some j e)

kind_done : (e : Entry) (i : Input) → done e ≡ Some i → action_kind e ≡ done_kind i e.effects
kind_done e i is =
    let parts = done_parts e.verdict e.input i is in
    ap (λ v. kind_for v e.input e.effects) parts.0 ∙ ap (λ j. done_kind j e.effects) parts.1

other_kind : (kind : LocalActionKind) (message : PageMsg) → is_drawop message ≡ false → message_kind kind message ≡ Other
other_kind kind (Open page) other = refl
other_kind kind (Draw drawop) other = cc
other_kind kind (Left member) other = refl
other_kind kind Close other = refl

pub shown : (e : Entry) (kind : LocalActionKind) → Shows e kind → action_kind e ≡ Some kind
shown e Drew (drew page body is) = kind_done e (Draws page body) is
shown e Gave (gave slot drawop is m) = kind_done e (Gives slot) is ∙ ap (option_kind Gave) m
shown e Took (took slot drawop is m) = kind_done e (Takes slot) is ∙ ap (option_kind Took) m
shown e Gone (went is gone) = kind_done e Ticked is ∙ ap gone_kind gone
shown e Other (gave_other slot message is m other) = kind_done e (Gives slot) is ∙ ap (option_kind Gave) m ∙ ap Some (other_kind Gave message other)
shown e Other (took_other slot message is m other) = kind_done e (Takes slot) is ∙ ap (option_kind Took) m ∙ ap Some (other_kind Took message other)
shown e Other (showed page is) = kind_done e (Showed page) is
shown e Other (asked is) = kind_done e AskedLeave is
shown e Other (refused fault v) = ap (λ x. kind_for x e.input e.effects) v

shows_it : (e : Entry) (kind other : LocalActionKind) → Some kind ≡ Some other → Shows e kind → Shows e other
shows_it e kind other same s = subst (Shows e) (same_Some kind other same) s

pub shows : (e : Entry) (kind : LocalActionKind) → action_kind e ≡ Some kind → Shows e kind
shows e kind = which e.verdict e.input refl refl
  where
    done_is : (i : Input) → e.verdict ≡ Done → e.input ≡ i → done e ≡ Some i
    done_is i v is = ap (λ x. done_input x e.input) v ∙ ap Some is

    given : (slot : ℕ) (m : Option PageMsg) → done e ≡ Some (Gives slot) → e.effects.message ≡ m → option_kind Gave m ≡ Some kind → Shows e kind
    given slot None is m k = absurd (none-some kind k)
    given slot (Some (Draw drawop)) is m k = shows_it e Gave kind k (gave slot drawop is m)
    given slot (Some (Open page)) is m k = shows_it e Other kind k (gave_other slot (Open page) is m refl)
    given slot (Some (Left member)) is m k = shows_it e Other kind k (gave_other slot (Left member) is m refl)
    given slot (Some Close) is m k = shows_it e Other kind k (gave_other slot Close is m refl)

    taken : (slot : ℕ) (m : Option PageMsg) → done e ≡ Some (Takes slot) → e.effects.message ≡ m → option_kind Took m ≡ Some kind → Shows e kind
    taken slot None is m k = absurd (none-some kind k)
    taken slot (Some (Draw drawop)) is m k = shows_it e Took kind k (took slot drawop is m)
    taken slot (Some (Open page)) is m k = shows_it e Other kind k (took_other slot (Open page) is m refl)
    taken slot (Some (Left member)) is m k = shows_it e Other kind k (took_other slot (Left member) is m refl)
    taken slot (Some Close) is m k = shows_it e Other kind k (took_other slot Close is m refl)

    gone : (b : Bool) → done e ≡ Some Ticked → becomes_gone e.effects ≡ b → gone_kind b ≡ Some kind → Shows e kind
    gone true is b k = shows_it e Gone kind k (went is b)
    gone false is b k = absurd (none-some kind k)

    which : (v : Verdict) (i : Input) → e.verdict ≡ v → e.input ≡ i → kind_for v i e.effects ≡ Some kind → Shows e kind
    which Done (Draws page body) v i k = shows_it e Drew kind k (drew page body (done_is (Draws page body) v i))
    which Done (Heard datagram) v i k = absurd (none-some kind k)
    which Done Noise v i k = absurd (none-some kind k)
    which Done Ticked v i k = gone (becomes_gone e.effects) (done_is Ticked v i) refl k
    which Done (Showed page) v i k = shows_it e Other kind k (showed page (done_is (Showed page) v i))
    which Done AskedLeave v i k = shows_it e Other kind k (asked (done_is AskedLeave v i))
    which Done (Gives slot) v i k = given slot e.effects.message (done_is (Gives slot) v i) refl k
    which Done (Takes slot) v i k = taken slot e.effects.message (done_is (Takes slot) v i) refl k
    which (Ignored cause) i v is k = absurd (none-some kind k)
    which (Refused fault) i v is k = shows_it e Other kind k (refused fault v)

pub kind_is : (e : Entry) → IsOneThat (Shows e) (action_kind e)
kind_is e = which (action_kind e) refl
  where
    which : (o : Option LocalActionKind) → action_kind e ≡ o → IsOneThat (Shows e) o
    which None none = λ kind s. none-some kind (sym none ∙ shown e kind s)
    which (Some kind) is = shows e kind is

-- one entry more

Contained : {X : Type 0} (x : X) (xs : List X) → Has x xs → Contains xs x
Contained x xs h =
    let (i, at) = Has-slice_get x xs h in
    (i, slice_get_within xs i x at, get_or_from_slice_get xs i x x at)

still : (es : List Entry) (e : Entry) (a : LocalAction) → IsAction es a → IsAction (es ++ e ∷ []) a
still es e a is = record {
  entry = is.entry;
  there = slice_get-front es (es ++ e ∷ []) a.at.entry is.entry (e ∷ [], refl) is.there;
  shows = is.shows;
  is = is.is;
}

at_end : (es : List Entry) (e : Entry) → slice_get (es ++ e ∷ []) (length es) ≡ Some e
at_end [] e = refl
at_end (x ∷ es) e = at_end es e

newest : (es : List Entry) (e : Entry) (kind : LocalActionKind) → Shows e kind → IsAction (es ++ e ∷ []) (action (length es, e) kind)
newest es e kind s = record { entry = e; there = at_end es e; shows = s; is = refl }

rises : (ns : List ℕ) (n : ℕ) → ascending nat_lt ns ≡ true → AllByRecursion (λ m. m < n) ns → ascending nat_lt (ns ++ n ∷ []) ≡ true
rises [] n asc below = refl
rises (m ∷ []) n asc below = and_from (nat_lt m n) true (lt-ltb m n below.0) refl
rises (m ∷ k ∷ ns) n asc below =
    let parts = and_parts (nat_lt m k) (ascending nat_lt (k ∷ ns)) asc in
    and_from (nat_lt m k) (ascending nat_lt (k ∷ ns ++ n ∷ [])) parts.0 (rises (k ∷ ns) n parts.1 below.1)

all_below : (n : ℕ) (acts : List LocalAction) → ((a : LocalAction) → Has a acts → a.at.entry < n) → AllByRecursion (λ m. m < n) (map index_of acts)
all_below n [] below = tt
all_below n (a ∷ acts) below = (below a (inl refl), all_below n acts (λ b h. below b (inr h)))

same_kinds : (e : Entry) (kind other : LocalActionKind) → Shows e kind → Shows e other → kind ≡ other
same_kinds e kind other s t = same_Some kind other (sym (shown e kind s) ∙ shown e other t)

pub joined : (es : List Entry) (e : Entry) (acts : List LocalAction) (o : Option LocalActionKind) → IsOneThat (Shows e) o → AreActions es acts → AreActions (es ++ e ∷ []) (acts ++ option_to_list (option_map (action (length es, e)) o))
joined es e acts None none all = subst (AreActions (es ++ e ∷ [])) (sym (append-nil acts)) (record {
  in_order = all.in_order;
  exact = λ a. (λ h. still es e a ((all.exact a).0 h), λ is. (all.exact a).1 (earlier a is));
})
  where
    earlier : (a : LocalAction) → IsAction (es ++ e ∷ []) a → IsAction es a
    earlier a is = elim (slice_get-snoc es e a.at.entry is.entry is.there) [
      | inl there ↦ record { entry = is.entry; there = there; shows = is.shows; is = is.is }
      | inr last ↦ absurd (none a.kind (subst (λ (x : Entry). Shows x a.kind) (sym last.1) is.shows))
    ]
joined es e acts (Some kind) some all = record {
  in_order = ap (ascending nat_lt) (map-append index_of acts (action (length es, e) kind ∷ [])) ∙ rises (map index_of acts) (length es) all.in_order (all_below (length es) acts before);
  exact = λ a. (λ h. sound a (Has-append a acts (action (length es, e) kind ∷ []) (Has-contained a (acts ++ action (length es, e) kind ∷ []) h)), λ is. Contained a (acts ++ action (length es, e) kind ∷ []) (complete a is));
}
  where
    before : (a : LocalAction) → Has a acts → a.at.entry < length es
    before a h = let is = (all.exact a).0 (Contained a acts h) in slice_get_within es a.at.entry is.entry is.there

    sound : (a : LocalAction) → Has a acts ⊎ ((a ≡ action (length es, e) kind) ⊎ ⊥) → IsAction (es ++ e ∷ []) a
    sound a (inl h) = still es e a ((all.exact a).0 (Contained a acts h))
    sound a (inr (inl same)) = subst (IsAction (es ++ e ∷ [])) (sym same) (newest es e kind some)
    sound a (inr (inr none)) = absurd none

    complete : (a : LocalAction) → IsAction (es ++ e ∷ []) a → Has a (acts ++ action (length es, e) kind ∷ [])
    complete a is = elim (slice_get-snoc es e a.at.entry is.entry is.there) [
      | inl there ↦ Has-front a acts (action (length es, e) kind ∷ []) (Has-contained a acts ((all.exact a).1 (record { entry = is.entry; there = there; shows = is.shows; is = is.is })))
      | inr last ↦ Has-back a acts (action (length es, e) kind ∷ []) (inl (is.is ∙ ap (λ i. action (i, is.entry) a.kind) last.0 ∙ ap (λ (x : Entry). action (length es, x) a.kind) (sym last.1)
          ∙ ap (action (length es, e)) (same_kinds e a.kind kind (subst (λ (x : Entry). Shows x a.kind) (sym last.1) is.shows) some)))
    ]

pub no_actions : AreActions [] []
no_actions = record { in_order = refl; exact = λ a. (λ h. absurd (Has-contained a [] h), λ is. absurd (none-some is.entry is.there)) }

pub actions_more : (es : List Entry) (i : ℕ) (e : Entry) (acts new : List LocalAction) → i < length es → e ≡ get_or es i e → AreActions (take i es) acts → AddsAction i e acts new → AreActions (take (i + 1) es) new
actions_more es i e acts new l at so_far adds =
    let joins : List LocalAction = acts ++ option_to_list (option_map (action (i, e)) adds.kind) in
    subst (AreActions (take (i + 1) es)) (sym adds.new_are)
    (subst (λ xs. AreActions xs joins) (sym (take_more es i e l ∙ ap (λ x. take i es ++ x ∷ []) (sym at)))
    (subst (λ n. AreActions (take i es ++ e ∷ []) (acts ++ option_to_list (option_map (action (n, e)) adds.kind))) (length-take-le i es (omega arith)) (joined (take i es) e acts adds.kind adds.shown so_far)))

-- what one entry adds

pub adds_none : (index : ℕ) (e : Entry) (acts : List LocalAction) → IsOneThat (Shows e) None → AddsAction index e acts acts
adds_none index e acts none = record { kind = None; shown = none; new_are = sym (append-nil acts) }

pub adds_one : (index : ℕ) (e : Entry) (acts new : List LocalAction) (kind : LocalActionKind) → IsOneThat (Shows e) (Some kind) → new ≡ acts ++ action (index, e) kind ∷ [] → AddsAction index e acts new
adds_one index e acts new kind some is = record { kind = Some kind; shown = some; new_are = is }

-- by what the code finds of an entry

one_kind : (e : Entry) (o : Option LocalActionKind) → action_kind e ≡ o → IsOneThat (Shows e) o
one_kind e o is = subst (IsOneThat (Shows e)) is (kind_is e)

pub of_input : (e : Entry) (i : Input) (o : Option LocalActionKind) → e.verdict ≡ Done → e.input ≡ i → o ≡ done_kind i e.effects → IsOneThat (Shows e) o
of_input e i o v is k = one_kind e o (ap (λ x. kind_for x e.input e.effects) v ∙ ap (λ j. done_kind j e.effects) is ∙ sym k)

pub of_other : (e : Entry) → e.verdict ≡ Done → ((page : Page) × (e.input ≡ Showed page)) ⊎ (e.input ≡ AskedLeave) → IsOneThat (Shows e) (Some Other)
of_other e v (inl shown) = of_input e (Showed shown.0) (Some Other) v shown.1 refl
of_other e v (inr left) = of_input e AskedLeave (Some Other) v left refl

pub of_refused : (e : Entry) (fault : AgentFault) → e.verdict ≡ Refused fault → IsOneThat (Shows e) (Some Other)
of_refused e fault v = refused fault v

-- two lists that have the same actions, in order, are the same

rest_above : (a x : LocalAction) (acts : List LocalAction) → ascending nat_lt (map index_of (a ∷ acts)) ≡ true → Has x acts → a.at.entry < x.at.entry
rest_above a x [] asc h = absurd h
rest_above a x (b ∷ acts) asc (inl same) =
    let first = ltb-true a.at.entry b.at.entry (and_parts (nat_lt a.at.entry b.at.entry) (ascending nat_lt (map index_of (b ∷ acts))) asc).0 in
    subst (λ (y : LocalAction). a.at.entry < y.at.entry) (sym same) first
rest_above a x (b ∷ acts) asc (inr h) =
    let parts = and_parts (nat_lt a.at.entry b.at.entry) (ascending nat_lt (map index_of (b ∷ acts))) asc in
    let first = ltb-true a.at.entry b.at.entry parts.0 in
    let rest = rest_above b x acts parts.1 h in
    omega (arith, first, rest)

rest_rises : (a : LocalAction) (acts : List LocalAction) → ascending nat_lt (map index_of (a ∷ acts)) ≡ true → ascending nat_lt (map index_of acts) ≡ true
rest_rises a [] asc = refl
rest_rises a (b ∷ acts) asc = (and_parts (nat_lt a.at.entry b.at.entry) (ascending nat_lt (map index_of (b ∷ acts))) asc).1

-- the first of one that isn't the first of the other stands behind it
heads : (a b : LocalAction) (acts bs : List LocalAction) → ascending nat_lt (map index_of (a ∷ acts)) ≡ true → ascending nat_lt (map index_of (b ∷ bs)) ≡ true → Has a (b ∷ bs) → Has b (a ∷ acts) → a ≡ b
heads a b acts bs up vp (inl same) k = same
heads a b acts bs up vp (inr h) (inl same) = sym same
heads a b acts bs up vp (inr h) (inr k) = let one = rest_above a b acts up k in let other = rest_above b a bs vp h in absurd (omega (arith, one, other))

in_rest : (a b x : LocalAction) (acts bs : List LocalAction) → ascending nat_lt (map index_of (a ∷ acts)) ≡ true → a ≡ b → Has x acts → Has x (b ∷ bs) → Has x bs
in_rest a b x acts bs up same h (inl is) =
    let above = rest_above a x acts up h in
    let level : x.at.entry ≡ a.at.entry = ap index_of (is ∙ sym same) in
    absurd (omega (arith, above, level))
in_rest a b x acts bs up same h (inr k) = k

same_lists : (acts bs : List LocalAction) → ascending nat_lt (map index_of acts) ≡ true → ascending nat_lt (map index_of bs) ≡ true → ((a : LocalAction) → Has a acts → Has a bs) → ((a : LocalAction) → Has a bs → Has a acts) → acts ≡ bs
same_lists [] [] up vp to from = refl
same_lists [] (b ∷ bs) up vp to from = absurd (from b (inl refl))
same_lists (a ∷ acts) [] up vp to from = absurd (to a (inl refl))
same_lists (a ∷ acts) (b ∷ bs) up vp to from =
    let first = heads a b acts bs up vp (to a (inl refl)) (from b (inl refl)) in
    let rest = same_lists acts bs (rest_rises a acts up) (rest_rises b bs vp) (λ x h. in_rest a b x acts bs up first h (to x (inr h))) (λ x h. in_rest b a x bs acts vp (sym first) h (from x (inr h))) in
    ap (λ x. x ∷ acts) first ∙ ap (λ xs. b ∷ xs) rest

pub same_actions : (es : List Entry) (acts bs : List LocalAction) → AreActions es acts → AreActions es bs → acts ≡ bs
same_actions es acts bs h k = same_lists acts bs h.in_order k.in_order
    (λ a m. Has-contained a bs ((k.exact a).1 ((h.exact a).0 (Contained a acts m))))
    (λ a m. Has-contained a acts ((h.exact a).1 ((k.exact a).0 (Contained a bs m))))
