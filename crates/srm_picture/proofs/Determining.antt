-- The entries decide what a picture shows.
use Rattle.std.proofs.Common.{◌≡◌, List, [], ◌∷◌, ◌++◌, length, refl, ap, sym, ◌∙◌, subst, append_assoc}
use Rattle.std.specs.Prelude.{ℕ, Option, map}
use Rattle.std.specs.List.{AllByRecursion, enumerate_from, flat_map}
use Rattle.std.proofs.lemmas.List.{append-nil, length_push}
use Rattle.srm_timers.specs.declared.arm.Arm.{Arm}
use Rattle.srm_entries.specs.declared.entry.Entry.{Entry}
use Rattle.srm_picture.specs.declared.bracket.BracketEnd.{BracketEnd}
use Rattle.srm_picture.specs.declared.bracket.Bracket.{Bracket}
use Rattle.srm_picture.specs.declared.action.LocalAction.{LocalAction}
use Rattle.srm_picture.specs.declared.point.Point.{Point}
use Rattle.srm_picture.specs.ByEntry.{by_entry, point_of}
use Rattle.srm_picture.specs.Brackets.{Timer, EndIs, EndsRight, AreBracketsOf, timer, timer_of, timers_in, numbered, numbered_timer}
use Rattle.srm_picture.specs.Actions.{AreActions}
use Rattle.srm_picture.specs.Laws.{OneActionsLaw, OneBracketsLaw, OneEndLaw, OneKindLaw}
use Rattle.srm_picture.proofs.Ending.{end_before, end_is, same_end, brackets_more}
use Rattle.srm_picture.proofs.KindTable.{action_kind, actions_at}
use Rattle.srm_picture.proofs.Showing.{kind_is, shown, joined, no_actions, same_actions}

pub one_end_law : OneEndLaw
one_end_law = λ es t. (end_before es t (length es), end_is es t, λ other is. same_end es t other (end_before es t (length es)) is (end_is es t))

pub one_kind_law : OneKindLaw
one_kind_law = λ e. (action_kind e, kind_is e, shown e)

abbrev bracket : ℕ × Timer → Option BracketEnd → Bracket
bracket p end = record { from = p.1.from; nth = p.0; kind = p.1.kind; name = p.1.name; end = end }

same_bracket : (es : List Entry) (b c : Bracket) → numbered b ≡ numbered c → EndsRight es b → EndsRight es c → b ≡ c
same_bracket es b c same h k =
    let ends : b.end ≡ c.end = same_end es (timer_of c) b.end c.end (subst (λ t. EndIs es t b.end) (ap (λ (p : ℕ × Timer). p.1) same) h) k in
    ap (λ p. bracket p b.end) same ∙ ap (bracket (numbered c)) ends

first_same : {X : Type 0} (x y : X) (xs ys : List X) → x ∷ xs ≡ y ∷ ys → x ≡ y
first_same x y xs ys e = cc

rest_same : {X : Type 0} (x y : X) (xs ys : List X) → x ∷ xs ≡ y ∷ ys → xs ≡ ys
rest_same x y xs ys e = cc

same_brackets : (es : List Entry) (bs cs : List Bracket) → map numbered bs ≡ map numbered cs → AllByRecursion (EndsRight es) bs → AllByRecursion (EndsRight es) cs → bs ≡ cs
same_brackets es [] [] same h k = refl
same_brackets es [] (c ∷ cs) same h k = cc
same_brackets es (b ∷ bs) [] same h k = cc
same_brackets es (b ∷ bs) (c ∷ cs) same h k =
    let first = same_bracket es b c (first_same (numbered b) (numbered c) (map numbered bs) (map numbered cs) same) h.0 k.0 in
    let rest = same_brackets es bs cs (rest_same (numbered b) (numbered c) (map numbered bs) (map numbered cs) same) h.1 k.1 in
    ap (λ x. x ∷ bs) first ∙ ap (λ xs. c ∷ xs) rest

-- and there is one

made : List Entry → Point → ℕ × Arm → Bracket
made es place p = bracket (numbered_timer place p) (end_before es (timer place p.1) (length es))

made_right : (es : List Entry) (place : Point) (ps : List (ℕ × Arm)) → AreBracketsOf es (map (numbered_timer place) ps) (map (made es place) ps)
unfolding made
made_right es place [] = record { are = refl; ends = tt }
made_right es place (p ∷ ps) =
    let rest = made_right es place ps in
    record { are = ap (λ ts. numbered_timer place p ∷ ts) rest.are; ends = (end_is es (timer place p.1), rest.ends) }

made_in : List Entry → ℕ × Entry → List Bracket
made_in es r = map (made es (point_of r)) (enumerate_from 0 r.1.effects.arms)

all_made : (es : List Entry) (rs : List (ℕ × Entry)) → AreBracketsOf es (flat_map timers_in rs) (flat_map (made_in es) rs)
unfolding made_in
all_made es [] = record { are = refl; ends = tt }
all_made es (r ∷ rs) = brackets_more es (timers_in r) (flat_map timers_in rs) (made_in es r) (flat_map (made_in es) rs) (made_right es (point_of r) (enumerate_from 0 r.1.effects.arms)) (all_made es rs)

pub one_brackets_law : OneBracketsLaw
one_brackets_law = λ es. (
  by_entry (made_in es) es,
  all_made es (enumerate_from 0 es),
  λ others is.
      let mine = all_made es (enumerate_from 0 es) in
      same_brackets es others (by_entry (made_in es) es) (is.are ∙ sym mine.are) is.ends mine.ends,
)

all_actions : (before rest : List Entry) (actions : List LocalAction) → AreActions before actions → AreActions (before ++ rest) (actions ++ flat_map actions_at (enumerate_from (length before) rest))
all_actions before [] actions is = subst (λ es. AreActions es (actions ++ [])) (sym (append-nil before)) (subst (AreActions before) (sym (append-nil actions)) is)
all_actions before (e ∷ rest) actions is =
    subst (λ n. AreActions (before ++ e ∷ rest) (actions ++ (actions_at (length before, e) ++ flat_map actions_at (enumerate_from n rest)))) (length_push before e)
    (subst (λ es. AreActions es (actions ++ (actions_at (length before, e) ++ flat_map actions_at (enumerate_from (length (before ++ e ∷ [])) rest)))) (append_assoc before (e ∷ []) rest)
    (subst (AreActions ((before ++ e ∷ []) ++ rest)) (append_assoc actions (actions_at (length before, e)) (flat_map actions_at (enumerate_from (length (before ++ e ∷ [])) rest)))
    (all_actions (before ++ e ∷ []) rest (actions ++ actions_at (length before, e)) (joined before e actions (action_kind e) (kind_is e) is))))

pub actions_are : (es : List Entry) → AreActions es (by_entry actions_at es)
actions_are es = all_actions [] es [] no_actions

pub one_actions_law : OneActionsLaw
one_actions_law = λ es. (by_entry actions_at es, actions_are es, λ others is. same_actions es others (by_entry actions_at es) is (actions_are es))
