-- Of what a give may bring after the entries of a run there is one thing alone.
use Rattle.std.proofs.Common.{◌≡◌, ℕ, ◌==◌, ◌+◌, ◌<◌, ◌≤◌, Bool, true, false, not, ◌||◌, List, [], ◌∷◌, map, length, refl, ap, sym, ◌∙◌, subst, arith, zero, suc}
use Rattle.std.specs.Prelude.{Option, Some, None, is_some, if◌then◌else◌, nat_le, find, cond}
use Rattle.std.proofs.Math.Bool.{or-true}
use Rattle.std.specs.List.{list_any, cons_option, AllByRecursion}
use Rattle.std.proofs.lemmas.Bool.{both_ways, or_parts, and_parts, eqb-true}
use Rattle.std.proofs.lemmas.Bool.Decides.{nat_tests}
use Rattle.std.proofs.lemmas.List.Elements.{filter_map-append}
use Rattle.std.proofs.lemmas.Option.{none-some, same_Some}
use Rattle.srm_names.specs.declared.page.Page.{Page}
use Rattle.srm_names.specs.declared.drawop.Drawop.{Drawop}
use Rattle.srm_names.specs.declared.page_msg.PageMsg.{PageMsg}
use Rattle.srm_names.specs.declared.page_msg.PageMsg.TheVariants.{Open, Draw, Left, Close}
use Rattle.srm_names.specs.FullName.{FullName}
use Rattle.srm_names.specs.Histories.{steps, count_up, or_else}
use Rattle.srm_names.specs.Names.{named, stream_on}
use Rattle.srm_names.specs.PageFeeds.{opened, is_close, drawops_of}
use Rattle.srm_names.proofs.Lists.{Has, find-Has, until_none-at, AllByRecursion-append, any_found, is_none}
use Rattle.srm_names.proofs.Orders.{and_left}
use Rattle.srm_names.proofs.Same.{same_name-is}
use Rattle.srm_names.proofs.Snoc.{along}
use Rattle.srm_codec.specs.declared.datagram.Datagram.{Datagram}
use Rattle.srm_codec.specs.Spelling.{sender_of, names_in, is_farewell}
use Rattle.srm_store.specs.Held.{has_name, greatest_in}
use Rattle.srm_store.specs.Finals.{Settling, rows_of, row_number}
use Rattle.srm_entries.specs.Configs.{Config}
use Rattle.srm_entries.specs.declared.entry.Entry.{Entry}
use Rattle.srm_entries.specs.declared.entry.Input.{Input}
use Rattle.srm_entries.specs.declared.entry.Input.TheVariants.{Heard}
use Rattle.srm_entries.specs.declared.entry.Verdict.{Verdict}
use Rattle.srm_entries.specs.declared.entry.Verdict.TheVariants.{Done}
use Rattle.srm_entries.specs.declared.entry.Verdict.TheVariants as verdicts
use Rattle.srm_entries.specs.declared.cause.Cause.TheVariants as causes
use Rattle.srm_entries.specs.Entries.{done_input, heard_in, accepted, state, is_gone, held, held_at, known}
use Rattle.srm_entries.specs.Verdicts.{told, final, settlings, settling_of, is_stranger, lacks_slots_for, is_beyond, says_too_little, differs, verdict_of, VerdictRight}
use Rattle.srm_entries.specs.Entries.{drawops_in}
use Rattle.srm_entries.specs.Giving.{next_drawop, may_leave, has_more, is_smallest, is_quiet, is_some_of, GivesAfter}
use Rattle.srm_entries.specs.Runs.{EntryRight}
use Rattle.srm_entries.proofs.Feeding.{final_told, feeds_right}
use Rattle.srm_entries.proofs.Knowing.{known_inside}
use Rattle.srm_entries.proofs.Showing.{done_is, no_cause, ignored_is_not_done, held_is_shown, known_has}
use Rattle.srm_entries.proofs.Telling.{ToldRight}

-- who was settled is in the roster

abbrev IsInside : ℕ → Settling → Type 0
IsInside members s = nat_le members s.member ≡ false

-- the causes to ignore a datagram, from the fourth, the third and the second on
abbrev from_limit : Config → List Entry → Datagram → List (Bool × Verdict)
from_limit c us g =
    (lacks_slots_for us (map (λ (n : FullName). n.stream.page) (names_in g)), verdicts.Ignored causes.PageLimit)
    ∷ (list_any (is_beyond c.me us) (names_in g) || says_too_little us g, verdicts.Ignored causes.BeyondFinal)
    ∷ (list_any (λ d. differs d (held_at us d.name)) (drawops_in (Some g)), verdicts.Ignored causes.Conflict) ∷ []

abbrev from_stranger : Config → List Entry → Datagram → List (Bool × Verdict)
from_stranger c us g = (is_stranger c g, verdicts.Ignored causes.Stranger) ∷ from_limit c us g

abbrev from_own : Config → List Entry → Datagram → List (Bool × Verdict)
from_own c us g = (sender_of g == c.me, verdicts.Ignored causes.Own) ∷ from_stranger c us g

sender_inside : (c : Config) (us : List Entry) (g : Datagram) → Done ≡ verdict_of c us (Heard g) → nat_le c.members (sender_of g) ≡ false
sender_inside c us g e =
    let a = no_cause (is_gone (state us)) (verdicts.Ignored causes.Gone) (from_own c us g) (ignored_is_not_done _) e in
    let b = no_cause (sender_of g == c.me) (verdicts.Ignored causes.Own) (from_stranger c us g) (ignored_is_not_done _) a.1 in
    let d = no_cause (is_stranger c g) (verdicts.Ignored causes.Stranger) (from_limit c us g) (ignored_is_not_done _) b.1 in
    (or_parts (nat_le c.members (sender_of g)) (list_any (λ (n : FullName). nat_le c.members n.stream.source) (names_in g)) d.0).0

settled_inside : (c : Config) (us : List Entry) (o : Option Datagram) → ((g : Datagram) → o ≡ Some g → nat_le c.members (sender_of g) ≡ false) → AllByRecursion (IsInside c.members) (cons_option (settling_of o) [])
settled_inside c us None inside = tt
settled_inside c us (Some g) inside = go (is_farewell g) refl
  where
    go : (b : Bool) → is_farewell g ≡ b → AllByRecursion (IsInside c.members) (cons_option (if b then Some (record { member = sender_of g; rows = names_in g }) else None) [])
    go true e = (inside g refl, tt)
    go false e = tt

heard_inside : (c : Config) (us : List Entry) (v : Verdict) (i : Input) → VerdictRight c us i v → (g : Datagram) → heard_in (done_input v i) ≡ Some g → nat_le c.members (sender_of g) ≡ false
heard_inside c us v i right g e = go (done_input v i) refl e
  where
    go : (o : Option Input) → done_input v i ≡ o → heard_in o ≡ Some g → nat_le c.members (sender_of g) ≡ false
    go None q k = absurd (none-some g k)
    go (Some (Heard h)) q k =
        let d = done_is v i (Heard h) q in
        let fine : VerdictRight c us (Heard h) Done = subst (λ j. VerdictRight c us j Done) d.1 (subst (λ w. VerdictRight c us i w) d.0 right) in
        subst (λ (x : Datagram). nat_le c.members (sender_of x) ≡ false) (same_Some h g k) (sender_inside c us h fine.1)
    go (Some _) q k = absurd (none-some g k)

settlings_inside : (c : Config) (made : ℕ) (us : List Entry) → AllByRecursion (EntryRight c made) (steps us) → AllByRecursion (IsInside c.members) (settlings us)
settlings_inside c made us all =
    along (EntryRight c made) (λ xs. AllByRecursion (IsInside c.members) (settlings xs))
    (λ before e p right. subst (AllByRecursion (IsInside c.members)) (sym (filter_map-append (λ (x : Entry). settling_of (accepted x)) before (e ∷ [])))
    (AllByRecursion-append (IsInside c.members) (settlings before) (cons_option (settling_of (accepted e)) []) p (settled_inside c before (accepted e) (heard_inside c before e.verdict e.input right.verdict))))
    [] us tt all

rows_inside : (members m : ℕ) (ss : List Settling) (rows : List FullName) → AllByRecursion (IsInside members) ss → rows_of ss m ≡ Some rows → nat_le members m ≡ false
rows_inside members m [] rows all e = absurd (none-some rows e)
rows_inside members m (s ∷ ss) rows all e = go (s.member == m) refl e (λ k. rows_inside members m ss rows all.1 k)
  where
    go : (b : Bool) → (s.member == m) ≡ b → or_else (if b then Some s.rows else None) (rows_of ss m) ≡ Some rows → (rows_of ss m ≡ Some rows → nat_le members m ≡ false) → nat_le members m ≡ false
    go true q k later = subst (λ n. nat_le members n ≡ false) (eqb-true s.member m q) all.0
    go false q k later = later k

-- numbers that are counted

count_first : (p : ℕ → Bool) (from n k : ℕ) → k < n → p (from + k) ≡ true → list_any p (count_up from k) ≡ false → find p (count_up from n) ≡ Some (from + k)
count_first p from zero k l e none = absurd (omega arith)
count_first p from (suc n) zero l e none =
    let at : from + 0 ≡ from = omega arith in
    ap (λ b. cond b (Some from) (find p (count_up (from + 1) n))) (ap p (sym at) ∙ e) ∙ ap Some (sym at)
count_first p from (suc n) (suc k) l e none =
    let parts = or_parts (p from) (list_any p (count_up (from + 1) k)) none in
    let at : from + 1 + k ≡ from + suc k = omega arith in
    ap (λ b. cond b (Some from) (find p (count_up (from + 1) n))) parts.0
    ∙ count_first p (from + 1) n k (omega arith) (ap p at ∙ e) parts.1 ∙ ap Some at

none_first : (p : ℕ → Bool) (xs : List ℕ) → list_any p xs ≡ false → find p xs ≡ None
none_first p xs e = is_none (find p xs) (sym (any_found p xs) ∙ e)

-- what a give brings

-- of a source that has more: its next drawop, else that it left
abbrev pub drawn_or_left : ℕ → Option Drawop → PageMsg
drawn_or_left s None = Left s
drawn_or_left s (Some d) = Draw d

-- of the first source that has more; of none the close, if the member is gone
abbrev pub from_first : Bool → (ℕ → Option Drawop) → Option ℕ → Option PageMsg
from_first gone next None = if gone then Some Close else None
from_first gone next (Some s) = Some (drawn_or_left s (next s))

abbrev pub answer : Config → List Entry → List PageMsg → Option Page → Option PageMsg
answer c us g None = if list_any is_close g then None else if is_gone (state us) then Some Close else None
answer c us g (Some page) =
    if list_any is_close g then None
    else if is_some (opened g) then from_first (is_gone (state us)) (λ s. next_drawop us page g s) (find (λ s. has_more us g (Some page) s) (count_up 0 c.members))
    else Some (Open page)

module _ (c : Config) (made : ℕ) (us : List Entry) (all : AllByRecursion (EntryRight c made) (steps us)) (me : nat_le c.members c.me ≡ false) where
  told_right : ToldRight c us
  told_right = (feeds_right c made us all).tells

  record IsNext (page : Page) (g : List PageMsg) (s : ℕ) (d : Drawop) : Type 0 where
    name : d.name ≡ named (stream_on s page) (1 + length (drawops_of s g))
    there : Has d (held us)

  next_is : (page : Page) (g : List PageMsg) (s : ℕ) (d : Drawop) → next_drawop us page g s ≡ Some d → IsNext page g s d
  next_is page g s d e =
      let at = until_none-at (λ k. held_at us (named (stream_on s page) k)) 1 (greatest_in (map (λ (x : Drawop). x.name) (held us)) (stream_on s page)) (length (drawops_of s g)) d e in
      let found = find-Has (has_name (named (stream_on s page) (1 + length (drawops_of s g)))) (held us) d at.0 in
      record { name = same_name-is d.name (named (stream_on s page) (1 + length (drawops_of s g))) found.1; there = found.0 }

  -- a source outside the roster has nothing
  next_inside : (page : Page) (g : List PageMsg) (s : ℕ) (d : Drawop) → next_drawop us page g s ≡ Some d → nat_le c.members s ≡ false
  next_inside page g s d e = go (nat_le c.members s) refl
    where
      go : (b : Bool) → nat_le c.members s ≡ b → b ≡ false
      go false q = refl
      go true q =
          let is = next_is page g s d e in
          let none : known us (stream_on s page) ≡ 0 = known_inside c made us (stream_on s page) me q all in
          let l : d.name.number ≤ known us d.name.stream = known_has us d.name (held_is_shown us d is.there) in
          let at : known us d.name.stream ≡ known us (stream_on s page) = ap (λ (n : FullName). known us n.stream) is.name in
          let number : d.name.number ≡ 1 + length (drawops_of s g) = ap (λ (n : FullName). n.number) is.name in
          absurd (omega arith)

  -- where it may leave, it was told, and has no drawop left
  left_final : (page : Page) (g : List PageMsg) (s : ℕ) → may_leave us page g s ≡ true → final us (stream_on s page) ≡ Some (length (drawops_of s g))
  left_final page g s e = go (final us (stream_on s page)) (and_left (is_some_of (length (drawops_of s g)) (final us (stream_on s page))) _ e)
    where
      go : (o : Option ℕ) → is_some_of (length (drawops_of s g)) o ≡ true → o ≡ Some (length (drawops_of s g))
      go None k = absurd (cc)
      go (Some m) k = ap Some (sym (eqb-true (length (drawops_of s g)) m k))

  left_inside : (page : Page) (g : List PageMsg) (s : ℕ) → may_leave us page g s ≡ true → nat_le c.members s ≡ false
  left_inside page g s e =
      let (rows, t, q) = final_told us (stream_on s page) (length (drawops_of s g)) (left_final page g s e) in
      rows_inside c.members s (settlings us) rows (settlings_inside c made us all) t

  none_left : (page : Page) (g : List PageMsg) (s : ℕ) → may_leave us page g s ≡ true → next_drawop us page g s ≡ None
  none_left page g s e = go (next_drawop us page g s) refl
    where
      go : (o : Option Drawop) → next_drawop us page g s ≡ o → o ≡ None
      go None q = refl
      go (Some d) q =
          let is = next_is page g s d q in
          let (rows, t, r) = final_told us (stream_on s page) (length (drawops_of s g)) (left_final page g s e) in
          let told_here : told us d.name.stream.source ≡ Some rows = ap (λ (n : FullName). told us n.stream.source) is.name ∙ t in
          let l : d.name.number ≤ row_number rows d.name.stream = told_right.bounded d rows is.there told_here in
          let at : row_number rows d.name.stream ≡ row_number rows (stream_on s page) = ap (λ (n : FullName). row_number rows n.stream) is.name in
          let number : d.name.number ≡ 1 + length (drawops_of s g) = ap (λ (n : FullName). n.number) is.name in
          absurd (omega arith)

  first_is : (page : Page) (g : List PageMsg) (s : ℕ) → nat_le c.members s ≡ false → has_more us g (Some page) s ≡ true → is_smallest us g page s ≡ true
      → find (λ s. has_more us g (Some page) s) (count_up 0 c.members) ≡ Some s
  first_is page g s inside more small =
      let l : s < c.members = grind (arith, nat_tests) in
      let at : 0 + s ≡ s = omega arith in
      count_first (λ s. has_more us g (Some page) s) 0 c.members s l (ap (λ n. has_more us g (Some page) n) at ∙ more) (false_of_not (list_any (λ s. has_more us g (Some page) s) (count_up 0 s)) small) ∙ ap Some at
    where
      false_of_not : (b : Bool) → not b ≡ true → b ≡ false
      false_of_not false e = refl
      false_of_not true e = absurd (cc)

  module _ (g : List PageMsg) where
    open_answer : (page : Page) → list_any is_close g ≡ false → is_some (opened g) ≡ true
        → answer c us g (Some page) ≡ from_first (is_gone (state us)) (λ s. next_drawop us page g s) (find (λ s. has_more us g (Some page) s) (count_up 0 c.members))
    open_answer page closed open_ = rw (closed, open_) refl

    source_answer : (page : Page) (s : ℕ) (m : PageMsg) → list_any is_close g ≡ false → is_some (opened g) ≡ true → find (λ s. has_more us g (Some page) s) (count_up 0 c.members) ≡ Some s
        → drawn_or_left s (next_drawop us page g s) ≡ m → answer c us g (Some page) ≡ Some m
    source_answer page s m closed open_ first is = open_answer page closed open_ ∙ ap (from_first (is_gone (state us)) (λ s. next_drawop us page g s)) first ∙ ap Some is

    quiet_answer : (page : Option Page) → list_any is_close g ≡ false → is_quiet c us g page ≡ true → answer c us g page ≡ (if is_gone (state us) then Some Close else None)
    quiet_answer None closed quiet = rw closed refl
    quiet_answer (Some page) closed quiet =
        let parts = and_parts (is_some (opened g)) (not (list_any (λ s. has_more us g (Some page) s) (count_up 0 c.members))) quiet in
        open_answer page closed parts.0
        ∙ ap (from_first (is_gone (state us)) (λ s. next_drawop us page g s)) (none_first (λ s. has_more us g (Some page) s) (count_up 0 c.members) (false_of_not (list_any (λ s. has_more us g (Some page) s) (count_up 0 c.members)) parts.1))
      where
        false_of_not : (b : Bool) → not b ≡ true → b ≡ false
        false_of_not false e = refl
        false_of_not true e = absurd (cc)

    nothing_answer : (page : Option Page) → (is_gone (state us) ≡ true → list_any is_close g ≡ true) → (list_any is_close g || is_quiet c us g page) ≡ true → None ≡ answer c us g page
    nothing_answer page closes quiet = go (list_any is_close g) refl
      where
        closed_answer : (page : Option Page) → list_any is_close g ≡ true → None ≡ answer c us g page
        closed_answer None e = rw e refl
        closed_answer (Some page) e = rw e refl

        here : (b : Bool) → is_gone (state us) ≡ b → list_any is_close g ≡ false → None ≡ (if b then Some Close else None)
        here false q e = refl
        here true q e = absurd (both_ways (list_any is_close g) e (closes q))

        go : (b : Bool) → list_any is_close g ≡ b → None ≡ answer c us g page
        go true e = closed_answer page e
        go false e = here (is_gone (state us)) refl e ∙ sym (quiet_answer page e (ap (λ b. b || is_quiet c us g page) (sym e) ∙ quiet))

    pub is_answer : (page : Option Page) (m : Option PageMsg) → GivesAfter c us g page m → m ≡ answer c us g page
    is_answer page None k = nothing_answer page k.0 k.1
    is_answer page (Some Close) k = ap (λ b. if b then Some Close else None) (sym k.1) ∙ sym (quiet_answer page k.0 k.2)
    is_answer None (Some (Open p)) k = absurd k
    is_answer None (Some (Draw d)) k = absurd k
    is_answer None (Some (Left s)) k = absurd k
    is_answer (Some page) (Some (Open p)) k = ap (λ q. Some (Open q)) k.0 ∙ ap (λ w. answer c us w (Some page)) (sym k.1)
    is_answer (Some page) (Some (Draw d)) k =
        let s : ℕ = d.name.stream.source in
        let more : has_more us g (Some page) s ≡ true = ap (λ o. is_some o || may_leave us page g s) k.2 in
        sym (source_answer page s (Draw d) k.1 k.0 (first_is page g s (next_inside page g s d k.2) more k.3) (ap (drawn_or_left s) k.2))
    is_answer (Some page) (Some (Left s)) k =
        let none : next_drawop us page g s ≡ None = none_left page g s k.2 in
        let more : has_more us g (Some page) s ≡ true = ap (λ b. is_some (next_drawop us page g s) || b) k.2 ∙ or-true (is_some (next_drawop us page g s)) in
        sym (source_answer page s (Left s) k.1 k.0 (first_is page g s (left_inside page g s k.2) more k.3) (ap (drawn_or_left s) none))
