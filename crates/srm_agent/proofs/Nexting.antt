-- What comes next on a page, by what is kept of it.
use Rattle.std.proofs.Common.{◌≡◌, ℕ, zero, suc, ◌+◌, ◌<◌, ◌≤◌, Bool, true, false, not, ◌&&◌, ◌||◌, List, length, map, refl, ap, sym, ◌∙◌, subst, arith, inl, inr}
use Rattle.std.specs.Prelude.{Option, Some, None, is_some, slice_get, get_or, if◌then◌else◌}
use Rattle.std.specs.List.{list_any}
use Rattle.std.proofs.lemmas.Option.{slice_get_past, slice_get_cases, slice_get_read}
use Rattle.std.proofs.lemmas.Bool.{cases_eq}
use Rattle.srm_names.specs.declared.limits.TheConstants.{PAGES}
use Rattle.srm_names.specs.declared.page.Page.{Page}
use Rattle.srm_names.specs.declared.stream.Stream.{Stream}
use Rattle.srm_names.specs.declared.drawop.Drawop.{Drawop}
use Rattle.srm_names.specs.declared.page_msg.PageMsg.{PageMsg}
use Rattle.srm_names.specs.declared.page_msg.PageMsg.TheVariants.{Open, Draw, Left, Close}
use Rattle.srm_names.specs.FullName.{FullName}
use Rattle.srm_names.specs.Histories.{count_up}
use Rattle.srm_names.specs.Names.{named}
use Rattle.srm_names.specs.PageFeeds.{drawops_of, leaves, is_close, opened}
use Rattle.srm_names.proofs.Lists.{until_none-at, find-Has}
use Rattle.srm_names.proofs.Same.{same_name-is}
use Rattle.srm_store.specs.Held as store
use Rattle.srm_entries.specs.declared.entry.Entry.{Entry}
use Rattle.srm_entries.specs.Configs.{Config}
use Rattle.srm_entries.specs.Entries.{held, released, slots, state, is_gone}
use Rattle.srm_entries.specs.Verdicts.{final}
use Rattle.srm_entries.specs.Giving.{next_drawop, may_leave, has_more, is_some_of, is_quiet, is_smallest, given, GivesAfter, GiveRight}
use Rattle.srm_agent_state.specs.Progress.{ProgressContent, ProgressFits}
use Rattle.srm_agent.specs.Fits.{EachProgressFits}
use Rattle.srm_agent.specs.Nexts.{IsNextOf, IsNextOn, IsSmallest}

-- the released drawop at a place is the one that is held under the number of that place
at_place : (inserted : List Drawop) (s : Stream) (k : ℕ) (d : Drawop) → slice_get (store.released inserted s) k ≡ Some d → store.held_at inserted (named s (1 + k)) ≡ Some d
at_place inserted s k d e = (until_none-at (λ n. store.held_at inserted (named s n)) 1 (store.greatest_in (map (λ (x : Drawop). x.name) inserted) s) k d e).0

pub released_at : (inserted : List Drawop) (s : Stream) (k : ℕ) (n : FullName) (o : Option Drawop) → k < length (store.released inserted s) → n ≡ named s (k + 1) → o ≡ store.held_at inserted n → o ≡ slice_get (store.released inserted s) k
released_at inserted s k n o inside is held = elim ((slice_get_cases (store.released inserted s) k).1) [
  | inl found ↦ held ∙ ap (store.held_at inserted) (is ∙ ap (named s) (omega arith)) ∙ at_place inserted s k found.0 found.2 ∙ sym found.2
  | inr past ↦ absurd (omega (arith, past.0, inside))
]

pub none_released : (inserted : List Drawop) (s : Stream) (k : ℕ) → length (store.released inserted s) ≤ k → None ≡ slice_get (store.released inserted s) k
none_released inserted s k past = sym (slice_get_past (store.released inserted s) k past)

-- a drawop that is next is of that source
source_is : (past : List Entry) (s : Stream) (k : ℕ) (d : Drawop) → slice_get (released past s) k ≡ Some d → d.name.stream ≡ s
source_is past s k d e = ap (λ (n : FullName). n.stream) (same_name-is d.name (named s (1 + k)) (find-Has (store.has_name (named s (1 + k))) (held past) d (at_place (held past) s k d e)).1)

pub draw_is_next : (past : List Entry) (s : Stream) (g : List PageMsg) (k : ℕ) (d : Drawop) → k ≡ length (drawops_of s.source g) → slice_get (released past s) k ≡ Some d
    → (d.name.stream.source ≡ s.source) × (next_drawop past s.page g d.name.stream.source ≡ Some d)
draw_is_next past s g k d count e =
    let same : d.name.stream.source ≡ s.source = ap (λ (t : Stream). t.source) (source_is past s k d e) in
    (same, ap (λ w. next_drawop past s.page g w) same ∙ ap (slice_get (released past s)) (sym count) ∙ e)

pub leave_is_next : (past : List Entry) (s : Stream) (g : List PageMsg) (k : ℕ) (all left : Bool) → k ≡ length (drawops_of s.source g) → all ≡ is_some_of k (final past s) → left ≡ list_any (leaves s.source) g
    → (all && not left) ≡ true → (s.source ≡ s.source) × (may_leave past s.page g s.source ≡ true)
leave_is_next past s g k all left count all_is left_is e = (refl, rw (sym count, sym all_is, sym left_is) e)

pub nothing_is_next : (past : List Entry) (s : Stream) (g : List PageMsg) (k : ℕ) (all left : Bool) → k ≡ length (drawops_of s.source g) → None ≡ slice_get (released past s) k → all ≡ is_some_of k (final past s) → left ≡ list_any (leaves s.source) g
    → (all && not left) ≡ false → has_more past g (Some s.page) s.source ≡ false
nothing_is_next past s g k all left count none all_is left_is e = rw (sym count, sym none, sym all_is, sym left_is) e

-- what a slot may be given, by its progress

pub progress_at : (past : List Entry) (progress : List ProgressContent) (j i : ℕ) (f : ProgressContent) → EachProgressFits past progress → length progress ≡ PAGES → j < PAGES → i ≡ j → f ≡ get_or progress i f → ProgressFits (given past j) f
progress_at past progress j i f h size inside same at = h.each j f (subst (λ k. slice_get progress k ≡ Some f) same (slice_get_read progress PAGES i f (sym size) (subst (λ k. k < PAGES) (sym same) inside) at))

none_of : (p : ℕ → Bool) (from n : ℕ) → ((k : ℕ) → from ≤ k → k < from + n → p k ≡ false) → list_any p (count_up from n) ≡ false
none_of p from zero none = refl
none_of p from (suc n) none = ap (λ b. b || list_any p (count_up (from + 1) n)) (none from (omega arith) (omega arith)) ∙ none_of p (from + 1) n (λ k l m. none k (omega arith) (omega arith))

smallest_of : (past : List Entry) (page : Page) (g : List PageMsg) (source s : ℕ) → s ≡ source → IsSmallest past page g source → is_smallest past g page s ≡ true
smallest_of past page g source s same small = ap not (none_of (has_more past g (Some page)) 0 s (λ k l m. small k (omega (arith, m, same))))

next_given_at : (c : Config) (past : List Entry) (page : Page) (g : List PageMsg) (source : ℕ) (m : PageMsg) → is_some (opened g) ≡ true → list_any is_close g ≡ false
    → IsNextOf past page g source (Some m) → IsSmallest past page g source → GivesAfter c past g (Some page) (Some m)
next_given_at c past page g source (Open p) o closed next small = absurd next
next_given_at c past page g source (Draw d) o closed next small = (o, closed, next.1, smallest_of past page g source d.name.stream.source next.0 small)
next_given_at c past page g source (Left s) o closed next small = (o, closed, next.1, smallest_of past page g source s next.0 small)
next_given_at c past page g source Close o closed next small = absurd next

pub gives_next : (c : Config) (past : List Entry) (j : ℕ) (page : Page) (f : ProgressContent) (m : PageMsg) → ProgressFits (given past j) f → slice_get (slots past) j ≡ Some page → f.opened ≡ true → f.closed ≡ false
    → IsNextOn c past page (given past j) (Some m) → GiveRight c past j (Some m)
gives_next c past j page f m fits at o closed next =
    subst (λ o. GivesAfter c past (given past j) o (Some m)) (sym at) (next_given_at c past page (given past j) next.0 m (sym fits.opened ∙ o) (sym fits.closed ∙ closed) next.1 next.2)

-- nothing but the close may be given: it is given by a member that is gone
close_or_none : (c : Config) (past : List Entry) (g : List PageMsg) (page : Option Page) (b : Bool) → is_gone (state past) ≡ b → list_any is_close g ≡ false → is_quiet c past g page ≡ true → GivesAfter c past g page (if b then Some Close else None)
close_or_none c past g None true gone closed quiet = (closed, gone, quiet)
close_or_none c past g (Some page) true gone closed quiet = (closed, gone, quiet)
close_or_none c past g None false gone closed quiet = ((λ e. absurd (cc)), ap (λ b. b || true) closed)
close_or_none c past g (Some page) false gone closed quiet = ((λ e. absurd (cc)), ap (λ b. b || is_quiet c past g (Some page)) closed ∙ quiet)

pub closes_with_page : (c : Config) (past : List Entry) (j : ℕ) (page : Page) (f : ProgressContent) (gone : Bool) → ProgressFits (given past j) f → slice_get (slots past) j ≡ Some page → f.opened ≡ true → f.closed ≡ false
    → IsNextOn c past page (given past j) None → gone ≡ is_gone (state past) → GiveRight c past j (if gone then Some Close else None)
closes_with_page c past j page f gone fits at o closed none is =
    subst (λ o. GivesAfter c past (given past j) o (if gone then Some Close else None)) (sym at)
    (close_or_none c past (given past j) (Some page) gone (sym is) (sym fits.closed ∙ closed)
    (quiet (is_some (opened (given past j))) (list_any (has_more past (given past j) (Some page)) (count_up 0 c.members)) (sym fits.opened ∙ o) (none_of (has_more past (given past j) (Some page)) 0 c.members (λ k l m. none k (omega (arith, m))))))
  where
    quiet : (a b : Bool) → a ≡ true → b ≡ false → (a && not b) ≡ true
    quiet true false p q = refl
    quiet true true p q = absurd (cc)
    quiet false b p q = absurd (cc)

-- a message of a member below which no source has one
pub of_some : (c : Config) (past : List Entry) (page : Page) (g : List PageMsg) (number source : ℕ) (answer : Option PageMsg) (m : PageMsg) → answer ≡ Some m → source ≡ number
    → ((k : ℕ) → k < number → has_more past g (Some page) k ≡ false) → IsNextOf past page g source answer → IsNextOn c past page g (Some m)
of_some c past page g number source answer m is same none next = (source, subst (λ o. IsNextOf past page g source o) is next, subst (λ s. IsSmallest past page g s) (sym same) none)

pub one_more_none : (past : List Entry) (page : Page) (g : List PageMsg) (number at : ℕ) (answer : Option PageMsg) → at ≡ number → answer ≡ None → IsNextOf past page g at answer
    → ((source : ℕ) → source < number → has_more past g (Some page) source ≡ false) → (source : ℕ) → source < number + 1 → has_more past g (Some page) source ≡ false
one_more_none past page g number at answer same is next before source l = elim (cases_eq source number) [
  | inl e ↦ subst (λ s. has_more past g (Some page) s ≡ false) (same ∙ sym e) (subst (λ o. IsNextOf past page g at o) is next)
  | inr other ↦ before source (omega (arith, l, other))
]
