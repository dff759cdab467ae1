-- A list that goes to its close is all that was given.
use Rattle.std.proofs.Common.{◌≡◌, ℕ, zero, suc, Bool, true, false, not, ◌&&◌, ◌==◌, ◌+◌, List, [], ◌∷◌, ◌++◌, length, refl, sym, ◌∙◌, arith, append_assoc}
use Rattle.std.specs.Prelude.{is_some, slice_get, Option, Some, None}
use Rattle.std.specs.List.{list_any, list_all}
use Rattle.std.proofs.lemmas.Bool.{and_parts, both_ways, eqb-true}
use Rattle.std.proofs.lemmas.List.{append-nil}
use Rattle.std.proofs.lemmas.Option.{same_Some}
use Rattle.srm_names.specs.declared.page_msg.PageMsg.{PageMsg}
use Rattle.srm_names.specs.declared.page_msg.PageMsg.TheVariants.{Open, Draw, Left, Close}
use Rattle.srm_names.specs.Histories.{IsPrefix}
use Rattle.srm_names.specs.PageFeeds.{continues, is_page_feed, is_close, is_open_at, opened, leaves, drawops_of}
use Rattle.srm_names.proofs.Feeds.{is_page_feed-front, last_continues}
use Rattle.srm_member.specs.declared.fault.MemberFault.{MemberFault}
use Rattle.srm_member.specs.Statuses.{fault_of_lists}

second : (a b c d : Bool) → (a && not b && not c && d) ≡ true → b ≡ false
second a b c d go = grind arith

of_three : (a b c : Bool) → (a && not b && not c) ≡ true → b ≡ false
of_three a b c go = grind arith

only : (b : Bool) → not b ≡ true → b ≡ false
only b go = grind arith

-- nothing continues a page feed behind its close
not_closed : (l : List PageMsg) (m : PageMsg) → continues l m ≡ true → list_any is_close l ≡ false
not_closed [] m go = refl
not_closed (x ∷ xs) (Open page) go = absurd (omega (arith, eqb-true (length (x ∷ xs)) 0 go))
not_closed (x ∷ xs) (Draw d) go = second (is_open_at (opened (x ∷ xs)) d.name.stream.page) (list_any is_close (x ∷ xs)) (list_any (leaves d.name.stream.source) (x ∷ xs)) (d.name.number == length (drawops_of d.name.stream.source (x ∷ xs)) + 1) go
not_closed (x ∷ xs) (Left member) go = of_three (is_some (opened (x ∷ xs))) (list_any is_close (x ∷ xs)) (list_any (leaves member) (x ∷ xs)) go
not_closed (x ∷ xs) Close go = only (list_any is_close (x ∷ xs)) go

pub whole_take : (took gave : List PageMsg) → IsPrefix took gave → is_page_feed gave ≡ true → list_any is_close took ≡ true → took ≡ gave
whole_take took gave ([], is) fed closed = sym (append-nil took) ∙ is
whole_take took gave (m ∷ rest, is) fed closed =
    let front : is_page_feed (took ++ m ∷ []) ≡ true = is_page_feed-front (took ++ m ∷ []) gave (rest, append_assoc took (m ∷ []) rest ∙ is) fed in
    absurd (both_ways (list_any is_close took) (not_closed took m (last_continues took m front)) closed)

-- where all pass, each does
pub all_at : {X : Type 0} (p : X → Bool) (xs : List X) (k : ℕ) (x : X) → list_all p xs ≡ true → slice_get xs k ≡ Some x → p x ≡ true
all_at p [] k x all at = cc
all_at p (y ∷ xs) zero x all at = grind (arith, same_Some y x at, and_parts (p y) (list_all p xs) all)
all_at p (y ∷ xs) (suc k) x all at = all_at p xs k x (and_parts (p y) (list_all p xs) all).1 at

-- A RUN WITHOUT FAULT

-- had none before its lists were looked at
pub of_lists : (run : Option MemberFault) (closed : Bool) (fault : Option MemberFault) → fault ≡ fault_of_lists run closed → fault ≡ None → run ≡ None
of_lists None closed fault is none = refl
of_lists (Some f) true fault is none = sym is ∙ none
of_lists (Some f) false fault is none = sym is ∙ none

-- and its lists have their close
pub lists_closed : (run : Option MemberFault) (closed : Bool) (fault : Option MemberFault) → fault ≡ fault_of_lists run closed → fault ≡ None → closed ≡ true
lists_closed run true fault is none = refl
lists_closed None false fault is none = cc
lists_closed (Some f) false fault is none = cc
