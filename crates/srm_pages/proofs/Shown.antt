-- The registers of a slot show no more drawops than its count has messages.
use Rattle.std.proofs.Common.{◌≡◌, ◌≢◌, ℕ, zero, suc, ◌+◌, ◌-◌, ◌/◌, ◌<◌, ◌≤◌, true, true≢false, List, [], ◌∷◌, length, Option, Some, None, get_or, set, sym, refl, ap, subst, arith, get_or-set_other}
use Rattle.std.specs.List.{cons_option}
use mathlib.Core.Logic.{dite}
use native.Mathlib.Decide.{ℕ_discrete}
use Rattle.srm_names.specs.declared.limits.TheConstants.{MEMBERS}
use Rattle.srm_names.specs.declared.drawop.Drawop.{Drawop}
use Rattle.srm_names.specs.declared.page_msg.PageMsg.{PageMsg}
use Rattle.srm_names.specs.declared.page_msg.PageMsg.TheVariants.{Open, Draw, Left, Close}
use Rattle.srm_names.specs.PageFeeds.{is_page_feed, drawops_of, drawop_from}
use Rattle.srm_pages.specs.declared.board.TheConstants.{REGISTERS_A_SLOT}
use Rattle.srm_pages.specs.Board.{total, count_register, number_register, drawops_posted, CountsPosted}
use Rattle.srm_pages.proofs.Feeds.{front_of, not_drawn_by}

pub total_le : (f g : ℕ → ℕ) (n : ℕ) → ((j : ℕ) → j < n → f j ≤ g j) → total f n ≤ total g n
total_le f g zero each = omega arith
total_le f g (suc n) each = let before = total_le f g n (λ j small. each j (omega arith)) in let last = each n (omega arith) in omega arith

-- one of them is one more at most
pub total_more : (f g : ℕ → ℕ) (k n : ℕ) → ((j : ℕ) → j ≢ k → f j ≤ g j) → f k ≤ g k + 1 → total f n ≤ total g n + 1
total_more f g k zero others one = omega arith
total_more f g k (suc n) others one =
    dite (ℕ_discrete n k)
    (λ (e : n ≡ k).
    let before = total_le f g n (λ j small. others j (λ (same : j ≡ k). omega arith)) in
    let last : f n ≤ g n + 1 = subst (λ j. f j ≤ g j + 1) (sym e) one in
    omega arith)
    (λ (ne : n ≢ k). let before = total_more f g k n others one in let last = others n ne in omega arith)

-- the registers of a slot stand side by side
pub of_slot : (slot member : ℕ) → member < MEMBERS → number_register slot member / REGISTERS_A_SLOT ≡ slot
of_slot slot member small = omega arith

pub count_of_slot : (slot : ℕ) → count_register slot / REGISTERS_A_SLOT ≡ slot
count_of_slot slot = omega arith

-- registers that are alike in a slot
pub order_alike : (xs ys : List ℕ) (slot : ℕ) → ((i : ℕ) → i / REGISTERS_A_SLOT ≡ slot → get_or xs i 0 ≡ get_or ys i 0) → CountsPosted xs slot → CountsPosted ys slot
unfolding drawops_posted
order_alike xs ys slot alike was =
    let shown = total_le (λ m. get_or ys (number_register slot m) 0) (λ m. get_or xs (number_register slot m) 0) MEMBERS (λ m small. let same = alike (number_register slot m) (of_slot slot m small) in omega arith) in
    let count = alike (count_register slot) (count_of_slot slot) in
    omega arith

-- a number that is stored in a list is there, or its place lies outside
pub at_most_stored : (xs : List ℕ) (i n : ℕ) → get_or (set xs i n) i 0 ≤ n
at_most_stored [] i n = omega arith
at_most_stored (x ∷ xs) zero n = omega arith
at_most_stored (x ∷ xs) (suc i) n = at_most_stored xs i n

pub stored_rises : (xs : List ℕ) (i n : ℕ) → get_or xs i 0 ≤ n → get_or xs i 0 ≤ get_or (set xs i n) i 0
stored_rises [] i n more = omega arith
stored_rises (x ∷ xs) zero n more = more
stored_rises (x ∷ xs) (suc i) n more = stored_rises xs i n more

-- the register that counts takes stands before those that show drawops
pub apart : (slot member : ℕ) → count_register slot ≢ number_register slot member
apart slot member e = omega arith

-- a count that rises still counts what is shown
pub order_counted : (seat : List ℕ) (slot count : ℕ) → CountsPosted seat slot → get_or seat (count_register slot) 0 ≤ count → CountsPosted (set seat (count_register slot) count) slot
unfolding drawops_posted
order_counted seat slot count was more =
    let now = set seat (count_register slot) count in
    let shown = total_le (λ m. get_or now (number_register slot m) 0) (λ m. get_or seat (number_register slot m) 0) MEMBERS
    (λ m small. let same = get_or-set_other seat (count_register slot) (number_register slot m) count 0 (λ e. apart slot m (sym e)) in omega arith) in
    let rises = stored_rises seat (count_register slot) count more in
    omega arith

-- how many drawops of each member are among the messages
abbrev pub drawn : List PageMsg → ℕ → ℕ
drawn l member = length (drawops_of member l)

longer : (o : Option Drawop) (l : List Drawop) → length (cons_option o l) ≤ length l + 1
longer None l = omega arith
longer (Some d) l = omega arith

one_more : (n : ℕ) (x : PageMsg) (l : List PageMsg) → total (drawn (x ∷ l)) n ≤ total (drawn l) n + 1
one_more n (Open p) l = omega arith
one_more n (Draw d) l =
    total_more (drawn (Draw d ∷ l)) (drawn l) d.name.stream.source n
    (λ j ne. let same : drawn (Draw d ∷ l) j ≡ drawn l j = ap (λ o. length (cons_option o (drawops_of j l))) (not_drawn_by j d ne) in omega arith)
    (longer (drawop_from d.name.stream.source (Draw d)) (drawops_of d.name.stream.source l))
one_more n (Left s) l = omega arith
one_more n Close l = omega arith

none_at_first : (n : ℕ) → total (drawn []) n ≤ 0
none_at_first zero = omega arith
none_at_first (suc n) = let before = none_at_first n in omega arith

-- the drawops of all members are among the messages
pub drawn_at_most : (n : ℕ) (l : List PageMsg) → total (drawn l) n ≤ length l
drawn_at_most n [] = none_at_first n
drawn_at_most n (x ∷ l) = let before = drawn_at_most n l in let more = one_more n x l in omega arith

-- none of them is the first message of a page feed
pub drawn_behind_first : (n : ℕ) (l : List PageMsg) → is_page_feed l ≡ true → total (drawn l) n ≤ length l - 1
drawn_behind_first n [] feed = none_at_first n
drawn_behind_first n (Open p ∷ l) feed = let most = drawn_at_most n l in omega arith
drawn_behind_first n (Draw d ∷ l) feed = absurd (true≢false (sym (front_of (Draw d ∷ l) (Draw d ∷ []) l refl feed)))
drawn_behind_first n (Left s ∷ l) feed = absurd (true≢false (sym (front_of (Left s ∷ l) (Left s ∷ []) l refl feed)))
drawn_behind_first n (Close ∷ l) feed = let most = drawn_at_most n l in omega arith
