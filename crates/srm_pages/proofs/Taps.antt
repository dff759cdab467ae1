-- After a take the seat counts the list.
use Rattle.std.proofs.Common.{◌≡◌, ◌≢◌, ℕ, ◌+◌, ◌<◌, ◌≤◌, true, List, [], ◌∷◌, ◌++◌, length, None, get_or, set, sym, refl, ap, ◌∙◌, subst, arith, length-append, get_or-set_other}
use Rattle.std.proofs.Math.Nat.{le_trans}
use mathlib.Core.Logic.{dite}
use native.Mathlib.Decide.{ℕ_discrete}
use Rattle.srm_names.specs.declared.limits.TheConstants.{MEMBERS}
use Rattle.srm_names.specs.declared.drawop.Drawop.{Drawop}
use Rattle.srm_names.specs.declared.page_msg.PageMsg.{PageMsg}
use Rattle.srm_names.specs.declared.page_msg.PageMsg.TheVariants.{Open, Draw, Left, Close}
use Rattle.srm_names.specs.PageFeeds.{is_page_feed, continues, drawops_of, drawop_from}
use Rattle.srm_pages.specs.Board.{count_register, number_register, drawops_posted, CountsPosted}
use Rattle.srm_pages.specs.Seats.{MarkerView, CountsTaken, MayPost, Posts}
use Rattle.srm_names.proofs.Feeds.{last_continues}
use Rattle.srm_pages.proofs.Feeds.{next_number, one_more_drawn, same_drawn, not_drawn_by}
use Rattle.srm_pages.proofs.Shown.{total_le, at_most_stored, apart, drawn, drawn_behind_first}

-- what counts a list counts what it shows
pub counts_order : (seat : List ℕ) (slot : ℕ) (l : List PageMsg) → CountsTaken seat slot l → is_page_feed l ≡ true → CountsPosted seat slot
unfolding drawops_posted
counts_order seat slot l counts feed =
    le_trans
    (total_le (λ m. get_or seat (number_register slot m) 0) (drawn l) MEMBERS (λ m small. let same = counts.of_member m small in omega arith))
    (le_trans (drawn_behind_first MEMBERS l feed) (let all = counts.all in omega arith))

-- the count is of one message more than those whose drawops are shown
pub record IsAhead (seat : List ℕ) (slot : ℕ) (taken : List PageMsg) : Type 0 where
  pub all : get_or seat (count_register slot) 0 ≡ length taken + 1
  pub of_member : (member : ℕ) → member < MEMBERS → get_or seat (number_register slot member) 0 ≡ length (drawops_of member taken)

-- so it is once the count was stored
pub ahead : (m n : MarkerView) (taken : List PageMsg) (count : ℕ) → CountsTaken m.seat m.slot taken → count ≡ length taken + 1
    → n ≡ record m { seat = set m.seat (count_register m.slot) count } → get_or n.seat (count_register m.slot) 0 ≡ count → IsAhead n.seat n.slot taken
ahead m n taken count counts more is there = subst (λ k. IsAhead n.seat k taken) (sym (ap (λ (k : MarkerView). k.slot) is)) record {
  all = there ∙ more;
  of_member = λ member small.
      ap (λ (k : MarkerView). get_or k.seat (number_register m.slot member) 0) is
      ∙ get_or-set_other m.seat (count_register m.slot) (number_register m.slot member) count 0 (λ e. apart m.slot member (sym e)) ∙ counts.of_member member small;
}

-- what is posted in a member's registers with one drawop more
with_drawop : (n : MarkerView) (taken : List PageMsg) (d : Drawop) → IsAhead n.seat n.slot taken → continues taken (Draw d) ≡ true → (member : ℕ) → member < MEMBERS
    → get_or (set n.seat (number_register n.slot d.name.stream.source) d.name.number) (number_register n.slot member) 0 ≤ drawn (taken ++ Draw d ∷ []) member
with_drawop n taken d is go member small = dite (ℕ_discrete member d.name.stream.source)
    (λ (e : member ≡ d.name.stream.source). subst (λ k. get_or (set n.seat (number_register n.slot d.name.stream.source) d.name.number) (number_register n.slot k) 0 ≤ drawn (taken ++ Draw d ∷ []) k) (sym e)
    (let most = at_most_stored n.seat (number_register n.slot d.name.stream.source) d.name.number in let next = next_number taken d go in let more = one_more_drawn d.name.stream.source taken d refl in omega arith))
    (λ (ne : member ≢ d.name.stream.source).
    let other = get_or-set_other n.seat (number_register n.slot d.name.stream.source) (number_register n.slot member) d.name.number 0 (λ e. ne (omega arith)) in
    let was = is.of_member member small in
    let same = same_drawn member taken (Draw d) (not_drawn_by member d ne) in
    omega arith)

-- what the feed may go on with, the tap may show
pub may_show : (n : MarkerView) (taken : List PageMsg) (x : PageMsg) → IsAhead n.seat n.slot taken → continues taken x ≡ true → is_page_feed (taken ++ x ∷ []) ≡ true → MayPost n x
unfolding drawops_posted
may_show n taken (Open p) is go feed = tt
may_show n taken (Draw d) is go feed = λ small. (
  (let was = is.of_member d.name.stream.source small in let next = next_number taken d go in omega arith),
  le_trans
      (total_le (λ m. get_or (set n.seat (number_register n.slot d.name.stream.source) d.name.number) (number_register n.slot m) 0) (drawn (taken ++ Draw d ∷ [])) MEMBERS (with_drawop n taken d is go))
      (le_trans (drawn_behind_first MEMBERS (taken ++ Draw d ∷ []) feed)
      (let len = length-append taken (Draw d ∷ []) in let all = is.all in let other = get_or-set_other n.seat (number_register n.slot d.name.stream.source) (count_register n.slot) d.name.number 0 (apart n.slot d.name.stream.source) in omega arith)),
)
may_show n taken (Left s) is go feed = tt
may_show n taken Close is go feed = tt

-- nothing is shown of a message that is no drawop
counts_other : (n o : MarkerView) (taken : List PageMsg) (x : PageMsg) → ((member : ℕ) → drawop_from member x ≡ None) → IsAhead n.seat n.slot taken → o ≡ n → CountsTaken o.seat o.slot (taken ++ x ∷ [])
counts_other n o taken x none is same = subst (λ (k : MarkerView). CountsTaken k.seat k.slot (taken ++ x ∷ [])) (sym same) record {
  all = is.all ∙ sym (length-append taken (x ∷ []));
  of_member = λ member small. is.of_member member small ∙ sym (same_drawn member taken x (none member));
}

-- once it is posted, the registers count the list with it
pub counts_shown : (n o : MarkerView) (taken : List PageMsg) (x : PageMsg) → IsAhead n.seat n.slot taken → continues taken x ≡ true → Posts n x o → CountsTaken o.seat o.slot (taken ++ x ∷ [])
counts_shown n o taken (Open p) is go shows = counts_other n o taken (Open p) (λ _. refl) is shows
counts_shown n o taken (Draw d) is go shows = subst (λ k. CountsTaken o.seat k (taken ++ Draw d ∷ [])) (sym (ap (λ (k : MarkerView). k.slot) shows.0)) record {
  all = ap (λ (k : MarkerView). get_or k.seat (count_register n.slot) 0) shows.0 ∙ get_or-set_other n.seat at (count_register n.slot) d.name.number 0 (apart n.slot source) ∙ is.all ∙ sym (length-append taken (Draw d ∷ []));
  of_member = λ member small. dite (ℕ_discrete member source)
      (λ (e : member ≡ source). subst (λ k. get_or o.seat (number_register n.slot k) 0 ≡ length (drawops_of k (taken ++ Draw d ∷ []))) (sym e)
      (shows.1 ∙ next_number taken d go ∙ sym (one_more_drawn source taken d refl)))
      (λ (ne : member ≢ source).
      ap (λ (k : MarkerView). get_or k.seat (number_register n.slot member) 0) shows.0 ∙ get_or-set_other n.seat at (number_register n.slot member) d.name.number 0 (λ e. ne (omega arith))
      ∙ is.of_member member small ∙ sym (same_drawn member taken (Draw d) (not_drawn_by member d ne)));
}
  where
    source : ℕ
    source = d.name.stream.source

    at : ℕ
    at = number_register n.slot source
counts_shown n o taken (Left s) is go shows = counts_other n o taken (Left s) (λ _. refl) is shows
counts_shown n o taken Close is go shows = counts_other n o taken Close (λ _. refl) is shows

-- after the count of a take, which went on with the page feed, its message may be shown
pub next_shown : (m n : MarkerView) (taken : List PageMsg) (x : PageMsg) (count : ℕ) → CountsTaken m.seat m.slot taken → is_page_feed (taken ++ x ∷ []) ≡ true → count ≡ length taken + 1
    → n ≡ record m { seat = set m.seat (count_register m.slot) count } → get_or n.seat (count_register m.slot) 0 ≡ count → MayPost n x
next_shown m n taken x count counts feed more is there = may_show n taken x (ahead m n taken count counts more is there) (last_continues taken x feed) feed

-- and then the registers count the list with it
pub next_counts : (m n o : MarkerView) (taken after : List PageMsg) (x : PageMsg) (count : ℕ) → CountsTaken m.seat m.slot taken → is_page_feed (taken ++ x ∷ []) ≡ true → count ≡ length taken + 1
    → n ≡ record m { seat = set m.seat (count_register m.slot) count } → get_or n.seat (count_register m.slot) 0 ≡ count → Posts n x o → after ≡ taken ++ x ∷ [] → CountsTaken o.seat o.slot after
next_counts m n o taken after x count counts feed more is there shows e =
    subst (λ l. CountsTaken o.seat o.slot l) (sym e) (counts_shown n o taken x (ahead m n taken count counts more is there) (last_continues taken x feed) shows)
