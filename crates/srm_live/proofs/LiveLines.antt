-- What a sink printed of the messages that it saw.
use Rattle.std.proofs.Common.{◌≡◌, ◌⊎◌, ℕ, Bool, true, false, not, ◌&&◌, ◌||◌, List, [], ◌∷◌, ◌++◌, map, refl, ap, sym, ◌∙◌, subst, inl, inr, append_assoc, arith}
use Rattle.std.specs.List.{list_any}
use Rattle.std.proofs.lemmas.List.{append-nil}
use Rattle.srm_names.specs.declared.page_msg.PageMsg.{PageMsg}
use Rattle.srm_names.specs.declared.page_msg.PageMsg.TheVariants.{Open, Draw, Left, Close}
use Rattle.srm_names.specs.PageFeeds.{is_close, is_page_feed}
use Rattle.srm_node.specs.Working.{SeesEach}
use Rattle.srm_member.proofs.WholeTakes.{whole_take}
use Rattle.srm_live.specs.LiveLines.{live_line, PrintingView, failed_printing, PutsOrFails, PrintsOrFails, PrintsLine, PrintsAllLaw, PrintsFrontLaw}

-- ONE MESSAGE

pub puts_now : (old new : PrintingView) (line printed : List ℕ) → printed ≡ line → new ≡ record old { lines = old.lines ++ printed ∷ [] } → PutsOrFails old line new
puts_now old new line printed is put = inl (put ∙ ap (λ l. record old { lines = old.lines ++ l ∷ [] }) is)

pub puts_none : (old new : PrintingView) (line : List ℕ) → new ≡ failed_printing old → PutsOrFails old line new
puts_none old new line failed = inr failed

pub fails_on : (old new : PrintingView) (slot : ℕ) (m : PageMsg) → old.failed ≡ true → new ≡ old → PrintsOrFails old slot m new
fails_on old new slot m failed same = inr (same ∙ ap (λ b. record old { failed = b }) failed)

pub fails_now : (old new : PrintingView) (slot : ℕ) (m : PageMsg) → new ≡ failed_printing old → PrintsOrFails old slot m new
fails_now old new slot m failed = inr failed

pub prints_now : (old new : PrintingView) (slot : ℕ) (m : PageMsg) (line : List ℕ) → old.failed ≡ false → line ≡ live_line old.names old.me slot m → PutsOrFails old line new → PrintsOrFails old slot m new
prints_now old new slot m line going is (inl put) = inl (going, put ∙ ap (λ l. record old { lines = old.lines ++ l ∷ [] }) is)
prints_now old new slot m line going is (inr failed) = inr failed

-- MANY

-- who couldn't print one can print none
failed_one : (old new : PrintingView) (slot : ℕ) (m : PageMsg) → PrintsOrFails old slot m new → old.failed ≡ true → (new.failed ≡ true) × (new.lines ≡ old.lines)
failed_one old new slot m (inl (going, printed)) failed = let no : false ≡ true = sym going ∙ failed in cc
failed_one old new slot m (inr lacked) failed = (ap (λ (v : PrintingView). v.failed) lacked, ap (λ (v : PrintingView). v.lines) lacked)

failed_on : (slot : ℕ) (stopped : Bool) (ms : List PageMsg) (old new : PrintingView) → SeesEach PrintsLine slot stopped ms old new → old.failed ≡ true → (new.failed ≡ true) × (new.lines ≡ old.lines)
failed_on slot stopped [] old new (go, same) failed = (ap (λ (v : PrintingView). v.failed) same ∙ failed, ap (λ (v : PrintingView). v.lines) same)
failed_on slot stopped (m ∷ ms) old new (between, true, (go, printed), later) failed =
    let one = failed_one old between slot m printed failed in
    let more = failed_on slot stopped ms between new later one.0 in
    (more.0, more.1 ∙ one.1)
failed_on slot stopped (m ∷ ms) old new (between, false, (go, printed), (stop, none, same)) failed =
    let one = failed_one old between slot m printed failed in
    (ap (λ (v : PrintingView). v.failed) same ∙ one.0, ap (λ (v : PrintingView). v.lines) same ∙ one.1)

grown : (old between new : PrintingView) (slot : ℕ) (m : PageMsg) (ms : List PageMsg) → between ≡ record old { lines = old.lines ++ live_line old.names old.me slot m ∷ [] } → new.lines ≡ between.lines ++ map (live_line between.names between.me slot) ms
    → new.lines ≡ old.lines ++ map (live_line old.names old.me slot) (m ∷ ms)
grown old between new slot m ms printed later =
    later
    ∙ ap (λ (v : PrintingView). v.lines ++ map (live_line v.names v.me slot) ms) printed
    ∙ append_assoc old.lines (live_line old.names old.me slot m ∷ []) (map (live_line old.names old.me slot) ms)

pub prints_all : PrintsAllLaw
prints_all slot stopped [] old new (go, same) whole = ap (λ (v : PrintingView). v.lines) same ∙ sym (append-nil old.lines)
prints_all slot stopped (m ∷ ms) old new (between, true, (go, inl (going, printed)), later) whole = grown old between new slot m ms printed (prints_all slot stopped ms between new later whole)
prints_all slot stopped (m ∷ ms) old new (between, true, (go, inr lacked), later) whole =
    let failed = failed_on slot stopped ms between new later (ap (λ (v : PrintingView). v.failed) lacked) in
    let no : true ≡ false = sym failed.0 ∙ whole in
    cc
prints_all slot stopped (m ∷ ms) old new (between, false, (go, inl (going, printed)), (stop, none, same)) whole =
    ap (λ (v : PrintingView). v.lines) (same ∙ printed) ∙ ap (λ ms. old.lines ++ map (live_line old.names old.me slot) (m ∷ ms)) (sym none)
prints_all slot stopped (m ∷ ms) old new (between, false, (go, inr lacked), (stop, none, same)) whole =
    let no : true ≡ false = sym (ap (λ (v : PrintingView). v.failed) (same ∙ lacked)) ∙ whole in
    cc

pub prints_front : PrintsFrontLaw
prints_front slot stopped [] old new (go, same) = ([], ([], refl), ap (λ (v : PrintingView). v.lines) same ∙ sym (append-nil old.lines))
prints_front slot stopped (m ∷ ms) old new (between, true, (go, inl (going, printed)), later) =
    let (front, (rest, is), lines) = prints_front slot stopped ms between new later in (
      m ∷ front,
      (rest, ap (λ xs. m ∷ xs) is),
      grown old between new slot m front printed lines,
    )
prints_front slot stopped (m ∷ ms) old new (between, true, (go, inr lacked), later) =
    let failed = failed_on slot stopped ms between new later (ap (λ (v : PrintingView). v.failed) lacked) in
    ([], (m ∷ ms, refl), failed.1 ∙ ap (λ (v : PrintingView). v.lines) lacked ∙ sym (append-nil old.lines))
prints_front slot stopped (m ∷ ms) old new (between, false, (go, inl (going, printed)), (stop, none, same)) = (m ∷ [], (ms, refl), ap (λ (v : PrintingView). v.lines) (same ∙ printed))
prints_front slot stopped (m ∷ ms) old new (between, false, (go, inr lacked), (stop, none, same)) = ([], (m ∷ ms, refl), ap (λ (v : PrintingView). v.lines) (same ∙ lacked) ∙ sym (append-nil old.lines))

-- TO THE CLOSE

close_in : (ms : List PageMsg) → list_any is_close ms ≡ true → (before : List PageMsg) × (behind : List PageMsg) × (ms ≡ before ++ Close ∷ behind)
close_in [] closed = cc
close_in (Close ∷ ms) closed = ([], ms, refl)
close_in (Open page ∷ ms) closed =
    let (before, behind, is) = close_in ms closed in
    (Open page ∷ before, behind, ap (λ xs. Open page ∷ xs) is)
close_in (Draw drawop ∷ ms) closed =
    let (before, behind, is) = close_in ms closed in
    (Draw drawop ∷ before, behind, ap (λ xs. Draw drawop ∷ xs) is)
close_in (Left member ∷ ms) closed =
    let (before, behind, is) = close_in ms closed in
    (Left member ∷ before, behind, ap (λ xs. Left member ∷ xs) is)

or_true : (b : Bool) → (b || true) ≡ true
or_true true = refl
or_true false = refl

any_closed : (before : List PageMsg) → list_any is_close (before ++ Close ∷ []) ≡ true
any_closed [] = refl
any_closed (m ∷ ms) = ap (λ b. is_close m || b) (any_closed ms) ∙ or_true (is_close m)

-- a sink that didn't stop its worker at the close printed all
none_failed : (slot : ℕ) (before : List PageMsg) (old new : PrintingView) → SeesEach PrintsLine slot false (before ++ Close ∷ []) old new → new.failed ≡ false
none_failed slot [] old new (between, true, (go, printed), (stop, same)) = ap (λ (v : PrintingView). v.failed) same ∙ going between.failed go
  where
    going : (b : Bool) → true ≡ not b → b ≡ false
    going true go = cc
    going false go = refl
none_failed slot [] old new (between, false, (go, printed), (stop, none, same)) = cc
none_failed slot (m ∷ ms) old new (between, true, (go, printed), later) = none_failed slot ms between new later
none_failed slot (m ∷ ms) old new (between, false, (go, printed), (stop, none, same)) = cc

pub prints_whole : (slot : ℕ) (ms : List PageMsg) (old new : PrintingView) → is_page_feed ms ≡ true → list_any is_close ms ≡ true → SeesEach PrintsLine slot false ms old new → new.lines ≡ old.lines ++ map (live_line old.names old.me slot) ms
prints_whole slot ms old new fed closed seen =
    let (before, behind, is) = close_in ms closed in
    let all : before ++ Close ∷ [] ≡ ms = whole_take (before ++ Close ∷ []) ms (behind, append_assoc before (Close ∷ []) behind ∙ sym is) fed (any_closed before) in
    prints_all slot false ms old new seen (none_failed slot before old new (subst (λ xs. SeesEach PrintsLine slot false xs old new) (sym all) seen))
