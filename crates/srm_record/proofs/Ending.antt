-- A file that a record is written to, behind the calls: what page workers took, and that this is all.
use Rattle.std.proofs.Common.{◌≡◌, ℕ, ◌+◌, ◌<◌, false, List, [], ◌∷◌, ◌++◌, length, get_or, take, Option, refl, sym, ap, subst, ◌∙◌, append_assoc, append-nil}
use Rattle.std.specs.List.{flat_map}
use Rattle.std.proofs.lemmas.Grind.{flat_map-append}
use Rattle.std.proofs.lemmas.List.{map-append}
use Rattle.std.specs.Io.KnownBytes.{Appends}
use Rattle.srm_names.specs.declared.page_msg.PageMsg.{PageMsg}
use Rattle.srm_names.proofs.Snoc.{flat_map-snoc}
use Rattle.srm_entries.specs.declared.entry.Entry.{Entry}
use Rattle.srm_frames.specs.declared.beginning.Beginning.{Beginning}
use Rattle.srm_frames.specs.declared.line.Line.{Line}
use Rattle.srm_frames.specs.Beginnings.{beginning_text}
use Rattle.srm_frames.specs.Lines.{line_text, lines_text}
use Rattle.srm_frames.proofs.Elements.{taken_more, one_more_of}
use Rattle.srm_record.specs.Records.{record_text, lines_so_far, record_of, last_of_record, whole_record}
use Rattle.srm_record.specs.Takes.{take_at, slot_lines, takes_at, end_at}
use Rattle.srm_output.specs.Writing.{AppendsFront}
use Rattle.srm_output.proofs.Gathered.{all_of_all}
use Rattle.srm_record.specs.Writing.{FileView, HasText, HasRecord, Stays, Adds, GoesOn, Writes}
use Rattle.srm_record.proofs.Filing.{stays_so, stays_on}

-- ---- bytes go on behind bytes

pub goes_nowhere : (v : FileView) → GoesOn v v []
goes_nowhere v = record {
  beginning = refl;
  first = refl;
  now = stays_so v.now;
  last = refl;
  text = λ text has. subst (HasText v) (sym (append-nil text)) has;
}

pub of_adds : (old new : FileView) (bytes : List ℕ) → Adds old new bytes → GoesOn old new bytes
of_adds old new bytes adds = record { beginning = adds.beginning; first = adds.first; now = subst (Stays old.now) (sym adds.now) (stays_so old.now); last = adds.last; text = adds.text }

pub of_writes : (old new : FileView) → Writes old new → GoesOn old new []
of_writes old new writes = record {
  beginning = writes.beginning;
  first = writes.first;
  now = writes.now;
  last = writes.last;
  text = λ text has. subst (HasText new) (sym (append-nil text)) (writes.text text has);
}

goes_further : (old mid new : FileView) (bytes more : List ℕ) → GoesOn old mid bytes → GoesOn mid new more → GoesOn old new (bytes ++ more)
goes_further old mid new bytes more first second = record {
  beginning = second.beginning ∙ first.beginning;
  first = second.first ∙ first.first;
  now = stays_on old.now mid.now new.now first.now second.now;
  last = second.last ∙ first.last;
  text = λ text has. subst (HasText new) (append_assoc text bytes more) (second.text (text ++ bytes) (first.text text has));
}

-- ---- what page workers took

lines_text-snoc : (lines : List Line) (l : Line) → lines_text (lines ++ l ∷ []) ≡ lines_text lines ++ line_text l
lines_text-snoc lines l = flat_map-snoc line_text lines l

slot_text-more : (last slot at : ℕ) (messages : List PageMsg) (m : PageMsg) → at < length messages → m ≡ get_or messages at m
    → lines_text (slot_lines last slot (take at messages)) ++ line_text (take_at last slot m) ≡ lines_text (slot_lines last slot (take (at + 1) messages))
slot_text-more last slot at messages m there is =
    sym (lines_text-snoc (slot_lines last slot (take at messages)) (take_at last slot m))
    ∙ ap lines_text (sym (map-append (take_at last slot) (take at messages) (m ∷ [])))
    ∙ ap (λ (taken : List PageMsg). lines_text (slot_lines last slot taken)) (sym (taken_more messages at m there is))

-- one message more, and what waited written, or not
pub one_take_more : (old now put new : FileView) (slot at : ℕ) (messages : List PageMsg) (m : PageMsg) → at < length messages → m ≡ get_or messages at m
    → GoesOn old now (lines_text (slot_lines old.last slot (take at messages))) → Adds now put (line_text (take_at now.last slot m)) → GoesOn put new []
    → GoesOn old new (lines_text (slot_lines old.last slot (take (at + 1) messages)))
one_take_more old now put new slot at messages m there is so adds writes =
    let so_far = lines_text (slot_lines old.last slot (take at messages)) in
    let more = line_text (take_at now.last slot m) in
    let same : (so_far ++ more) ++ [] ≡ lines_text (slot_lines old.last slot (take (at + 1) messages)) =
    append-nil (so_far ++ more)
    ∙ ap (λ (last : ℕ). so_far ++ line_text (take_at last slot m)) so.last
    ∙ slot_text-more old.last slot at messages m there is in
    subst (GoesOn old new) same (goes_further old put new (so_far ++ more) [] (goes_further old now put so_far more so (of_adds now put more adds)) writes)

-- one slot more
pub one_slot_more : {X : Type 0} (old now new : FileView) (f : ℕ → X → List Line) (xs : List X) (at : ℕ) (x : X) → at < length xs → x ≡ get_or xs at x
    → GoesOn old now (lines_text (flat_map (f old.last) (take at xs))) → GoesOn now new (lines_text (f now.last x))
    → GoesOn old new (lines_text (flat_map (f old.last) (take (at + 1) xs)))
one_slot_more old now new f xs at x there is so goes =
    let so_far = flat_map (f old.last) (take at xs) in
    let same : lines_text so_far ++ lines_text (f now.last x) ≡ lines_text (flat_map (f old.last) (take (at + 1) xs)) =
    ap (λ (last : ℕ). lines_text so_far ++ lines_text (f last x)) so.last
    ∙ sym (flat_map-append line_text so_far (f old.last x))
    ∙ ap lines_text (one_more_of (f old.last) xs at x there is) in
    subst (GoesOn old new) same (goes_further old now new (lines_text so_far) (lines_text (f now.last x)) so goes)

-- ---- the end

whole_is : (b : Beginning) (es : List Entry) (lists : List (List PageMsg))
    → (record_of b es ++ lines_text (takes_at (last_of_record b es) lists)) ++ line_text (end_at (last_of_record b es)) ≡ whole_record b es lists
unfolding record_text
whole_is b es lists =
    let so_far = lines_so_far b es in
    let takes = takes_at (last_of_record b es) lists in
    let end = end_at (last_of_record b es) in
    append_assoc (record_of b es) (lines_text takes) (line_text end)
    ∙ append_assoc (beginning_text b) (lines_text so_far) (lines_text takes ++ line_text end)
    ∙ ap (λ (bytes : List ℕ). beginning_text b ++ (lines_text so_far ++ bytes)) (sym (lines_text-snoc takes end))
    ∙ ap (λ (bytes : List ℕ). beginning_text b ++ bytes) (sym (flat_map-append line_text so_far (takes ++ end ∷ [])))
    ∙ ap (λ (lines : List Line). beginning_text b ++ lines_text lines) (sym (append_assoc so_far takes (end ∷ [])))

ended_text : (old taken mid new : FileView) (lists : List (List PageMsg)) → GoesOn old taken (lines_text (takes_at old.last lists)) → Adds taken mid (line_text (end_at taken.last))
    → Writes mid new → (es : List Entry) → HasRecord old es → HasText new (whole_record old.beginning es lists)
ended_text old taken mid new lists goes adds writes es has =
    let b = old.beginning in
    let same : (record_of b es ++ lines_text (takes_at old.last lists)) ++ line_text (end_at taken.last) ≡ whole_record b es lists =
    ap (λ (l : ℕ). (record_of b es ++ lines_text (takes_at old.last lists)) ++ line_text (end_at l)) goes.last
    ∙ ap (λ (l : ℕ). (record_of b es ++ lines_text (takes_at l lists)) ++ line_text (end_at l)) has.last
    ∙ whole_is b es lists in
    subst (HasText new) same (writes.text _ (adds.text _ (goes.text (record_of b es) has.text)))

pub ended_whole : (old taken mid new : FileView) (lists : List (List PageMsg)) → GoesOn old taken (lines_text (takes_at old.last lists))
    → Adds taken mid (line_text (end_at taken.last)) → Writes mid new → new.failed ≡ false
    → (es : List Entry) → HasRecord old es → Appends old.first new.now (whole_record old.beginning es lists)
ended_whole old taken mid new lists goes adds writes fine es has =
    let text = whole_record old.beginning es lists in
    let all = (ended_text old taken mid new lists goes adds writes es has).whole fine in
    subst (λ (a : Option (List ℕ)). Appends a new.now text) (writes.first ∙ adds.first ∙ goes.first)
    (all_of_all new.first new.now text new.waiting all (ap length (writes.none_waits fine)))

pub ended_front : (old taken mid new : FileView) (lists : List (List PageMsg)) → GoesOn old taken (lines_text (takes_at old.last lists))
    → Adds taken mid (line_text (end_at taken.last)) → Writes mid new
    → (es : List Entry) → HasRecord old es → AppendsFront old.first new.now (whole_record old.beginning es lists)
ended_front old taken mid new lists goes adds writes es has =
    subst (λ (a : Option (List ℕ)). AppendsFront a new.now (whole_record old.beginning es lists)) (writes.first ∙ adds.first ∙ goes.first)
    (ended_text old taken mid new lists goes adds writes es has).front

pub ended_stays : (old taken mid new : FileView) (bytes more : List ℕ) → GoesOn old taken bytes → Adds taken mid more → Writes mid new → Stays old.now new.now
ended_stays old taken mid new bytes more goes adds writes =
    stays_on old.now taken.now new.now goes.now (stays_on taken.now mid.now new.now (subst (Stays taken.now) (sym adds.now) (stays_so taken.now)) writes.now)
