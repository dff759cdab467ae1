-- The lines behind the calls of a record tell what its page workers took.
use Rattle.std.proofs.Common.{◌≡◌, ◌≢◌, ℕ, zero, suc, ◌+◌, ◌<◌, Bool, true, false, List, [], ◌∷◌, ◌++◌, map, length, refl, ap, sym, ◌∙◌, arith, append-nil, eq-eqb}
use Rattle.std.specs.Prelude.{Option, Some, None, if◌then◌else◌}
use Rattle.std.specs.List.{filter_map, flat_map, cons_option, enumerate_from}
use Rattle.std.proofs.lemmas.Bool.{ne_eqb}
use Rattle.std.proofs.lemmas.List.Elements.{filter_map-append}
use Rattle.srm_names.specs.declared.limits.TheConstants.{PAGES}
use Rattle.srm_names.specs.declared.page_msg.PageMsg.{PageMsg}
use Rattle.srm_names.specs.Histories.{count_up}
use Rattle.srm_entries.specs.declared.entry.Entry.{Entry}
use Rattle.srm_entries.specs.declared.entry.Input.{Input}
use Rattle.srm_entries.specs.declared.entry.Input.TheVariants.{Drew, Heard, Noise, Ticked, Showed, AskedLeave, Gave, Took}
use Rattle.srm_replays.specs.Calls.{acts}
use Rattle.srm_frames.specs.declared.line.Line.{Line}
use Rattle.srm_record.specs.Calls.{call_of, at_moment, line_of, lines_of}
use Rattle.srm_record.specs.Takes.{slot_lines, listed_lines, takes_at, took_in, list_in, lists_in}

-- the lines of calls have none

none_of_call : (slot session moment : ℕ) (i : Input) → filter_map (λ (l : Line). took_in slot l.call) (cons_option (at_moment moment (call_of session i)) []) ≡ []
none_of_call slot session moment (Drew page body) = refl
none_of_call slot session moment (Heard g) = refl
none_of_call slot session moment Noise = refl
none_of_call slot session moment Ticked = refl
none_of_call slot session moment (Showed page) = refl
none_of_call slot session moment AskedLeave = refl
none_of_call slot session moment (Gave other) = refl
none_of_call slot session moment (Took other) = refl

none_of_line : (slot session : ℕ) (e : Entry) → filter_map (λ (l : Line). took_in slot l.call) (cons_option (line_of session e) []) ≡ []
none_of_line slot session e = go (acts e)
  where
    go : (b : Bool) → filter_map (λ (l : Line). took_in slot l.call) (cons_option (if b then at_moment e.moment (call_of session e.input) else None) []) ≡ []
    go true = none_of_call slot session e.moment e.input
    go false = refl

in_front : {X : Type 0} (o : Option X) (xs : List X) → cons_option o xs ≡ cons_option o [] ++ xs
in_front None xs = refl
in_front (Some x) xs = refl

none_of_calls : (slot session : ℕ) (es : List Entry) → list_in (lines_of session es) slot ≡ []
none_of_calls slot session [] = refl
none_of_calls slot session (e ∷ es) =
    ap (λ (ls : List Line). list_in ls slot) (in_front (line_of session e) (lines_of session es))
    ∙ filter_map-append (λ (l : Line). took_in slot l.call) (cons_option (line_of session e) []) (lines_of session es)
    ∙ ap (λ (ms : List PageMsg). ms ++ list_in (lines_of session es) slot) (none_of_line slot session e)
    ∙ none_of_calls slot session es

-- the lines of a slot have its list, and nothing for another

own : (last slot : ℕ) (ms : List PageMsg) → list_in (slot_lines last slot ms) slot ≡ ms
own last slot [] = refl
own last slot (m ∷ ms) =
    ap (λ (b : Bool). cons_option (if b then Some m else None) (list_in (slot_lines last slot ms) slot)) (eq-eqb slot slot refl)
    ∙ ap (λ (ns : List PageMsg). m ∷ ns) (own last slot ms)

other : (last from slot : ℕ) → from ≢ slot → (ms : List PageMsg) → list_in (slot_lines last from ms) slot ≡ []
other last from slot differ [] = refl
other last from slot differ (m ∷ ms) =
    ap (λ (b : Bool). cons_option (if b then Some m else None) (list_in (slot_lines last from ms) slot)) (ne_eqb from slot differ)
    ∙ other last from slot differ ms

abbrev takes_from : ℕ → ℕ → List (List PageMsg) → List Line
takes_from last from lists = flat_map (listed_lines last) (enumerate_from from lists)

-- the slots below the first have nothing
below : (last from slot : ℕ) (lists : List (List PageMsg)) → slot < from → list_in (takes_from last from lists) slot ≡ []
below last from slot [] l = refl
below last from slot (ms ∷ lists) l =
    filter_map-append (λ (x : Line). took_in slot x.call) (slot_lines last from ms) (takes_from last (from + 1) lists)
    ∙ ap (λ (ns : List PageMsg). ns ++ list_in (takes_from last (from + 1) lists) slot) (other last from slot (λ same. omega (arith, same, l)) ms)
    ∙ below last (from + 1) slot lists (omega arith)

-- the slots above it have what stands behind the first list
above : (last from slot : ℕ) (ms : List PageMsg) (lists : List (List PageMsg)) → from < slot → list_in (takes_from last from (ms ∷ lists)) slot ≡ list_in (takes_from last (from + 1) lists) slot
above last from slot ms lists l =
    filter_map-append (λ (x : Line). took_in slot x.call) (slot_lines last from ms) (takes_from last (from + 1) lists)
    ∙ ap (λ (ns : List PageMsg). ns ++ list_in (takes_from last (from + 1) lists) slot) (other last from slot (λ same. omega (arith, same, l)) ms)

above_each : (last from start n : ℕ) (ms : List PageMsg) (lists : List (List PageMsg)) → from < start
    → map (list_in (takes_from last from (ms ∷ lists))) (count_up start n) ≡ map (list_in (takes_from last (from + 1) lists)) (count_up start n)
above_each last from start zero ms lists l = refl
above_each last from start (suc n) ms lists l =
    ap (λ (x : List PageMsg). x ∷ map (list_in (takes_from last from (ms ∷ lists))) (count_up (start + 1) n)) (above last from start ms lists l)
    ∙ ap (λ (xs : List (List PageMsg)). list_in (takes_from last (from + 1) lists) start ∷ xs) (above_each last from (start + 1) n ms lists (omega arith))

first : (last from : ℕ) (ms : List PageMsg) (lists : List (List PageMsg)) → list_in (takes_from last from (ms ∷ lists)) from ≡ ms
first last from ms lists =
    filter_map-append (λ (x : Line). took_in from x.call) (slot_lines last from ms) (takes_from last (from + 1) lists)
    ∙ ap (λ (ns : List PageMsg). ns ++ list_in (takes_from last (from + 1) lists) from) (own last from ms)
    ∙ ap (λ (ns : List PageMsg). ms ++ ns) (below last (from + 1) from lists (omega arith))
    ∙ append-nil ms

all_from : (last from : ℕ) (lists : List (List PageMsg)) → map (list_in (takes_from last from lists)) (count_up from (length lists)) ≡ lists
all_from last from [] = refl
all_from last from (ms ∷ lists) =
    ap (λ (x : List PageMsg). x ∷ map (list_in (takes_from last from (ms ∷ lists))) (count_up (from + 1) (length lists))) (first last from ms lists)
    ∙ ap (λ (xs : List (List PageMsg)). ms ∷ xs) (above_each last from (from + 1) (length lists) ms lists (omega arith) ∙ all_from last (from + 1) lists)

-- of a whole record

same_lists : (f g : ℕ → List PageMsg) → ((n : ℕ) → f n ≡ g n) → (ns : List ℕ) → map f ns ≡ map g ns
same_lists f g same [] = refl
same_lists f g same (n ∷ ns) = ap (λ (x : List PageMsg). x ∷ map f ns) (same n) ∙ ap (λ (xs : List (List PageMsg)). g n ∷ xs) (same_lists f g same ns)

pub lists_told : (session last : ℕ) (es : List Entry) (lists : List (List PageMsg)) (tail : List Line) → length lists ≡ PAGES → ((slot : ℕ) → list_in tail slot ≡ []) → lists_in (lines_of session es ++ (takes_at last lists ++ tail)) ≡ lists
lists_told session last es lists tail many none =
    same_lists (list_in (lines_of session es ++ (takes_at last lists ++ tail))) (list_in (takes_at last lists)) each (count_up 0 PAGES)
    ∙ ap (λ (n : ℕ). map (list_in (takes_at last lists)) (count_up 0 n)) (sym many)
    ∙ all_from last 0 lists
  where
    each : (slot : ℕ) → list_in (lines_of session es ++ (takes_at last lists ++ tail)) slot ≡ list_in (takes_at last lists) slot
    each slot =
        filter_map-append (λ (l : Line). took_in slot l.call) (lines_of session es) (takes_at last lists ++ tail)
        ∙ ap (λ (ms : List PageMsg). ms ++ list_in (takes_at last lists ++ tail) slot) (none_of_calls slot session es)
        ∙ filter_map-append (λ (l : Line). took_in slot l.call) (takes_at last lists) tail
        ∙ ap (λ (ms : List PageMsg). list_in (takes_at last lists) slot ++ ms) (none slot)
        ∙ append-nil (list_in (takes_at last lists) slot)
