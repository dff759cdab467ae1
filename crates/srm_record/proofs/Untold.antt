-- A record whose calls, made anew, make another record is of no run.
use Rattle.std.proofs.Common.{◌≡◌, ℕ, ◌+◌, ◌<◌, ◌≤◌, min, Bool, true, false, List, [], ◌∷◌, ◌++◌, refl, ap, sym, ◌∙◌, subst, arith, append_assoc, append-nil}
use Rattle.std.specs.Prelude.{Option, Some, None, unwrap_or, slice_get, if◌then◌else◌}
use Rattle.std.specs.List.{AllByRecursion, flat_map, enumerate_from}
use Rattle.rand_pcg.specs.Lcg.{Lcg}
use Rattle.rand_pcg.specs.Pcg.{pcg64}
use Rattle.srm_names.specs.declared.limits.TheConstants.{LATEST_MOMENT}
use Rattle.srm_names.specs.declared.page_msg.PageMsg.{PageMsg}
use Rattle.srm_names.specs.Histories.{last_of, or_else}
use Rattle.srm_names.proofs.Snoc.{or_else-none}
use Rattle.srm_timers.specs.Seeds.{words_of}
use Rattle.srm_entries.specs.declared.entry.Entry.{Entry}
use Rattle.srm_world.specs.declared.start.Start.{Start}
use Rattle.srm_world.specs.Traces.{Journal}
use Rattle.srm_world.specs.Claims.{IsLawfulJournal}
use Rattle.srm_world.specs.WaitWords.{AreByWords}
use Rattle.srm_replays.specs.Calls.{acts}
use Rattle.srm_replays.specs.Law.{acting, IsRunByWords}
use Rattle.srm_replays.proofs.Replaying.{kept, dropped}
use Rattle.srm_frames.specs.declared.beginning.Beginning.{Beginning}
use Rattle.srm_frames.specs.declared.line.Line.{Line}
use Rattle.srm_frames.specs.declared.line.Call.{Call}
use Rattle.srm_frames.specs.declared.line.Call.TheVariants as calls
use Rattle.srm_frames.specs.declared.reading.Record.{Record}
use Rattle.srm_frames.specs.declared.reading.RecordEnd.{RecordEnd}
use Rattle.srm_frames.specs.declared.reading.RecordEnd.TheVariants.{Whole, Cut}
use Rattle.srm_frames.specs.WhatIsRead.{IsLine}
use Rattle.srm_record.specs.Calls.{lines_of, moment_of_acting, last_recorded}
use Rattle.srm_record.specs.Takes.{slot_lines, listed_lines, takes_at, end_at, list_in, lists_in}
use Rattle.srm_record.specs.Making.{Makes, MakesAll}
use Rattle.srm_record.specs.Differing.{IsFirstOther}
use Rattle.srm_record.specs.Faults.{begun, IsUntoldFrom}
use Rattle.srm_record.specs.Replays.{start_of, lines_told, IsOfNoRun, TellsOfRuns}
use Rattle.srm_record.proofs.Remade.{lines_by_acting, from_start}
use Rattle.srm_record.proofs.Taken.{lists_told}

-- the last moment by the calls that act alone

last_by_acting : (es : List Entry) → last_of moment_of_acting es ≡ last_of moment_of_acting (acting es)
last_by_acting [] = refl
last_by_acting (e ∷ es) = go (acts e) refl (last_by_acting es)
  where
    go : (b : Bool) → acts e ≡ b → last_of moment_of_acting es ≡ last_of moment_of_acting (acting es) → last_of moment_of_acting (e ∷ es) ≡ last_of moment_of_acting (acting (e ∷ es))
    go true q more = ap (λ (o : Option ℕ). or_else o (moment_of_acting e)) more ∙ sym (ap (last_of moment_of_acting) (kept acts e es q))
    go false q more =
        ap (λ (b : Bool). or_else (last_of moment_of_acting es) (if b then Some e.moment else None)) q ∙ or_else-none (last_of moment_of_acting es) ∙ more
        ∙ sym (ap (last_of moment_of_acting) (dropped acts e es q))

same_lines : (session : ℕ) (es fs : List Entry) → acting fs ≡ acting es → lines_of session fs ≡ lines_of session es
same_lines session es fs same = lines_by_acting session fs ∙ ap (lines_of session) same ∙ sym (lines_by_acting session es)

same_last : (made : ℕ) (es fs : List Entry) → acting fs ≡ acting es → last_recorded made fs ≡ last_recorded made es
same_last made es fs same = ap (λ (o : Option ℕ). unwrap_or o made) (last_by_acting fs ∙ ap (last_of moment_of_acting) same ∙ sym (last_by_acting es))

-- the lines behind the calls make none

abbrev end_of : ℕ → RecordEnd → List Line
end_of last Whole = end_at last ∷ []
end_of last (Cut left) = []

abbrev is_over : Call → Bool
is_over (calls.Took slot message) = true
is_over calls.Ended = true
is_over _ = false

abbrev AreOver : List Line → Type 0
AreOver ls = AllByRecursion (λ (l : Line). is_over l.call ≡ true) ls

over_both : (xs ys : List Line) → AreOver xs → AreOver ys → AreOver (xs ++ ys)
over_both [] ys all more = more
over_both (x ∷ xs) ys all more = (all.0, over_both xs ys all.1 more)

over_slot : (last slot : ℕ) (ms : List PageMsg) → AreOver (slot_lines last slot ms)
over_slot last slot [] = tt
over_slot last slot (m ∷ ms) = (refl, over_slot last slot ms)

over_takes : (last from : ℕ) (lists : List (List PageMsg)) → AreOver (flat_map (listed_lines last) (enumerate_from from lists))
over_takes last from [] = tt
over_takes last from (ms ∷ lists) = over_both (slot_lines last from ms) (flat_map (listed_lines last) (enumerate_from (from + 1) lists)) (over_slot last from ms) (over_takes last (from + 1) lists)

over_end : (last : ℕ) (end : RecordEnd) → AreOver (end_of last end)
over_end last Whole = (refl, tt)
over_end last (Cut left) = tt

none_taken : (last : ℕ) (end : RecordEnd) (slot : ℕ) → list_in (end_of last end) slot ≡ []
none_taken last Whole slot = refl
none_taken last (Cut left) slot = refl

still : (now : ℕ) (call : Call) (j k : Journal) → is_over call ≡ true → Makes now call j k → k ≡ j
still now (calls.Took slot message) j k over makes = makes
still now calls.Ended j k over makes = makes
still now (calls.Drew page body) j k over makes = absurd (cc)
still now (calls.Heard bytes) j k over makes = absurd (cc)
still now calls.Ticked j k over makes = absurd (cc)
still now (calls.Showed page) j k over makes = absurd (cc)
still now calls.AskedLeave j k over makes = absurd (cc)
still now (calls.Gave slot) j k over makes = absurd (cc)

all_still : (ls : List Line) (j k : Journal) → AreOver ls → MakesAll ls j k → k ≡ j
all_still [] j k over makes = makes
all_still (l ∷ ls) j k over (mid, first, rest) = all_still ls mid k over.1 rest ∙ still (min l.moment LATEST_MOMENT) l.call j mid over.0 first

front_made : (xs ys : List Line) (j k : Journal) → AreOver ys → MakesAll (xs ++ ys) j k → MakesAll xs j k
front_made [] ys j k over makes = all_still ys j k over makes
front_made (x ∷ xs) ys j k over (mid, first, rest) = (mid, first, front_made xs ys mid k over rest)

front : (xs ys : List Line) → AllByRecursion IsLine (xs ++ ys) → AllByRecursion IsLine xs
front [] ys all = tt
front (x ∷ xs) ys all = (all.0, front xs ys all.1)

-- the lines of a record, in parts
told_parts : (b : Beginning) (es : List Entry) (lists : List (List PageMsg)) (end : RecordEnd)
    → lines_told b es lists end ≡ lines_of b.config.session es ++ (takes_at (last_recorded b.made es) lists ++ end_of (last_recorded b.made es) end)
told_parts b es lists Whole = append_assoc (lines_of b.config.session es) (takes_at (last_recorded b.made es) lists) (end_at (last_recorded b.made es) ∷ [])
told_parts b es lists (Cut left) = ap (λ (ls : List Line). lines_of b.config.session es ++ ls) (sym (append-nil (takes_at (last_recorded b.made es) lists)))

-- the lines told of what acts
told_again : (b : Beginning) (es fs : List Entry) (lists more : List (List PageMsg)) (end : RecordEnd) → acting fs ≡ acting es → more ≡ lists → lines_told b fs more end ≡ lines_told b es lists end
told_again b es fs lists more end same also =
    told_parts b fs more end
    ∙ ap (λ (ls : List Line). ls ++ (takes_at (last_recorded b.made fs) more ++ end_of (last_recorded b.made fs) end)) (same_lines b.config.session es fs same)
    ∙ ap (λ (n : ℕ). lines_of b.config.session es ++ (takes_at n more ++ end_of n end)) (same_last b.made es fs same)
    ∙ ap (λ (ms : List (List PageMsg)). lines_of b.config.session es ++ (takes_at (last_recorded b.made es) ms ++ end_of (last_recorded b.made es) end)) also
    ∙ sym (told_parts b es lists end)

-- a run of the record, by the random numbers of the seed
run_of : (b : Beginning) (j : Journal) → j.start ≡ start_of b → IsLawfulJournal j → ((to : Lcg) × AreByWords pcg64 j.start.config (words_of b.seed) j.entries to) → IsRunByWords pcg64 b.config b.made (words_of b.seed) j.entries
run_of b j start lawful (to, words) =
    subst (λ (s : Start). IsRunByWords pcg64 s.config s.made (words_of b.seed) j.entries) start (record { run = lawful.run; to = to; words = words })

pub tells_of_runs : (r : Record) (k : Journal) (lists : List (List PageMsg)) → k.start ≡ start_of r.beginning → IsLawfulJournal k → ((to : Lcg) × AreByWords pcg64 k.start.config (words_of r.beginning.seed) k.entries to)
    → lists ≡ lists_in r.lines.items → MakesAll r.lines.items (record { start = start_of r.beginning; entries = [] }) k → TellsOfRuns r k lists
tells_of_runs r k lists start lawful words all makes spelled j took of =
    let b = r.beginning in
    let last = last_recorded b.made j.entries in
    let tail : List Line = takes_at last took ++ end_of last r.end in
    let parts : r.lines.items ≡ lines_of b.config.session j.entries ++ tail = of.lines ∙ told_parts b j.entries took r.end in
    let over : AreOver tail = over_both (takes_at last took) (end_of last r.end) (over_takes last 0 took) (over_end last r.end) in
    let made : MakesAll (lines_of b.config.session j.entries) (record { start = start_of b; entries = [] }) k =
    front_made (lines_of b.config.session j.entries) tail (record { start = start_of b; entries = [] }) k over (subst (λ (ls : List Line). MakesAll ls (record { start = start_of b; entries = [] }) k) parts makes) in
    let fit : AllByRecursion IsLine (lines_of b.config.session j.entries) = front (lines_of b.config.session j.entries) tail (subst (AllByRecursion IsLine) parts spelled.lines) in
    let same : acting k.entries ≡ acting j.entries =
    from_start pcg64 (words_of b.seed) b.config.session j.entries (record { start = start_of b; entries = [] }) k refl refl spelled.beginning.session spelled.beginning.config.in_roster
    (run_of b j of.start of.lawful of.words) (run_of b k start lawful words) fit made in
    (same, all ∙ ap lists_in parts ∙ lists_told b.config.session last j.entries took (end_of last r.end) of.slots (none_taken last r.end))

untold : (r : Record) (k : Journal) (lists : List (List PageMsg)) → k.start ≡ start_of r.beginning → IsLawfulJournal k → ((to : Lcg) × AreByWords pcg64 k.start.config (words_of r.beginning.seed) k.entries to)
    → lists ≡ lists_in r.lines.items → MakesAll r.lines.items (begun r) k → (r.lines.items ≡ lines_told r.beginning k.entries lists r.end → ⊥) → IsOfNoRun r
untold r k lists start lawful words all makes another spelled j took of =
    let same = tells_of_runs r k lists start lawful words all makes spelled j took of in
    another (of.lines ∙ sym (told_again r.beginning j.entries k.entries took lists r.end same.0 same.1))

-- lists that first differ somewhere aren't the same
differs : (lines wanted : List Line) (place : ℕ) → IsFirstOther lines wanted place → lines ≡ wanted → ⊥
differs lines wanted place first same = first.other (ap (λ (ls : List Line). slice_get ls place) same)

-- and from which line on it is another
pub untold_from : (r : Record) (place : ℕ) (k : Journal) (lists : List (List PageMsg)) → r.beginning.made ≤ LATEST_MOMENT → k.start ≡ start_of r.beginning → IsLawfulJournal k → ((to : Lcg) × AreByWords pcg64 k.start.config (words_of r.beginning.seed) k.entries to)
    → lists ≡ lists_in r.lines.items → MakesAll r.lines.items (begun r) k → IsFirstOther r.lines.items (lines_told r.beginning k.entries lists r.end) place → IsUntoldFrom r place
untold_from r place k lists made start lawful words all makes first = record {
  of_none = untold r k lists start lawful words all makes (differs r.lines.items (lines_told r.beginning k.entries lists r.end) place first);
  differs = λ _. record {
    journal = k;
    start = start;
    lawful = lawful;
    words = words;
    made = makes;
    first = subst (λ (ls : List (List PageMsg)). IsFirstOther r.lines.items (lines_told r.beginning k.entries ls r.end) place) all first;
  };
  late = λ after. absurd (omega (arith, made, after));
}

-- a member can't have been made then
pub made_too_late : (r : Record) → LATEST_MOMENT < r.beginning.made → IsUntoldFrom r 0
made_too_late r after = record {
  of_none = λ spelled j took of. let made : r.beginning.made ≤ LATEST_MOMENT = spelled.beginning.made in absurd (omega (arith, made, after));
  differs = λ made. absurd (omega (arith, made, after));
  late = λ _. refl;
}
