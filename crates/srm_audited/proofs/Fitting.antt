-- Each line of a run's record has a frame, and each message that was given has a spelling.
use Rattle.std.proofs.Common.{◌≡◌, ℕ, suc, ◌+◌, ◌<◌, ◌≤◌, ◌^◌, ◌==◌, Bool, true, false, ◌&&◌, List, [], ◌∷◌, ◌++◌, length, refl, sym, subst, arith, inl, inr, lit<, map}
use Rattle.std.specs.Prelude.{Option, Some, None, IfSome, slice_get, option_to_list, if◌then◌else◌, nat_lt, nat_le, not, unwrap_or}
use Rattle.std.specs.List.{AllByRecursion, flat_map, cons_option, list_any, enumerate_from}
use Rattle.std.proofs.lemmas.Bool.{and_parts, eqb-true, ltb-false, leb-false}
use Rattle.srm_names.specs.declared.limits.TheConstants.{LATEST_MOMENT, LONGEST_BODY, MEMBERS, PAGES, DRAWOPS}
use Rattle.srm_names.specs.declared.page.Page.{Page}
use Rattle.srm_names.specs.declared.drawop.Drawop.{Drawop}
use Rattle.srm_names.specs.declared.page_msg.PageMsg.{PageMsg}
use Rattle.srm_names.specs.declared.page_msg.PageMsg.TheVariants as messages
use Rattle.srm_names.specs.FullName.{FullName}
use Rattle.srm_codec.specs.declared.datagram.Datagram.{Datagram}
use Rattle.srm_codec.specs.declared.datagram.Datagram.TheVariants.{Data, Request, Repair, Session}
use Rattle.srm_codec.specs.Spelling.{is_page, is_name, is_drawop, is_farewell, names_in, name_bytes, sender_of, length_of, page_bytes, IsSpellable}
use Rattle.srm_codec.proofs.Lengths.{length-spelling}
use Rattle.srm_entries.specs.Configs.{Config}
use Rattle.srm_entries.specs.declared.entry.Entry.{Entry}
use Rattle.srm_entries.specs.declared.entry.Input.{Input}
use Rattle.srm_entries.specs.declared.entry.Input.TheVariants.{Drew, Heard, Noise, Ticked, Showed, AskedLeave, Gave, Took}
use Rattle.srm_entries.specs.declared.entry.Verdict.{Verdict}
use Rattle.srm_entries.specs.declared.entry.Verdict.TheVariants.{Done, Ignored, Refused}
use Rattle.srm_entries.specs.declared.fault.AgentFault.{AgentFault}
use Rattle.srm_entries.specs.declared.fault.AgentFault.TheVariants as faults
use Rattle.srm_entries.specs.Entries.{accepted, done, done_input, heard_in, drawops_in, held, held_by, is_gone, is_leaving, pages_in, slots, state}
use Rattle.srm_entries.specs.Verdicts.{VerdictRight, drawn_in, first_cause, lacks_slots_for, settling_of, settlings, verdict_of}
use Rattle.srm_entries.specs.Runs.{EntryRight, expected_drawop}
use Rattle.srm_names.specs.Histories.{steps_after, IsPrefix, or_else, firsts, last_of}
use Rattle.srm_names.specs.PageFeeds.{drawops_of, leaves}
use Rattle.srm_names.specs.declared.stream.Stream.{Stream}
use Rattle.srm_names.specs.Names.{first_page, named, same_page, stream_on}
use Rattle.srm_names.proofs.Lists.{Has, All-Has, Has-filter, Has-flat_map, find-Has, slice_get-Has, until_none-at, AllByRecursion-append, AllByRecursion-parts, AllByRecursion-snoc}
use Rattle.srm_store.specs.Finals.{Settling, rows_of, final_in}
use Rattle.srm_store.specs.Held as store
use Rattle.srm_entries.specs.Giving.{given, given_in, is_some_of, may_leave, next_drawop, GivesAfter, MessageRight}
use Rattle.srm_replays.specs.Calls.{acts, acts_by, is_done}
use Rattle.srm_frames.specs.Messages.{message_text}
use Rattle.srm_frames.specs.WhatIsRead.{IsLine, IsMessage}
use Rattle.srm_record.specs.Calls.{call_of, at_moment, line_of, lines_of, moment_of_acting, last_recorded}
use Rattle.srm_record.specs.Takes.{slot_lines, listed_lines, takes_at}
use Rattle.srm_world.specs.Traces.{CanBeHanded, IsHandable}

-- a call that acts is done
done_acts : (v : Verdict) (b : Bool) → (is_done v && b) ≡ true → v ≡ Done
done_acts Done b e = refl
done_acts (Ignored cause) b e = absurd cc
done_acts (Refused fault) b e = absurd cc

-- a draw that is done is refused for none of the five
drawing_passes : (a b d f g : Bool) (v w x y z : AgentFault) → Done ≡ first_cause ((a, Refused v) ∷ (b, Refused w) ∷ (d, Refused x) ∷ (f, Refused y) ∷ (g, Refused z) ∷ []) → (d ≡ false) × (g ≡ false)
drawing_passes true b d f g v w x y z e = absurd cc
drawing_passes false true d f g v w x y z e = absurd cc
drawing_passes false false true f g v w x y z e = absurd cc
drawing_passes false false false true g v w x y z e = absurd cc
drawing_passes false false false false true v w x y z e = absurd cc
drawing_passes false false false false false v w x y z e = (refl, refl)

-- its body is no longer than a body may be, and its stream isn't full
record Draws (c : Config) (before : List Entry) (page : Page) (body : List ℕ) : Type 0 where
  short : length body ≤ LONGEST_BODY
  room : drawn_in before (stream_on c.me page) < DRAWOPS

draws : (c : Config) (before : List Entry) (page : Page) (body : List ℕ) → Done ≡ verdict_of c before (Drew page body) → Draws c before page body
draws c before page body right =
    let k = drawing_passes (is_gone (state before)) (is_leaving (state before)) (nat_lt LONGEST_BODY (length body)) (lacks_slots_for before (page ∷ [])) (nat_le DRAWOPS (drawn_in before (stream_on c.me page)))
    faults.Gone faults.Leaving faults.BodyLong faults.PageLimit faults.StreamFull right in
    record { short = ltb-false LONGEST_BODY (length body) k.0; room = leb-false DRAWOPS (drawn_in before (stream_on c.me page)) k.1 }

-- a datagram that has a spelling is short
short : (g : Datagram) → IsSpellable g → length_of g < 2 ^ 32
short (Data d) s = omega (arith, s.2)
short (Request sender name mask) s = go (mask == 0)
  where
    go : (b : Bool) → (if b then 17 else 21) < 2 ^ 32
    go true = omega arith
    go false = omega arith
short (Repair sender d) s = omega (arith, s.1.2)
short (Session sender sent farewell shown rows echoes) s = omega (arith, s.3.few, s.4.few)

done_fits : (c : Config) (before : List Entry) (session moment : ℕ) (i : Input) → VerdictRight c before i Done → IfSome (heard_in (Some i)) IsSpellable → moment ≤ LATEST_MOMENT → CanBeHanded i
    → IfSome (at_moment moment (call_of session i)) IsLine
unfolding page_bytes
done_fits c before session moment (Drew page body) right read m can =
    let d = draws c before page body right in record { moment = m; call = can; size = omega (arith, d.short) }
done_fits c before session moment (Heard g) right read m can = record { moment = m; call = tt; size = subst (λ n. n < 2 ^ 32) (length-spelling session g) (short g read) }
done_fits c before session moment Noise right read m can = tt
done_fits c before session moment Ticked right read m can = record { moment = m; call = tt; size = omega arith }
done_fits c before session moment (Showed page) right read m can = record { moment = m; call = can; size = omega arith }
done_fits c before session moment AskedLeave right read m can = record { moment = m; call = tt; size = omega arith }
done_fits c before session moment (Gave slot) right read m can = record { moment = m; call = can; size = omega arith }
done_fits c before session moment (Took slot) right read m can = tt

-- the line of a call, if it has one, has a frame
line_fits : (c : Config) (made session : ℕ) (before : List Entry) (e : Entry) → EntryRight c made (record { before = before; this = e }) → IsHandable e → IfSome (line_of session e) IsLine
line_fits c made session before e right can = go (acts e) refl
  where
    go : (b : Bool) → acts e ≡ b → IfSome (if b then at_moment e.moment (call_of session e.input) else None) IsLine
    go true q =
        let is : e.verdict ≡ Done = done_acts e.verdict (acts_by e.input e.effects) q in
        done_fits c before session e.moment e.input (subst (VerdictRight c before e.input) is right.verdict)
        (subst (λ (v : Verdict). IfSome (heard_in (done_input v e.input)) IsSpellable) is right.read) can.moment can.input
    go false q = tt

consed : {X : Type 0} (P : X → Type 0) (o : Option X) (xs : List X) → IfSome o P → AllByRecursion P xs → AllByRecursion P (cons_option o xs)
consed P None xs here all = all
consed P (Some x) xs here all = (here, all)

pub lines_fit : (c : Config) (made session : ℕ) (before es : List Entry) → AllByRecursion (EntryRight c made) (steps_after before es) → AllByRecursion IsHandable es → AllByRecursion IsLine (lines_of session es)
lines_fit c made session before [] right can = tt
lines_fit c made session before (e ∷ es) right can =
    consed IsLine (line_of session e) (lines_of session es) (line_fits c made session before e right.0 can.0) (lines_fit c made session (before ++ e ∷ []) es right.1 can.1)

-- ---- what a run names has a spelling

-- a source, a page and a drawop of an entry
record IsNamed (e : Entry) : Type 0 where
  pages : AllByRecursion is_page (pages_in (done e))
  held : AllByRecursion is_drawop (held_by e)
  left : IfSome (settling_of (accepted e)) (λ (s : Settling). s.member < MEMBERS)

names_spelled : (g : Datagram) → IsSpellable g → AllByRecursion is_name (names_in g)
names_spelled (Data d) s = (s.0, tt)
names_spelled (Request sender name mask) s = s.2
names_spelled (Repair sender d) s = (s.1.0, tt)
names_spelled (Session sender sent farewell shown rows echoes) s = s.3.names

pages_of : (ns : List FullName) → AllByRecursion is_name ns → AllByRecursion is_page (map (λ n. n.stream.page) ns)
pages_of [] all = tt
pages_of (n ∷ ns) all = (all.0.1, pages_of ns all.1)

pages_named : (v : Verdict) (i : Input) → IfSome (heard_in (done_input v i)) IsSpellable → CanBeHanded i → AllByRecursion is_page (pages_in (done_input v i))
pages_named (Ignored cause) i read can = tt
pages_named (Refused fault) i read can = tt
pages_named Done (Drew page body) read can = (can, tt)
pages_named Done (Heard g) read can = pages_of (names_in g) (names_spelled g read)
pages_named Done Noise read can = tt
pages_named Done Ticked read can = tt
pages_named Done (Showed page) read can = (can, tt)
pages_named Done AskedLeave read can = tt
pages_named Done (Gave slot) read can = tt
pages_named Done (Took slot) read can = tt

drawn_named : (c : Config) (before : List Entry) (moment : ℕ) (v : Verdict) (i : Input) → c.me < MEMBERS → VerdictRight c before i v → moment ≤ LATEST_MOMENT → CanBeHanded i
    → AllByRecursion is_drawop (option_to_list (expected_drawop c before moment (done_input v i)))
drawn_named c before moment (Ignored cause) i me right m can = tt
drawn_named c before moment (Refused fault) i me right m can = tt
drawn_named c before moment Done (Drew page body) me right m can =
    let d = draws c before page body right in (((me, can, omega arith, omega (arith, d.room)), m, d.short), tt)
drawn_named c before moment Done (Heard g) me right m can = tt
drawn_named c before moment Done Noise me right m can = tt
drawn_named c before moment Done Ticked me right m can = tt
drawn_named c before moment Done (Showed page) me right m can = tt
drawn_named c before moment Done AskedLeave me right m can = tt
drawn_named c before moment Done (Gave slot) me right m can = tt
drawn_named c before moment Done (Took slot) me right m can = tt

heard_named : (o : Option Datagram) → IfSome o IsSpellable → AllByRecursion is_drawop (drawops_in o)
heard_named None s = tt
heard_named (Some (Data d)) s = (s, tt)
heard_named (Some (Request sender name mask)) s = tt
heard_named (Some (Repair sender d)) s = (s.1, tt)
heard_named (Some (Session sender sent farewell shown rows echoes)) s = tt

sender_named : (g : Datagram) → IsSpellable g → sender_of g < MEMBERS
sender_named (Data d) s = s.0.0
sender_named (Request sender name mask) s = s.0
sender_named (Repair sender d) s = s.0
sender_named (Session sender sent farewell shown rows echoes) s = s.0

left_named : (o : Option Datagram) → IfSome o IsSpellable → IfSome (settling_of o) (λ (s : Settling). s.member < MEMBERS)
left_named None s = tt
left_named (Some g) s = go (is_farewell g)
  where
    go : (b : Bool) → IfSome (if b then Some (record { member = sender_of g; rows = names_in g }) else None) (λ (s : Settling). s.member < MEMBERS)
    go true = sender_named g s
    go false = tt

entry_named : (c : Config) (made : ℕ) (before : List Entry) (e : Entry) → c.me < MEMBERS → EntryRight c made (record { before = before; this = e }) → IsHandable e → IsNamed e
entry_named c made before e me right can = record {
  pages = pages_named e.verdict e.input right.read can.input;
  held =
      AllByRecursion-append is_drawop (option_to_list e.effects.drawn) (drawops_in (accepted e))
      (subst (λ (o : Option Drawop). AllByRecursion is_drawop (option_to_list o)) (sym right.drawn) (drawn_named c before e.moment e.verdict e.input me right.verdict can.moment can.input))
      (heard_named (accepted e) right.read);
  left = left_named (accepted e) right.read;
}

all_named : (c : Config) (made : ℕ) (before es : List Entry) → c.me < MEMBERS → AllByRecursion (EntryRight c made) (steps_after before es) → AllByRecursion IsHandable es → AllByRecursion IsNamed es
all_named c made before [] me right can = tt
all_named c made before (e ∷ es) me right can = (entry_named c made before e me right.0 can.0, all_named c made (before ++ e ∷ []) es me right.1 can.1)

-- ---- what is given

of_firsts : (p : Page) (pages : List Page) → Has p (firsts same_page pages) → Has p pages
of_firsts p [] h = absurd h
of_firsts p (q ∷ pages) (inl e) = inl e
of_firsts p (q ∷ pages) (inr h) = inr (of_firsts p pages (Has-filter (λ y. not (same_page q y)) p (firsts same_page pages) h))

page_there : (es : List Entry) (p : Page) → AllByRecursion IsNamed es → Has p (slots es) → is_page p
page_there es p all h = elim (of_firsts p (first_page ∷ flat_map (λ e. pages_in (done e)) es) h) [
  | inl e ↦ subst is_page (sym e) (lit< tt, lit< tt)
  | inr k ↦ (let (e, here, m) = Has-flat_map (λ e. pages_in (done e)) p es k in All-Has is_page p (pages_in (done e)) (All-Has IsNamed e es all here).pages m)
]

drawop_there : (es : List Entry) (page : Page) (before : List PageMsg) (source : ℕ) (d : Drawop) → AllByRecursion IsNamed es → next_drawop es page before source ≡ Some d → is_drawop d
drawop_there es page before source d all next =
    let s = stream_on source page in
    let k = until_none-at (λ k. store.held_at (held es) (named s k)) 1 (store.greatest_in (map (λ (x : Drawop). x.name) (held es)) s) (length (drawops_of source before)) d next in
    let h = find-Has (store.has_name (named s (1 + length (drawops_of source before)))) (held es) d k.0 in
    let (e, here, m) = Has-flat_map held_by d es h.0 in
    All-Has is_drawop d (held_by e) (All-Has IsNamed e es all here).held m

settled_named : (es : List Entry) → AllByRecursion IsNamed es → AllByRecursion (λ (s : Settling). s.member < MEMBERS) (settlings es)
settled_named [] all = tt
settled_named (e ∷ es) all = consed (λ (s : Settling). s.member < MEMBERS) (settling_of (accepted e)) (settlings es) all.0.left (settled_named es all.1)

source_settled : (settled : List Settling) (source n : ℕ) (s : Stream) → AllByRecursion (λ (x : Settling). x.member < MEMBERS) settled → is_some_of n (final_in (rows_of settled source) s) ≡ true → source < MEMBERS
source_settled [] source n s all e = absurd cc
source_settled (x ∷ xs) source n s all e = go (x.member == source) refl (source_settled xs source n s all.1) e
  where
    go : (b : Bool) → (x.member == source) ≡ b → (is_some_of n (final_in (rows_of xs source) s) ≡ true → source < MEMBERS)
        → is_some_of n (final_in (or_else (if b then Some x.rows else None) (rows_of xs source)) s) ≡ true → source < MEMBERS
    go true q more f = subst (λ m. m < MEMBERS) (eqb-true x.member source q) all.0
    go false q more f = more f

source_there : (es : List Entry) (page : Page) (before : List PageMsg) (source : ℕ) → AllByRecursion IsNamed es → may_leave es page before source ≡ true → source < MEMBERS
source_there es page before source all leaves_so =
    source_settled (settlings es) source (length (drawops_of source before)) (stream_on source page) (settled_named es all) (and_parts _ (not (list_any (leaves source) before)) leaves_so).0

-- the message stands in a record, and a frame has room for it
record MessageFits (m : PageMsg) : Type 0 where
  is : IsMessage m
  short : length (message_text m) ≤ 2000

drawop_fits : (d : Drawop) → is_drawop d → MessageFits (messages.Draw d)
unfolding name_bytes page_bytes
drawop_fits d is = record { is = (is.0, is.1); short = omega (arith, is.2) }

page_fits : (page : Page) → is_page page → MessageFits (messages.Open page)
unfolding page_bytes
page_fits page is = record { is = is; short = omega arith }

message_fits : (c : Config) (es : List Entry) (before : List PageMsg) (o : Option Page) (message : Option PageMsg) → AllByRecursion IsNamed es → IfSome o is_page → GivesAfter c es before o message
    → IfSome message MessageFits
message_fits c es before o None all at gives = tt
message_fits c es before None (Some (messages.Open p)) all at gives = absurd gives
message_fits c es before (Some page) (Some (messages.Open p)) all at gives = page_fits p (subst is_page (sym gives.0) at)
message_fits c es before None (Some (messages.Draw d)) all at gives = absurd gives
message_fits c es before (Some page) (Some (messages.Draw d)) all at gives = drawop_fits d (drawop_there es page before d.name.stream.source d all gives.2)
message_fits c es before None (Some (messages.Left m)) all at gives = absurd gives
message_fits c es before (Some page) (Some (messages.Left m)) all at gives = record { is = source_there es page before m all gives.2; short = omega arith }
message_fits c es before o (Some messages.Close) all at gives = record { is = tt; short = omega arith }

slot_named : (es : List Entry) (j : ℕ) → AllByRecursion IsNamed es → IfSome (slice_get (slots es) j) is_page
slot_named es j all = go (slice_get (slots es) j) refl
  where
    go : (o : Option Page) → slice_get (slots es) j ≡ o → IfSome o is_page
    go None e = tt
    go (Some page) e = page_there es page all (slice_get-Has (slots es) j page e)

given_fits : (c : Config) (before : List Entry) (j : ℕ) (i : Input) (message : Option PageMsg) → AllByRecursion IsNamed before → MessageRight c before i message → IfSome (given_in j i message) MessageFits
given_fits c before j (Drew page body) message all right = tt
given_fits c before j (Heard g) message all right = tt
given_fits c before j Noise message all right = tt
given_fits c before j Ticked message all right = tt
given_fits c before j (Showed page) message all right = tt
given_fits c before j AskedLeave message all right = tt
given_fits c before j (Gave slot) message all right = go (j == slot)
  where
    go : (b : Bool) → IfSome (if b then message else None) MessageFits
    go true = message_fits c before (given before slot) (slice_get (slots before) slot) message all (slot_named before slot all) right
    go false = tt
given_fits c before j (Took slot) message all right = tt

all_given : (c : Config) (made : ℕ) (before es : List Entry) (j : ℕ) → AllByRecursion (EntryRight c made) (steps_after before es) → AllByRecursion IsNamed before → AllByRecursion IsNamed es
    → AllByRecursion MessageFits (given es j)
all_given c made before [] j right known all = tt
all_given c made before (e ∷ es) j right known all =
    consed MessageFits (given_in j e.input e.effects.message) (given es j) (given_fits c before j e.input e.effects.message known right.0.message)
    (all_given c made (before ++ e ∷ []) es j right.1 (AllByRecursion-snoc IsNamed before e known all.0) all.1)

-- ---- what was taken

take_fits : (last slot : ℕ) (ms : List PageMsg) → last ≤ LATEST_MOMENT → slot < PAGES → AllByRecursion MessageFits ms → AllByRecursion IsLine (slot_lines last slot ms)
take_fits last slot [] m there all = tt
take_fits last slot (x ∷ ms) m there all = (record { moment = m; call = (there, all.0.is); size = omega (arith, all.0.short) }, take_fits last slot ms m there all.1)

takes_from_fit : (es : List Entry) (last from : ℕ) (lists : List (List PageMsg)) → last ≤ LATEST_MOMENT → from + length lists ≤ PAGES → ((j : ℕ) → AllByRecursion MessageFits (given es j))
    → ((k : ℕ) (list : List PageMsg) → slice_get lists k ≡ Some list → IsPrefix list (given es (from + k))) → AllByRecursion IsLine (flat_map (listed_lines last) (enumerate_from from lists))
takes_from_fit es last from [] m few all taken = tt
takes_from_fit es last from (ms ∷ lists) m few all taken =
    AllByRecursion-append IsLine (slot_lines last from ms) (flat_map (listed_lines last) (enumerate_from (from + 1) lists))
    (take_fits last from ms m (omega arith) (AllByRecursion-parts MessageFits ms here.0 (subst (AllByRecursion MessageFits) (sym here.1) (all (from + 0)))).0)
    (takes_from_fit es last (from + 1) lists m (omega arith) all (λ k list at. subst (λ n. IsPrefix list (given es n)) (omega arith) (taken (suc k) list at)))
  where
    here : IsPrefix ms (given es (from + 0))
    here = taken 0 ms refl

pub takes_fit : (c : Config) (made : ℕ) (es : List Entry) (last : ℕ) (lists : List (List PageMsg)) → c.me < MEMBERS → AllByRecursion (EntryRight c made) (steps_after [] es) → AllByRecursion IsHandable es → last ≤ LATEST_MOMENT
    → length lists ≡ PAGES → ((slot : ℕ) (list : List PageMsg) → slice_get lists slot ≡ Some list → IsPrefix list (given es slot)) → AllByRecursion IsLine (takes_at last lists)
takes_fit c made es last lists me right can m slots_so taken =
    takes_from_fit es last 0 lists m (omega (arith, slots_so)) (λ j. all_given c made [] es j right tt (all_named c made [] es me right can))
    (λ k list at. subst (λ n. IsPrefix list (given es n)) (omega arith) (taken k list at))

-- the last moment of a record is one of a clock

last_acting : (es : List Entry) → AllByRecursion IsHandable es → IfSome (last_of moment_of_acting es) (λ m. m ≤ LATEST_MOMENT)
last_acting [] can = tt
last_acting (e ∷ es) can = go (last_of moment_of_acting es) (acts e) (last_acting es can.1)
  where
    go : (o : Option ℕ) (b : Bool) → IfSome o (λ m. m ≤ LATEST_MOMENT) → IfSome (or_else o (if b then Some e.moment else None)) (λ m. m ≤ LATEST_MOMENT)
    go None true l = can.0.moment
    go None false l = tt
    go (Some m) b l = l

pub last_fits : (made : ℕ) (es : List Entry) → made ≤ LATEST_MOMENT → AllByRecursion IsHandable es → last_recorded made es ≤ LATEST_MOMENT
last_fits made es low can = go (last_of moment_of_acting es) (last_acting es can)
  where
    go : (o : Option ℕ) → IfSome o (λ m. m ≤ LATEST_MOMENT) → unwrap_or o made ≤ LATEST_MOMENT
    go None l = low
    go (Some m) l = l
