-- Entries without timers, of a member that misses nothing: for examples of runs.
use Rattle.std.proofs.Common.{◌≡◌, ℕ, ◌==◌, ◌<◌, Bool, true, false, not, ◌&&◌, ◌||◌, List, [], ◌∷◌, ◌++◌, refl, ap, sym, ◌∙◌, subst, arith, lit<, lit≤}
use Rattle.std.specs.Prelude.{Option, Some, None, IfSome, is_some, nat_le, if◌then◌else◌}
use Rattle.std.specs.Bool.{OnTrue}
use Rattle.std.specs.List.{list_any, AllByRecursion}
use Rattle.std.proofs.lemmas.Bool.Decides.{nat_tests}
use Rattle.srm_names.specs.declared.stream.Stream.{Stream}
use Rattle.srm_names.specs.declared.drawop.Drawop.{Drawop}
use Rattle.srm_names.specs.declared.page_msg.PageMsg.{PageMsg}
use Rattle.srm_names.specs.FullName.{FullName}
use Rattle.srm_names.specs.Histories.{IsPrefix, greatest}
use Rattle.srm_names.specs.Names.{named, same_stream, first_page}
use Rattle.srm_names.proofs.Same.{same_stream-is}
use Rattle.srm_codec.specs.declared.datagram.Datagram.{Datagram}
use Rattle.srm_codec.specs.declared.datagram.Datagram.TheVariants.{Data}
use Rattle.srm_codec.specs.Spelling.{sender_of, IsSpellable, is_name, is_farewell}
use Rattle.srm_bucket.specs.declared.class.Class.{Class}
use Rattle.srm_bucket.specs.declared.class.Class.TheVariants.{Shown, New, Other}
use Rattle.srm_bucket.specs.declared.item.Item.{Item}
use Rattle.srm_bucket.specs.Calls.{Classed, BucketCall, Handed, Popped}
use Rattle.srm_bucket.specs.Classes.{rank, handed, departed, next_queued}
use Rattle.srm_bucket.specs.Ticks.{last_moment, ticks, cost, IsWithin}
use Rattle.srm_bucket.specs.Law.{BucketLaw, level_at, GoesRight as CallRight}
use Rattle.srm_entries.specs.Configs.{Config}
use Rattle.srm_entries.specs.declared.entry.Entry.{Entry}
use Rattle.srm_entries.specs.declared.state.AgentState.{AgentState}
use Rattle.srm_entries.specs.declared.state.AgentState.TheVariants.{Active}
use Rattle.srm_entries.specs.declared.entry.Input.{Input}
use Rattle.srm_entries.specs.declared.entry.Input.TheVariants.{Drew}
use Rattle.srm_entries.specs.declared.entry.Verdict.TheVariants.{Done}
use Rattle.srm_entries.specs.Entries.{heard_in, state, is_gone, is_missing, is_held, known, ticked}
use Rattle.srm_entries.specs.Timers.{asker, fix_running, held_off, ask_basis_of, fix_basis_of, basis_of, last_ask}
use Rattle.srm_timers.specs.Arms.{ran_out}
use Rattle.srm_entries.specs.Verdicts.{VerdictRight}
use Rattle.srm_entries.specs.Sessions.{SessionRight, charged}
use Rattle.srm_entries.specs.Bucket.{Going, idle, GoesAsCharged, lets_go, classed}
use Rattle.srm_entries.specs.Giving.{MessageRight}
use Rattle.srm_entries.specs.Runs.{EntryRight, MomentRight, expected_drawop, expected_state}
use Rattle.srm_entries.specs.Sample.{first_stream, quiet, entry, first_drawop}

-- a done entry without timers
abbrev pub plain : ℕ → ℕ → Input → Option Drawop → List Datagram → Option PageMsg → AgentState → Entry
plain m now input drawn outs message after = entry m now input (record (quiet after) { drawn = drawn; outs = outs; message = message })

-- the first drawop is the only one of these examples: the entry that draws it, and its datum
abbrev pub draws_one : Entry
draws_one = plain 0 1 (Drew first_page (97 ∷ [])) (Some first_drawop) [] None Active

abbrev pub one_data : Classed Datagram
one_data = classed New (Data first_drawop)

pub idle_right : {before : List Going} {e : Entry} → charged e ≡ [] → GoesAsCharged (record { before = before; this = idle e })
idle_right {before} {e} q = record { same = sym q; at_ticks = whenever (not (lets_go (record { before = before; this = idle e }))) }
  where
    whenever : (b : Bool) → OnTrue b (◌≡◌ {A = List (Classed Datagram)} [] [])
    whenever true = refl
    whenever false = tt

-- One item that is handed in, goes at the tick behind it, and nothing more does.

abbrev pub handed_one : Class → Item Datagram → List (BucketCall Datagram)
handed_one k item = Handed (record { class = k; item = item }) ∷ []

abbrev pub went_one : ℕ → Class → Item Datagram → List (BucketCall Datagram)
went_one now k item = handed_one k item ++ Popped now (Some (record { class = k; item = item })) ∷ []

pub all_gone : (now : ℕ) (k : Class) (item : Item Datagram) (class : Class) → IsPrefix (departed class (went_one now k item)) (handed class (went_one now k item))
all_gone now Shown item Shown = ([], refl)
all_gone now Shown item New = ([], refl)
all_gone now Shown item Other = ([], refl)
all_gone now New item Shown = ([], refl)
all_gone now New item New = ([], refl)
all_gone now New item Other = ([], refl)
all_gone now Other item Shown = ([], refl)
all_gone now Other item New = ([], refl)
all_gone now Other item Other = ([], refl)

none_higher : (k : Class) (item : Item Datagram) (class : Class) → rank class < rank k → departed class (handed_one k item) ≡ handed class (handed_one k item)
none_higher Shown item Shown l = absurd (omega arith)
none_higher Shown item New l = absurd (omega arith)
none_higher Shown item Other l = absurd (omega arith)
none_higher New item Shown l = refl
none_higher New item New l = absurd (omega arith)
none_higher New item Other l = absurd (omega arith)
none_higher Other item Shown l = refl
none_higher Other item New l = refl
none_higher Other item Other l = absurd (omega arith)

none_next : (now : ℕ) (k : Class) (item : Item Datagram) → next_queued (went_one now k item ++ Popped now None ∷ []) ≡ None
none_next now Shown item = refl
none_next now New item = refl
none_next now Other item = refl

pub one_goes : (rate depth now : ℕ) (k : Class) (item : Item Datagram) → IsWithin rate depth (last_moment (went_one now k item)) (ticks (went_one now k item))
    → IsWithin rate depth (last_moment (went_one now k item ++ Popped now None ∷ [])) (ticks (went_one now k item ++ Popped now None ∷ [])) → BucketLaw rate depth (went_one now k item ++ Popped now None ∷ [])
one_goes rate depth now k item within within_then = (hands, (goes, (ends, tt)))
  where
    hands : CallRight rate depth [] (handed_one k item) (Handed (record { class = k; item = item }))
    hands = record { in_order = λ class. (handed class (handed_one k item), refl); highest_first = tt; not_too_much = tt; all_that_may = tt }

    goes : CallRight rate depth (handed_one k item) (went_one now k item) (Popped now (Some (record { class = k; item = item })))
    goes = record { in_order = all_gone now k item; highest_first = none_higher k item; not_too_much = within; all_that_may = tt }

    ends : CallRight rate depth (went_one now k item) (went_one now k item ++ Popped now None ∷ []) (Popped now None)
    ends = record {
      in_order = all_gone now k item;
      highest_first = tt;
      not_too_much = within_then;
      all_that_may = subst (λ (o : Option (Classed Datagram)). IfSome o (λ c. level_at rate depth (went_one now k item ++ Popped now None ∷ []) (last_moment (went_one now k item ++ Popped now None ∷ [])) < cost (Some c))) (sym (none_next now k item)) tt;
    }

pub one_spelled : IsSpellable (Data first_drawop)
one_spelled = ((lit< tt, (lit< tt, lit< tt), lit≤ tt, lit≤ tt), lit≤ tt, lit≤ tt)

pub row_spelled : is_name (named first_stream 1)
row_spelled = (lit< tt, (lit< tt, lit< tt), lit≤ tt, lit≤ tt)

-- Where nothing is missing, nobody asks and no repair runs, no timer is set or runs out.

not_asked : (a b c d : Bool) → c ≡ false → false ≡ (a && (b && c && d))
not_asked a b c d e = grind arith

not_fixed : (a b : Bool) → false ≡ (a && (b && false))
not_fixed a b = grind arith

pub neither : {X : Type 0} (b : Bool) → ◌≡◌ {A = Option X} None (if b then None else None)
neither true = refl
neither false = refl

pub no_setting : (c : Config) (before : List Entry) (e : Entry) (n : FullName) → asker n e ≡ None → is_missing before n ≡ false → is_missing (before ++ e ∷ []) n ≡ false → None ≡ basis_of c before e n
no_setting c before e n ask here next = which (is_held before n)
  where
    which : (b : Bool) → None ≡ (if b then fix_basis_of c before e n else ask_basis_of c before e n)
    which true = rw ask (neither (is_held before n && not (is_some (fix_running before n)) && not (held_off c before n e.moment)))
    which false = rw (here, next) refl

pub right : (c : Config) (made : ℕ) (before : List Entry) (m now : ℕ) (input : Input) (drawn : Option Drawop) (outs : List Datagram) (message : Option PageMsg) (after : AgentState)
    → ((n : FullName) → is_missing before n ≡ false) → ((n : FullName) → is_missing (before ++ plain m now input drawn outs message after ∷ []) n ≡ false)
    → ((n : FullName) → asker n (plain m now input drawn outs message after) ≡ None) → ((n : FullName) → fix_running before n ≡ None)
    → m ≡ c.me → MomentRight c made before (plain m now input drawn outs message after) → VerdictRight c before input Done → drawn ≡ expected_drawop c before now (Some input)
    → AllByRecursion (λ g. sender_of g ≡ c.me) outs → AllByRecursion IsSpellable outs → IfSome (heard_in (Some input)) IsSpellable
    → SessionRight c made before (plain m now input drawn outs message after) → MessageRight c before input message
    → after ≡ expected_state (state before) (list_any is_farewell outs) (Some input)
    → EntryRight c made (record { before = before; this = plain m now input drawn outs message after })
right c made before m now input drawn outs message after here next ask fix p1 p2 p3 p4 p5 spelled read p6 p7 p8 = record {
  member = p1;
  moment = p2;
  verdict = p3;
  drawn = p4;
  arms = record { are = record { in_order = refl; exact = λ n. no_setting c before (plain m now input drawn outs message after) n (ask n) (here n) (next n) }; waits = tt };
  timers = record {
    asks = record { in_order = refl; exact = λ n. not_asked (ticked (plain m now input drawn outs message after)) (not (is_gone (state before))) (is_missing before n) (ran_out now (last_ask before n)) (here n) };
    fixes = record {
      in_order = refl;
      exact = λ n. not_fixed (ticked (plain m now input drawn outs message after)) (not (is_gone (state before)))
          ∙ ap (λ o. ticked (plain m now input drawn outs message after) && (not (is_gone (state before)) && ran_out now o)) (sym (fix n));
    };
  };
  senders = p5;
  spelled = spelled;
  read = read;
  session = p6;
  message = p7;
  state = p8;
}

-- what holds of each name of the one stream and of every other name holds of all
pub of_all : (P : FullName → Type 0) → ((k : ℕ) → P (named first_stream k)) → ((n : FullName) → same_stream n.stream first_stream ≡ false → P n) → (n : FullName) → P n
of_all P here there n = go (same_stream n.stream first_stream) refl
  where
    go : (b : Bool) → same_stream n.stream first_stream ≡ b → P n
    go true e = subst (λ (s : Stream). P (named s n.number)) (sym (same_stream-is n.stream first_stream e)) (here n.number)
    go false e = there n e

-- Nothing is missing where nothing is known, or where the one drawop is held and nothing further is known.

pub unknown_unmissed : (es : List Entry) (n : FullName) → known es n.stream ≡ 0 → is_missing es n ≡ false
unknown_unmissed es n e = go n.number (known es n.stream) (is_held es n) e
  where
    go : (a k : ℕ) (h : Bool) → k ≡ 0 → (nat_le 1 a && nat_le a k && not h) ≡ false
    go a k h q = grind (arith, nat_tests)

pub one_held : (a : ℕ) → (nat_le 1 a && nat_le a 1 && not ((1 == a) || false)) ≡ false
one_held a = grind (arith, nat_tests)

pub none_missing_in : (es : List Entry) → ((a : ℕ) → is_missing es (named first_stream a) ≡ false) → ((n : FullName) → same_stream n.stream first_stream ≡ false → known es n.stream ≡ 0)
    → (n : FullName) → is_missing es n ≡ false
none_missing_in es here there n = of_all (λ m. is_missing es m ≡ false) here (λ m e. unknown_unmissed es m (there m e)) n

pub missing_none : (n : FullName) → is_missing [] n ≡ false
missing_none n = unknown_unmissed [] n refl

abbrev pub one_of : Bool → List ℕ
one_of b = if b then 1 ∷ [] else []

pub one_known : (n : FullName) → same_stream n.stream first_stream ≡ false → greatest (one_of (same_stream n.stream first_stream) ++ []) ≡ 0
one_known n e = ap (λ b. greatest (one_of b ++ [])) e

pub twice_known : (n : FullName) → same_stream n.stream first_stream ≡ false → greatest (one_of (same_stream n.stream first_stream) ++ (one_of (same_stream n.stream first_stream) ++ [])) ≡ 0
twice_known n e = ap (λ b. greatest (one_of b ++ (one_of b ++ []))) e

pub missing_drawn : (n : FullName) → is_missing (draws_one ∷ []) n ≡ false
missing_drawn n = none_missing_in (draws_one ∷ []) one_held one_known n
