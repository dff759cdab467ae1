-- How many names hearing would make missing: those that aren't known of, stream after stream.
use Rattle.std.proofs.Common.{◌≡◌, ℕ, zero, suc, ◌+◌, ◌-◌, ◌*◌, ◌<◌, ◌≤◌, Bool, true, false, not, ◌&&◌, List, [], ◌∷◌, ◌++◌, map, length, take, get_or, refl, ap, sym, ◌∙◌, subst, inl, inr, arith}
use Rattle.std.specs.Prelude.{◌⊎◌, None, Some, Option}
use Rattle.std.specs.List.{list_any}
use Rattle.std.proofs.lemmas.List.{length-append, length-map, map-append, take_all}
use Rattle.srm_names.specs.declared.limits.TheConstants.{DRAWOPS}
use Rattle.srm_names.specs.declared.stream.Stream.{Stream}
use Rattle.srm_names.specs.declared.drawop.Drawop.{Drawop}
use Rattle.srm_names.specs.FullName.{FullName}
use Rattle.srm_names.specs.Histories.{count_up}
use Rattle.srm_names.specs.Names.{ascending, among, name_below, named, same_stream, AreExactly}
use Rattle.srm_names.specs.Between.{is_between}
use Rattle.srm_names.proofs.Growing.{none_between, more_between, all_between}
use Rattle.srm_names.proofs.Snoc.{count_up-last}
use Rattle.srm_codec.specs.declared.datagram.Datagram.{Datagram}
use Rattle.srm_codec.specs.declared.datagram.Datagram.TheVariants.{Data, Request, Repair, Session}
use Rattle.srm_codec.specs.declared.format.TheConstants.{LONGEST_LIST}
use Rattle.srm_codec.specs.Spelling.{asked_by, names_in, row_below, IsSpellable}
use Rattle.srm_store.specs.Held.{greatest_in, names_after}
use Rattle.srm_entries.specs.declared.cause.Cause.{Cause}
use Rattle.srm_entries.specs.declared.entry.Entry.{Entry}
use Rattle.srm_entries.specs.declared.entry.Input.TheVariants.{Heard}
use Rattle.srm_entries.specs.declared.entry.Verdict.{Verdict}
use Rattle.srm_entries.specs.declared.entry.Verdict.TheVariants.{Done, Ignored}
use Rattle.srm_entries.specs.Causes.{ignored_for}
use Rattle.srm_entries.specs.Configs.{Config}
use Rattle.srm_entries.specs.Entries.{is_missing, known, state}
use Rattle.srm_entries.specs.Outstanding.{AreSoMany, becomes_missing, heard_next}
use Rattle.srm_entries.specs.Verdicts.{verdict_of}
use Rattle.srm_entries.proofs.Quiet.{same_missing}
use Rattle.srm_entries.proofs.Showing.{IsQuiet}
use Rattle.srm_agent_state.specs.TimerCalls.{IsSession}
use Rattle.srm_agent.specs.Contents.{AgentContent}
use Rattle.srm_agent.specs.Fits.{AgentFits}
use Rattle.srm_agent.specs.Growth.{is_newly_missing_by_rows}
use Rattle.srm_agent.specs.Heeding.{heard_entry}
use Rattle.srm_agent.specs.Asking.{AreUnknownBelow, AreUnknownByRows, ShowsMissing, WouldMissBy}
use Rattle.srm_agent.proofs.Evident.{fresh_request}
use Rattle.srm_agent.proofs.Fresh.{fresh_drawop}
use Rattle.srm_agent.proofs.Informed.{shows_rows}
use Rattle.srm_agent.proofs.Joining.{ShowsRows, fresh_rows, rises_on, within_more, exact_more}
use Rattle.srm_agent.proofs.Taken.{BringsOne, carrying_brings}

-- the names of a stream behind a number, so many of them

one_more : (s : Stream) (above n : ℕ) → names_after s above (suc n) ≡ names_after s above n ++ named s (above + n + 1) ∷ []
one_more s above n =
    let e : above + 1 + n ≡ above + n + 1 = omega arith in
    ap (map (named s)) (count_up-last (above + 1) n)
    ∙ map-append (named s) (count_up (above + 1) n) ((above + 1 + n) ∷ [])
    ∙ ap (λ k. names_after s above n ++ named s k ∷ []) e

after_exactly : (s : Stream) (above n : ℕ) → AreExactly (is_between s above (above + n + 1)) (names_after s above n)
after_exactly s above zero =
    let e : above + 1 ≡ above + zero + 1 = omega arith in
    subst (λ b. AreExactly (is_between s above b) []) e (none_between s above [] refl)
after_exactly s above (suc n) =
    let lt : above < above + n + 1 = omega arith in
    let e : above + n + 1 + 1 ≡ above + suc n + 1 = omega arith in
    subst (λ b. AreExactly (is_between s above b) (names_after s above (suc n))) e
    (more_between s above (above + n + 1) (names_after s above n) (named s (above + n + 1)) (names_after s above (suc n)) (after_exactly s above n) refl (one_more s above n) lt)

so_long : (from n : ℕ) → length (count_up from n) ≡ n
so_long from zero = refl
so_long from (suc n) = ap suc (so_long (from + 1) n)

so_many_between : (s : Stream) (above below count : ℕ) → count ≡ below - (above + 1) → AreSoMany (is_between s above below) count
so_many_between s above below count is = record {
  names = names_after s above count;
  exactly = all_between s above (above + count + 1) below (names_after s above count) (after_exactly s above count) (omega arith) (omega (arith, is)) (omega (arith, is));
  is = sym (length-map (count_up (above + 1) count) (named s) ∙ so_long (above + 1) count);
}

pub unknown_between : (past : List Entry) (s : Stream) (k below count : ℕ) → k ≡ known past s → count ≡ below - (k + 1) → AreSoMany (is_between s (known past s) below) count
unknown_between past s k below count k_is is = subst (λ x. AreSoMany (is_between s x below) count) k_is (so_many_between s k below count is)

-- rows

-- so many names of the streams of the first rows
pub record UnknownByFirst (past : List Entry) (rows : List FullName) (i count : ℕ) : Type 0 where
  pub names : List FullName
  pub rising : ascending name_below names ≡ true
  pub within : (n : FullName) → among names n ≡ true → list_any (λ (x : FullName). same_stream n.stream x.stream) (take i rows) ≡ true
  pub exact : (n : FullName) → among names n ≡ is_newly_missing_by_rows past (take i rows) n
  pub is : count ≡ length names

pub record UnknownByFirstRows {W : Type 0} (a : AgentContent W) (rows : List FullName) (i count : ℕ) : Type 0 where
  pub each : (c : Config) (made : ℕ) (past : List Entry) → AgentFits c made past a → UnknownByFirst past rows i count
  pub few : count ≤ i * DRAWOPS

pub no_rows : {W : Type 0} (a : AgentContent W) (rows : List FullName) → UnknownByFirstRows a rows 0 0
no_rows a rows = record {
  each = λ c made past h. record { names = []; rising = refl; within = λ n e. absurd (cc); exact = λ n. refl; is = refl };
  few = omega arith;
}

pub row_more : {W : Type 0} (a : AgentContent W) (rows : List FullName) (i count more : ℕ) (r : FullName) → ascending row_below rows ≡ true → i < length rows → r ≡ get_or rows i r → UnknownByFirstRows a rows i count → AreUnknownBelow r.stream (r.number + 1) a more
    → UnknownByFirstRows a rows (i + 1) (count + more)
row_more a rows i count more r rise l is first one = record {
  each = λ c made past h.
      let f = first.each c made past h in
      let o = one.each c made past h in
      record {
        names = f.names ++ o.names;
        rising = rises_on rows f.names o.names (f.names ++ o.names) i r r.stream (known past r.stream) (r.number + 1) rise l is refl f.rising f.within o.exactly refl;
        within = within_more rows f.names o.names (f.names ++ o.names) i r r.stream (known past r.stream) (r.number + 1) l is refl f.within o.exactly refl;
        exact = exact_more past rows f.names o.names (f.names ++ o.names) i r r.stream (known past r.stream) (r.number + 1) l is refl refl refl f.exact o.exactly refl;
        is = ap (λ k. k + more) f.is ∙ ap (λ k. length f.names + k) o.is ∙ sym (length-append f.names o.names);
      };
  few = omega (arith, first.few, one.few);
}

pub all_rows : {W : Type 0} (a : AgentContent W) (rows : List FullName) (i count longest : ℕ) → length rows ≤ i → i ≤ longest → UnknownByFirstRows a rows i count
    → ((c : Config) (made : ℕ) (past : List Entry) → AgentFits c made past a → AreSoMany (is_newly_missing_by_rows past rows) count) × (count ≤ longest * DRAWOPS)
all_rows a rows i count longest all few first = (
  (λ c made past h.
      let f = first.each c made past h in
      record { names = f.names; exactly = record { in_order = f.rising; exact = λ n. f.exact n ∙ ap (λ rs. is_newly_missing_by_rows past rs n) (take_all i rows all) }; is = f.is }),
  omega (arith, first.few, few),
)

-- kinds of datagrams

pub drawop_shows : {W : Type 0} (a : AgentContent W) (g : Datagram) (d : Drawop) (count : ℕ) → BringsOne d g → AreUnknownBelow d.name.stream d.name.number a count → ShowsMissing g a count
drawop_shows a g d count one below = record {
  each = λ c made past h.
      let b = below.each c made past h in
      record { names = b.names; exactly = fresh_drawop past (heard_entry c.me 0 g [] (state past)) d _ b.names (one.brings c.me 0 [] (state past)) refl b.exactly; is = b.is };
}

pub request_shows : {W : Type 0} (a : AgentContent W) (sender : ℕ) (name : FullName) (mask : ℕ) (names : List FullName) (count : ℕ) → names ≡ asked_by name mask → AreUnknownBelow name.stream (greatest_in names name.stream + 1) a count
    → ShowsMissing (Request sender name mask) a count
request_shows a sender name mask names count asked below = record {
  each = λ c made past h.
      let b = below.each c made past h in
      record {
        names = b.names;
        exactly = fresh_request past c.me 0 sender name mask [] (state past) b.names (subst (λ ns. AreExactly (is_between name.stream (known past name.stream) (greatest_in ns name.stream + 1)) b.names) asked b.exactly);
        is = b.is;
      };
}

pub session_shows : {W : Type 0} (a : AgentContent W) (g : Datagram) (names : List FullName) (count : ℕ) → IsSession g → names ≡ names_in g → AreUnknownByRows names a count → ShowsMissing g a count
session_shows a g names count session named by = record {
  each = λ c made past h.
      let b = by.each c made past h in
      record {
        names = b.names;
        exactly = fresh_rows past (heard_entry c.me 0 g [] (state past)) names b.names (subst (λ ns. ShowsRows ns (heard_entry c.me 0 g [] (state past))) (sym named) (shows_rows g c.me 0 [] (state past) session)) b.exactly;
        is = b.is;
      };
}

-- the same by the datagram that is looked at

data_shown : {W : Type 0} (a : AgentContent W) (g : Datagram) (d : Drawop) (s : Stream) (number count : ℕ) → g ≡ Data d → s ≡ d.name.stream → number ≡ d.name.number → AreUnknownBelow s number a count → ShowsMissing g a count
data_shown a g d s number count g_is s_is number_is below = subst (λ x. ShowsMissing x a count) (sym g_is)
    (drawop_shows a (Data d) d count (carrying_brings None d) (subst (λ k. AreUnknownBelow d.name.stream k a count) number_is (subst (λ t. AreUnknownBelow t number a count) s_is below)))

repair_shown : {W : Type 0} (a : AgentContent W) (g : Datagram) (sender : ℕ) (d : Drawop) (s : Stream) (number count : ℕ) → g ≡ Repair sender d → s ≡ d.name.stream → number ≡ d.name.number → AreUnknownBelow s number a count → ShowsMissing g a count
repair_shown a g sender d s number count g_is s_is number_is below = subst (λ x. ShowsMissing x a count) (sym g_is)
    (drawop_shows a (Repair sender d) d count (carrying_brings (Some sender) d) (subst (λ k. AreUnknownBelow d.name.stream k a count) number_is (subst (λ t. AreUnknownBelow t number a count) s_is below)))

-- a drawop that comes first, or again
pub carried_shown : {W : Type 0} (a : AgentContent W) (g : Datagram) (d : Drawop) (s : Stream) (number count : ℕ) → (g ≡ Data d) ⊎ ((sender : ℕ) × (g ≡ Repair sender d)) → s ≡ d.name.stream → number ≡ d.name.number → AreUnknownBelow s number a count
    → ShowsMissing g a count
carried_shown a g d s number count (inl is) s_is number_is below = data_shown a g d s number count is s_is number_is below
carried_shown a g d s number count (inr is) s_is number_is below = repair_shown a g is.0 d s number count is.1 s_is number_is below

pub request_shown : {W : Type 0} (a : AgentContent W) (g : Datagram) (sender : ℕ) (name : FullName) (mask : ℕ) (s : Stream) (names : List FullName) (count : ℕ) → g ≡ Request sender name mask → s ≡ name.stream → names ≡ names_in g
    → AreUnknownBelow s (greatest_in names s + 1) a count → ShowsMissing g a count
request_shown a g sender name mask s names count g_is s_is named below = subst (λ x. ShowsMissing x a count) (sym g_is)
    (request_shows a sender name mask names count (named ∙ ap names_in g_is) (subst (λ t. AreUnknownBelow t (greatest_in names t + 1) a count) s_is below))

pub few_rows : (g : Datagram) (names : List FullName) → IsSession g → IsSpellable g → names ≡ names_in g → length names ≤ LONGEST_LIST
few_rows (Session sender sent farewell shown rows echoes) names is s e = subst (λ ns. length ns ≤ LONGEST_LIST) (sym e) s.3.few
few_rows (Data drawop) names is s e = absurd is
few_rows (Request sender name mask) names is s e = absurd is
few_rows (Repair sender drawop) names is s e = absurd is

-- what is ignored makes nothing missing

both_ways : (b : Bool) → false ≡ (not b && b)
both_ways true = refl
both_ways false = refl

pub none_by : (past : List Entry) (e : Entry) → IsQuiet e → AreSoMany (becomes_missing past e) 0
none_by past e quiet = record {
  names = [];
  exactly = record { in_order = refl; exact = λ n. both_ways (is_missing past n) ∙ ap (λ b. not (is_missing past n) && b) (sym (same_missing past e n quiet)) };
  is = refl;
}

by_verdict : (c : Config) (past : List Entry) (g : Datagram) (v : Verdict) (count : ℕ) → v ≡ verdict_of c past (Heard g) → AreSoMany (becomes_missing past (heard_next c past (Heard g, v))) count → AreSoMany (becomes_missing past (heard_next c past (Heard g, verdict_of c past (Heard g)))) count
by_verdict c past g v count e m = subst (λ x. AreSoMany (becomes_missing past (heard_next c past (Heard g, x))) count) e m

pub ignored_misses : {W : Type 0} (a : AgentContent W) (g : Datagram) (o : Option Cause) (cause : Cause) → o ≡ Some cause → ((c : Config) (made : ℕ) (past : List Entry) → AgentFits c made past a → ignored_for o ≡ verdict_of c past (Heard g)) → WouldMissBy g a 0
ignored_misses a g o cause is judged = record {
  each = λ c made past h. by_verdict c past g (Ignored cause) 0 (sym (ap ignored_for is) ∙ judged c made past h) (none_by past (heard_next c past (Heard g, Ignored cause)) (refl, refl));
}

pub accepted_misses : {W : Type 0} (a : AgentContent W) (g : Datagram) (o : Option Cause) (count : ℕ) → o ≡ None → ((c : Config) (made : ℕ) (past : List Entry) → AgentFits c made past a → ignored_for o ≡ verdict_of c past (Heard g)) → ShowsMissing g a count → WouldMissBy g a count
accepted_misses a g o count is judged shows = record {
  each = λ c made past h. by_verdict c past g Done count (sym (ap ignored_for is) ∙ judged c made past h) (shows.each c made past h);
}
