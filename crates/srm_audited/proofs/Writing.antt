-- What the replays of records say of a run whose members wrote them.
use Rattle.std.proofs.Common.{◌≡◌, ℕ, suc, ◌==◌, Bool, true, false, List, [], ◌∷◌, ◌++◌, length, map, refl, ap, sym, ◌∙◌, subst}
use Rattle.std.specs.Prelude.{Option, Some, None, option_map, unwrap_or, slice_get, Contains}
use Rattle.std.specs.List.{AllByRecursion, cons_option}
use Rattle.std.proofs.lemmas.Bool.{eqb-true}
use Rattle.srm_names.specs.declared.limits.TheConstants.{PAGES}
use Rattle.srm_names.specs.declared.page_msg.PageMsg.{PageMsg}
use Rattle.srm_names.specs.Histories.{IsPrefix}
use Rattle.srm_names.proofs.Lists.{All-Has, find-Has}
use Rattle.srm_entries.specs.declared.entry.Entry.{Entry}
use Rattle.srm_entries.specs.Giving.{given, given_in}
use Rattle.srm_world.specs.declared.start.Start.{Start}
use Rattle.srm_world.specs.Traces.{Trace, of_member, IsRoster}
use Rattle.srm_frames.specs.declared.reading.Record.{Record}
use Rattle.srm_replays.specs.Calls.{acts}
use Rattle.srm_replays.specs.Law.{acting, RestsUnseen}
use Rattle.srm_replays.proofs.Replaying.{kept, dropped}
use Rattle.srm_replays.proofs.Unseen.{unseen_law}
use Rattle.srm_gaps.specs.declared.told.Told.{Told}
use Rattle.srm_gaps.specs.Gaps.{IsAnother, AreOfOneSession}
use Rattle.srm_gaps.specs.Possible.{told_of, calls_told, may_miss}
use Rattle.srm_gaps.specs.Retelling.{DoAsTold, IsRunTold, AreRunsTold, IsRunAsTold}
use Rattle.srm_gaps.proofs.Rostered.{BeganIn, in_roster, same_session}
use Rattle.srm_audited.specs.Sessions.{Replay, IsReplayOf, AreReplaysOf}
use Rattle.srm_audited.specs.Writers.{IsWrittenIn, IsOfAnother, AreOfOthers, AreWrittenIn}

-- what was given is what the calls that act gave
given_acting : (es : List Entry) (slot : ℕ) → AllByRecursion RestsUnseen es → given (acting es) slot ≡ given es slot
given_acting [] slot all = refl
given_acting (e ∷ es) slot all = go (acts e) refl (given_acting es slot all.1)
  where
    go : (b : Bool) → acts e ≡ b → given (acting es) slot ≡ given es slot → given (acting (e ∷ es)) slot ≡ given (e ∷ es) slot
    go true q more = ap (λ xs. given xs slot) (kept acts e es q) ∙ ap (cons_option (given_in slot e.input e.effects.message)) more
    go false q more = ap (λ xs. given xs slot) (dropped acts e es q) ∙ more ∙ sym (ap (λ o. cons_option o (given es slot)) ((all.0 q).given slot))

-- What a replay is in a run: its calls that act are the first of its member's, and what its page workers took is a prefix of what it gave.
pub record IsIn (t : Trace) (p : Replay) : Type 0 where
  pub run : IsRunTold p.told
  pub began : BeganIn t.starts p.told
  pub front : IsPrefix (acting p.told.journal.entries) (acting (of_member p.told.journal.start.config.me t.entries))
  pub whole : p.told.is_cut ≡ false → acting (of_member p.told.journal.start.config.me t.entries) ≡ acting p.told.journal.entries
  pub slots : length p.lists ≡ PAGES
  pub taken : (slot : ℕ) (list : List PageMsg) → slice_get p.lists slot ≡ Some list → IsPrefix list (given p.told.journal.entries slot)

pub is_in : (t : Trace) (r : Record) (p : Replay) → IsWrittenIn t r → IsReplayOf r p → IsIn t p
is_in t r p w is =
    let same = is.runs w.spelled w.journal w.lists w.of in
    let start : w.journal.start ≡ p.told.journal.start = w.of.start ∙ sym is.start in
    let run : IsRunTold p.told = is.lawful.run in
    let unseen : AllByRecursion RestsUnseen p.told.journal.entries = unseen_law p.told.journal.start.config p.told.journal.start.made p.told.journal.entries run in
    let was_unseen : AllByRecursion RestsUnseen w.journal.entries = unseen_law w.journal.start.config w.journal.start.made w.journal.entries w.of.lawful.run in
    let gave : (slot : ℕ) → given w.journal.entries slot ≡ given p.told.journal.entries slot = λ slot.
    sym (given_acting w.journal.entries slot was_unseen) ∙ ap (λ xs. given xs slot) (sym same.0) ∙ given_acting p.told.journal.entries slot unseen in
    record {
      run = run;
      began = subst (Contains t.starts) start w.began;
      front = subst (λ xs. IsPrefix xs (acting (of_member p.told.journal.start.config.me t.entries))) (sym same.0)
          (subst (λ (s : Start). IsPrefix (acting w.journal.entries) (acting (of_member s.config.me t.entries))) start w.front);
      whole = λ uncut. ap (λ (s : Start). acting (of_member s.config.me t.entries)) (sym start) ∙ w.whole (sym is.cut ∙ uncut) ∙ sym same.0;
      slots = ap length same.1 ∙ w.of.slots;
      taken = λ slot list at. subst (IsPrefix list) (gave slot) (w.taken slot list (ap (λ (ls : List (List PageMsg)). slice_get ls slot) (sym same.1) ∙ at));
    }

pub all_in : (t : Trace) (rs : List Record) (ps : List Replay) → AllByRecursion (IsWrittenIn t) rs → AreReplaysOf rs ps → AllByRecursion (IsIn t) ps
all_in t [] [] written are = tt
all_in t [] (p ∷ ps) written are = absurd are
all_in t (r ∷ rs) [] written are = absurd are
all_in t (r ∷ rs) (p ∷ ps) written are = (is_in t r p written.0 are.0, all_in t rs ps written.1 are.1)

abbrev pub tolds : List Replay → List Told
tolds ps = map (λ (p : Replay). p.told) ps

pub each_told : (P : Told → Type 0) (Q : Replay → Type 0) (ps : List Replay) → ((p : Replay) → Q p → P p.told) → AllByRecursion Q ps → AllByRecursion P (tolds ps)
each_told P Q [] f all = tt
each_told P Q (p ∷ ps) f all = (f p all.0, each_told P Q ps f all.1)

-- of different members of one session

others_told : (t : Trace) (r : Record) (p : Replay) (rs : List Record) (ps : List Replay) → IsRoster t.starts → IsReplayOf r p → IsIn t p → AllByRecursion (IsOfAnother r) rs → AreReplaysOf rs ps → AllByRecursion (IsIn t) ps
    → AllByRecursion (IsAnother p.told) (tolds ps)
others_told t r p [] [] roster is here others are all = tt
others_told t r p [] (q ∷ ps) roster is here others are all = absurd are
others_told t r p (s ∷ rs) [] roster is here others are all = absurd are
others_told t r p (s ∷ rs) (q ∷ ps) roster is here others are all = (
  record {
    session = same_session t.starts q.told p.told roster all.0.began here.began;
    members = (in_roster t.starts q.told roster all.0.began).members ∙ sym (in_roster t.starts p.told roster here.began).members;
    other = λ e. others.0 (ap (λ (a : Start). a.config.me) (sym are.0.start) ∙ e ∙ ap (λ (a : Start). a.config.me) is.start);
  },
  others_told t r p rs ps roster is here others.1 are.1 all.1,
)

pub one_session : (t : Trace) (rs : List Record) (ps : List Replay) → IsRoster t.starts → AreOfOthers rs → AreReplaysOf rs ps → AllByRecursion (IsIn t) ps → AreOfOneSession (tolds ps)
one_session t [] [] roster others are all = tt
one_session t [] (p ∷ ps) roster others are all = absurd are
one_session t (r ∷ rs) [] roster others are all = absurd are
one_session t (r ∷ rs) (p ∷ ps) roster others are all = (others_told t r p rs ps roster are.0 all.0 others.0 are.1 all.1, one_session t rs ps roster others.1 are.1 all.1)

pub as_many : (rs : List Record) (ps : List Replay) → AreReplaysOf rs ps → length ps ≡ length rs
as_many [] [] are = refl
as_many [] (p ∷ ps) are = absurd are
as_many (r ∷ rs) [] are = absurd are
as_many (r ∷ rs) (p ∷ ps) are = ap suc (as_many rs ps are.1)

-- the members did what is told

abbrev calls_in : Option Told → List Entry
calls_in o = unwrap_or (option_map (λ (t : Told). t.journal.entries) o) []

abbrev misses_in : Option Told → Bool
misses_in o = unwrap_or (option_map (λ (t : Told). t.is_cut) o) true

-- of what is told of one member
pub record DidAsTold (t : Trace) (u : Told) : Type 0 where
  pub front : IsPrefix (acting u.journal.entries) (acting (of_member u.journal.start.config.me t.entries))
  pub whole : u.is_cut ≡ false → acting (of_member u.journal.start.config.me t.entries) ≡ acting u.journal.entries

pub did_as_told : (t : Trace) (ts : List Told) → AllByRecursion (DidAsTold t) ts → DoAsTold ts t.entries
did_as_told t ts all = record { front = λ m. front m (told_of ts m) refl; whole = λ m w. whole m w (told_of ts m) refl }
  where
    here : (m : ℕ) (u : Told) → told_of ts m ≡ Some u → DidAsTold t u × (u.journal.start.config.me ≡ m)
    here m u is =
        let (has, found) = find-Has (λ (x : Told). x.journal.start.config.me == m) ts u is in
        (All-Has (DidAsTold t) u ts all has, eqb-true u.journal.start.config.me m found)

    front : (m : ℕ) (o : Option Told) → told_of ts m ≡ o → IsPrefix (acting (calls_told ts m)) (acting (of_member m t.entries))
    front m None none = (acting (of_member m t.entries), ap (λ o. acting (calls_in o) ++ acting (of_member m t.entries)) none)
    front m (Some u) is =
        let (did, me) = here m u is in
        subst (λ o. IsPrefix (acting (calls_in o)) (acting (of_member m t.entries))) (sym is) (subst (λ k. IsPrefix (acting u.journal.entries) (acting (of_member k t.entries))) me did.front)

    whole : (m : ℕ) → may_miss ts m ≡ false → (o : Option Told) → told_of ts m ≡ o → acting (of_member m t.entries) ≡ acting (calls_told ts m)
    whole m w None none = let bad : true ≡ false = ap misses_in (sym none) ∙ w in absurd (cc)
    whole m w (Some u) is =
        let (did, me) = here m u is in
        ap (λ k. acting (of_member k t.entries)) (sym me) ∙ did.whole (ap misses_in (sym is) ∙ w) ∙ ap (λ o. acting (calls_in o)) (sym is)

-- all of that, of the replays of records that members of a run wrote
pub record AreToldIn (t : Trace) (ps : List Replay) : Type 0 where
  pub all : AllByRecursion (IsIn t) ps
  pub runs : AreRunsTold (tolds ps)
  pub began : AllByRecursion (BeganIn t.starts) (tolds ps)
  pub session : AreOfOneSession (tolds ps)
  pub as_told : IsRunAsTold (tolds ps) t

pub told_in : (t : Trace) (rs : List Record) (ps : List Replay) → AreWrittenIn t rs → AreReplaysOf rs ps → AreToldIn t ps
told_in t rs ps written are =
    let all : AllByRecursion (IsIn t) ps = all_in t rs ps written.each are in
    record {
      all = all;
      runs = each_told IsRunTold (IsIn t) ps (λ p i. i.run) all;
      began = each_told (BeganIn t.starts) (IsIn t) ps (λ p i. i.began) all;
      session = one_session t rs ps written.run.roster written.others are all;
      as_told = record {
        run = written.run;
        honest = written.honest;
        did = did_as_told t (tolds ps) (each_told (DidAsTold t) (IsIn t) ps (λ p i. record { front = i.front; whole = i.whole }) all);
      };
    }
