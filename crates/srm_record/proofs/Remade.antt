-- Where a run has a record's lines, its calls made anew are that run's: what acts in the one acts in the other.
use Rattle.std.proofs.Common.{◌≡◌, ℕ, ◌<◌, ◌≤◌, ◌^◌, min, max, Bool, true, false, ◌&&◌, List, [], ◌∷◌, ◌++◌, refl, ap, sym, ◌∙◌, subst, inl, inr, arith, append_assoc, append-nil}
use Rattle.std.specs.Prelude.{◌⊎◌, Option, Some, None, Ok, IfSome, if◌then◌else◌, MatchBool}
use Rattle.std.specs.List.{AllByRecursion, cons_option}
use Rattle.std.proofs.lemmas.Bool.{lt-ltb}
use Rattle.std.proofs.lemmas.Option.{none-some, same_Some}
use Rattle.srm_names.specs.declared.limits.TheConstants.{LATEST_MOMENT, PAGES}
use Rattle.srm_names.specs.Histories.{steps_after, greatest}
use Rattle.srm_codec.specs.declared.datagram.Datagram.{Datagram}
use Rattle.srm_codec.specs.Spelling.{spelling, IsSpellable}
use Rattle.srm_codec.specs.Judging.{judge}
use Rattle.srm_codec.proofs.JudgingLaws.{spelling_judged}
use Rattle.srm_entries.specs.declared.cause.Cause.TheVariants as causes
use Rattle.srm_entries.specs.declared.entry.Entry.{Entry}
use Rattle.srm_entries.specs.declared.entry.Effects.{Effects}
use Rattle.srm_entries.specs.declared.entry.Input.{Input}
use Rattle.srm_entries.specs.declared.entry.Input.TheVariants.{Drew, Heard, Noise, Ticked, Showed, AskedLeave, Gave, Took}
use Rattle.srm_entries.specs.declared.entry.Verdict.{Verdict}
use Rattle.srm_entries.specs.declared.entry.Verdict.TheVariants.{Done, Ignored, Refused}
use Rattle.srm_entries.specs.Configs.{Config}
use Rattle.srm_entries.specs.Entries.{done_input, heard_in, accepted, state, is_gone, takes_moment, moments_counted, last_moment}
use Rattle.srm_entries.specs.Hearing.{read_as, bytes_heard}
use Rattle.srm_entries.specs.Runs.{EntryRight}
use Rattle.srm_entries.proofs.Running.{last_moment-snoc}
use Rattle.srm_world.specs.declared.start.Start.{Start}
use Rattle.srm_world.specs.Traces.{Journal}
use Rattle.srm_world.specs.Recording.{Grows}
use Rattle.srm_replays.specs.Calls.{is_done, acts_by, acts}
use Rattle.srm_replays.specs.Law.{call_of, acting, is_noise, IsRunByWords}
use Rattle.srm_replays.proofs.Replaying.{kept, dropped}
use Rattle.srm_replays.proofs.Handed.{is_heard, Takes, Hands, handed}
use Rattle.srm_frames.specs.declared.line.Line.{Line}
use Rattle.srm_frames.specs.declared.line.Call.{Call}
use Rattle.srm_frames.specs.declared.line.Call.TheVariants as calls
use Rattle.srm_frames.specs.WhatIsRead.{IsCall, IsLine}
use Rattle.srm_record.specs.Calls.{call_of as line_call, at_moment, line_of, lines_of}
use Rattle.srm_record.specs.Making.{Gains, GainsHeard, GainsGiven, Makes, MakesAll}
use Rattle.srm_record.proofs.Making.{nothing_heard, HasCome, has_come}
use Rattle.srm_record.proofs.Recorded.{IsRead, all_read}

-- one line

-- A journal went on by the call of an entry, and by noise.
record Steps (e : Entry) (j k : Journal) : Type 0 where
  added : List Entry
  grown : k.entries ≡ j.entries ++ added
  start : k.start ≡ j.start
  last : last_moment k.start.made k.entries ≤ e.moment
  hands : (es rest : List Entry) → Hands es (j.entries ++ added) rest → Hands (e ∷ es) j.entries (added ++ rest)

counts_at_most : (v : Verdict) (e : Entry) → greatest (moments_counted v e) ≤ e.moment
counts_at_most (Refused fault) e = omega arith
counts_at_most Done e = go (takes_moment e.input)
  where
    go : (b : Bool) → greatest (if b then e.moment ∷ [] else []) ≤ e.moment
    go true = omega arith
    go false = omega arith
counts_at_most (Ignored cause) e = go (takes_moment e.input)
  where
    go : (b : Bool) → greatest (if b then e.moment ∷ [] else []) ≤ e.moment
    go true = omega arith
    go false = omega arith

last_at_most : (made now : ℕ) (es : List Entry) (e : Entry) → last_moment made es ≤ now → e.moment ≤ now → last_moment made (es ++ e ∷ []) ≤ now
last_at_most made now es e l k =
    let grown : last_moment made (es ++ e ∷ []) ≡ max (last_moment made es) (greatest (moments_counted e.verdict e)) = last_moment-snoc made es e in
    let most : greatest (moments_counted e.verdict e) ≤ e.moment = counts_at_most e.verdict e in
    omega arith

-- where a journal grew by an entry
last_of_grown : (now : ℕ) (at : Option ℕ) (j k : Journal) (e : Entry) → Grows at j k e → last_moment j.start.made j.entries ≤ now → e.moment ≤ now → last_moment k.start.made k.entries ≤ now
last_of_grown now at j k e grows l m = subst (λ (x : Journal). last_moment x.start.made x.entries ≤ now) (sym grows.grown) (last_at_most j.start.made now j.entries e l m)

same_call : (e f : Entry) → f.moment ≡ e.moment → f.input ≡ e.input → call_of f ≡ call_of e
same_call e f moment input = λ i. (moment i, input i)

by_gain : (e : Entry) (input : Input) (j k : Journal) → e.input ≡ input → last_moment j.start.made j.entries ≤ e.moment → Gains (Some e.moment) input j k → Steps e j k
by_gain e input j k same l g =
    let late : g.entry.moment ≡ max e.moment (last_moment j.start.made j.entries) = g.grows.moment in
    let at : g.entry.moment ≡ e.moment = omega arith in
    record {
      added = g.entry ∷ [];
      grown = ap (λ (x : Journal). x.entries) g.grows.grown;
      start = ap (λ (x : Journal). x.start) g.grows.grown;
      last = last_of_grown e.moment (Some e.moment) j k g.entry g.grows l (omega arith);
      hands = λ es rest h. inr (inl (same_call e g.entry at (g.is ∙ sym same)), h);
    }

takes_heard : (e f : Entry) (c : Config) (before : List Entry) (g : Datagram) → e.input ≡ Heard g → f.moment ≡ e.moment → judge c.session (spelling c.session g) ≡ Ok g
    → (f.input, f.verdict) ≡ bytes_heard c before (spelling c.session g) → (b : Bool) → is_gone (state before) ≡ b → Takes e before f
takes_heard e f c before g input at judged is true q = inr (q, ap is_heard input)
takes_heard e f c before g input at judged is false q =
    let read : (f.input, f.verdict) ≡ read_as c before (Ok g) = is ∙ ap (λ (b : Bool). if b then (Noise, Ignored causes.Gone) else read_as c before (judge c.session (spelling c.session g))) q ∙ ap (read_as c before) judged in
    let heard : f.input ≡ Heard g = ap (λ (p : Input × Verdict). p.0) read in
    inl (same_call e f at (heard ∙ sym input))

by_hearing : (e : Entry) (g : Datagram) (j k : Journal) → e.input ≡ Heard g → judge j.start.config.session (spelling j.start.config.session g) ≡ Ok g → last_moment j.start.made j.entries ≤ e.moment
    → GainsHeard e.moment (spelling j.start.config.session g) j k → Steps e j k
by_hearing e g j k input judged l h =
    let late : h.entry.moment ≡ max e.moment (last_moment j.start.made j.entries) = h.grows.moment in
    let at : h.entry.moment ≡ e.moment = omega arith in
    let takes : Takes e j.entries h.entry = takes_heard e h.entry j.start.config j.entries g input at judged h.is (is_gone (state j.entries)) refl in
    record {
      added = h.entry ∷ [];
      grown = ap (λ (x : Journal). x.entries) h.grows.grown;
      start = ap (λ (x : Journal). x.start) h.grows.grown;
      last = last_of_grown e.moment (Some e.moment) j k h.entry h.grows l (omega arith);
      hands = λ es rest more. inr (takes, more);
    }

-- a give, with noise before it or without

given_at_once : (e : Entry) (slot : ℕ) (j k : Journal) → e.input ≡ Gave slot → last_moment j.start.made j.entries ≤ e.moment → e.moment ≤ last_moment j.start.made j.entries → Gains None (Gave slot) j k → Steps e j k
given_at_once e slot j k same l come g =
    let late : g.entry.moment ≡ last_moment j.start.made j.entries = g.grows.moment in
    let at : g.entry.moment ≡ e.moment = omega arith in
    record {
      added = g.entry ∷ [];
      grown = ap (λ (x : Journal). x.entries) g.grows.grown;
      start = ap (λ (x : Journal). x.start) g.grows.grown;
      last = last_of_grown e.moment None j k g.entry g.grows l (omega arith);
      hands = λ es rest h. inr (inl (same_call e g.entry at (g.is ∙ sym same)), h);
    }

is_noise_then : (c : Config) (es : List Entry) (z : Entry) → (z.input, z.verdict) ≡ bytes_heard c es [] → is_noise z.input ≡ true
is_noise_then c es z is =
    let (cause, heard) = nothing_heard c es (is_gone (state es)) refl in
    ap (λ (p : Input × Verdict). is_noise p.0) (is ∙ heard)

behind_noise : (e z : Entry) (j between k : Journal) (at : Option ℕ) → Grows at j between z → is_noise z.input ≡ true → Steps e between k → Steps e j k
behind_noise e z j between k at grows noise s =
    let is : between.entries ≡ j.entries ++ z ∷ [] = ap (λ (x : Journal). x.entries) grows.grown in
    record {
      added = z ∷ s.added;
      grown = s.grown ∙ ap (λ es. es ++ s.added) is ∙ append_assoc j.entries (z ∷ []) s.added;
      start = s.start ∙ ap (λ (x : Journal). x.start) grows.grown;
      last = s.last;
      hands = λ es rest h.
          inl (noise, subst (λ before. Hands (e ∷ es) before (s.added ++ rest)) is (s.hands es rest (subst (λ before. Hands es before rest) (sym (ap (λ xs. xs ++ s.added) is ∙ append_assoc j.entries (z ∷ []) s.added)) h)));
    }

by_give : (e : Entry) (slot : ℕ) (j k : Journal) → e.input ≡ Gave slot → last_moment j.start.made j.entries ≤ e.moment → GainsGiven e.moment slot j k → Steps e j k
by_give e slot j k same l g = go came.waited
  where
    came : HasCome e.moment j g.between
    came = has_come e.moment j g.between g.waits

    go : ((g.between ≡ j) ⊎ GainsHeard e.moment [] j g.between) → Steps e j k
    go (inl still) =
        given_at_once e slot j k same l (subst (λ (x : Journal). e.moment ≤ last_moment x.start.made x.entries) still came.come) (subst (λ (x : Journal). Gains None (Gave slot) x k) still g.gains)
    go (inr h) =
        let late : h.entry.moment ≡ max e.moment (last_moment j.start.made j.entries) = h.grows.moment in
        let m : last_moment g.between.start.made g.between.entries ≤ e.moment = last_of_grown e.moment (Some e.moment) j g.between h.entry h.grows l (omega arith) in
        behind_noise e h.entry j g.between k (Some e.moment) h.grows (is_noise_then j.start.config j.entries h.entry h.is) (given_at_once e slot g.between k same m came.come g.gains)

-- an entry that acts, and the call of its line

is_there : (A B : Type 0) (b : Bool) → b ≡ true → MatchBool b A B → A
is_there A B b e = subst (λ (x : Bool). MatchBool x A B) e

never : (v : Verdict) → (is_done v && false) ≡ true → ⊥
never Done e = absurd (cc)
never (Ignored cause) e = absurd (cc)
never (Refused fault) e = absurd (cc)

has_call : (session : ℕ) (v : Verdict) (i : Input) (f : Effects) → (is_done v && acts_by i f) ≡ true → (call : Call) × (line_call session i ≡ Some call)
has_call session v (Drew page body) f e = (calls.Drew page body, refl)
has_call session v (Heard g) f e = (calls.Heard (spelling session g), refl)
has_call session v Noise f e = absurd (never v e)
has_call session v Ticked f e = (calls.Ticked, refl)
has_call session v (Showed page) f e = (calls.Showed page, refl)
has_call session v AskedLeave f e = (calls.AskedLeave, refl)
has_call session v (Gave slot) f e = (calls.Gave slot, refl)
has_call session v (Took slot) f e = absurd (never v e)

is_done_then : (v : Verdict) (b : Bool) → (is_done v && b) ≡ true → v ≡ Done
is_done_then Done b e = refl
is_done_then (Ignored cause) b e = absurd (cc)
is_done_then (Refused fault) b e = absurd (cc)

module _ (e : Entry) (j k : Journal) (small : j.start.config.session < 2 ^ 32) (act : acts e ≡ true) (read : IfSome (accepted e) IsSpellable) (l : last_moment j.start.made j.entries ≤ e.moment) where
  is_done_here : e.verdict ≡ Done
  is_done_here = is_done_then e.verdict (acts_by e.input e.effects) act

  judged_here : (g : Datagram) → e.input ≡ Heard g → judge j.start.config.session (spelling j.start.config.session g) ≡ Ok g
  judged_here g same = spelling_judged j.start.config.session g small (subst (λ (o : Option Datagram). IfSome o IsSpellable) (ap (λ v. heard_in (done_input v e.input)) is_done_here ∙ ap (λ i. heard_in (Some i)) same) read)

  as_is : (now : ℕ) (x y : Call) → Some x ≡ Some y → Makes now y j k → Makes now x j k
  as_is now x y same makes = subst (λ (z : Call). Makes now z j k) (sym (same_Some x y same)) makes

  step : (i : Input) (call : Call) → e.input ≡ i → line_call j.start.config.session i ≡ Some call → IsCall call → Makes e.moment call j k → Steps e j k
  step (Drew page body) call same is fits makes = by_gain e (Drew page body) j k same l (as_is e.moment (calls.Drew page body) call is makes)
  step (Heard g) call same is fits makes = by_hearing e g j k same (judged_here g same) l (as_is e.moment (calls.Heard (spelling j.start.config.session g)) call is makes)
  step Noise call same is fits makes = absurd (none-some call is)
  step Ticked call same is fits makes = by_gain e Ticked j k same l (as_is e.moment calls.Ticked call is makes)
  step (Showed page) call same is fits makes = by_gain e (Showed page) j k same l (as_is e.moment (calls.Showed page) call is makes)
  step AskedLeave call same is fits makes = by_gain e AskedLeave j k same l (as_is e.moment calls.AskedLeave call is makes)
  step (Gave slot) call same is fits makes =
      let inside : slot < PAGES = subst IsCall (sym (same_Some (calls.Gave slot) call is)) fits in
      by_give e slot j k same l (is_there (GainsGiven e.moment slot j k) (k ≡ j) _ (lt-ltb slot PAGES inside) (as_is e.moment (calls.Gave slot) call is makes))
  step (Took slot) call same is fits makes = absurd (none-some call is)

-- lines one behind the other

-- no moment is before the one in front of it
abbrev pub Rises : ℕ → List Line → Type 0
Rises from [] = Unit {0}
Rises from (l ∷ ls) = (from ≤ l.moment) × Rises l.moment ls

record Goes (es : List Entry) (j k : Journal) : Type 0 where
  added : List Entry
  grown : k.entries ≡ j.entries ++ added
  hands : Hands (acting es) j.entries added

at_most : (from a b : ℕ) → a ≤ from → from ≤ b → a ≤ b
at_most from a b x y = omega arith

in_time : (moment : ℕ) → moment ≤ LATEST_MOMENT → min moment LATEST_MOMENT ≡ moment
in_time moment l = omega arith

goes_on : (e : Entry) (es : List Entry) (j mid k : Journal) → acts e ≡ true → Steps e j mid → Goes es mid k → Goes (e ∷ es) j k
goes_on e es j mid k act s g = record {
  added = s.added ++ g.added;
  grown = g.grown ∙ ap (λ xs. xs ++ g.added) s.grown ∙ append_assoc j.entries s.added g.added;
  hands = subst (λ xs. Hands xs j.entries (s.added ++ g.added)) (sym (kept acts e es act)) (s.hands (acting es) g.added (subst (λ before. Hands (acting es) before g.added) s.grown g.hands));
}

goes : (session : ℕ) (es : List Entry) (from : ℕ) (j k : Journal) → session ≡ j.start.config.session → session < 2 ^ 32 → AllByRecursion IsRead es → AllByRecursion IsLine (lines_of session es) → Rises from (lines_of session es)
    → last_moment j.start.made j.entries ≤ from → MakesAll (lines_of session es) j k → Goes es j k
goes session [] from j k same small read fit rises l makes = record { added = []; grown = ap (λ (x : Journal). x.entries) makes ∙ sym (append-nil j.entries); hands = tt }
goes session (e ∷ es) from j k same small read fit rises l makes = go (acts e) refl (λ from mid s f r m all. goes session es from mid k s small read.1 f r m all)
  where
    line : (b : Bool) → acts e ≡ b → line_of session e ≡ (if b then at_moment e.moment (line_call session e.input) else None)
    line b q = ap (λ (b : Bool). if b then at_moment e.moment (line_call session e.input) else None) q

    go : (b : Bool) → acts e ≡ b
        → ((from : ℕ) (mid : Journal) → session ≡ mid.start.config.session → AllByRecursion IsLine (lines_of session es) → Rises from (lines_of session es) → last_moment mid.start.made mid.entries ≤ from → MakesAll (lines_of session es) mid k → Goes es mid k)
        → Goes (e ∷ es) j k
    go false q more =
        let none : lines_of session (e ∷ es) ≡ lines_of session es = ap (λ (o : Option Line). cons_option o (lines_of session es)) (line false q) in
        let g : Goes es j k = more from j same (subst (AllByRecursion IsLine) none fit) (subst (Rises from) none rises) l (subst (λ (ls : List Line). MakesAll ls j k) none makes) in
        record { added = g.added; grown = g.grown; hands = subst (λ xs. Hands xs j.entries g.added) (sym (dropped acts e es q)) g.hands }
    go true q more =
        let (call, is) = has_call session e.verdict e.input e.effects q in
        let here : line_of session e ≡ Some (record { moment = e.moment; call = call }) = line true q ∙ ap (at_moment e.moment) is in
        let one : lines_of session (e ∷ es) ≡ record { moment = e.moment; call = call } ∷ lines_of session es = ap (λ (o : Option Line). cons_option o (lines_of session es)) here in
        let fits : AllByRecursion IsLine (record { moment = e.moment; call = call } ∷ lines_of session es) = subst (AllByRecursion IsLine) one fit in
        let rising : Rises from (record { moment = e.moment; call = call } ∷ lines_of session es) = subst (Rises from) one rises in
        let (mid, first, rest) = subst (λ (ls : List Line). MakesAll ls j k) one makes in
        let at : min e.moment LATEST_MOMENT ≡ e.moment = in_time e.moment fits.0.moment in
        let first_at : Makes e.moment call j mid = subst (λ (n : ℕ). Makes n call j mid) at first in
        let before : last_moment j.start.made j.entries ≤ e.moment = at_most from (last_moment j.start.made j.entries) e.moment l rising.0 in
        let s : Steps e j mid = step e j mid (subst (λ (n : ℕ). n < 2 ^ 32) same small) q read.0 before e.input call refl (ap (λ (n : ℕ). line_call n e.input) (sym same) ∙ is) fits.0.call first_at in
        goes_on e es j mid k q s (more e.moment mid (same ∙ sym (ap (λ (x : Start). x.config.session) s.start)) fits.1 rising.1 s.last rest)

-- the lines of a run rise

not_after : (v : Bool) (last now : ℕ) → MatchBool v (last ≤ now) (now ≡ last) → last ≤ now
not_after true last now h = h
not_after false last now h = omega arith

counts_then : (made : ℕ) (before : List Entry) (e : Entry) → e.verdict ≡ Done → (b : Bool) → takes_moment e.input ≡ b → MatchBool b (last_moment made before ≤ e.moment) (e.moment ≡ last_moment made before) → e.moment ≤ last_moment made (before ++ e ∷ [])
counts_then made before e fine true q right =
    let grown : last_moment made (before ++ e ∷ []) ≡ max (last_moment made before) (greatest (moments_counted e.verdict e)) = last_moment-snoc made before e in
    let at : greatest (moments_counted e.verdict e) ≡ max e.moment 0 = ap (λ v. greatest (moments_counted v e)) fine ∙ ap (λ (b : Bool). greatest (if b then e.moment ∷ [] else [])) q in
    omega arith
counts_then made before e fine false q right =
    let grown : last_moment made (before ++ e ∷ []) ≡ max (last_moment made before) (greatest (moments_counted e.verdict e)) = last_moment-snoc made before e in
    omega arith

goes_later : (made : ℕ) (before : List Entry) (e : Entry) → last_moment made before ≤ last_moment made (before ++ e ∷ [])
goes_later made before e =
    let grown : last_moment made (before ++ e ∷ []) ≡ max (last_moment made before) (greatest (moments_counted e.verdict e)) = last_moment-snoc made before e in
    omega arith

pub rises : (c : Config) (made session from : ℕ) (before es : List Entry) → AllByRecursion (EntryRight c made) (steps_after before es) → from ≤ last_moment made before → Rises from (lines_of session es)
rises c made session from before [] each l = tt
rises c made session from before (e ∷ es) each l = go (acts e) refl (λ from m. rises c made session from (before ++ e ∷ []) es each.1 m)
  where
    line : (b : Bool) → acts e ≡ b → line_of session e ≡ (if b then at_moment e.moment (line_call session e.input) else None)
    line b q = ap (λ (b : Bool). if b then at_moment e.moment (line_call session e.input) else None) q

    right : MatchBool (takes_moment e.input) (last_moment made before ≤ e.moment) (e.moment ≡ last_moment made before)
    right = each.0.moment

    go : (b : Bool) → acts e ≡ b → ((from : ℕ) → from ≤ last_moment made (before ++ e ∷ []) → Rises from (lines_of session es)) → Rises from (lines_of session (e ∷ es))
    go false q more =
        let later : last_moment made before ≤ last_moment made (before ++ e ∷ []) = goes_later made before e in
        subst (Rises from) (sym (ap (λ (o : Option Line). cons_option o (lines_of session es)) (line false q))) (more from (omega arith))
    go true q more =
        let (call, is) = has_call session e.verdict e.input e.effects q in
        let here : line_of session e ≡ Some (record { moment = e.moment; call = call }) = line true q ∙ ap (at_moment e.moment) is in
        let m : last_moment made before ≤ e.moment = not_after (takes_moment e.input) (last_moment made before) e.moment right in
        let n : e.moment ≤ last_moment made (before ++ e ∷ []) = counts_then made before e (is_done_then e.verdict (acts_by e.input e.effects) q) (takes_moment e.input) refl right in
        subst (Rises from) (sym (ap (λ (o : Option Line). cons_option o (lines_of session es)) here)) (omega arith, more e.moment n)

-- what the record has of the run, by the calls that act alone

pub lines_by_acting : (session : ℕ) (es : List Entry) → lines_of session es ≡ lines_of session (acting es)
lines_by_acting session [] = refl
lines_by_acting session (e ∷ es) = go (acts e) refl (lines_by_acting session es)
  where
    go : (b : Bool) → acts e ≡ b → lines_of session es ≡ lines_of session (acting es) → lines_of session (e ∷ es) ≡ lines_of session (acting (e ∷ es))
    go true q more = ap (cons_option (line_of session e)) more ∙ sym (ap (lines_of session) (kept acts e es q))
    go false q more =
        ap (λ (b : Bool). cons_option (if b then at_moment e.moment (line_call session e.input) else None) (lines_of session es)) q ∙ more ∙ sym (ap (lines_of session) (dropped acts e es q))

pub from_start : {W : Type 0} (next_word : W → ℕ × W) (from : W) (session : ℕ) (es : List Entry) (j k : Journal) → j.entries ≡ [] → session ≡ j.start.config.session → session < 2 ^ 32 → j.start.config.me < j.start.config.members
    → IsRunByWords next_word j.start.config j.start.made from es → IsRunByWords next_word j.start.config j.start.made from k.entries → AllByRecursion IsLine (lines_of session es) → MakesAll (lines_of session es) j k → acting k.entries ≡ acting es
from_start next_word from session es j k none same small inside one two fit makes =
    let rising : Rises j.start.made (lines_of session es) = rises j.start.config j.start.made session j.start.made [] es one.run.each (omega arith) in
    let at_first : last_moment j.start.made j.entries ≤ j.start.made = subst (λ xs. last_moment j.start.made xs ≤ j.start.made) (sym none) (omega arith) in
    let g : Goes es j k = goes session es j.start.made j k same small (all_read j.start.config j.start.made [] es one.run.each) fit rising at_first makes in
    let is : k.entries ≡ g.added = g.grown ∙ ap (λ xs. xs ++ g.added) none in
    handed next_word j.start.config j.start.made from es k.entries inside one two (subst (λ xs. Hands (acting es) [] xs) (sym is) (subst (λ before. Hands (acting es) before g.added) none g.hands))
