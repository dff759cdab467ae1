-- What a recorder's call adds to its journal, made anew.
use Rattle.std.proofs.Common.{◌≡◌, ℕ, ◌+◌, ◌<◌, ◌≤◌, min, max, Bool, true, false, List, [], ◌∷◌, ◌++◌, length, get_or, take, drop, append_assoc, append-nil, length-append, refl, ap, sym, ◌∙◌, subst, inl, inr, arith}
use Rattle.std.specs.Prelude.{Option, Some, None, Result, Ok, Err, OnOk, nat_lt, MatchBool, ◌⊎◌, if◌then◌else◌}
use Rattle.std.specs.List.{flat_map}
use Rattle.std.proofs.lemmas.Bool.{ltb-false}
use Rattle.std.proofs.Math.Seq.{drop-append_seam}
use Rattle.std.proofs.lemmas.Grind.{flat_map-append}
use Rattle.srm_names.specs.declared.limits.TheConstants.{LATEST_MOMENT, PAGES}
use Rattle.srm_names.specs.Histories.{greatest}
use Rattle.srm_names.proofs.Lists.{greatest-append}
use Rattle.srm_codec.specs.declared.fault.DecodeFault.TheVariants.{Short}
use Rattle.srm_codec.specs.Judging.{judge, magic_at, prefix_at}
use Rattle.srm_entries.specs.declared.fault.AgentFault.{AgentFault}
use Rattle.srm_entries.specs.declared.fault.AgentFault.TheVariants.{Memory}
use Rattle.srm_entries.specs.declared.cause.Cause.{Cause}
use Rattle.srm_entries.specs.declared.cause.Cause.TheVariants as causes
use Rattle.srm_entries.specs.declared.entry.Entry.{Entry}
use Rattle.srm_entries.specs.declared.entry.Input.{Input}
use Rattle.srm_entries.specs.declared.entry.Input.TheVariants.{Noise, Gave}
use Rattle.srm_entries.specs.declared.entry.Verdict.{Verdict}
use Rattle.srm_entries.specs.declared.entry.Verdict.TheVariants.{Ignored}
use Rattle.srm_entries.specs.Configs.{Config}
use Rattle.srm_entries.specs.Entries.{state, is_gone, takes_moment, moments_counted, last_moment}
use Rattle.srm_entries.specs.Hearing.{read_as, bytes_heard}
use Rattle.srm_entries.proofs.Running.{last_moment-snoc}
use Rattle.srm_agent.specs.declared.heard.Heard.{Heard}
use Rattle.srm_world.specs.Traces.{Journal}
use Rattle.srm_world.specs.Recording.{Records, RecordsHeard, Grows}
use Rattle.srm_frames.specs.declared.line.Line.{Line}
use Rattle.srm_frames.proofs.Elements.{taken_more}
use Rattle.srm_record.specs.Allowances.{timers_in}
use Rattle.srm_record.proofs.Timers.{timers-append}
use Rattle.srm_record.specs.Making.{Gains, GainsHeard, GainsGiven, Waits, Makes, MakesAll}
use Rattle.srm_frames.specs.declared.line.Call.{Call}
use Rattle.srm_frames.specs.declared.line.Call.TheVariants as calls
use Rattle.srm_world.specs.declared.start.Start.{Start}

-- a call that memory was there for

gains : {A : Type 0} (now : Option ℕ) (input : Input) (is : Entry → A → Type 0) (j k : Journal) (answer : Result A AgentFault) → Records now input is j k answer → (answer ≡ Err Memory → ⊥) → Gains now input j k
gains now input is j k answer (inl (e, grows, says, answers)) made = record { entry = e; grows = grows; is = says }
gains now input is j k answer (inr (wrong, same)) made = absurd (made wrong)

gains_heard : (now : ℕ) (bytes : List ℕ) (j k : Journal) (answer : Result Heard AgentFault) → RecordsHeard now bytes j k answer → (answer ≡ Err Memory → ⊥) → GainsHeard now bytes j k
gains_heard now bytes j k answer (inl (e, grows, says, answers)) made = record { entry = e; grows = grows; is = says }
gains_heard now bytes j k answer (inr (wrong, same)) made = absurd (made wrong)

pub made_call : {A E : Type 0} (now : Option ℕ) (input : Input) (is : Entry → A → Type 0) (j k : Journal) (answer : Result A AgentFault) (r : Result (Unit {0}) E) → Records now input is j k answer → OnOk r (answer ≡ Err Memory → ⊥) → OnOk r (Gains now input j k)
made_call now input is j k answer (Ok u) records made = gains now input is j k answer records made
made_call now input is j k answer (Err e) records made = tt

pub made_heard : {E : Type 0} (now : ℕ) (bytes : List ℕ) (j k : Journal) (answer : Result Heard AgentFault) (r : Result (Unit {0}) E) → RecordsHeard now bytes j k answer → OnOk r (answer ≡ Err Memory → ⊥) → OnOk r (GainsHeard now bytes j k)
made_heard now bytes j k answer (Ok u) records made = gains_heard now bytes j k answer records made
made_heard now bytes j k answer (Err e) records made = tt

-- no bytes are noise, which counts

pub nothing_judged : (session : ℕ) → judge session [] ≡ Err Short
unfolding judge magic_at prefix_at
nothing_judged session = refl

pub nothing_heard : (c : Config) (es : List Entry) → (b : Bool) → is_gone (state es) ≡ b → (cause : Cause) × (bytes_heard c es [] ≡ (Noise, Ignored cause))
nothing_heard c es true q = (causes.Gone, ap (λ (b : Bool). if b then (Noise, Ignored causes.Gone) else read_as c es (judge c.session [])) q)
nothing_heard c es false q = (causes.Decode Short, ap (λ (b : Bool). if b then (Noise, Ignored causes.Gone) else read_as c es (judge c.session [])) q ∙ ap (read_as c es) (nothing_judged c.session))

counted : (made now : ℕ) (es : List Entry) (e : Entry) → moments_counted e.verdict e ≡ e.moment ∷ [] → now ≤ e.moment → now ≤ last_moment made (es ++ e ∷ [])
counted made now es e is l =
    let grown : last_moment made (es ++ e ∷ []) ≡ max (last_moment made es) (greatest (moments_counted e.verdict e)) = last_moment-snoc made es e in
    let at : greatest (moments_counted e.verdict e) ≡ max e.moment 0 = ap greatest is in
    omega arith

noise_counts : (c : Config) (es : List Entry) (e : Entry) → (e.input, e.verdict) ≡ bytes_heard c es [] → moments_counted e.verdict e ≡ e.moment ∷ []
noise_counts c es e is =
    let (cause, heard) = nothing_heard c es (is_gone (state es)) refl in
    let input : e.input ≡ Noise = ap (λ (p : Input × Verdict). p.0) (is ∙ heard) in
    let verdict : e.verdict ≡ Ignored cause = ap (λ (p : Input × Verdict). p.1) (is ∙ heard) in
    ap (λ v. moments_counted v e) verdict ∙ ap (λ i. if takes_moment i then e.moment ∷ [] else []) input

-- The moment has come, perhaps with noise.
pub record HasCome (now : ℕ) (j k : Journal) : Type 0 where
  pub waited : (k ≡ j) ⊎ GainsHeard now [] j k
  pub come : now ≤ last_moment k.start.made k.entries

come_heard : (now : ℕ) (j k : Journal) → GainsHeard now [] j k → HasCome now j k
come_heard now j k h =
    let late : h.entry.moment ≡ max now (last_moment j.start.made j.entries) = h.grows.moment in
    let come : now ≤ last_moment j.start.made (j.entries ++ h.entry ∷ []) = counted j.start.made now j.entries h.entry (noise_counts j.start.config j.entries h.entry h.is) (omega arith) in
    record { waited = inr h; come = subst (λ (x : Journal). now ≤ last_moment x.start.made x.entries) (sym h.grows.grown) come }

come_before : (now : ℕ) (j k : Journal) → k ≡ j → now ≤ last_moment j.start.made j.entries → HasCome now j k
come_before now j k same come = record { waited = inl same; come = subst (λ (x : Journal). now ≤ last_moment x.start.made x.entries) (sym same) come }

pub has_come : (now : ℕ) (j k : Journal) → Waits now j k → HasCome now j k
has_come now j k waits = go (nat_lt (last_moment j.start.made j.entries) now) refl waits
  where
    go : (b : Bool) → nat_lt (last_moment j.start.made j.entries) now ≡ b → MatchBool b (GainsHeard now [] j k) (k ≡ j) → HasCome now j k
    go true q heard = come_heard now j k heard
    go false q same = come_before now j k same (ltb-false (last_moment j.start.made j.entries) now q)

as_judged : (A B : Type 0) (b c : Bool) → b ≡ c → MatchBool b A B → MatchBool c A B
as_judged A B b c same = subst (λ (x : Bool). MatchBool x A B) same

pub waits_heard : {E : Type 0} (now clock : ℕ) (j k : Journal) (answer : Result Heard AgentFault) (r : Result (Unit {0}) E) → clock ≡ last_moment j.start.made j.entries → nat_lt clock now ≡ true
    → RecordsHeard now [] j k answer → OnOk r (answer ≡ Err Memory → ⊥) → OnOk r (Waits now j k)
waits_heard now clock j k answer (Ok u) is late records made =
    as_judged (GainsHeard now [] j k) (k ≡ j) true _ (sym (ap (λ n. nat_lt n now) (sym is) ∙ late)) (gains_heard now [] j k answer records made)
waits_heard now clock j k answer (Err e) is late records made = tt

pub waits_none : (now clock : ℕ) (j k : Journal) → clock ≡ last_moment j.start.made j.entries → nat_lt clock now ≡ false → k ≡ j → Waits now j k
waits_none now clock j k is early same = as_judged (GainsHeard now [] j k) (k ≡ j) false _ (sym (ap (λ n. nat_lt n now) (sym is) ∙ early)) same

pub made_give : {A E : Type 0} (now slot : ℕ) (is : Entry → A → Type 0) (j mid k : Journal) (answer : Result A AgentFault) (r : Result (Unit {0}) E) → Waits now j mid → Records None (Gave slot) is mid k answer → OnOk r (answer ≡ Err Memory → ⊥) → OnOk r (GainsGiven now slot j k)
made_give now slot is j mid k answer (Ok u) waits records made = record { between = mid; waits = waits; gains = gains None (Gave slot) is mid k answer records made }
made_give now slot is j mid k answer (Err e) waits records made = tt

-- what a call added

pub record Added (j k : Journal) : Type 0 where
  pub more : List Entry
  pub grown : k.entries ≡ j.entries ++ more

one_added : (at : Option ℕ) (j k : Journal) (e : Entry) → Grows at j k e → Added j k
one_added at j k e grows = record { more = e ∷ []; grown = ap (λ (x : Journal). x.entries) grows.grown }

none_added : (j k : Journal) → k ≡ j → Added j k
none_added j k same = record { more = []; grown = ap (λ (x : Journal). x.entries) same ∙ sym (append-nil j.entries) }

both_added : (j mid k : Journal) → Added j mid → Added mid k → Added j k
both_added j mid k one two = record { more = one.more ++ two.more; grown = two.grown ∙ ap (λ es. es ++ two.more) one.grown ∙ append_assoc j.entries one.more two.more }

waited_added : (now : ℕ) (j k : Journal) (b : Bool) → MatchBool b (GainsHeard now [] j k) (k ≡ j) → Added j k
waited_added now j k true h = one_added (Some now) j k h.entry h.grows
waited_added now j k false same = none_added j k same

given_added : (now slot : ℕ) (j k : Journal) (b : Bool) → MatchBool b (GainsGiven now slot j k) (k ≡ j) → Added j k
given_added now slot j k true g =
    both_added j g.between k (waited_added now j g.between (nat_lt (last_moment j.start.made j.entries) now) g.waits) (one_added None g.between k g.gains.entry g.gains.grows)
given_added now slot j k false same = none_added j k same

added : (now : ℕ) (call : Call) (j k : Journal) → Makes now call j k → Added j k
added now (calls.Drew page body) j k g = one_added (Some now) j k g.entry g.grows
added now (calls.Heard bytes) j k g = one_added (Some now) j k g.entry g.grows
added now calls.Ticked j k g = one_added (Some now) j k g.entry g.grows
added now (calls.Showed page) j k g = one_added (Some now) j k g.entry g.grows
added now calls.AskedLeave j k g = one_added (Some now) j k g.entry g.grows
added now (calls.Gave slot) j k g = given_added now slot j k (nat_lt slot PAGES) g
added now (calls.Took slot message) j k same = none_added j k same
added now calls.Ended j k same = none_added j k same

pub no_fewer : (now : ℕ) (call : Call) (j k : Journal) → Makes now call j k → length j.entries ≤ length k.entries
no_fewer now call j k makes =
    let a = added now call j k makes in
    let count : length k.entries ≡ length j.entries + length a.more = ap length a.grown ∙ length-append j.entries a.more in
    omega arith

-- so do the timers that it set
pub timers_go_on : (now : ℕ) (call : Call) (j k : Journal) → Makes now call j k → timers_in k.entries ≡ timers_in j.entries + timers_in (drop (length j.entries) k.entries)
timers_go_on now call j k makes =
    let a = added now call j k makes in
    ap timers_in a.grown
    ∙ timers-append j.entries a.more
    ∙ ap (λ es. timers_in j.entries + timers_in es) (sym (ap (drop (length j.entries)) a.grown ∙ drop-append_seam j.entries a.more))

last_moment-append : (made : ℕ) (es fs : List Entry) → last_moment made (es ++ fs) ≡ last_moment (last_moment made es) fs
last_moment-append made es fs =
    let counts : List Entry → List ℕ = flat_map (λ (e : Entry). moments_counted e.verdict e) in
    let grown : greatest (made ∷ counts (es ++ fs)) ≡ max (greatest (made ∷ counts es)) (greatest (counts fs)) =
    ap (λ ns. greatest (made ∷ ns)) (flat_map-append (λ (e : Entry). moments_counted e.verdict e) es fs) ∙ greatest-append (made ∷ counts es) (counts fs) in
    grown

-- entry by entry
pub one_clock_more : (clock now new at : ℕ) (es : List Entry) (e : Entry) → at < length es → e ≡ get_or es at e → now ≡ last_moment clock (take at es)
    → new ≡ greatest (now ∷ moments_counted e.verdict e) → new ≡ last_moment clock (take (at + 1) es)
one_clock_more clock now new at es e there is so more =
    more ∙ ap (λ n. max n (greatest (moments_counted e.verdict e))) so ∙ sym (last_moment-snoc clock (take at es) e) ∙ ap (last_moment clock) (sym (taken_more es at e there is))

-- the clock goes on by what a call added
pub clock_goes_on : (now clock : ℕ) (call : Call) (j k : Journal) → clock ≡ last_moment j.start.made j.entries → k.start ≡ j.start → Makes now call j k
    → last_moment clock (drop (length j.entries) k.entries) ≡ last_moment k.start.made k.entries
clock_goes_on now clock call j k is start makes =
    let a = added now call j k makes in
    ap (λ es. last_moment clock (drop (length j.entries) es)) a.grown
    ∙ ap (last_moment clock) (drop-append_seam j.entries a.more)
    ∙ ap (λ n. last_moment n a.more) is
    ∙ sym (last_moment-append j.start.made j.entries a.more)
    ∙ sym (ap (λ (x : Start). last_moment x.made k.entries) start ∙ ap (last_moment j.start.made) a.grown)

-- line by line

pub makes_more : (ls : List Line) (l : Line) (a b c : Journal) → MakesAll ls a b → Makes (min l.moment LATEST_MOMENT) l.call b c → MakesAll (ls ++ l ∷ []) a c
makes_more [] l a b c same makes = (c, subst (λ (x : Journal). Makes (min l.moment LATEST_MOMENT) l.call x c) same makes, refl)
makes_more (k ∷ ls) l a b c (mid, first, all) makes = (mid, first, makes_more ls l mid b c all makes)

pub makes_next : (ls : List Line) (at : ℕ) (l : Line) (a b c : Journal) → at < length ls → l ≡ get_or ls at l → MakesAll (take at ls) a b → Makes (min l.moment LATEST_MOMENT) l.call b c → MakesAll (take (at + 1) ls) a c
makes_next ls at l a b c there is all makes = subst (λ (ks : List Line). MakesAll ks a c) (sym (taken_more ls at l there is)) (makes_more (take at ls) l a b c all makes)
