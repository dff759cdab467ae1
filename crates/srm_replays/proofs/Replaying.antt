-- A replay does what was done: by induction along the calls that act.
use Rattle.std.proofs.Common.{◌≡◌, ℕ, ◌<◌, Bool, true, false, not, ◌&&◌, List, [], ◌∷◌, ◌++◌, map, refl, ap, sym, ◌∙◌, subst, arith, append_assoc}
use Rattle.std.specs.Prelude.{cond, filter, nat_le}
use Rattle.std.specs.List.{AllByRecursion}
use Rattle.std.proofs.lemmas.Bool.Decides.{nat_tests}
use Rattle.srm_names.specs.Histories.{steps, steps_after}
use Rattle.srm_bucket.specs.Law.{BucketLaw}
use Rattle.srm_timers.specs.Arms.{AreChosen}
use Rattle.srm_entries.specs.Configs.{Config}
use Rattle.srm_entries.specs.declared.entry.Entry.{Entry}
use Rattle.srm_entries.specs.declared.entry.Effects.{Effects}
use Rattle.srm_entries.specs.declared.entry.Input.{Input}
use Rattle.srm_entries.specs.declared.entry.Input.TheVariants.{Drew, Heard, Noise, Ticked, Showed, AskedLeave, Gave, Took}
use Rattle.srm_entries.specs.declared.entry.Verdict.{Verdict}
use Rattle.srm_entries.specs.Timers.{low_of, high_of}
use Rattle.srm_entries.specs.Bucket.{Going, GoesAsCharged, entries_of, bucket_calls}
use Rattle.srm_entries.specs.Runs.{EntryRight}
use Rattle.srm_entries.proofs.Marking.{entries-snoc}
use Rattle.srm_entries.proofs.Spending.{law_to}
use Rattle.srm_world.specs.WaitWords.{AreByWords, arms_in}
use Rattle.srm_replays.specs.Calls.{is_done, acts_by, acts}
use Rattle.srm_replays.specs.Law.{call_of, acting, is_noise, but_noise, IsRunByWords, ReplayLaw, AgreementLaw}
use Rattle.srm_replays.proofs.Levels.{SameCalls}
use Rattle.srm_replays.proofs.Waits.{ChosenInParts, chosen_in_parts}
use Rattle.srm_replays.proofs.Resting.{GoesOn, still}
use Rattle.srm_replays.proofs.Abreast.{Abreast, abreast_start, abreast_both, skips, skips_other, SameGoes}
use Rattle.srm_replays.proofs.Twins.{goes_here, arms_here, same_going}

-- a run, marked with what went in each entry

abbrev pub AllGoOn : Config → ℕ → List Going → List Going → Type 0
AllGoOn c made before [] = Unit {0}
AllGoOn c made before (x ∷ xs) = GoesOn c made before x × AllGoOn c made (before ++ x ∷ []) xs

pub all_go_on : (c : Config) (made : ℕ) (before xs : List Going) → AllByRecursion (EntryRight c made) (steps_after (entries_of before) (entries_of xs)) → AllByRecursion GoesAsCharged (steps_after before xs)
    → BucketLaw c.rate c.depth (bucket_calls c.me (before ++ xs)) → AllGoOn c made before xs
all_go_on c made before [] each goes law = tt
all_go_on c made before (x ∷ xs) each goes law =
    let law_on : BucketLaw c.rate c.depth (bucket_calls c.me ((before ++ x ∷ []) ++ xs)) = subst (λ gs. BucketLaw c.rate c.depth (bucket_calls c.me gs)) (sym (append_assoc before (x ∷ []) xs)) law in (
      record { right = each.0; goes = goes.0; law = law_to c (before ++ x ∷ []) xs law_on },
      all_go_on c made (before ++ x ∷ []) xs (subst (λ es. AllByRecursion (EntryRight c made) (steps_after es (entries_of xs))) (sym (entries-snoc before x)) each.1) goes.1 law_on,
    )

-- noise doesn't act

pub noise_rests : (v : Verdict) (i : Input) (f : Effects) → is_noise i ≡ true → (is_done v && acts_by i f) ≡ false
noise_rests v Noise f e = never (is_done v)
  where
    never : (b : Bool) → (b && false) ≡ false
    never true = refl
    never false = refl
noise_rests v (Drew page body) f e = absurd (cc)
noise_rests v (Heard g) f e = absurd (cc)
noise_rests v Ticked f e = absurd (cc)
noise_rests v (Showed page) f e = absurd (cc)
noise_rests v AskedLeave f e = absurd (cc)
noise_rests v (Gave slot) f e = absurd (cc)
noise_rests v (Took slot) f e = absurd (cc)

acts_awake : (e : Entry) → acts e ≡ true → is_noise e.input ≡ false
acts_awake e a = go (is_noise e.input) refl
  where
    go : (b : Bool) → is_noise e.input ≡ b → b ≡ false
    go false q = refl
    go true q = let rests : acts e ≡ false = noise_rests e.verdict e.input e.effects q in absurd (cc)

pub kept : (p : Entry → Bool) (e : Entry) (es : List Entry) → p e ≡ true → filter p (e ∷ es) ≡ e ∷ filter p es
kept p e es q = ap (λ b. cond b (e ∷ filter p es) (filter p es)) q

pub dropped : (p : Entry → Bool) (e : Entry) (es : List Entry) → p e ≡ false → filter p (e ∷ es) ≡ filter p es
dropped p e es q = ap (λ b. cond b (e ∷ filter p es) (filter p es)) q

noise_dropped : (e : Entry) (es : List Entry) → is_noise e.input ≡ true → but_noise (e ∷ es) ≡ but_noise es
noise_dropped e es q = dropped (λ x. not (is_noise x.input)) e es (ap not q)

others_kept : (e : Entry) (es : List Entry) → is_noise e.input ≡ false → but_noise (e ∷ es) ≡ e ∷ but_noise es
others_kept e es q = kept (λ x. not (is_noise x.input)) e es (ap not q)

-- where nothing but noise comes, nothing acts
only_noise : (fs : List Entry) → map call_of (but_noise fs) ≡ [] → acting fs ≡ []
only_noise [] e = refl
only_noise (f ∷ fs) e = go (is_noise f.input) refl (only_noise fs)
  where
    go : (b : Bool) → is_noise f.input ≡ b → (map call_of (but_noise fs) ≡ [] → acting fs ≡ []) → acting (f ∷ fs) ≡ []
    go true q more = dropped acts f fs (noise_rests f.verdict f.input f.effects q) ∙ more (ap (map call_of) (sym (noise_dropped f fs q)) ∙ e)
    go false q more =
        let bad : call_of f ∷ map call_of (but_noise fs) ≡ [] = ap (map call_of) (sym (others_kept f fs q)) ∙ e in
        absurd (cc)

-- where none of the calls act, there is none
none_act : (es : List Entry) → map call_of es ≡ [] → es ≡ []
none_act [] e = refl
none_act (x ∷ es) e = absurd (cc)

-- Two runs that met at a call which acts: they go on abreast, by the same random numbers.
pub record Met {W : Type 0} (next_word : W → ℕ × W) (c : Config) (made : ℕ) (us vs : List Going) (to other : W) (x y : Going) (xs ys : List Going) : Type 0 where
  pub same : x ≡ y
  pub acts_too : acts y.entry ≡ true
  pub abreast : Abreast c made (us ++ x ∷ []) (vs ++ x ∷ [])
  pub also : AllGoOn c made (vs ++ x ∷ []) ys
  pub mid : W
  pub words : AreByWords next_word c mid (entries_of xs) to
  pub more : AreByWords next_word c mid (entries_of ys) other

module _ {W : Type 0} (next_word : W → ℕ × W) (c : Config) (made : ℕ) (me : nat_le c.members c.me ≡ false) where
  -- the words of an entry that sets no timer, and those after it
  pub words_after : (from to : W) (x : Going) (xs : List Going) → x.entry.effects.arms ≡ [] → AreByWords next_word c from (entries_of (x ∷ xs)) to → AreByWords next_word c from (entries_of xs) to
  words_after from to x xs none words = subst (λ w. AreChosen next_word (low_of c) (high_of c) from (w ++ arms_in (entries_of xs)) to) none words

  -- a call that acts, and a call at its moment and of its input
  pub meet : (us vs : List Going) (from to other : W) (x y : Going) (xs ys : List Going) → acts x.entry ≡ true → call_of y.entry ≡ call_of x.entry → Abreast c made us vs → GoesOn c made us x
      → AllGoOn c made vs (y ∷ ys) → AreByWords next_word c from (entries_of (x ∷ xs)) to → AreByWords next_word c from (entries_of (y ∷ ys)) other → Met next_word c made us vs to other x y xs ys
  meet us vs from to other x y xs ys acts_x call a on also words more =
      let moment : x.entry.moment ≡ y.entry.moment = sym (ap (λ (k : ℕ × Input). k.0) call) in
      let input : x.entry.input ≡ y.entry.input = sym (ap (λ (k : ℕ × Input). k.1) call) in
      let awake : is_noise x.entry.input ≡ false = acts_awake x.entry acts_x in
      let parts : ChosenInParts next_word c from to x.entry.effects.arms (arms_in (entries_of xs)) = chosen_in_parts next_word c from to x.entry.effects.arms (arms_in (entries_of xs)) words in
      let others : ChosenInParts next_word c from other y.entry.effects.arms (arms_in (entries_of ys)) = chosen_in_parts next_word c from other y.entry.effects.arms (arms_in (entries_of ys)) more in
      let arms = arms_here next_word c made me us vs x y a on also.0 moment input awake acts_x from parts.mid others.mid parts.first others.first in
      let same : x ≡ y = same_going next_word c made me us vs x y a on also.0 moment input awake acts_x arms.arms in
      let goes : SameGoes c us vs x y = goes_here next_word c made me us vs x y a on also.0 moment input awake acts_x in
      record {
        same = same;
        acts_too = ap (λ (z : Going). acts z.entry) (sym same) ∙ acts_x;
        abreast = abreast_both c made us vs x a on (subst (GoesOn c made vs) (sym same) also.0)
            (subst (λ z. SameCalls c.rate c.depth (bucket_calls c.me (us ++ x ∷ [])) (bucket_calls c.me (vs ++ z ∷ []))) (sym same) goes.calls);
        also = subst (λ z. AllGoOn c made (vs ++ z ∷ []) ys) (sym same) also.1;
        mid = parts.mid;
        words = parts.then_;
        more = subst (λ w. AreChosen next_word (low_of c) (high_of c) w (arms_in (entries_of ys)) other) (sym arms.after) others.then_;
      }

  -- the entries that act, from there on
  pub met_then : (us vs : List Going) (to other : W) (x y : Going) (xs ys : List Going) → acts x.entry ≡ true → Met next_word c made us vs to other x y xs ys → acting (entries_of ys) ≡ acting (entries_of xs)
      → acting (entries_of (y ∷ ys)) ≡ acting (entries_of (x ∷ xs))
  met_then us vs to other x y xs ys acts_x met rest =
      kept acts y.entry (entries_of ys) met.acts_too ∙ ap (λ es. y.entry ∷ es) rest ∙ ap (λ (z : Going). z.entry ∷ acting (entries_of xs)) (sym met.same) ∙ sym (kept acts x.entry (entries_of xs) acts_x)

  -- Of the rest of two runs that are abreast: what they are handed is compared by `calls` of the second.
  abbrev Follows : (List Entry → List Entry) → List Going → List Going → Type 0
  Follows calls xs ys = (us vs : List Going) (from to other : W) → Abreast c made us vs → AllGoOn c made us xs → AllGoOn c made vs ys → AreByWords next_word c from (entries_of xs) to
      → AreByWords next_word c from (entries_of ys) other → map call_of (calls (entries_of ys)) ≡ map call_of (acting (entries_of xs)) → acting (entries_of ys) ≡ acting (entries_of xs)

  -- handed all calls that act, and noise

  past_noise : (x : Going) (xs ys : List Going) → acts x.entry ≡ true → ((zs : List Going) → Follows but_noise xs zs) → Follows but_noise (x ∷ xs) ys
  past_noise x xs [] acts_x follow us vs from to other a on also words more calls =
      let bad : [] ≡ call_of x.entry ∷ map call_of (acting (entries_of xs)) = calls ∙ ap (map call_of) (kept acts x.entry (entries_of xs) acts_x) in
      absurd (cc)
  past_noise x xs (y ∷ ys) acts_x follow us vs from to other a on also words more calls = go (is_noise y.entry.input) refl (λ b k w e. past_noise x xs ys acts_x follow us (vs ++ y ∷ []) from to other b on k words w e)
    where
      go : (b : Bool) → is_noise y.entry.input ≡ b
          → (Abreast c made us (vs ++ y ∷ []) → AllGoOn c made (vs ++ y ∷ []) ys → AreByWords next_word c from (entries_of ys) other
          → map call_of (but_noise (entries_of ys)) ≡ map call_of (acting (entries_of (x ∷ xs))) → acting (entries_of ys) ≡ acting (entries_of (x ∷ xs)))
          → acting (entries_of (y ∷ ys)) ≡ acting (entries_of (x ∷ xs))
      go true q later =
          let idle : acts y.entry ≡ false = noise_rests y.entry.verdict y.entry.input y.entry.effects q in
          dropped acts y.entry (entries_of ys) idle
          ∙ later (skips_other c made us vs y a also.0 idle) also.1 (words_after from other y ys (still c made vs y also.0 idle).arms more)
          (ap (map call_of) (sym (noise_dropped y.entry (entries_of ys) q)) ∙ calls)
      go false q later =
          let calls_are : call_of y.entry ∷ map call_of (but_noise (entries_of ys)) ≡ call_of x.entry ∷ map call_of (acting (entries_of xs)) =
          ap (map call_of) (sym (others_kept y.entry (entries_of ys) q)) ∙ calls ∙ ap (map call_of) (kept acts x.entry (entries_of xs) acts_x) in
          let head : call_of y.entry ≡ call_of x.entry = cc in
          let tail : map call_of (but_noise (entries_of ys)) ≡ map call_of (acting (entries_of xs)) = cc in
          let met = meet us vs from to other x y xs ys acts_x head a on.0 also words more in
          met_then us vs to other x y xs ys acts_x met (follow ys (us ++ x ∷ []) (vs ++ x ∷ []) met.mid to other met.abreast on.1 met.also met.words met.more tail)

  follows : (xs ys : List Going) → Follows but_noise xs ys
  follows [] ys us vs from to other a on also words more calls = only_noise (entries_of ys) calls
  follows (x ∷ xs) ys us vs from to other a on also words more calls = go (acts x.entry) refl (λ zs. follows xs zs)
    where
      go : (b : Bool) → acts x.entry ≡ b → ((zs : List Going) → Follows but_noise xs zs) → acting (entries_of ys) ≡ acting (entries_of (x ∷ xs))
      go true q follow = past_noise x xs ys q follow us vs from to other a on also words more calls
      go false q follow =
          let out : acting (entries_of (x ∷ xs)) ≡ acting (entries_of xs) = dropped acts x.entry (entries_of xs) q in
          follow ys (us ++ x ∷ []) vs from to other (skips c made us vs x a on.0 q) on.1 also (words_after from to x xs (still c made us x on.0 q).arms words) more (calls ∙ ap (map call_of) out) ∙ sym out

  -- where the same calls act

  past_idle : (x : Going) (xs ys : List Going) → acts x.entry ≡ true → ((zs : List Going) → Follows acting xs zs) → Follows acting (x ∷ xs) ys
  past_idle x xs [] acts_x follow us vs from to other a on also words more calls =
      let bad : [] ≡ call_of x.entry ∷ map call_of (acting (entries_of xs)) = calls ∙ ap (map call_of) (kept acts x.entry (entries_of xs) acts_x) in
      absurd (cc)
  past_idle x xs (y ∷ ys) acts_x follow us vs from to other a on also words more calls = go (acts y.entry) refl (λ b k w e. past_idle x xs ys acts_x follow us (vs ++ y ∷ []) from to other b on k words w e)
    where
      go : (b : Bool) → acts y.entry ≡ b
          → (Abreast c made us (vs ++ y ∷ []) → AllGoOn c made (vs ++ y ∷ []) ys → AreByWords next_word c from (entries_of ys) other
          → map call_of (acting (entries_of ys)) ≡ map call_of (acting (entries_of (x ∷ xs))) → acting (entries_of ys) ≡ acting (entries_of (x ∷ xs)))
          → acting (entries_of (y ∷ ys)) ≡ acting (entries_of (x ∷ xs))
      go false q later =
          dropped acts y.entry (entries_of ys) q
          ∙ later (skips_other c made us vs y a also.0 q) also.1 (words_after from other y ys (still c made vs y also.0 q).arms more) (ap (map call_of) (sym (dropped acts y.entry (entries_of ys) q)) ∙ calls)
      go true q later =
          let calls_are : call_of y.entry ∷ map call_of (acting (entries_of ys)) ≡ call_of x.entry ∷ map call_of (acting (entries_of xs)) =
          ap (map call_of) (sym (kept acts y.entry (entries_of ys) q)) ∙ calls ∙ ap (map call_of) (kept acts x.entry (entries_of xs) acts_x) in
          let head : call_of y.entry ≡ call_of x.entry = cc in
          let tail : map call_of (acting (entries_of ys)) ≡ map call_of (acting (entries_of xs)) = cc in
          let met = meet us vs from to other x y xs ys acts_x head a on.0 also words more in
          met_then us vs to other x y xs ys acts_x met (follow ys (us ++ x ∷ []) (vs ++ x ∷ []) met.mid to other met.abreast on.1 met.also met.words met.more tail)

  agrees : (xs ys : List Going) → Follows acting xs ys
  agrees [] ys us vs from to other a on also words more calls = none_act (acting (entries_of ys)) calls
  agrees (x ∷ xs) ys us vs from to other a on also words more calls = go (acts x.entry) refl (λ zs. agrees xs zs)
    where
      go : (b : Bool) → acts x.entry ≡ b → ((zs : List Going) → Follows acting xs zs) → acting (entries_of ys) ≡ acting (entries_of (x ∷ xs))
      go true q follow = past_idle x xs ys q follow us vs from to other a on also words more calls
      go false q follow =
          let out : acting (entries_of (x ∷ xs)) ≡ acting (entries_of xs) = dropped acts x.entry (entries_of xs) q in
          follow ys (us ++ x ∷ []) vs from to other (skips c made us vs x a on.0 q) on.1 also (words_after from to x xs (still c made us x on.0 q).arms words) more (calls ∙ ap (map call_of) out) ∙ sym out

  -- of whole runs
  from_start : (calls : List Entry → List Entry) → ((xs ys : List Going) → Follows calls xs ys) → (from : W) (es fs : List Entry) → IsRunByWords next_word c made from es → IsRunByWords next_word c made from fs
      → map call_of (calls fs) ≡ map call_of (acting es) → acting fs ≡ acting es
  from_start calls follow from es fs one two same =
      let (gs, q, all, law) = one.run.bucket in
      let (hs, r, also, other) = two.run.bucket in
      let on : AllGoOn c made [] gs = all_go_on c made [] gs (subst (λ ys. AllByRecursion (EntryRight c made) (steps ys)) (sym q) one.run.each) all law in
      let on_other : AllGoOn c made [] hs = all_go_on c made [] hs (subst (λ ys. AllByRecursion (EntryRight c made) (steps ys)) (sym r) two.run.each) also other in
      ap acting (sym r)
      ∙ follow gs hs [] [] from one.to two.to (abreast_start c made) on on_other (subst (λ ys. AreByWords next_word c from ys one.to) (sym q) one.words) (subst (λ ys. AreByWords next_word c from ys two.to) (sym r) two.words)
      (ap (λ ys. map call_of (calls ys)) r ∙ same ∙ ap (λ ys. map call_of (acting ys)) (sym q))
      ∙ ap acting q

pub outside : (members me : ℕ) → me < members → nat_le members me ≡ false
outside members me l = grind (arith, nat_tests)

pub replay_law : {W : Type 0} → ReplayLaw W
replay_law next_word c made from es fs inside one two replays =
    let me : nat_le c.members c.me ≡ false = outside c.members c.me inside in
    from_start next_word c made me but_noise (follows next_word c made me) from es fs one two replays

pub agreement_law : {W : Type 0} → AgreementLaw W
agreement_law next_word c made from es fs inside one two same =
    let me : nat_le c.members c.me ≡ false = outside c.members c.me inside in
    from_start next_word c made me acting (agrees next_word c made me) from es fs one two same
