-- What each call of a bucket does to the calls that it fits.
use Rattle.std.proofs.Common.{◌≡◌, ℕ, ◌-◌, ◌≤◌, ◌<◌, max, List, [], ◌∷◌, ◌++◌, length, drop, Option, Some, None, Bool, true, false, refl, sym, ap, subst, ◌∙◌, arith}
use Rattle.std.specs.Prelude.{if◌then◌else◌, nat_le, IfSome, IsSome, option_map}
use Rattle.std.specs.Bool.{OnTrue}
use Rattle.std.proofs.Math.Seq.{drop-append_seam}
use Rattle.std.proofs.lemmas.List.{append-nil}
use Rattle.std.proofs.lemmas.Bool.Decides.{nat_tests}
use Rattle.srm_bucket.specs.declared.class.Class.{Class}
use Rattle.srm_bucket.specs.declared.item.Item.{Item}
use Rattle.srm_bucket.specs.declared.tokens.Tokens.{Tokens}
use Rattle.srm_bucket.specs.Calls.{Classed, BucketCall, Handed, Refilled, Popped}
use Rattle.srm_bucket.specs.Classes.{in_class, handed, departed, queued, next_queued}
use Rattle.srm_bucket.specs.Tokens.{IsFirstMoment, refilled, spent}
use Rattle.srm_bucket.specs.Ticks.{last_moment, ticks, cost, level, IsWithin}
use Rattle.srm_bucket.specs.Law.{GoesRight, NoneHigher, lets_nothing_go, level_at, covered, may_go}
use Rattle.srm_bucket.specs.Waiting.{Waiting, Gains, Loses, SameQueues, queue, next_in}
use Rattle.srm_bucket.specs.Content.{BucketContent}
use Rattle.srm_bucket.specs.Fits.{BucketFits, BucketStays, BucketAdds, Pops, IsNextDeparture, tokens_at}
use Rattle.srm_bucket.proofs.Steps.{last-snoc, ticks-same, waiting-snoc, law-snoc, level-at, within-at, level-popped, within-popped}
use Rattle.srm_bucket.proofs.Highest.{next-same, next-highest}

pub left-is : {T : Type 0} (calls : List (BucketCall T)) (w : Waiting T) → ((k : Class) → departed k calls ++ queue w k ≡ handed k calls) → (k : Class) → queued calls k ≡ queue w k
left-is calls w are k = ap (drop (length (departed k calls))) (sym (are k)) ∙ drop-append_seam (departed k calls) (queue w k)

next-is : {T : Type 0} (calls : List (BucketCall T)) (w : Waiting T) → ((k : Class) → departed k calls ++ queue w k ≡ handed k calls) → next_queued calls ≡ next_in w
next-is calls w are = next-same (queued calls) (queue w) (left-is calls w are)

pub waiting_left : {T : Type 0} (b : BucketContent T) (k : Class) (rate depth : ℕ) (calls : List (BucketCall T)) → BucketFits rate depth calls b → length (queue b.waiting k) ≡ length (queued calls k)
waiting_left b k rate depth calls f = ap length (sym (left-is calls b.waiting f.waiting_is k))

-- what stays
pub stays : {T : Type 0} (old new : BucketContent T) → new.tokens ≡ old.tokens → SameQueues old.waiting new.waiting → BucketStays old new
stays old new tokens queues = record {
  fits = λ rate depth calls f. record {
    tokens_are = tokens ∙ f.tokens_are;
    waiting_is = λ k. ap (λ xs. departed k calls ++ xs) (queues k) ∙ f.waiting_is k;
    within = f.within;
    law = f.law;
  };
}

-- the tokens at a moment
tokens-refilled : {T : Type 0} (rate depth : ℕ) (calls : List (BucketCall T)) (now : ℕ) → IsWithin rate depth (last_moment calls) (ticks calls)
    → refilled now (tokens_at rate depth calls (last_moment calls)) ≡ tokens_at rate depth calls (max (last_moment calls) now)
tokens-refilled rate depth calls now within =
    let same : (l : ℕ) → Tokens = λ l. record { rate = rate; depth = depth; level = l; last = max (last_moment calls) now } in
    ap same (level-at rate depth (last_moment calls) now (ticks calls) within)

pub refilled-is : {T : Type 0} (b : BucketContent T) (rate depth : ℕ) (calls : List (BucketCall T)) (now : ℕ) → BucketFits rate depth calls b
    → refilled now b.tokens ≡ tokens_at rate depth calls (max (last_moment calls) now)
refilled-is b rate depth calls now f = ap (refilled now) f.tokens_are ∙ tokens-refilled rate depth calls now f.within

-- tokens and window after a call that is no pop
quiet-tokens : {T : Type 0} (rate depth : ℕ) (calls : List (BucketCall T)) (c : BucketCall T) (m : ℕ) → ticks (calls ++ c ∷ []) ≡ ticks calls → last_moment (calls ++ c ∷ []) ≡ m
    → tokens_at rate depth calls m ≡ tokens_at rate depth (calls ++ c ∷ []) (last_moment (calls ++ c ∷ []))
quiet-tokens rate depth calls c m same at = rw (at, same) refl

quiet-within : {T : Type 0} (rate depth : ℕ) (calls : List (BucketCall T)) (c : BucketCall T) (m : ℕ) → ticks (calls ++ c ∷ []) ≡ ticks calls → last_moment (calls ++ c ∷ []) ≡ m
    → IsWithin rate depth m (ticks calls) → IsWithin rate depth (last_moment (calls ++ c ∷ [])) (ticks (calls ++ c ∷ []))
quiet-within rate depth calls c m same at within = rw (at, same) within

-- a hand-in
pub adds_handed : {T : Type 0} (c : Classed T) (old new : BucketContent T) → new.tokens ≡ old.tokens → Gains c old.waiting new.waiting → BucketAdds (Handed c) old new
adds_handed c old new tokens gains = record {
  fits = λ rate depth calls f.
      let at : last_moment (calls ++ Handed c ∷ []) ≡ last_moment calls = last-snoc calls (Handed c) ∙ omega arith in
      let same : ticks (calls ++ Handed c ∷ []) ≡ ticks calls = ticks-same calls (Handed c) refl in
      let within : IsWithin rate depth (last_moment (calls ++ Handed c ∷ [])) (ticks (calls ++ Handed c ∷ [])) = quiet-within rate depth calls (Handed c) (last_moment calls) same at f.within in
      let are : (k : Class) → departed k (calls ++ Handed c ∷ []) ++ queue new.waiting k ≡ handed k (calls ++ Handed c ∷ []) = waiting-snoc calls (Handed c) old.waiting new.waiting gains f.waiting_is in
      record {
        tokens_are = tokens ∙ f.tokens_are ∙ quiet-tokens rate depth calls (Handed c) (last_moment calls) same at;
        waiting_is = are;
        within = within;
        law = law-snoc rate depth calls (Handed c) f.law (record { in_order = λ k. (queue new.waiting k, are k); highest_first = tt; not_too_much = within; all_that_may = tt });
      };
}

-- a moment
pub adds_refilled : {T : Type 0} (now : ℕ) (old new : BucketContent T) → new.tokens ≡ refilled now old.tokens → SameQueues old.waiting new.waiting → BucketAdds (Refilled now) old new
adds_refilled {T = T} now old new tokens queues = record {
  fits = λ rate depth calls f.
      let c : BucketCall T = Refilled now in
      let at : last_moment (calls ++ c ∷ []) ≡ max (last_moment calls) now = last-snoc calls c in
      let same : ticks (calls ++ c ∷ []) ≡ ticks calls = ticks-same calls c refl in
      let within : IsWithin rate depth (last_moment (calls ++ c ∷ [])) (ticks (calls ++ c ∷ [])) = quiet-within rate depth calls c (max (last_moment calls) now) same at (within-at rate depth (last_moment calls) now (ticks calls) f.within) in
      let are : (k : Class) → departed k (calls ++ c ∷ []) ++ queue new.waiting k ≡ handed k (calls ++ c ∷ []) = waiting-snoc calls c old.waiting new.waiting (λ k. queues k ∙ sym (append-nil (queue old.waiting k))) f.waiting_is in
      record {
        tokens_are = tokens ∙ refilled-is old rate depth calls now f ∙ quiet-tokens rate depth calls c (max (last_moment calls) now) same at;
        waiting_is = are;
        within = within;
        law = law-snoc rate depth calls c f.law (record { in_order = λ k. (queue new.waiting k, are k); highest_first = tt; not_too_much = within; all_that_may = tt });
      };
}

-- what there are tokens for
cost-covered : {T : Type 0} (tokens : ℕ) (next : Option (Classed T)) → cost (covered tokens next) ≤ tokens
cost-covered tokens None = omega arith
cost-covered tokens (Some c) = go (nat_le (cost (Some c)) tokens) refl
  where
    go : (b : Bool) → nat_le (cost (Some c)) tokens ≡ b → cost (if b then Some c else None) ≤ tokens
    go true e = grind (arith, nat_tests)
    go false e = omega arith

covered-is : {T : Type 0} (tokens : ℕ) (next : Option (Classed T)) (c : Classed T) → covered tokens next ≡ Some c → next ≡ Some c
covered-is tokens None c e = e
covered-is tokens (Some d) c e = go (nat_le (cost (Some d)) tokens) e
  where
    go : (b : Bool) → (if b then Some d else None) ≡ Some c → Some d ≡ Some c
    go true h = h
    go false h = cc

not-covered : {T : Type 0} (tokens : ℕ) (next : Option (Classed T)) → covered tokens next ≡ None → IfSome next (λ c. tokens < cost (Some c))
not-covered tokens None e = tt
not-covered tokens (Some c) e = go (nat_le (cost (Some c)) tokens) refl e
  where
    go : (b : Bool) → nat_le (cost (Some c)) tokens ≡ b → (if b then Some c else None) ≡ None → tokens < cost (Some c)
    go true t h = absurd (cc)
    go false t h = grind (arith, nat_tests)

pub covers : {T : Type 0} (tokens : ℕ) (c : Classed T) → cost (Some c) ≤ tokens → covered tokens (Some c) ≡ Some c
covers tokens c le = let t : nat_le (cost (Some c)) tokens ≡ true = grind (arith, nat_tests) in rw t refl

pub covers_not : {T : Type 0} (tokens : ℕ) (c : Classed T) → tokens < cost (Some c) → covered tokens (Some c) ≡ None
covers_not tokens c lt = let t : nat_le (cost (Some c)) tokens ≡ false = grind (arith, nat_tests) in rw t refl

each_higher : {T : Type 0} (calls : List (BucketCall T)) (went : Option (Classed T)) → ((c : Classed T) → went ≡ Some c → NoneHigher calls c) → IfSome went (NoneHigher calls)
each_higher calls None h = tt
each_higher calls (Some c) h = h c refl

at_the_end : {T : Type 0} (went : Option (Classed T)) (P : Type 0) → (went ≡ None → P) → OnTrue (lets_nothing_go went) P
at_the_end None P h = h refl
at_the_end (Some c) P h = tt

-- the tokens after a pop
abbrev pub paid : {T : Type 0} → Option (Classed T) → Tokens → Tokens
paid None t = t
paid (Some c) t = spent c.item.length t

paid-is : {T : Type 0} (went : Option (Classed T)) (t : Tokens) → paid went t ≡ record t { level = t.level - cost went }
paid-is None t = ap (λ l. record t { level = l }) (omega arith)
paid-is (Some c) t = refl

-- a pop right in each part of the law
pub pop-right : {T : Type 0} (rate depth : ℕ) (calls : List (BucketCall T)) (now : ℕ) (went : Option (Classed T)) (old new : Waiting T)
    → IsWithin rate depth (last_moment calls) (ticks calls) → ((k : Class) → departed k calls ++ queue old k ≡ handed k calls)
    → went ≡ may_go rate depth calls now → Loses went old new
    → GoesRight rate depth calls (calls ++ Popped now went ∷ []) (Popped now went)
pop-right {T = T} rate depth calls now went old new within are is loses =
    let c : BucketCall T = Popped now went in
    let at : last_moment (calls ++ c ∷ []) ≡ max (last_moment calls) now = last-snoc calls c in
    let are_new : (k : Class) → departed k (calls ++ c ∷ []) ++ queue new k ≡ handed k (calls ++ c ∷ []) = waiting-snoc calls c old new (λ k. sym (loses k) ∙ sym (append-nil (queue old k))) are in
    let le : cost went ≤ level_at rate depth calls now = subst (λ (g : Option (Classed T)). cost g ≤ level_at rate depth calls now) (sym is) (cost-covered (level_at rate depth calls now) (next_queued calls)) in
    record {
      in_order = λ k. (queue new k, are_new k);
      highest_first = each_higher calls went (λ d e k lt.
          let next : next_in old ≡ Some d = sym (next-is calls old are) ∙ covered-is (level_at rate depth calls now) (next_queued calls) d (sym is ∙ e) in
          sym (append-nil (departed k calls)) ∙ ap (λ xs. departed k calls ++ xs) (sym (next-highest (queue old) d next k lt)) ∙ are k);
      not_too_much = subst (λ m. IsWithin rate depth m (ticks (calls ++ c ∷ []))) (sym at) (within-popped rate depth calls now went within le);
      all_that_may = at_the_end went _ (λ none.
          let waits : (k : Class) → queue new k ≡ queue old k = λ k. sym (loses k ∙ ap (λ g. in_class k g ++ queue new k) none) in
          let next : next_queued calls ≡ next_queued (calls ++ c ∷ []) = next-is calls old are ∙ sym (next-same (queue new) (queue old) waits) ∙ sym (next-is (calls ++ c ∷ []) new are_new) in
          let levels : level_at rate depth calls now ≡ level_at rate depth (calls ++ c ∷ []) (last_moment (calls ++ c ∷ [])) = end_level rate depth calls now went none at in
          subst (λ n. IfSome (next_queued (calls ++ c ∷ [])) (λ d. n < cost (Some d))) levels
          (subst (λ (o : Option (Classed T)). IfSome o (λ d. level_at rate depth calls now < cost (Some d))) next
          (not-covered (level_at rate depth calls now) (next_queued calls) (sym is ∙ none))));
    }
  where
    end_level : {T : Type 0} (rate depth : ℕ) (calls : List (BucketCall T)) (now : ℕ) (went : Option (Classed T)) → went ≡ None
        → last_moment (calls ++ Popped now went ∷ []) ≡ max (last_moment calls) now
        → level_at rate depth calls now ≡ level_at rate depth (calls ++ Popped now went ∷ []) (last_moment (calls ++ Popped now went ∷ []))
    end_level rate depth calls now went none at =
        let nothing : cost went ≡ 0 = ap cost none in
        let same : level rate depth (max (last_moment calls) now) (ticks (calls ++ Popped now went ∷ [])) ≡ level_at rate depth calls now - cost went = level-popped rate depth calls now went in
        let moment : max (last_moment calls) now ≡ max (last_moment (calls ++ Popped now went ∷ [])) (last_moment (calls ++ Popped now went ∷ [])) = omega (arith, at) in
        omega (arith, nothing, same) ∙ ap (λ m. level rate depth m (ticks (calls ++ Popped now went ∷ []))) moment

pub pops_right : {T : Type 0} (now : ℕ) (old new : BucketContent T) (answer : Option (Item T)) (went : Option (Classed T))
    → went ≡ covered (refilled now old.tokens).level (next_in old.waiting) → answer ≡ option_map (λ c. c.item) went
    → new.tokens ≡ paid went (refilled now old.tokens) → Loses went old.waiting new.waiting → Pops now old answer new
pops_right {T = T} now old new answer went is answers tokens loses = record {
  value = λ rate depth calls f. answers ∙ ap (option_map (λ (c : Classed T). c.item)) (may rate depth calls f);
  fits = λ rate depth calls f. subst (λ (g : Option (Classed T)). BucketFits rate depth (calls ++ Popped now g ∷ []) new) (may rate depth calls f) (popped rate depth calls f);
}
  where
    may : (rate depth : ℕ) (calls : List (BucketCall T)) → BucketFits rate depth calls old → went ≡ may_go rate depth calls now
    may rate depth calls f =
        is ∙ ap (λ (t : Tokens). covered t.level (next_in old.waiting)) (refilled-is old rate depth calls now f)
        ∙ ap (covered (level_at rate depth calls now)) (sym (next-is calls old.waiting f.waiting_is))

    popped : (rate depth : ℕ) (calls : List (BucketCall T)) → BucketFits rate depth calls old → BucketFits rate depth (calls ++ Popped now went ∷ []) new
    popped rate depth calls f =
        let c : BucketCall T = Popped now went in
        let at : last_moment (calls ++ c ∷ []) ≡ max (last_moment calls) now = last-snoc calls c in
        let right : GoesRight rate depth calls (calls ++ c ∷ []) c = pop-right rate depth calls now went old.waiting new.waiting f.within f.waiting_is (may rate depth calls f) loses in
        let both : ℕ → ℕ → Tokens = λ l m. record { rate = rate; depth = depth; level = l; last = m } in
        record {
          tokens_are = tokens ∙ paid-is went (refilled now old.tokens)
              ∙ ap (λ (t : Tokens). record t { level = t.level - cost went }) (refilled-is old rate depth calls now f)
              ∙ ap (λ l. both l (max (last_moment calls) now)) (sym (level-popped rate depth calls now went))
              ∙ ap (λ m. both (level rate depth m (ticks (calls ++ c ∷ []))) m) (sym at);
          waiting_is = waiting-snoc calls c old.waiting new.waiting (λ k. sym (loses k) ∙ sym (append-nil (queue old.waiting k))) f.waiting_is;
          within = right.not_too_much;
          law = law-snoc rate depth calls c f.law right;
        }

-- the first moment at which an item can go
pub waits_for : {T : Type 0} (b : BucketContent T) (c : Classed T) (moment : ℕ) → next_in b.waiting ≡ Some c → IsFirstMoment b.tokens c.item.length moment → IsNextDeparture b (Some moment)
waits_for {T = T} b c moment next first = record {
  until = λ rate depth calls f.
      let last : b.tokens.last ≡ last_moment calls = ap (λ (t : Tokens). t.last) f.tokens_are in
      let next_is : next_queued calls ≡ Some c = next-is calls b.waiting f.waiting_is ∙ next in
      record {
        not_before = subst (λ m. m ≤ moment) last first.not_before;
        goes = subst IsSome (sym (at rate depth calls f next_is moment ∙ covers (refilled moment b.tokens).level c first.covered)) refl;
        no_sooner = λ m low high. at rate depth calls f next_is m ∙ covers_not (refilled m b.tokens).level c (first.no_sooner m (subst (λ n. n ≤ m) (sym last) low) high);
      };
}
  where
    at : (rate depth : ℕ) (calls : List (BucketCall T)) → BucketFits rate depth calls b → next_queued calls ≡ Some c → (m : ℕ)
        → may_go rate depth calls m ≡ covered (refilled m b.tokens).level (Some c)
    at rate depth calls f next_is m =
        ap (covered (level_at rate depth calls m)) next_is
        ∙ ap (λ (t : Tokens). covered t.level (Some c)) (sym (refilled-is b rate depth calls m f))

pub waits_for_nothing : {T : Type 0} (b : BucketContent T) → next_in b.waiting ≡ None → IsNextDeparture b None
waits_for_nothing b next = record { until = λ rate depth calls f. next-is calls b.waiting f.waiting_is ∙ next }
