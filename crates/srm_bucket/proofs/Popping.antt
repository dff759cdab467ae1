-- A bucket's calls, from what the calls within them ensure.
use Rattle.std.proofs.Common.{◌≡◌, ℕ, ◌+◌, ◌≤◌, ◌<◌, Option, Some, None, true, false, refl, sym, ap, subst, ◌∙◌, arith}
use Rattle.std.specs.Prelude.{nat_le, IfSome, OnSome, option_map}
use Rattle.std.specs.List.{All}
use Rattle.std.proofs.lemmas.Bool.Decides.{nat_tests}
use Rattle.srm_bucket.specs.declared.class.Class.{Class}
use Rattle.srm_bucket.specs.declared.item.Item.{Item}
use Rattle.srm_bucket.specs.declared.tokens.Tokens.{Tokens}
use Rattle.srm_bucket.specs.declared.limits.TheConstants.{GREATEST_LENGTH}
use Rattle.srm_bucket.specs.Calls.{Classed}
use Rattle.srm_bucket.specs.Tokens.{IsFirstMoment, cost_of, refilled, spent}
use Rattle.srm_bucket.specs.Ticks.{cost}
use Rattle.srm_bucket.specs.Waiting.{Waiting, HasLength, Loses, SameQueues, queue, next_in, count_of}
use Rattle.srm_bucket.specs.Law.{covered}
use Rattle.srm_bucket.specs.Content.{BucketContent}
use Rattle.srm_bucket.specs.Fits.{Pops, IsNextDeparture}
use Rattle.srm_bucket.proofs.Highest.{next-length, count-lost}
use Rattle.srm_bucket.proofs.Going.{covers, covers_not, pops_right, waits_for, waits_for_nothing}

-- the length of the item that goes next
abbrev pub next_bytes : {T : Type 0} → Waiting T → Option ℕ
next_bytes w = option_map (λ c. c.item.length) (next_in w)

nothing_next : {T : Type 0} (next : Option (Classed T)) → option_map (λ c. c.item.length) next ≡ None → next ≡ None
nothing_next None e = refl
nothing_next (Some c) e = absurd (cc)

record IsNext {T : Type 0} (next : Option (Classed T)) (bytes : ℕ) : Type 0 where
  pub entry : Classed T
  pub is : next ≡ Some entry
  pub bytes_are : bytes ≡ entry.item.length

something_next : {T : Type 0} (next : Option (Classed T)) (bytes : ℕ) → option_map (λ c. c.item.length) next ≡ Some bytes → IsNext next bytes
something_next None bytes e = absurd (cc)
something_next (Some c) bytes e = record { entry = c; is = refl; bytes_are = cc }

short : {T : Type 0} (next : Option (Classed T)) (bytes : ℕ) → option_map (λ c. c.item.length) next ≡ Some bytes → IfSome next (λ c. HasLength c.item) → bytes ≤ GREATEST_LENGTH
short None bytes e h = absurd (cc)
short (Some c) bytes e h = let same : c.item.length ≡ bytes = cc in omega (arith, h.is.greatest, same)

pub next_is_short : {T : Type 0} (w : Waiting T) (bytes : ℕ) → ((k : Class) → All HasLength (queue w k)) → next_bytes w ≡ Some bytes → bytes ≤ GREATEST_LENGTH
next_is_short w bytes all e = short (next_in w) bytes e (next-length (queue w) all)

pub waits_nothing : {T : Type 0} (b : BucketContent T) → next_bytes b.waiting ≡ None → IsNextDeparture b None
waits_nothing b e = waits_for_nothing b (nothing_next (next_in b.waiting) e)

pub waits_something : {T : Type 0} (b : BucketContent T) (bytes moment : ℕ) → next_bytes b.waiting ≡ Some bytes → IsFirstMoment b.tokens bytes moment → IsNextDeparture b (Some moment)
waits_something b bytes moment e first =
    let n : IsNext (next_in b.waiting) bytes = something_next (next_in b.waiting) bytes e in
    waits_for b n.entry moment n.is (subst (λ k. IsFirstMoment b.tokens k moment) n.bytes_are first)

-- nothing waits
pub pop_nothing : {T : Type 0} (now : ℕ) (old new : BucketContent T) → next_bytes old.waiting ≡ None → new.tokens ≡ refilled now old.tokens → SameQueues old.waiting new.waiting → Pops now old None new
pop_nothing now old new e tokens queues =
    pops_right now old new None None (sym (ap (covered (refilled now old.tokens).level) (nothing_next (next_in old.waiting) e))) refl tokens (λ k. sym (queues k))

-- the next item costs too much
pub pop_refused : {T : Type 0} (now : ℕ) (old new : BucketContent T) (bytes : ℕ) (t : Tokens) → next_bytes old.waiting ≡ Some bytes → t ≡ refilled now old.tokens
    → nat_le (cost_of bytes) t.level ≡ false → new.tokens ≡ t → SameQueues old.waiting new.waiting → Pops now old None new
pop_refused now old new bytes t e refills test tokens queues =
    let n : IsNext (next_in old.waiting) bytes = something_next (next_in old.waiting) bytes e in
    let high : t.level < cost_of bytes = grind (arith, nat_tests) in
    let high_now : (refilled now old.tokens).level < cost (Some n.entry) = subst (λ (u : Tokens). u.level < cost (Some n.entry)) refills (subst (λ k. t.level < cost_of k) n.bytes_are high) in
    pops_right now old new None None
    (sym (ap (covered (refilled now old.tokens).level) n.is ∙ covers_not (refilled now old.tokens).level n.entry high_now))
    refl (tokens ∙ refills) (λ k. sym (queues k))

-- the next item goes
pub pop_first : {T : Type 0} (now : ℕ) (old new : BucketContent T) (answer : Option (Item T)) (bytes : ℕ) (t : Tokens) → next_bytes old.waiting ≡ Some bytes → t ≡ refilled now old.tokens
    → nat_le (cost_of bytes) t.level ≡ true → new.tokens ≡ spent bytes t → answer ≡ option_map (λ c. c.item) (next_in old.waiting) → Loses (next_in old.waiting) old.waiting new.waiting
    → Pops now old answer new
pop_first {T = T} now old new answer bytes t e refills test tokens answers loses =
    let n : IsNext (next_in old.waiting) bytes = something_next (next_in old.waiting) bytes e in
    let low : cost_of bytes ≤ t.level = grind (arith, nat_tests) in
    let low_now : cost (Some n.entry) ≤ (refilled now old.tokens).level = subst (λ (u : Tokens). cost (Some n.entry) ≤ u.level) refills (subst (λ k. cost_of k ≤ t.level) n.bytes_are low) in
    pops_right now old new answer (Some n.entry)
    (sym (ap (covered (refilled now old.tokens).level) n.is ∙ covers (refilled now old.tokens).level n.entry low_now))
    (answers ∙ ap (option_map (λ (c : Classed T). c.item)) n.is)
    (tokens ∙ ap (λ k. spent k t) n.bytes_are ∙ ap (spent n.entry.item.length) refills)
    (subst (λ (g : Option (Classed T)). Loses g old.waiting new.waiting) n.is loses)

has_length : {T : Type 0} (next : Option (Classed T)) → IfSome next (λ c. HasLength c.item) → IfSome (option_map (λ c. c.item) next) HasLength
has_length None h = tt
has_length (Some c) h = h

pub pop_has_length : {T : Type 0} (w : Waiting T) (answer : Option (Item T)) → ((k : Class) → All HasLength (queue w k)) → answer ≡ option_map (λ c. c.item) (next_in w) → IfSome answer HasLength
pop_has_length w answer all e = subst (λ o. IfSome o HasLength) (sym e) (has_length (next_in w) (next-length (queue w) all))

fewer : {T : Type 0} (old new : Waiting T) (went : Option (Classed T)) → Loses went old new → OnSome (option_map (λ c. c.item) went) (count_of new + 1 ≡ count_of old)
fewer old new None loses = tt
fewer old new (Some c) loses = count-lost c old new loses

pub pop_leaves_fewer : {T : Type 0} (old new : Waiting T) (answer : Option (Item T)) → answer ≡ option_map (λ c. c.item) (next_in old) → Loses (next_in old) old new → OnSome answer (count_of new + 1 ≡ count_of old)
pop_leaves_fewer old new answer e loses = subst (λ o. OnSome o (count_of new + 1 ≡ count_of old)) (sym e) (fewer old new (next_in old) loses)
