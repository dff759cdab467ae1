-- What an agent answers of how it stands: sums of what is missing, what a member without a request timer misses, and what waits.
use Rattle.std.proofs.Common.{◌≡◌, ℕ, zero, suc, ◌+◌, ◌*◌, ◌≤◌, ◌<◌, List, [], ◌∷◌, Bool, true, false, cond, not, ◌&&◌, nat_le, map, Option, None, refl, sym, ap, ◌∙◌, arith, length, get_or}
use Rattle.std.specs.Prelude.{sum_by, take, is_some, IsNone}
use Rattle.std.proofs.lemmas.Bool.{false≢true}
use Rattle.std.proofs.lemmas.Bool.Decides.{nat_tests}
use Rattle.std.proofs.lemmas.List.{take_all, length-map}
use Rattle.std.proofs.lemmas.List.Sums.{sum_by-append, sum_by-cons, sum_by_more}
use Rattle.srm_names.specs.declared.limits.TheConstants.{MEMBERS, DRAWOPS, PAGES}
use Rattle.srm_names.specs.declared.page.Page.{Page}
use Rattle.srm_names.specs.declared.stream.Stream.{Stream}
use Rattle.srm_names.specs.FullName.{FullName}
use Rattle.srm_names.specs.Histories.{count_up}
use Rattle.srm_names.specs.Names.{named, stream_on}
use Rattle.srm_names.proofs.Snoc.{up_to_more}
use Rattle.srm_store.specs.Held.{unheld}
use Rattle.srm_entries.specs.declared.entry.Entry.{Entry}
use Rattle.srm_entries.specs.Configs.{Config}
use Rattle.srm_entries.specs.Entries.{held, is_held, is_missing, known, missing, slots}
use Rattle.srm_entries.specs.Timers.{last_ask, only_if}
use Rattle.srm_entries.specs.Outstanding.{missing_of, missing_on}
use Rattle.srm_entries.proofs.Responding.{each_missing_asked}
use Rattle.srm_agent.specs.Contents.{AgentContent}
use Rattle.srm_agent.specs.Fits.{AgentFits}
use Rattle.srm_bucket.specs.declared.class.Class.{Class}
use Rattle.srm_bucket.specs.Classes.{queued}
use Rattle.srm_bucket.specs.Mapping.{read_item}
use Rattle.srm_bucket.proofs.Mapping.{left-read}
use Rattle.srm_entries.specs.Outstanding.{AreWaiting}
use Rattle.srm_outbox.specs.Outs.{datagram_of}
use Rattle.srm_agent.specs.Asking.{MissesBelow, MissesOn, MissesInAll, MissesNothing, NextRequest}
use Rattle.srm_agent.proofs.Admitting.{so_far}

sum_one_more : (f : ℕ → ℕ) (n : ℕ) → sum_by f (count_up 0 (n + 1)) ≡ sum_by f (count_up 0 n) + f n
sum_one_more f n = ap (sum_by f) (up_to_more n) ∙ sum_by-append f (count_up 0 n) (n ∷ []) ∙ (let k : ℕ = f n in omega arith)

-- one source more
pub misses_more : {W : Type 0} (a : AgentContent W) (page : Page) (n count more : ℕ) → MissesBelow a page n count
    → ((c : Config) (made : ℕ) (past : List Entry) → AgentFits c made past a → more ≡ length (missing past (stream_on n page))) → more ≤ DRAWOPS → MissesBelow a page (n + 1) (count + more)
misses_more a page n count more sofar one few = record {
  is = λ c made past fits. ap (λ k. k + more) (sofar.is c made past fits) ∙ ap (λ k. sum_by (missing_of past page) (count_up 0 n) + k) (one c made past fits) ∙ sym (sum_one_more (missing_of past page) n);
  few = omega (arith, sofar.few, few);
}

-- so many names are missing on the first of these pages
pub record MissesOnFirst {W : Type 0} (a : AgentContent W) (pages : List Page) (n count : ℕ) : Type 0 where
  pub is : (c : Config) (made : ℕ) (past : List Entry) → AgentFits c made past a → count ≡ sum_by (missing_on past) (take n pages)
  pub few : count ≤ n * (MEMBERS * DRAWOPS)

-- one page more
pub misses_on_more : {W : Type 0} (a : AgentContent W) (pages : List Page) (n count more : ℕ) (page d : Page) → n < length pages → get_or pages n d ≡ page → MissesOnFirst a pages n count → MissesOn a page more → MissesOnFirst a pages (n + 1) (count + more)
misses_on_more a pages n count more page d lt at sofar one = record {
  is = λ c made past fits.
      ap (λ k. k + more) (sofar.is c made past fits)
      ∙ ap (λ k. sum_by (missing_on past) (take n pages) + k) (one.is c made past fits ∙ ap (missing_on past) (sym at))
      ∙ sym (sum_by_more (missing_on past) pages n d lt);
  few = omega (arith, sofar.few, one.few);
}

-- A member without a request timer misses nothing: each missing name has one.
pub nothing_missing : {W : Type 0} (a : AgentContent W) (moment : Option ℕ) → NextRequest a moment → IsNone moment → (c : Config) (made : ℕ) (past : List Entry) → AgentFits c made past a → (n : FullName) → is_missing past n ≡ false
nothing_missing a moment next none c made past fits n = go (is_missing past n) refl
  where
    go : (b : Bool) → is_missing past n ≡ b → is_missing past n ≡ false
    go false e = e
    go true e = absurd (false≢true (
        sym (ap is_some (ap (λ b. only_if b (last_ask past n)) (sym e) ∙ (next.each c made past fits).none none n))
        ∙ each_missing_asked c made past fits.run n e))

-- and on all pages: there are few
pub misses_in_all : {W : Type 0} (a : AgentContent W) (pages : List Page) (n count : ℕ) → ((c : Config) (made : ℕ) (past : List Entry) → AgentFits c made past a → pages ≡ slots past) → length pages ≤ n → n ≤ PAGES → MissesOnFirst a pages n count → MissesInAll a count
misses_in_all a pages n count are all few sofar = record {
  is = λ c made past fits. sofar.is c made past fits ∙ ap (sum_by (missing_on past)) (take_all n pages all ∙ are c made past fits);
  few = omega (arith, sofar.few, few);
}

pub misses_nothing : {W : Type 0} (a : AgentContent W) (moment : Option ℕ) → NextRequest a moment → IsNone moment → MissesNothing a
misses_nothing a moment next none = record { each = nothing_missing a moment next none }

-- what exists and isn't missing is held
not_unheld : (k last : ℕ) (h : Bool) → 1 ≤ k → k ≤ last → (nat_le 1 k && nat_le k last && not h) ≡ false → not h ≡ false
not_unheld k last h low high e = grind (arith, nat_tests)

none_unheld : (past : List Entry) (s : Stream) (from n : ℕ) → ((name : FullName) → is_missing past name ≡ false) → 1 ≤ from → from + n ≤ known past s + 1 → unheld (held past) (map (named s) (count_up from n)) ≡ []
none_unheld past s from zero none low high = refl
none_unheld past s from (suc n) none low high =
    ap (λ b. cond b (named s from ∷ unheld (held past) (map (named s) (count_up (from + 1) n))) (unheld (held past) (map (named s) (count_up (from + 1) n))))
    (not_unheld from (known past s) (is_held past (named s from)) low (omega (arith, high)) (none (named s from)))
    ∙ none_unheld past s (from + 1) n none (omega arith) (omega (arith, high))

none_of_stream : (past : List Entry) → ((name : FullName) → is_missing past name ≡ false) → (s : Stream) → missing past s ≡ []
none_of_stream past none s = none_unheld past s 1 (known past s) none (omega arith) (omega arith)

sum_of_zeros : {X : Type 0} (f : X → ℕ) (xs : List X) → ((x : X) → f x ≡ 0) → sum_by f xs ≡ 0
sum_of_zeros f [] zeros = refl
sum_of_zeros f (x ∷ xs) zeros =
    let one = zeros x in
    let rest = sum_of_zeros f xs zeros in
    sum_by-cons f x xs ∙ omega (arith, one, rest)

-- so then 0 names are missing in all
pub misses_zero : {W : Type 0} (a : AgentContent W) (moment : Option ℕ) → moment ≡ None → (IsNone moment → MissesNothing a) → MissesInAll a 0
misses_zero a moment e nothing = record {
  is = λ c made past fits.
      let none = (nothing (ap is_some e)).each c made past fits in
      sym (sum_of_zeros (missing_on past) (slots past) (λ page.
      sum_of_zeros (missing_of past page) (count_up 0 MEMBERS) (λ source. ap length (none_of_stream past none (stream_on source page)))));
  few = omega arith;
}

-- what waits in the bucket is what waits by the entries
pub they_wait : {W : Type 0} (c : Config) (made : ℕ) (past : List Entry) (a : AgentContent W) (class : Class) (count : ℕ) (h : AgentFits c made past a) → count ≡ length (queued h.bucket.calls class) → AreWaiting c past class count
they_wait c made past a class count h is = record {
  goings = (h.bucket.goings, h.bucket.entries, h.bucket.goes, so_far c made past a h);
  is = is ∙ sym (length-map (queued h.bucket.calls class) (read_item datagram_of)) ∙ ap length (sym (left-read datagram_of class h.bucket.calls)) ∙ ap (λ calls. length (queued calls class)) h.bucket.read;
}
