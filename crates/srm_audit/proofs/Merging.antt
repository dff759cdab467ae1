-- Merging journals into one order, entry by entry.
use Rattle.std.proofs.Common.{◌≡◌, ◌≢◌, ℕ, zero, suc, ◌+◌, ◌≤◌, ◌<◌, Bool, true, false, ◌||◌, List, [], ◌∷◌, ◌++◌, length, get_or, refl, ap, sym, ◌∙◌, subst, inl, inr, arith, append_assoc, length-set}
use Rattle.std.specs.Prelude.{◌⊎◌, Option, Some, None, slice_get, slice_set, IfSome, MatchBool, Contains}
use Rattle.std.specs.List.{AllByRecursion}
use Rattle.std.proofs.lemmas.Bool.{cases_eq}
use Rattle.std.proofs.lemmas.Option.{same_Some, slice_get_read, slice_get_within, none-some}
use Rattle.srm_names.specs.Histories.{Step}
use Rattle.srm_names.proofs.Lists.{AllByRecursion-parts, AllByRecursion-snoc, get_set_same, set_elsewhere, set_same}
use Rattle.srm_codec.specs.declared.datagram.Datagram.{Datagram}
use Rattle.srm_entries.specs.declared.entry.Entry.{Entry}
use Rattle.srm_entries.specs.Entries.{accepted, sent}
use Rattle.srm_entries.proofs.Running.{steps_more}
use Rattle.srm_world.specs.Traces.{Journal, of_member, IsHonest}
use Rattle.srm_world.proofs.Members.{of_member-own}
use Rattle.srm_world.proofs.Stepping.{of_member-other, sent-snoc}
use Rattle.srm_audit.specs.Audits.{entries_at}
use Rattle.srm_audit.specs.Spellings.{Knows, Learns}
use Rattle.srm_audit.specs.Queues.{HearsSent, MayGo, PopsReady}
use Rattle.srm_audit.specs.Merging.{MergingContent, entries_remaining, Merges, KeepsJournals, Advances, IsStalled, Moves, TriesMember, Tries}

-- what one call finds

parts : (m new : MergingContent) → new.queues ≡ m.queues → new.entries ≡ m.entries → new.spellings ≡ m.spellings → new ≡ m
parts m new e f g =
    let one : List (List Entry) → MergingContent = λ qs. record { queues = qs; entries = new.entries; spellings = new.spellings } in
    let two : List Entry → MergingContent = λ es. record { queues = m.queues; entries = es; spellings = new.spellings } in
    let three : List (List ℕ) → MergingContent = λ ts. record { queues = m.queues; entries = m.entries; spellings = ts } in
    ap one e ∙ ap two f ∙ ap three g

pub waits_here : (m new : MergingContent) (k : ℕ) (queue rest : List Entry) → k < length m.queues → queue ≡ get_or m.queues k queue → rest ≡ queue → new.queues ≡ slice_set m.queues k rest → new.entries ≡ m.entries → new.spellings ≡ m.spellings → MayGo m.spellings queue false
    → (new ≡ m) × IsStalled m k
waits_here m new k queue rest l is same queues entries spellings waits =
    let at : slice_get m.queues k ≡ Some queue = slice_get_read m.queues (length m.queues) k queue refl l is in (
      parts m new (queues ∙ ap (slice_set m.queues k) same ∙ set_same m.queues k queue at) entries spellings,
      record { queue = queue; at = at; next = waits },
    )

pub waits_after : (m new : MergingContent) (k : ℕ) (queue rest : List Entry) (popped : Option Entry) → k < length m.queues → queue ≡ get_or m.queues k queue → PopsReady m.spellings queue rest popped → popped ≡ None → new.queues ≡ slice_set m.queues k rest → new.entries ≡ m.entries
    → new.spellings ≡ m.spellings → (new ≡ m) × IsStalled m k
waits_after m new k queue rest popped l is pops none queues entries spellings =
    let (same, waits) : PopsReady m.spellings queue rest None = subst (PopsReady m.spellings queue rest) none pops in
    waits_here m new k queue rest l is same queues entries spellings waits

pub advances : (m new : MergingContent) (k : ℕ) (queue rest : List Entry) (e : Entry) → k < length m.queues → queue ≡ get_or m.queues k queue → queue ≡ e ∷ rest → HearsSent m.spellings e → new.queues ≡ slice_set m.queues k rest → new.entries ≡ m.entries ++ e ∷ []
    → (outs : List Datagram) → outs ≡ e.effects.outs → Learns outs m.spellings new.spellings → Advances k m new
advances m new k queue rest e l is split hears queues entries outs outs_are learns = record {
  entry = e;
  rest = rest;
  next = slice_get_read m.queues (length m.queues) k queue refl l is ∙ ap Some split;
  queues = queues;
  entries = entries;
  hears = hears;
  learns = subst (λ gs. Learns gs m.spellings new.spellings) outs_are learns;
}

pub goes_after : (m new : MergingContent) (k : ℕ) (queue rest : List Entry) (popped : Option Entry) (e : Entry) → k < length m.queues → queue ≡ get_or m.queues k queue → PopsReady m.spellings queue rest popped → popped ≡ Some e → new.queues ≡ slice_set m.queues k rest
    → new.entries ≡ m.entries ++ e ∷ [] → (outs : List Datagram) → outs ≡ e.effects.outs → Learns outs m.spellings new.spellings → Advances k m new
goes_after m new k queue rest popped e l is pops some queues entries outs outs_are learns =
    let (split, hears, readable) : PopsReady m.spellings queue rest (Some e) = subst (PopsReady m.spellings queue rest) some pops in
    advances m new k queue rest e l is split hears queues entries outs outs_are learns

-- one entry more keeps all

advances_keeps : (k : ℕ) (old new : MergingContent) → Advances k old new → (q : List Journal) → Merges q old → Merges q new
advances_keeps k old new a q m = record {
  count = ap length a.queues ∙ length-set old.queues k a.rest ∙ m.count;
  own = m.own;
  each = λ j rest at. which j rest at (cases_eq j k);
  inside = subst (AllByRecursion (λ (e : Entry). e.member < length q)) (sym a.entries) (AllByRecursion-snoc (λ (e : Entry). e.member < length q) old.entries a.entry m.inside (subst (λ n. n < length q) (sym mine) (subst (λ n. k < n) m.count (slice_get_within old.queues k (a.entry ∷ a.rest) a.next))));
  honest = subst IsHonest (sym a.entries) (steps_more (λ (s : Step Entry). IfSome (accepted s.this) (Contains (sent s.before))) old.entries a.entry m.honest (a.hears (sent old.entries) m.knows));
  knows = subst (λ gs. Knows gs new.spellings) (sym (ap sent a.entries ∙ sent-snoc old.entries a.entry)) (a.learns.each (sent old.entries) m.knows);
}
  where
    split : of_member k old.entries ++ a.entry ∷ a.rest ≡ entries_at q k
    split = m.each k (a.entry ∷ a.rest) a.next

    mine : a.entry.member ≡ k
    mine = (AllByRecursion-parts (λ (e : Entry). e.member ≡ k) (of_member k old.entries) (a.entry ∷ a.rest) (subst (AllByRecursion (λ (e : Entry). e.member ≡ k)) (sym split) (m.own k))).1.0

    which : (j : ℕ) (rest : List Entry) → slice_get new.queues j ≡ Some rest → ((j ≡ k) ⊎ (j ≢ k)) → of_member j new.entries ++ rest ≡ entries_at q j
    which j rest at (inl same) =
        let is : a.rest ≡ rest = same_Some a.rest rest (sym (get_set_same old.queues k (a.entry ∷ a.rest) a.rest a.next) ∙ ap (λ xs. slice_get xs k) (sym a.queues) ∙ ap (slice_get new.queues) (sym same) ∙ at) in
        let here : of_member k new.entries ++ a.rest ≡ entries_at q k =
        ap (λ es. of_member k es ++ a.rest) a.entries ∙ ap (λ es. es ++ a.rest) (of_member-own k old.entries a.entry mine) ∙ append_assoc (of_member k old.entries) (a.entry ∷ []) a.rest ∙ split in
        subst (λ (i : ℕ). of_member i new.entries ++ rest ≡ entries_at q i) (sym same) (subst (λ xs. of_member k new.entries ++ xs ≡ entries_at q k) is here)
    which j rest at (inr differ) =
        ap (λ es. of_member j es ++ rest) a.entries ∙ ap (λ es. es ++ rest) (of_member-other j old.entries a.entry (λ (e : a.entry.member ≡ j). differ (sym e ∙ mine)))
        ∙ m.each j rest (sym (set_elsewhere old.queues k j a.rest differ) ∙ ap (λ xs. slice_get xs j) (sym a.queues) ∙ at)

left_set : (queues : List (List Entry)) (k : ℕ) (e : Entry) (rest : List Entry) → slice_get queues k ≡ Some (e ∷ rest) → entries_remaining (slice_set queues k rest) + 1 ≡ entries_remaining queues
left_set [] k e rest at = absurd (none-some (e ∷ rest) at)
left_set (x ∷ queues) zero e rest at = let is : length x ≡ suc (length rest) = ap length (same_Some x (e ∷ rest) at) in omega arith
left_set (x ∷ queues) (suc k) e rest at = let h = left_set queues k e rest at in omega arith

advances_less : (k : ℕ) (old new : MergingContent) → Advances k old new → entries_remaining new.queues + 1 ≡ entries_remaining old.queues
advances_less k old new a = ap (λ xs. entries_remaining xs + 1) a.queues ∙ left_set old.queues k a.entry a.rest a.next

pub keeps_on : (old mid new : MergingContent) → KeepsJournals old mid → KeepsJournals mid new → KeepsJournals old new
keeps_on old mid new a b = record { each = λ q h. b.each q (a.each q h); count = b.count ∙ a.count }

advance_keeps : (k : ℕ) (old new : MergingContent) → Advances k old new → KeepsJournals old new
advance_keeps k old new a = record { each = advances_keeps k old new a; count = ap length a.queues ∙ length-set old.queues k a.rest }

-- one member goes on as far as it can

-- so far it did, or nothing changed
abbrev pub GoesSo : MergingContent → MergingContent → Bool → Type 0
GoesSo old new moved = MatchBool moved (Moves old new) (new ≡ old)

pub goes_more : (k : ℕ) (old mid new : MergingContent) (moved : Bool) → GoesSo old mid moved → Advances k mid new → GoesSo old new true
goes_more k old mid new true h a = record {
  keeps = keeps_on old mid new h.keeps (advance_keeps k mid new a);
  less = let l = advances_less k mid new a in let n = h.less in omega arith;
}
goes_more k old mid new false h a = record {
  keeps = subst (λ (m : MergingContent). KeepsJournals m new) h (advance_keeps k mid new a);
  less = subst (λ (m : MergingContent). entries_remaining new.queues + 1 ≤ entries_remaining m.queues) h (let l = advances_less k mid new a in omega arith);
}

pub goes_less : (k : ℕ) (mid new : MergingContent) → Advances k mid new → entries_remaining new.queues < entries_remaining mid.queues
goes_less k mid new a = let l = advances_less k mid new a in omega arith

pub goes_end : (k : ℕ) (old mid new : MergingContent) (moved : Bool) → GoesSo old mid moved → new ≡ mid → IsStalled mid k → TriesMember k old new moved
goes_end k old mid new true h same waits = subst (Moves old) (sym same) h
goes_end k old mid new false h same waits = (same ∙ h, subst (λ (m : MergingContent). IsStalled m k) h waits)

pub goes_count : (k : ℕ) (old mid : MergingContent) (moved : Bool) → k < length old.queues → GoesSo old mid moved → k < length mid.queues
goes_count k old mid true l h = subst (λ n. k < n) (sym h.keeps.count) l
goes_count k old mid false l h = subst (λ (m : MergingContent). k < length m.queues) (sym h) l

-- each member is tried in turn

pub tries_more : (i : ℕ) (old mid new : MergingContent) (moved went : Bool) → Tries i old mid moved → TriesMember i mid new went → Tries (i + 1) old new (moved || went)
tries_more i old mid new true true h a = record {
  keeps = keeps_on old mid new h.keeps a.keeps;
  less = let l = a.less in let k = h.less in omega arith;
  still = λ e. absurd (cc);
  waits = λ e. absurd (cc);
}
tries_more i old mid new false true h a = record {
  keeps = keeps_on old mid new h.keeps a.keeps;
  less = let l = a.less in let k = h.less in omega arith;
  still = λ e. absurd (cc);
  waits = λ e. absurd (cc);
}
tries_more i old mid new true false h (same, waits) = record {
  keeps = subst (KeepsJournals old) (sym same) h.keeps;
  less = subst (λ (m : MergingContent). entries_remaining m.queues + 1 ≤ entries_remaining old.queues) (sym same) h.less;
  still = λ e. absurd (cc);
  waits = λ e. absurd (cc);
}
tries_more i old mid new false false h (same, waits) = record {
  keeps = subst (KeepsJournals old) (sym same) h.keeps;
  less = subst (λ (m : MergingContent). entries_remaining m.queues + 0 ≤ entries_remaining old.queues) (sym same) h.less;
  still = λ e. same ∙ h.still refl;
  waits = λ e k l. elim (cases_eq k i) [
    | inl is ↦ subst (IsStalled old) (sym is) (subst (λ (m : MergingContent). IsStalled m i) (h.still refl) waits)
    | inr ne ↦ h.waits refl k (omega (arith, ne))
  ];
}
