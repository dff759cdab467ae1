-- Taking journals apart, and merging them into one order.
use Rattle.std.proofs.Common.{◌≡◌, ℕ, zero, suc, ◌+◌, ◌≤◌, ◌<◌, List, [], ◌∷◌, ◌++◌, length, map, take, drop, refl, ap, sym, ◌∙◌, subst, inl, inr, arith, append_assoc}
use Rattle.std.specs.Prelude.{Result, Ok, Err, IfErr, Option, Some, None, option_map, unwrap_or, slice_get, IfSome, IsSome}
use Rattle.std.specs.List.{AllByRecursion}
use Rattle.std.specs.Result.{IsErrAnd}
use Rattle.std.proofs.lemmas.Bool.{cases_lt}
use Rattle.std.proofs.lemmas.List.{append-nil, length-map, take-append-drop}
use Rattle.std.proofs.lemmas.Option.{IfSome_then, same_Some, slice_get-map, slice_get_past, slice_get_within, none-some}
use Rattle.srm_names.specs.Histories.{steps_after}
use Rattle.srm_names.proofs.Lists.{by_place, at_place, rest_first}
use Rattle.srm_entries.specs.Configs.{Config}
use Rattle.srm_entries.specs.declared.entry.Entry.{Entry}
use Rattle.srm_entries.specs.Entries.{sent}
use Rattle.srm_entries.specs.Runs.{EntryRight}
use Rattle.srm_world.specs.declared.start.Start.{Start}
use Rattle.srm_world.specs.Traces.{Journal, of_member, IsHonest, IsRoster}
use Rattle.srm_world.specs.Claims.{IsLawfulJournal}
use Rattle.srm_audit.specs.Audits.{entries_at, starts_of, next_entry_of, ArePrefixes, AreStuck, IsUnsent, HearsUnsent, IsFound, AreFound}
use Rattle.srm_audit.specs.Spellings.{Knows}
use Rattle.srm_audit.specs.Queues.{AreReadable}
use Rattle.srm_audit.specs.Merging.{MergingContent, Merges, IsStalled, Stops, IsEmptied, IsFirstNonEmpty, Completes, Orders, LeadNoFurther, Refuses, IsUnsentAt, Opens}
use Rattle.srm_audit.specs.declared.got.Got.{Got}
use Rattle.srm_audit.specs.declared.ending.Ending.{Ending}
use Rattle.srm_audit.specs.declared.mismatch.Mismatch.{Mismatch}
use Rattle.srm_audit.specs.declared.mismatch.Mismatch.TheVariants.{Unsent, Foreign, Memory, Roster}
use Rattle.srm_audit.specs.Finding.{IsFirstForeign}
use Rattle.srm_audit.specs.Endings.{ending_of}
use Rattle.srm_audit.specs.Refusals.{IsRefusedInOrder, IsForeignAt}
use Rattle.srm_world.proofs.Members.{none_of}
use Rattle.srm_audit.proofs.Ordering.{me_at, start_at}

-- a run of a member

readable_after : (c : Config) (made : ℕ) (before es : List Entry) → AllByRecursion (EntryRight c made) (steps_after before es) → AreReadable es
readable_after c made before [] all = tt
readable_after c made before (e ∷ es) all = (record { outs = all.0.spelled; read = all.0.read }, readable_after c made (before ++ e ∷ []) es all.1)

own_after : (c : Config) (made : ℕ) (before es : List Entry) → AllByRecursion (EntryRight c made) (steps_after before es) → AllByRecursion (λ (e : Entry). e.member ≡ c.me) es
own_after c made before [] all = tt
own_after c made before (e ∷ es) all = (all.0.member, own_after c made (before ++ e ∷ []) es all.1)

pub readable : (j : Journal) → IsLawfulJournal j → AreReadable j.entries
readable j h = readable_after j.start.config j.start.made [] j.entries h.run.each

-- the journals so far, taken apart
pub record Opened (all rest : List Journal) (starts : List Start) (queues : List (List Entry)) : Type 0 where
  pub starts_are : starts_of all ≡ starts ++ starts_of rest
  pub queues_are : map (λ (j : Journal). j.entries) all ≡ queues ++ map (λ (j : Journal). j.entries) rest
  pub known : AllByRecursion IsLawfulJournal rest

pub opened_more : (all old rest : List Journal) (j : Journal) (start : Start) (entries queue : List Entry) (starts starts' : List Start) (queues queues' : List (List Entry)) → Opened all old starts queues → old ≡ j ∷ rest → start ≡ j.start → entries ≡ j.entries
    → queue ≡ entries → starts' ≡ starts ++ start ∷ [] → queues' ≡ queues ++ queue ∷ [] → Opened all rest starts' queues'
opened_more all old rest j start entries queue starts starts' queues queues' h split start_is entries_are queue_is starts_grow queues_grow =
    let known : AllByRecursion IsLawfulJournal (j ∷ rest) = subst (AllByRecursion IsLawfulJournal) split h.known in
    let at : queue ≡ j.entries = queue_is ∙ entries_are in
    record {
      starts_are = h.starts_are ∙ ap (λ js. starts ++ starts_of js) split ∙ sym (append_assoc starts (j.start ∷ []) (starts_of rest)) ∙ ap (λ s. (starts ++ s ∷ []) ++ starts_of rest) (sym start_is) ∙ ap (λ ss. ss ++ starts_of rest) (sym starts_grow);
      queues_are = h.queues_are ∙ ap (λ js. queues ++ map (λ (x : Journal). x.entries) js) split ∙ sym (append_assoc queues (j.entries ∷ []) (map (λ (x : Journal). x.entries) rest))
          ∙ ap (λ es. (queues ++ es ∷ []) ++ map (λ (x : Journal). x.entries) rest) (sym at) ∙ ap (λ qs. qs ++ map (λ (x : Journal). x.entries) rest) (sym queues_grow);
      known = known.1;
    }

pub opened_readable : (all old rest : List Journal) (j : Journal) (entries : List Entry) (starts : List Start) (queues : List (List Entry)) → Opened all old starts queues → old ≡ j ∷ rest → entries ≡ j.entries → AreReadable entries
opened_readable all old rest j entries starts queues h split are = subst AreReadable (sym are) (readable j (subst (AllByRecursion IsLawfulJournal) split h.known).0)

-- at the start no entry is merged yet

queue_at : (q : List Journal) (k : ℕ) (rest : List Entry) → slice_get (map (λ (j : Journal). j.entries) q) k ≡ Some rest → rest ≡ entries_at q k
queue_at q k rest at = sym (ap (λ (o : Option (List Entry)). unwrap_or o []) (sym (slice_get-map (λ (j : Journal). j.entries) q k) ∙ at))

own_at : (q js : List Journal) (k i : ℕ) → ((n : ℕ) (j : Journal) → slice_get js n ≡ Some j → j.start.config.me ≡ i + n) → AllByRecursion IsLawfulJournal js → AllByRecursion (λ (e : Entry). e.member ≡ i + k) (entries_at js k)
own_at q [] k i me all = tt
own_at q (j ∷ js) zero i me all = subst (λ n. AllByRecursion (λ (e : Entry). e.member ≡ n) j.entries) (me 0 j refl) (own_after j.start.config j.start.made [] j.entries all.0.run.each)
own_at q (j ∷ js) (suc k) i me all =
    subst (λ n. AllByRecursion (λ (e : Entry). e.member ≡ n) (entries_at js k)) (omega arith) (own_at q js k (i + 1) (λ n x at. me (suc n) x at ∙ omega arith) all.1)

pub merges : (q : List Journal) (m : MergingContent) → IsRoster (starts_of q) → AllByRecursion IsLawfulJournal q → Opens q m → Merges q m
merges q m roster known o = record {
  count = ap length o.queues ∙ length-map q (λ (j : Journal). j.entries);
  own = λ k. subst (λ n. AllByRecursion (λ (e : Entry). e.member ≡ n) (entries_at q k)) (omega arith) (own_at q q k 0 (λ n j at. me_at q n j roster at ∙ omega arith) known);
  each = λ k rest at. ap (λ es. of_member k es ++ rest) o.entries ∙ queue_at q k rest (ap (λ qs. slice_get qs k) (sym o.queues) ∙ at);
  inside = subst (AllByRecursion (λ (e : Entry). e.member < length q)) (sym o.entries) tt;
  honest = subst IsHonest (sym o.entries) tt;
  knows = subst (λ es. Knows (sent es) m.spellings) (sym o.entries) o.knows;
}

-- the end of the order

none_there : (q : List Journal) (k : ℕ) → length q ≤ k → entries_at q k ≡ []
none_there q k l = ap (λ (o : Option Journal). unwrap_or (option_map (λ (j : Journal). j.entries) o) []) (slice_get_past q k l)

prefixes : (q : List Journal) (m : MergingContent) → Merges q m → ArePrefixes q m.entries
prefixes q m h = record {
  each = λ k. elim (cases_lt k (length q)) [
    | inl l ↦ let (rest, at) = at_place m.queues k (subst (λ n. k < n) (sym h.count) l) in (rest, h.each k rest at)
    | inr l ↦ ([], append-nil (of_member k m.entries) ∙ none_of (length q) k m.entries l h.inside ∙ sym (none_there q k l))
  ];
}

next_is : (q : List Journal) (m : MergingContent) (k : ℕ) (rest : List Entry) → Merges q m → slice_get m.queues k ≡ Some rest → next_entry_of q m.entries k ≡ slice_get rest 0
next_is q m k rest h at = ap (λ xs. slice_get xs (length (of_member k m.entries))) (sym (h.each k rest at)) ∙ rest_first (of_member k m.entries) rest

no_next : (q : List Journal) (es : List Entry) (k : ℕ) → length q ≤ k → next_entry_of q es k ≡ None
no_next q es k l = ap (λ xs. slice_get xs (length (of_member k es))) (none_there q k l)

stuck : (q : List Journal) (m : MergingContent) → Merges q m → ((k : ℕ) → k < length m.queues → IsStalled m k) → AreStuck q m.entries
stuck q m h waits = record {
  prefixes = prefixes q m h;
  honest = h.honest;
  waits = λ k. elim (cases_lt k (length m.queues)) [
    | inl l ↦ let w = waits k l in
        subst (λ o. IfSome o (HearsUnsent m.entries)) (sym (next_is q m k w.queue h w.at))
        (IfSome_then (slice_get w.queue 0) w.next (λ e f. f (sent m.entries) h.knows))
    | inr l ↦ subst (λ o. IfSome o (HearsUnsent m.entries)) (sym (no_next q m.entries k (subst (λ n. n ≤ k) h.count l))) tt
  ];
}

first_emptied : (queues : List (List Entry)) (place k : ℕ) → k < place → place < length queues → AllByRecursion IsEmptied (take place queues) → slice_get queues k ≡ Some []
first_emptied [] place k l at all = absurd (omega arith)
first_emptied (x ∷ queues) zero k l at all = absurd (omega arith)
first_emptied (x ∷ queues) (suc place) zero l at all = ap Some all.0
first_emptied (x ∷ queues) (suc place) (suc k) l at all = first_emptied queues place k (omega arith) (omega arith) all.1

has_first : (queue : List Entry) → 0 < length queue → IsSome (slice_get queue 0)
has_first [] l = absurd (omega arith)
has_first (e ∷ queue) l = refl

pub cuts : (starts : List Start) (old new : MergingContent) (place entry : ℕ) (a : Start) → Stops old new → IsFirstNonEmpty new.queues place → slice_get starts place ≡ Some a → entry ≡ length (of_member place new.entries) → LeadNoFurther starts old a.config.me entry
cuts starts old new place entry a stops first at count = record {
  each = λ q h same roster.
      let now = stops.keeps.each q h in
      let me : a.config.me ≡ place = (start_at starts place a roster at).0 in
      subst (λ n. IsUnsent q n entry) (sym me) (record {
        es = new.entries;
        stuck = stuck q new now stops.waits;
        left = subst IsSome (sym (next_is q new place first.queue now first.at)) (has_first first.queue first.left);
        smallest = λ k l. next_is q new k [] now (first_emptied new.queues place k l (slice_get_within new.queues place first.queue first.at) first.emptied);
        count = count;
      });
}

emptied_at : (queues : List (List Entry)) (k : ℕ) (rest : List Entry) → AllByRecursion IsEmptied queues → slice_get queues k ≡ Some rest → rest ≡ []
emptied_at queues k rest all at = by_place IsEmptied queues k rest all at

pub orders : (old new : MergingContent) → Stops old new → AllByRecursion IsEmptied new.queues → Orders old new.entries
orders old new stops all = record {
  each = λ q h.
      let now = stops.keeps.each q h in
      record {
        each = λ k. elim (cases_lt k (length q)) [
          | inl l ↦ let (rest, at) = at_place new.queues k (subst (λ n. k < n) (sym now.count) l) in
              sym (append-nil (of_member k new.entries)) ∙ ap (λ xs. of_member k new.entries ++ xs) (sym (emptied_at new.queues k rest all at)) ∙ now.each k rest at
          | inr l ↦ none_of (length q) k new.entries l now.inside ∙ sym (none_there q k l)
        ];
        inside = now.inside;
        honest = now.honest;
      };
}

pub refuses : (starts : List Start) (old new : MergingContent) (place : ℕ) (mismatch : Mismatch) → Stops old new → IsFirstNonEmpty new.queues place → IsUnsentAt starts new.entries place mismatch → Refuses starts old mismatch
refuses starts old new place mismatch stops first (a, at, is) = subst (Refuses starts old) (sym is) (cuts starts old new place (length (of_member place new.entries)) a stops first at refl)

pub in_starts : (starts : List Start) (old new : MergingContent) (place : ℕ) → length starts ≡ length old.queues → Stops old new → IsFirstNonEmpty new.queues place → place < length starts
in_starts starts old new place same stops first = let l = slice_get_within new.queues place first.queue first.at in let k = stops.keeps.count in omega (arith, l, k, same)

-- what the parts returned

pub foreign_at : (q : List Journal) (gots : List Got) (place : ℕ) (mismatch : Mismatch) → IsFirstForeign q gots place → IsForeignAt gots place mismatch → IsRefusedInOrder q gots mismatch
foreign_at q gots place mismatch first (got, at, is) =
    let same : first.got ≡ got = same_Some first.got got (sym first.at ∙ at) in
    let l = slice_get_within gots place got at in
    subst (IsRefusedInOrder q gots) (sym is) (record {
      before = take place gots;
      got = got;
      after = drop (suc place) gots;
      split = sym (take-append-drop place gots) ∙ ap (λ xs. take place gots ++ xs) (next gots place at);
      found = first.found;
      foreign = subst (λ (g : Got). ¬ (IsFound q (record { before = take place gots; this = g }))) same first.foreign;
      member_is = refl;
      slot_is = refl;
    })
  where
    next : (xs : List Got) (k : ℕ) → slice_get xs k ≡ Some got → drop k xs ≡ got ∷ drop (suc k) xs
    next [] k h = absurd (none-some got h)
    next (x ∷ xs) zero h = ap (λ y. y ∷ xs) (same_Some x got h)
    next (x ∷ xs) (suc k) h = next xs k h

pub refused : (q : List Journal) (gots : List Got) (starts : List Start) (m : MergingContent) (mismatch : Mismatch) → IsRoster (starts_of q) → AllByRecursion IsLawfulJournal q → AreFound q gots → starts ≡ starts_of q → Opens q m → Refuses starts m mismatch → IsRefusedInOrder q gots mismatch
refused q gots starts m (Unsent member entry) roster known found same opened cut = (found, cut.each q (merges q m roster known opened) same (subst IsRoster (sym same) roster))
refused q gots starts m Memory roster known found same opened cut = found
refused q gots starts m (Foreign member slot) roster known found same opened cut = absurd cut
refused q gots starts m Roster roster known found same opened cut = absurd cut

pub members_of : (q : List Journal) (gots : List Got) (endings : List Ending) → AreFound q gots → endings ≡ map ending_of q → AllByRecursion (λ (got : Got). got.member < length endings) gots
members_of q gots endings found are = subst (λ n. AllByRecursion (λ (got : Got). got.member < n) gots) (sym (ap length are ∙ length-map q ending_of)) (each [] gots found)
  where
    each : (before rest : List Got) → AllByRecursion (IsFound q) (steps_after before rest) → AllByRecursion (λ (got : Got). got.member < length q) rest
    each before [] all = tt
    each before (got ∷ rest) all = (all.0.member, each (before ++ got ∷ []) rest all.1)

pub completed : (q : List Journal) (m : MergingContent) (calls : List Entry) → IsRoster (starts_of q) → AllByRecursion IsLawfulJournal q → Opens q m → Orders m calls → Completes q calls
completed q m calls roster known opened orders = orders.each q (merges q m roster known opened)

pub handed_on : {T E : Type 0} (r : Result T E) (x : E) (P : E → Type 0) → IsErrAnd r (λ y. y ≡ x) → P x → IfErr r P
handed_on (Ok t) x P is p = tt
handed_on (Err y) x P is p = subst P (sym is) p
