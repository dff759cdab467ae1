-- Which entry may follow calls that are in order.
use Rattle.std.proofs.Common.{◌≡◌, ◌≢◌, ℕ, zero, suc, ◌+◌, ◌<◌, ◌==◌, Bool, true, false, ◌&&◌, List, [], ◌∷◌, ◌++◌, length, refl, ap, sym, ◌∙◌, subst, inl, inr, arith, length-append}
use Rattle.std.specs.Prelude.{Some, None, slice_get, slice_set, unwrap_or, replicate, IfSome}
use Rattle.std.proofs.lemmas.Bool.{cases_eq, both_ways}
use Rattle.std.proofs.lemmas.Option.{slice_get_within, none-some, same_Some}
use Rattle.srm_names.specs.Histories.{Step, IsPrefix}
use Rattle.srm_names.proofs.Lists.{at_place, front_next, get_set_same, set_elsewhere}
use Rattle.srm_codec.specs.declared.datagram.Datagram.{Datagram}
use Rattle.srm_codec.specs.Spelling.{IsSpellable, sender_of}
use Rattle.srm_entries.specs.declared.entry.Entry.{Entry}
use Rattle.srm_entries.specs.Entries.{accepted, sent}
use Rattle.srm_entries.proofs.Running.{steps_more}
use Rattle.srm_world.specs.Traces.{of_member}
use Rattle.srm_world.proofs.Members.{of_member-own}
use Rattle.srm_world.proofs.Stepping.{of_member-other, sent-snoc}
use Rattle.srm_audit.specs.Spellings.{Knows, Learns, spelling_of, is_spelling}
use Rattle.srm_gaps.specs.declared.told.Told.{Told}
use Rattle.srm_gaps.specs.Possible.{calls_told, may_miss, is_free, next_told, MayBeSent}
use Rattle.srm_gaps.specs.Orders.{OrderView, count_in, IsOrderOf, Enters, IsCallOf, Comes, calls_left, next_by, is_free_by, MayFollow, IsStalled, Advances}

-- no calls

count_of_none : (n m : ℕ) → count_in (replicate n 0) m ≡ 0
count_of_none zero m = refl
count_of_none (suc n) zero = refl
count_of_none (suc n) (suc m) = count_of_none n m

pub none_in_order : (counts : List ℕ) (texts : List (List ℕ)) (n : ℕ) → counts ≡ replicate n 0 → Knows [] texts → IsOrderOf [] (record { counts = counts; spellings = texts })
none_in_order counts texts n is knows = record {
  counts = λ m. ap (λ ns. count_in ns m) is ∙ count_of_none n m;
  knows = knows;
}

pub comes_first : (ts : List Told) (v : OrderView) → IsOrderOf [] v → Comes ts v
comes_first ts v of = record { es = []; of = of; prefixes = λ m. (calls_told ts m, refl); possible = tt }

-- one more

enters : (e : Entry) (old new : OrderView) → e.member < length old.counts → Learns e.effects.outs old.spellings new.spellings → new.counts ≡ slice_set old.counts e.member (count_in old.counts e.member + 1) → Enters e old new
enters e old new l learns counts = record { each = each; counts = counts; room = l }
  where
    own : (es : List Entry) → IsOrderOf es old → count_in new.counts e.member ≡ length (of_member e.member (es ++ e ∷ []))
    own es of =
        let (n, at) = at_place old.counts e.member l in
        ap (λ ns. count_in ns e.member) counts ∙ ap (λ o. unwrap_or o 0) (get_set_same old.counts e.member n (count_in old.counts e.member + 1) at) ∙ ap (λ k. k + 1) (of.counts e.member)
        ∙ sym (length-append (of_member e.member es) (e ∷ [])) ∙ ap length (sym (of_member-own e.member es e refl))

    other : (es : List Entry) (m : ℕ) → IsOrderOf es old → m ≢ e.member → count_in new.counts m ≡ length (of_member m (es ++ e ∷ []))
    other es m of differ =
        ap (λ ns. count_in ns m) counts ∙ ap (λ o. unwrap_or o 0) (set_elsewhere old.counts e.member m (count_in old.counts e.member + 1) differ) ∙ of.counts m
        ∙ ap length (sym (of_member-other m es e (λ (q : e.member ≡ m). differ (sym q))))

    each : (es : List Entry) → IsOrderOf es old → IsOrderOf (es ++ e ∷ []) new
    each es of = record {
      counts = λ m. elim (cases_eq m e.member) [
        | inl same ↦ subst (λ (k : ℕ). count_in new.counts k ≡ length (of_member k (es ++ e ∷ []))) (sym same) (own es of)
        | inr differ ↦ other es m of differ
      ];
      knows = subst (λ gs. Knows gs new.spellings) (sym (sent-snoc es e)) (learns.each (sent es) of.knows);
    }

pub enters_more : (e : Entry) (old mid new : OrderView) (outs : List Datagram) → outs ≡ e.effects.outs → Learns outs old.spellings mid.spellings → mid.counts ≡ old.counts → e.member < length mid.counts
    → new ≡ record mid { counts = slice_set mid.counts e.member (count_in mid.counts e.member + 1) } → Enters e old new
enters_more e old mid new outs outs_are learns same l is =
    enters e old new (subst (λ ns. e.member < length ns) same l) (subst (λ ts. Learns e.effects.outs old.spellings ts) (sym (ap (λ (v : OrderView). v.spellings) is)) (subst (λ gs. Learns gs old.spellings mid.spellings) outs_are learns))
    (ap (λ (v : OrderView). v.counts) is ∙ ap (λ ns. slice_set ns e.member (count_in ns e.member + 1)) same)

-- whether it may follow

pub free_is : (ts : List Told) (es : List Entry) (v : OrderView) (m : ℕ) → IsOrderOf es v → is_free_by ts v m ≡ is_free ts es m
free_is ts es v m of = ap (λ n. may_miss ts m && (n == length (calls_told ts m))) (of.counts m)

pub next_is : (ts : List Told) (es : List Entry) (v : OrderView) (m : ℕ) → IsOrderOf es v → next_by ts v m ≡ next_told ts es m
next_is ts es v m of = ap (slice_get (calls_told ts m)) (of.counts m)

pub follows_nothing : (ts : List Told) (v : OrderView) (e : Entry) → None ≡ accepted e → MayFollow ts v e true
follows_nothing ts v e none es of = subst (λ o. IfSome o (MayBeSent ts es)) none tt

pub follows_free : (ts : List Told) (v : OrderView) (e : Entry) (g : Datagram) (free : Bool) → Some g ≡ accepted e → free ≡ is_free_by ts v (sender_of g) → free ≡ true → MayFollow ts v e true
follows_free ts v e g free some is t es of = subst (λ o. IfSome o (MayBeSent ts es)) some (inr (sym (free_is ts es v (sender_of g) of) ∙ sym is ∙ t))

pub follows_sent : (ts : List Told) (v : OrderView) (e : Entry) (g : Datagram) (free found : Bool) → Some g ≡ accepted e → IfSome (accepted e) IsSpellable → free ≡ is_free_by ts v (sender_of g) → free ≡ false → found ≡ is_spelling v.spellings (spelling_of g) → MayFollow ts v e found
follows_sent ts v e g free true some fits is f found = λ es of.
    let fit : IsSpellable g = subst (λ o. IfSome o IsSpellable) (sym some) fits in
    subst (λ o. IfSome o (MayBeSent ts es)) some (inl ((of.knows.each g fit).0 (sym found)))
follows_sent ts v e g free false some fits is f found = λ es of.
    let fit : IsSpellable g = subst (λ o. IfSome o IsSpellable) (sym some) fits in
    (g, sym some, λ c. both_ways (is_spelling v.spellings (spelling_of g)) (sym found) ((of.knows.each g fit).1 c), sym (free_is ts es v (sender_of g) of) ∙ sym is ∙ f)

-- the next call of a member

pub stalled_at_end : (ts : List Told) (v : OrderView) (m : ℕ) → None ≡ next_by ts v m → IsStalled ts v m
stalled_at_end ts v m none = subst (λ o. IfSome o (λ e. MayFollow ts v e false)) none tt

pub stalled_here : (ts : List Told) (v : OrderView) (m : ℕ) (e : Entry) (follows : Bool) → Some e ≡ next_by ts v m → MayFollow ts v e follows → follows ≡ false → IsStalled ts v m
stalled_here ts v m e follows some may f = subst (λ o. IfSome o (λ x. MayFollow ts v x false)) some (subst (MayFollow ts v e) f may)

left_set : (ts : List Told) (from : ℕ) (counts : List ℕ) (k n : ℕ) → slice_get counts k ≡ Some n → n < length (calls_told ts (from + k)) → calls_left ts from (slice_set counts k (n + 1)) < calls_left ts from counts
left_set ts from [] k n at l = absurd (none-some n at)
left_set ts from (x ∷ counts) zero n at l =
    let is : x ≡ n = same_Some x n at in
    let here : n < length (calls_told ts from) = subst (λ (m : ℕ). n < length (calls_told ts m)) (omega arith) l in
    omega (arith, is, here)
left_set ts from (x ∷ counts) (suc k) n at l =
    let h = left_set ts (from + 1) counts k n at (subst (λ (m : ℕ). n < length (calls_told ts m)) (omega arith) l) in
    omega (arith, h)

pub advances : (ts : List Told) (old new : OrderView) (m : ℕ) (e : Entry) (follows : Bool) → Comes ts old → Some e ≡ next_by ts old m → IsCallOf m e → MayFollow ts old e follows → follows ≡ true → Enters e old new → Advances ts old new
advances ts old new m e follows comes some call may t adds = record {
  comes = record {
    es = comes.es ++ e ∷ [];
    of = adds.each comes.es comes.of;
    prefixes = λ k. elim (cases_eq k m) [
      | inl same ↦ subst (λ (i : ℕ). IsPrefix (of_member i (comes.es ++ e ∷ [])) (calls_told ts i)) (sym same) own
      | inr differ ↦ subst (λ xs. IsPrefix xs (calls_told ts k)) (sym (of_member-other k comes.es e (λ (q : e.member ≡ k). differ (sym q ∙ call.member)))) (comes.prefixes k)
    ];
    possible = steps_more (λ (s : Step Entry). IfSome (accepted s.this) (MayBeSent ts s.before)) comes.es e comes.possible (subst (MayFollow ts old e) t may comes.es comes.of);
  };
  less = less;
}
  where
    own : IsPrefix (of_member m (comes.es ++ e ∷ [])) (calls_told ts m)
    own = subst (λ xs. IsPrefix xs (calls_told ts m)) (sym (of_member-own m comes.es e call.member))
        (front_next (of_member m comes.es) (calls_told ts m) e (comes.prefixes m) (sym (next_is ts comes.es old m comes.of) ∙ sym some))

    l : m < length old.counts
    l = subst (λ (k : ℕ). k < length old.counts) call.member adds.room

    at : slice_get old.counts m ≡ Some (count_in old.counts m)
    at = let (n, is) = at_place old.counts m l in is ∙ ap Some (sym (ap (λ o. unwrap_or o 0) is))

    set : new.counts ≡ slice_set old.counts m (count_in old.counts m + 1)
    set = adds.counts ∙ ap (λ (k : ℕ). slice_set old.counts k (count_in old.counts k + 1)) call.member

    less : calls_left ts 0 new.counts < calls_left ts 0 old.counts
    less = subst (λ ns. calls_left ts 0 ns < calls_left ts 0 old.counts) (sym set)
        (left_set ts 0 old.counts m (count_in old.counts m) at (subst (λ (k : ℕ). count_in old.counts m < length (calls_told ts k)) (omega arith) (slice_get_within (calls_told ts m) (count_in old.counts m) e (sym some))))
