-- The takes that follow the journals make a run of each member.
use Rattle.std.proofs.Common.{◌≡◌, ◌≢◌, ℕ, zero, suc, ◌+◌, ◌==◌, ◌<◌, max, Bool, true, false, ◌&&◌, ◌||◌, List, [], ◌∷◌, ◌++◌, length, map, take, get_or, refl, ap, sym, ◌∙◌, subst, inl, inr, arith, append_assoc}
use Rattle.std.specs.Prelude.{◌⊎◌, Some, None, cond, slice_get, IfSome, Contains}
use Rattle.std.specs.List.{AllByRecursion, cons_option, flat_map, list_any}
use Rattle.std.proofs.lemmas.Bool.{cases_eq, ne_eqb, eq-eqb}
use Rattle.std.proofs.lemmas.List.{append-nil, map-append, take_more}
use Rattle.std.proofs.lemmas.Option.{same_Some, none-some, unwrap_or-slice_get}
use Rattle.srm_names.specs.declared.page_msg.PageMsg.{PageMsg}
use Rattle.srm_names.specs.Histories.{Step, steps_after, greatest}
use Rattle.srm_names.proofs.Lists.{AllByRecursion-snoc, by_place, from_places, at_place, rest_first}
use Rattle.srm_names.proofs.Snoc.{flat_map-snoc}
use Rattle.srm_bucket.specs.Law.{BucketLaw}
use Rattle.srm_entries.specs.Configs.{Config}
use Rattle.srm_entries.specs.declared.entry.Entry.{Entry}
use Rattle.srm_entries.specs.declared.entry.Input.{Input}
use Rattle.srm_entries.specs.declared.entry.Input.TheVariants.{Took}
use Rattle.srm_entries.specs.declared.entry.Verdict.TheVariants.{Done}
use Rattle.srm_entries.specs.Entries.{accepted, sent, last_moment, state}
use Rattle.srm_entries.specs.Giving.{given, taken, taken_in}
use Rattle.srm_entries.specs.Bucket.{Going, GoesAsCharged, bucket_calls, BucketRight}
use Rattle.srm_entries.specs.Runs.{EntryRight, IsMemberRun}
use Rattle.srm_entries.specs.declared.state.AgentState.TheVariants.{Active}
use Rattle.srm_entries.proofs.Cutting.{bucket_calls-append}
use Rattle.srm_entries.proofs.Feeding.{given-snoc, taken-snoc}
use Rattle.srm_entries.proofs.Showing.{state-snoc}
use Rattle.srm_entries.proofs.Running.{steps_more, last_moment-snoc}
use Rattle.srm_agent.proofs.Still.{still_right}
use Rattle.srm_world.specs.declared.start.Start.{Start}
use Rattle.srm_world.specs.Traces.{Trace, Journal, of_member, IsHonest, IsUntaken, is_take, IsRoster, IsRunOf, IsRunOfMember}
use Rattle.srm_world.specs.Claims.{IsLawfulJournal}
use Rattle.srm_world.proofs.Lawful.{lawful}
use Rattle.srm_world.proofs.Members.{of_member-own}
use Rattle.srm_world.proofs.Stepping.{of_member-other}
use Rattle.srm_audit.specs.declared.got.Got.{Got}
use Rattle.srm_audit.specs.declared.ending.Ending.{Ending}
use Rattle.srm_audit.specs.Audits.{IsFound, AreFound, entries_at, starts_of, is_of, listed, outline, takes_of}
use Rattle.srm_audit.proofs.Finding.{entries_here}
use Rattle.srm_audit.proofs.Ordering.{me_at, journal_at, count_starts}
use Rattle.srm_audit.specs.Merging.{Completes}
use Rattle.srm_audit.specs.Refusals.{IsReconciled}
use Rattle.srm_audit.specs.Endings.{ending_of, take_entry, ending_at, takes_with}

-- one take of one member

-- these are entries of a member, and takes that follow
pub record Ends (c : Config) (made : ℕ) (entries es : List Entry) : Type 0 where
  pub run : IsMemberRun c made es
  pub last : last_moment made es ≡ last_moment made entries
  pub state_is : state es ≡ state entries
  pub given_is : (j : ℕ) → given es j ≡ given entries j

pub ends_itself : (c : Config) (made : ℕ) (entries : List Entry) → IsMemberRun c made entries → Ends c made entries entries
ends_itself c made entries run = record { run = run; last = refl; state_is = refl; given_is = λ j. refl }

bucket_more : (c : Config) (es : List Entry) (last slot : ℕ) (m : PageMsg) (ending : Ending) → BucketRight c es → BucketRight c (es ++ take_entry c.me ending slot m ∷ [])
bucket_more c es last slot m ending (gs, same, goes, law) =
    let e = take_entry c.me ending slot m in
    let x : Going = record { entry = e; goes = [] } in (
      gs ++ x ∷ [],
      map-append (λ (g : Going). g.entry) gs (x ∷ []) ∙ ap (λ xs. xs ++ e ∷ []) same,
      steps_more GoesAsCharged gs x goes (record { same = refl; at_ticks = refl }),
      subst (BucketLaw c.rate c.depth) (sym (bucket_calls-append c.me gs (x ∷ []) ∙ append-nil (bucket_calls c.me gs))) law,
    )

pub ends_more : (c : Config) (made : ℕ) (entries es : List Entry) (slot : ℕ) (m : PageMsg) (ending : Ending) → ending ≡ record { last = last_moment made entries; state = state entries } → Ends c made entries es
    → slice_get (given entries slot) (length (taken es slot)) ≡ Some m → Ends c made entries (es ++ take_entry c.me ending slot m ∷ [])
ends_more c made entries es slot m ending is h at =
    let e = take_entry c.me ending slot m in
    let at_last : ending.last ≡ last_moment made es = ap (λ (x : Ending). x.last) is ∙ sym h.last in
    let in_state : ending.state ≡ state es = ap (λ (x : Ending). x.state) is ∙ sym h.state_is in
    record {
      run = record {
        each = steps_more (EntryRight c made) es e h.run.each (still_right c made es ending.last (Took slot) Done (Some m) ending.state (record {
          unheard = refl;
          undrawn = refl;
          idle = refl;
          moment_right = at_last;
          verdict_right = refl;
          message_right = sym (ap (λ xs. slice_get xs (length (taken es slot))) (h.given_is slot) ∙ at);
          state_right = in_state;
        }));
        bucket = bucket_more c es ending.last slot m ending h.run.bucket;
      };
      last = last_moment-snoc made es e ∙ no_less (last_moment made es) ∙ h.last;
      state_is = state-snoc es e ∙ in_state ∙ h.state_is;
      given_is = λ j. given-snoc es e j ∙ append-nil (given es j) ∙ h.given_is j;
    }
  where
    no_less : (n : ℕ) → max n (greatest []) ≡ n
    no_less n = omega arith

-- no journal has a take

taken_none : (es : List Entry) (j : ℕ) → AllByRecursion IsUntaken es → taken es j ≡ []
taken_none [] j all = refl
taken_none (e ∷ es) j all = ap (λ o. cons_option o (taken es j)) (none e.input all.0) ∙ taken_none es j all.1
  where
    none : (input : Input) → is_take input ≡ false → taken_in j input e.effects.message ≡ None
    none (Took slot) h = absurd (cc)
    none _ h = refl

-- the takes as they are made

pub takes_more : (endings : List Ending) (gots : List Got) (i : ℕ) (got : Got) (before now new : List Entry) (index : ℕ) → i < length gots → got ≡ get_or gots i got → index ≡ got.member → now ≡ before ++ flat_map (takes_with endings) (take i gots)
    → new ≡ now ++ map (take_entry got.member (get_or endings index (record { last = 0; state = Active })) got.slot) got.list → new ≡ before ++ flat_map (takes_with endings) (take (i + 1) gots)
takes_more endings gots i got before now new index l is same h grown =
    grown ∙ ap (λ (x : Ending). now ++ map (take_entry got.member x got.slot) got.list) (sym (unwrap_or-slice_get endings index (record { last = 0; state = Active })) ∙ ap (ending_at endings) same)
    ∙ ap (λ es. es ++ takes_with endings got) h ∙ append_assoc before (flat_map (takes_with endings) (take i gots)) (takes_with endings got)
    ∙ ap (λ es. before ++ es) (sym (flat_map-snoc (takes_with endings) (take i gots) got)) ∙ ap (λ gs. before ++ flat_map (takes_with endings) gs) (ap (λ x. take i gots ++ x ∷ []) is ∙ sym (take_more gots i got l))

-- what was taken while a list is
abbrev part : Got → List PageMsg → ℕ → ℕ → List PageMsg
part got ms m j = cond (is_of m j got) ms []

-- Each member's entries are its journal, and the takes of these lists. Nothing else was heard.
pub record TakesAll (q : List Journal) (gots : List Got) (es : List Entry) : Type 0 where
  pub each : (k : ℕ) (j : Journal) → slice_get q k ≡ Some j → Ends j.start.config j.start.made j.entries (of_member k es)
  pub taken_is : (k slot : ℕ) → taken (of_member k es) slot ≡ listed gots k slot
  pub inside : AllByRecursion (λ (e : Entry). e.member < length q) es
  pub honest : IsHonest es

-- the same, and the takes of the first messages of one list more
record TakesSo (q : List Journal) (gots : List Got) (got : Got) (ms : List PageMsg) (es : List Entry) : Type 0 where
  pub each : (k : ℕ) (j : Journal) → slice_get q k ≡ Some j → Ends j.start.config j.start.made j.entries (of_member k es)
  pub taken_is : (k slot : ℕ) → taken (of_member k es) slot ≡ listed gots k slot ++ part got ms k slot
  pub inside : AllByRecursion (λ (e : Entry). e.member < length q) es
  pub honest : IsHonest es

unlisted : (gots : List Got) (m j : ℕ) → list_any (is_of m j) gots ≡ false → listed gots m j ≡ []
unlisted [] m j none = refl
unlisted (got ∷ gots) m j none = which (is_of m j got) none (unlisted gots m j)
  where
    which : (b : Bool) → (b || list_any (is_of m j) gots) ≡ false → (list_any (is_of m j) gots ≡ false → listed gots m j ≡ []) → (cond b got.list [] ++ listed gots m j) ≡ []
    which true e more = absurd (cc)
    which false e more = more e

own_part : (got : Got) (ms : List PageMsg) (m j : ℕ) → got.member ≡ m → got.slot ≡ j → part got ms m j ≡ ms
own_part got ms m j is at = ap (λ b. cond (b && (got.slot == j)) ms []) (eq-eqb got.member m is) ∙ ap (λ b. cond b ms []) (eq-eqb got.slot j at)

no_part : (got : Got) (ms : List PageMsg) (m j : ℕ) → got.member ≢ m → part got ms m j ≡ []
no_part got ms m j ne = ap (λ b. cond (b && (got.slot == j)) ms []) (ne_eqb got.member m ne)

other_slot : (got : Got) (ms : List PageMsg) (m j : ℕ) → got.slot ≢ j → part got ms m j ≡ []
other_slot got ms m j ne = which (got.member == m) (got.slot == j) (ne_eqb got.slot j ne)
  where
    which : (b c : Bool) → c ≡ false → cond (b && c) ms [] ≡ []
    which true c e = ap (λ b. cond b ms []) e
    which false c e = refl

part_more : (got : Got) (d : List PageMsg) (m : PageMsg) (k slot : ℕ) → got.member ≡ k → part got d k slot ++ cons_option (taken_in slot (Took got.slot) (Some m)) [] ≡ part got (d ++ m ∷ []) k slot
part_more got d m k slot is = which (cases_eq got.slot slot)
  where
    which : ((got.slot ≡ slot) ⊎ (got.slot ≢ slot)) → part got d k slot ++ cons_option (taken_in slot (Took got.slot) (Some m)) [] ≡ part got (d ++ m ∷ []) k slot
    which (inl same) = ap (λ xs. xs ++ cons_option (taken_in slot (Took got.slot) (Some m)) []) (own_part got d k slot is same)
        ∙ ap (λ b. d ++ cons_option (cond b (Some m) None) []) (eq-eqb slot got.slot (sym same)) ∙ sym (own_part got (d ++ m ∷ []) k slot is same)
    which (inr differ) = ap (λ xs. xs ++ cons_option (taken_in slot (Took got.slot) (Some m)) []) (other_slot got d k slot differ)
        ∙ ap (λ b. cons_option (cond b (Some m) None) []) (ne_eqb slot got.slot (λ (e : slot ≡ got.slot). differ (sym e))) ∙ sym (other_slot got (d ++ m ∷ []) k slot differ)

takes_one : (q : List Journal) (gots : List Got) (got : Got) (d : List PageMsg) (m : PageMsg) (rest : List PageMsg) (j : Journal) (ending : Ending) (es : List Entry) → slice_get q got.member ≡ Some j → j.start.config.me ≡ got.member → ending ≡ ending_of j
    → IsFound q (record { before = gots; this = got }) → got.list ≡ d ++ m ∷ rest → TakesSo q gots got d es → TakesSo q gots got (d ++ m ∷ []) (es ++ take_entry got.member ending got.slot m ∷ [])
takes_one q gots got d m rest j ending es here me is found split h = record {
  each = λ k i at. own k i at (cases_eq k got.member);
  taken_is = λ k slot. took k slot (cases_eq k got.member);
  inside = AllByRecursion-snoc (λ (x : Entry). x.member < length q) es e h.inside found.member;
  honest = steps_more (λ (s : Step Entry). IfSome (accepted s.this) (Contains (sent s.before))) es e h.honest tt;
}
  where
    e : Entry
    e = take_entry got.member ending got.slot m

    mine : of_member got.member (es ++ take_entry got.member ending got.slot m ∷ []) ≡ of_member got.member es ++ take_entry got.member ending got.slot m ∷ []
    mine = of_member-own got.member es (take_entry got.member ending got.slot m) refl

    others : (k : ℕ) → k ≢ got.member → of_member k (es ++ take_entry got.member ending got.slot m ∷ []) ≡ of_member k es
    others k ne = of_member-other k es (take_entry got.member ending got.slot m) (λ (x : got.member ≡ k). ne (sym x))

    so_far : taken (of_member got.member es) got.slot ≡ d
    so_far = h.taken_is got.member got.slot ∙ ap (λ xs. xs ++ part got d got.member got.slot) (unlisted gots got.member got.slot found.once) ∙ own_part got d got.member got.slot refl refl

    next : slice_get (given j.entries got.slot) (length (taken (of_member got.member es) got.slot)) ≡ Some m
    next =
        ap (λ xs. slice_get (given j.entries got.slot) (length xs)) so_far
        ∙ ap (λ xs. slice_get xs (length d)) (ap (λ xs. given xs got.slot) (sym (entries_here q got.member j here)) ∙ sym found.prefix.1 ∙ ap (λ xs. xs ++ found.prefix.0) split ∙ append_assoc d (m ∷ rest) found.prefix.0)
        ∙ rest_first d (m ∷ (rest ++ found.prefix.0))

    more : Ends j.start.config j.start.made j.entries (of_member got.member es ++ take_entry got.member ending got.slot m ∷ [])
    more = subst (λ n. Ends j.start.config j.start.made j.entries (of_member got.member es ++ take_entry n ending got.slot m ∷ [])) me
        (ends_more j.start.config j.start.made j.entries (of_member got.member es) got.slot m ending is (h.each got.member j here) next)

    own : (k : ℕ) (i : Journal) → slice_get q k ≡ Some i → ((k ≡ got.member) ⊎ (k ≢ got.member)) → Ends i.start.config i.start.made i.entries (of_member k (es ++ take_entry got.member ending got.slot m ∷ []))
    own k i at (inl same) =
        let this : j ≡ i = same_Some j i (sym here ∙ ap (slice_get q) (sym same) ∙ at) in
        subst (λ n. Ends i.start.config i.start.made i.entries (of_member n (es ++ take_entry got.member ending got.slot m ∷ []))) (sym same)
        (subst (Ends i.start.config i.start.made i.entries) (sym mine) (subst (λ (x : Journal). Ends x.start.config x.start.made x.entries (of_member got.member es ++ take_entry got.member ending got.slot m ∷ [])) this more))
    own k i at (inr differ) = subst (Ends i.start.config i.start.made i.entries) (sym (others k differ)) (h.each k i at)

    took : (k slot : ℕ) → ((k ≡ got.member) ⊎ (k ≢ got.member)) → taken (of_member k (es ++ take_entry got.member ending got.slot m ∷ [])) slot ≡ listed gots k slot ++ part got (d ++ m ∷ []) k slot
    took k slot (inl same) =
        ap (λ n. taken (of_member n (es ++ take_entry got.member ending got.slot m ∷ [])) slot) same ∙ ap (λ xs. taken xs slot) mine ∙ taken-snoc (of_member got.member es) (take_entry got.member ending got.slot m) slot
        ∙ ap (λ xs. xs ++ cons_option (taken_in slot (Took got.slot) (Some m)) []) (ap (λ n. taken (of_member n es) slot) (sym same) ∙ h.taken_is k slot)
        ∙ append_assoc (listed gots k slot) (part got d k slot) (cons_option (taken_in slot (Took got.slot) (Some m)) []) ∙ ap (λ xs. listed gots k slot ++ xs) (part_more got d m k slot (sym same))
    took k slot (inr differ) =
        ap (λ xs. taken xs slot) (others k differ) ∙ h.taken_is k slot
        ∙ ap (λ xs. listed gots k slot ++ xs) (no_part got d k slot (λ (x : got.member ≡ k). differ (sym x)) ∙ sym (no_part got (d ++ m ∷ []) k slot (λ (x : got.member ≡ k). differ (sym x))))

takes_list : (q : List Journal) (gots : List Got) (got : Got) (d ms : List PageMsg) (j : Journal) (ending : Ending) (es : List Entry) → slice_get q got.member ≡ Some j → j.start.config.me ≡ got.member → ending ≡ ending_of j
    → IsFound q (record { before = gots; this = got }) → got.list ≡ d ++ ms → TakesSo q gots got d es → TakesSo q gots got (d ++ ms) (es ++ map (take_entry got.member ending got.slot) ms)
takes_list q gots got d [] j ending es here me is found split h = subst (λ xs. TakesSo q gots got xs (es ++ [])) (sym (append-nil d)) (subst (TakesSo q gots got d) (sym (append-nil es)) h)
takes_list q gots got d (m ∷ ms) j ending es here me is found split h =
    let e = take_entry got.member ending got.slot m in
    let all = takes_list q gots got (d ++ m ∷ []) ms j ending (es ++ e ∷ []) here me is found (split ∙ sym (append_assoc d (m ∷ []) ms)) (takes_one q gots got d m ms j ending es here me is found split h) in
    subst (λ xs. TakesSo q gots got xs (es ++ e ∷ map (take_entry got.member ending got.slot) ms)) (append_assoc d (m ∷ []) ms)
    (subst (TakesSo q gots got ((d ++ m ∷ []) ++ ms)) (append_assoc es (e ∷ []) (map (take_entry got.member ending got.slot) ms)) all)

begin_list : (q : List Journal) (gots : List Got) (got : Got) (es : List Entry) → TakesAll q gots es → TakesSo q gots got [] es
begin_list q gots got es h = record { each = h.each; taken_is = λ k slot. h.taken_is k slot ∙ sym (append-nil (listed gots k slot)) ∙ ap (λ xs. listed gots k slot ++ xs) (sym (nothing (is_of k slot got))); inside = h.inside; honest = h.honest }
  where
    none : List PageMsg
    none = []

    nothing : (b : Bool) → cond b none none ≡ none
    nothing true = refl
    nothing false = refl

end_list : (q : List Journal) (gots : List Got) (got : Got) (es : List Entry) → TakesSo q gots got got.list es → TakesAll q (gots ++ got ∷ []) es
end_list q gots got es h = record {
  each = h.each;
  taken_is = λ k slot. h.taken_is k slot ∙ sym (flat_map-snoc (λ (x : Got). cond (is_of k slot x) x.list []) gots got);
  inside = h.inside;
  honest = h.honest;
}

pub takes_along : (q : List Journal) (endings : List Ending) (done rest : List Got) (es : List Entry) → ((k : ℕ) (j : Journal) → slice_get q k ≡ Some j → (j.start.config.me ≡ k) × (ending_at endings k ≡ ending_of j))
    → AllByRecursion (IsFound q) (steps_after done rest) → TakesAll q done es → TakesAll q (done ++ rest) (es ++ flat_map (takes_with endings) rest)
takes_along q endings done [] es ends found h = subst (λ gs. TakesAll q gs (es ++ [])) (sym (append-nil done)) (subst (TakesAll q done) (sym (append-nil es)) h)
takes_along q endings done (got ∷ rest) es ends found h =
    let (j, here) = at_place q got.member found.0.member in
    let (me, is) = ends got.member j here in
    let one = end_list q done got (es ++ takes_with endings got) (takes_list q done got [] got.list j (ending_at endings got.member) es here me is found.0 refl (begin_list q done got es h)) in
    let all = takes_along q endings (done ++ got ∷ []) rest (es ++ takes_with endings got) ends found.1 one in
    subst (λ gs. TakesAll q gs (es ++ (takes_with endings got ++ flat_map (takes_with endings) rest))) (append_assoc done (got ∷ []) rest)
    (subst (TakesAll q ((done ++ got ∷ []) ++ rest)) (append_assoc es (takes_with endings got) (flat_map (takes_with endings) rest)) all)

-- the journals, and no takes yet

no_takes_yet : (q : List Journal) (k slot : ℕ) → AllByRecursion IsLawfulJournal q → taken (entries_at q k) slot ≡ []
no_takes_yet [] k slot all = refl
no_takes_yet (j ∷ q) zero slot all = taken_none j.entries slot all.0.untaken
no_takes_yet (j ∷ q) (suc k) slot all = no_takes_yet q k slot all.1

pub takes_none : (q : List Journal) (es : List Entry) → AllByRecursion IsLawfulJournal q → Completes q es → TakesAll q [] es
takes_none q es lawful h = record {
  each = λ k j at. subst (Ends j.start.config j.start.made j.entries) (sym (h.each k ∙ entries_here q k j at)) (ends_itself j.start.config j.start.made j.entries (by_place IsLawfulJournal q k j lawful at).run);
  taken_is = λ k slot. ap (λ xs. taken xs slot) (h.each k) ∙ no_takes_yet q k slot lawful;
  inside = h.inside;
  honest = h.honest;
}

-- the trace is a run

pub runs : (q : List Journal) (gots : List Got) (es : List Entry) → IsRoster (starts_of q) → TakesAll q gots es → IsRunOf (starts_of q) es
runs q gots es roster h = record {
  roster = roster;
  inside = subst (λ n. AllByRecursion (λ (e : Entry). e.member < n) es) (sym (count_starts q)) h.inside;
  each = from_places (IsRunOfMember es) (starts_of q) (λ k a at.
      let (j, here, is) = journal_at q k a at in
      subst (λ (s : Start). IsRunOfMember es s) is (subst (λ n. IsMemberRun j.start.config j.start.made (of_member n es)) (sym (me_at q k j roster here)) (h.each k j here).run));
}

outlines : (member : ℕ) (ending : Ending) (slot : ℕ) (ms : List PageMsg) → map outline (map (take_entry member ending slot) ms) ≡ map (λ m. (member, Took slot, Some m)) ms
outlines member ending slot [] = refl
outlines member ending slot (m ∷ ms) = ap (λ xs. (member, Took slot, Some m) ∷ xs) (outlines member ending slot ms)

all_outlines : (endings : List Ending) (gots : List Got) → map outline (flat_map (takes_with endings) gots) ≡ flat_map takes_of gots
all_outlines endings [] = refl
all_outlines endings (got ∷ gots) =
    map-append outline (takes_with endings got) (flat_map (takes_with endings) gots) ∙ ap (λ xs. xs ++ map outline (flat_map (takes_with endings) gots)) (outlines got.member (ending_at endings got.member) got.slot got.list)
    ∙ ap (λ xs. takes_of got ++ xs) (all_outlines endings gots)

ending_here : (q : List Journal) (k : ℕ) (j : Journal) → slice_get q k ≡ Some j → ending_at (map ending_of q) k ≡ ending_of j
ending_here [] k j at = absurd (none-some j at)
ending_here (x ∷ q) zero j at = ap ending_of (same_Some x j at)
ending_here (x ∷ q) (suc k) j at = ending_here q k j at

pub reconciles : (q : List Journal) (gots : List Got) (endings : List Ending) (calls es : List Entry) (starts : List Start) (t : Trace) → AllByRecursion IsLawfulJournal q → IsRoster (starts_of q) → AreFound q gots → endings ≡ map ending_of q → Completes q calls
    → es ≡ calls ++ flat_map (takes_with endings) gots → starts ≡ starts_of q → t ≡ record { starts = starts; entries = es } → IsReconciled q gots t
reconciles q gots endings calls es starts t lawfuls roster found ends calls_are grown begun made =
    let all = takes_along q endings [] gots calls (λ k j at. (me_at q k j roster at, ap (λ xs. ending_at xs k) ends ∙ ending_here q k j at)) found (takes_none q calls lawfuls calls_are) in
    let whole = subst (TakesAll q gots) (sym grown) all in
    let trace : List Start → Trace = λ ss. record { starts = ss; entries = es } in
    let is : t ≡ record { starts = starts_of q; entries = es } = made ∙ ap trace begun in
    subst (IsReconciled q gots) (sym is) (record {
      found = found;
      assembles = record {
        starts = refl;
        calls = calls;
        takes = flat_map (takes_with endings) gots;
        split = grown;
        journals = calls_are.each;
        lists = all_outlines endings gots;
        taken = whole.taken_is;
      };
      lawful = lawful (record { starts = starts_of q; entries = es }) (runs q gots es roster whole) whole.honest;
    })
