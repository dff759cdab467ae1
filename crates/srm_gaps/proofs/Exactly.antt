-- Where members sent nothing behind what is told of them, what is told has an honest order by itself.
use Rattle.std.proofs.Common.{◌≡◌, ◌≢◌, ℕ, ◌==◌, ◌+◌, ◌≤◌, ◌<◌, Bool, true, false, List, [], ◌∷◌, ◌++◌, length, refl, ap, sym, ◌∙◌, subst, inl, inr, arith, length-append}
use Rattle.std.specs.Prelude.{◌⊎◌, Option, Some, None, option_map, unwrap_or, IsSome}
use Rattle.std.specs.List.{AllByRecursion}
use Rattle.std.proofs.lemmas.Bool.{cases_lt, eqb-true, eq-eqb, ne_eqb}
use Rattle.std.proofs.lemmas.Grind.{flat_map-append}
use Rattle.std.proofs.lemmas.List.{append-nil}
use Rattle.std.proofs.lemmas.Option.{none-some}
use Rattle.srm_names.proofs.Lists.{Has, All-Has, find-Has, all_by}
use Rattle.srm_codec.specs.declared.datagram.Datagram.{Datagram}
use Rattle.srm_entries.specs.declared.entry.Entry.{Entry}
use Rattle.srm_entries.specs.Entries.{sent}
use Rattle.srm_world.specs.Traces.{of_member, IsHonest}
use Rattle.srm_world.proofs.Members.{none_of}
use Rattle.srm_replays.specs.Calls.{acts}
use Rattle.srm_replays.specs.Law.{acting, RestsUnseen}
use Rattle.srm_replays.proofs.Replaying.{kept, dropped}
use Rattle.srm_gaps.specs.declared.told.Told.{Told}
use Rattle.srm_gaps.specs.Gaps.{IsAnother, AreOfOneSession}
use Rattle.srm_gaps.specs.Possible.{told_of, calls_told}
use Rattle.srm_gaps.specs.Retelling.{with_replay, OrderLaw}
use Rattle.srm_gaps.proofs.Filling.{same_others, own_part, all_filled, stays_honest}
use Rattle.srm_gaps.proofs.Within.{within, others_within, acting_within, all_within, honest_within}
use Rattle.srm_gaps.proofs.Retelling.{IsReplay, unseen_put, replays_are, unseen_in_run, differs, told_first}

-- the order with what is told in place of what each member did, and nothing behind it
abbrev exactly : List Told → List Entry → List Entry
exactly [] es = es
exactly (t ∷ ts) es = with_replay t.journal.start.config.me t.journal.entries (within t.journal.start.config.me (acting t.journal.entries) (exactly ts es))

exact_others : (ts : List Told) (es : List Entry) (m : ℕ) → AllByRecursion IsReplay ts → AllByRecursion (λ (t : Told). m ≢ t.journal.start.config.me) ts → of_member m (exactly ts es) ≡ of_member m es
exact_others [] es m all differ = refl
exact_others (t ∷ ts) es m all differ =
    same_others t.journal.start.config.me m t.journal.entries (within t.journal.start.config.me (acting t.journal.entries) (exactly ts es)) differ.0 all.0.own
    ∙ others_within t.journal.start.config.me m (acting t.journal.entries) (exactly ts es) differ.0
    ∙ exact_others ts es m all.1 differ.1

-- its member did what is told, and sent nothing behind it
pub record DidAll (es : List Entry) (t : Told) : Type 0 where
  pub rest : List Entry
  pub begins : acting t.journal.entries ++ rest ≡ acting (of_member t.journal.start.config.me es)
  pub silent : sent rest ≡ []

record IsExact (ts : List Told) (es : List Entry) : Type 0 where
  rests : AllByRecursion RestsUnseen (exactly ts es)
  honest : IsHonest (exactly ts es)
  each : AllByRecursion (λ (t : Told). of_member t.journal.start.config.me (exactly ts es) ≡ t.journal.entries) ts

other_members : (t : Told) (ts : List Told) → AllByRecursion (IsAnother t) ts → AllByRecursion (λ (s : Told). t.journal.start.config.me ≢ s.journal.start.config.me) ts
other_members t ts all = all_by (IsAnother t) (λ (s : Told). t.journal.start.config.me ≢ s.journal.start.config.me) ts (λ s a e. a.other (sym e)) all

exact_all : (ts : List Told) (es : List Entry) → AllByRecursion IsReplay ts → AreOfOneSession ts → AllByRecursion RestsUnseen es → IsHonest es → AllByRecursion (DidAll es) ts → IsExact ts es
exact_all [] es all apart rests honest did = record { rests = rests; honest = honest; each = tt }
exact_all (t ∷ ts) es all apart rests honest did =
    let m = t.journal.start.config.me in
    let before : IsExact ts es = exact_all ts es all.1 apart.1 rests honest did.1 in
    let same : of_member m (exactly ts es) ≡ of_member m es = exact_others ts es m all.1 (other_members t ts apart.0) in
    let begins : acting t.journal.entries ++ did.0.rest ≡ acting (of_member m (exactly ts es)) = did.0.begins ∙ ap acting (sym same) in
    let fewer : List Entry = within m (acting t.journal.entries) (exactly ts es) in
    let acts_so : acting t.journal.entries ++ [] ≡ acting (of_member m fewer) = append-nil (acting t.journal.entries) ∙ sym (acting_within m (acting t.journal.entries) (exactly ts es) did.0.rest begins) in
    let rests_so : AllByRecursion RestsUnseen fewer = all_within RestsUnseen m (acting t.journal.entries) (exactly ts es) before.rests in
    record {
      rests = all_filled RestsUnseen m t.journal.entries fewer (unseen_put t.journal.entries all.0.unseen) rests_so;
      honest = stays_honest m t.journal.entries fewer all.0.unseen rests_so (honest_within m (acting t.journal.entries) (exactly ts es) did.0.rest begins did.0.silent before.honest);
      each = (
        own_part m t.journal.entries fewer [] all.0.own acts_so ∙ append-nil t.journal.entries,
        others m fewer ts apart.0 before.each,
      );
    }
  where
    others : (m : ℕ) (fewer : List Entry) (us : List Told) → AllByRecursion (IsAnother t) us → AllByRecursion (λ (s : Told). of_member s.journal.start.config.me (exactly ts es) ≡ s.journal.entries) us
        → AllByRecursion (λ (s : Told). of_member s.journal.start.config.me (exactly (t ∷ ts) es) ≡ s.journal.entries) us
    others m fewer [] differ each = tt
    others m fewer (s ∷ us) differ each = (
      same_others t.journal.start.config.me s.journal.start.config.me t.journal.entries (within t.journal.start.config.me (acting t.journal.entries) (exactly ts es)) differ.0.other all.0.own
          ∙ others_within t.journal.start.config.me s.journal.start.config.me (acting t.journal.entries) (exactly ts es) differ.0.other ∙ each.0,
      others m fewer us differ.1 each.1,
    )

-- what was sent by calls that act

pub sent_acting : (es : List Entry) → AllByRecursion RestsUnseen es → sent (acting es) ≡ sent es
sent_acting [] all = refl
sent_acting (e ∷ es) all = go (acts e) refl (sent_acting es all.1)
  where
    go : (b : Bool) → acts e ≡ b → sent (acting es) ≡ sent es → sent (acting (e ∷ es)) ≡ sent (e ∷ es)
    go true q more = ap sent (kept acts e es q) ∙ ap (λ gs. e.effects.outs ++ gs) more
    go false q more = ap sent (dropped acts e es q) ∙ more ∙ sym (ap (λ gs. gs ++ sent es) (all.0 q).sent)

nothing_more : (xs ys : List Datagram) → xs ++ ys ≡ xs → ys ≡ []
nothing_more xs [] e = refl
nothing_more xs (y ∷ ys) e = let l : length xs + length (y ∷ ys) ≡ length xs = sym (length-append xs (y ∷ ys)) ∙ ap length e in absurd (omega arith)

pub unseen_of_member : (m : ℕ) (es : List Entry) → AllByRecursion RestsUnseen es → AllByRecursion RestsUnseen (of_member m es)
unseen_of_member m [] all = tt
unseen_of_member m (e ∷ es) all = go (e.member == m) refl (unseen_of_member m es all.1)
  where
    go : (b : Bool) → (e.member == m) ≡ b → AllByRecursion RestsUnseen (of_member m es) → AllByRecursion RestsUnseen (of_member m (e ∷ es))
    go true q more = subst (AllByRecursion RestsUnseen) (sym (kept (λ (x : Entry). x.member == m) e es q)) (all.0, more)
    go false q more = subst (AllByRecursion RestsUnseen) (sym (dropped (λ (x : Entry). x.member == m) e es q)) more

did_all : (t : Told) (es rest : List Entry) → AllByRecursion RestsUnseen t.journal.entries → AllByRecursion RestsUnseen es → acting t.journal.entries ++ rest ≡ acting (of_member t.journal.start.config.me es)
    → sent (of_member t.journal.start.config.me es) ≡ sent t.journal.entries → DidAll es t
did_all t es rest unseen rests begins silent = record {
  rest = rest;
  begins = begins;
  silent = nothing_more (sent t.journal.entries) (sent rest)
      (ap (λ gs. gs ++ sent rest) (sym (sent_acting t.journal.entries unseen)) ∙ sym (flat_map-append (λ (x : Entry). x.effects.outs) (acting t.journal.entries) rest) ∙ ap sent begins
      ∙ sent_acting (of_member t.journal.start.config.me es) (unseen_of_member t.journal.start.config.me es rests) ∙ silent);
}

-- what is told of each member, where each record is of another

pub first_told : (ts : List Told) (t : Told) → AreOfOneSession ts → Has t ts → told_of ts t.journal.start.config.me ≡ Some t
first_told [] t apart there = absurd there
first_told (s ∷ ts) t apart (inl same) = told_first s ts t.journal.start.config.me true (eq-eqb s.journal.start.config.me t.journal.start.config.me (ap (λ (x : Told). x.journal.start.config.me) (sym same))) ∙ ap Some (sym same)
first_told (s ∷ ts) t apart (inr there) =
    let other : t.journal.start.config.me ≢ s.journal.start.config.me = (All-Has (IsAnother s) t ts apart.0 there).other in
    told_first s ts t.journal.start.config.me false (ne_eqb s.journal.start.config.me t.journal.start.config.me (λ e. other (sym e))) ∙ first_told ts t apart.1 there

pub none_told : (ts : List Told) (m : ℕ) → told_of ts m ≡ None → AllByRecursion (λ (t : Told). m ≢ t.journal.start.config.me) ts
none_told [] m none = tt
none_told (t ∷ ts) m none = go (t.journal.start.config.me == m) refl (none_told ts m)
  where
    go : (b : Bool) → (t.journal.start.config.me == m) ≡ b → (told_of ts m ≡ None → AllByRecursion (λ (s : Told). m ≢ s.journal.start.config.me) ts) → AllByRecursion (λ (s : Told). m ≢ s.journal.start.config.me) (t ∷ ts)
    go true q more = absurd (none-some t (sym none ∙ told_first t ts m true q))
    go false q more = (differs t.journal.start.config.me m q, more (sym (told_first t ts m false q) ∙ none))

not_none : {X : Type 0} (o : Option X) → o ≡ None → IsSome o → ⊥
not_none None e h = absurd (cc)
not_none (Some x) e h = absurd (cc)

abbrev calls_in : Option Told → List Entry
calls_in o = unwrap_or (option_map (λ (t : Told). t.journal.entries) o) []

pub order_law : OrderLaw
order_law ts t told apart as_told all_sent =
    let replays : AllByRecursion IsReplay ts = replays_are ts told in
    let rests : AllByRecursion RestsUnseen t.entries = unseen_in_run t as_told.run in
    let exact : IsExact ts t.entries = exact_all ts t.entries replays apart rests as_told.honest (each rests ts replays (λ s there. there)) in
    record { es = exactly ts t.entries; all = λ m. of_each replays exact m (told_of ts m) refl; honest = exact.honest }
  where
    each : AllByRecursion RestsUnseen t.entries → (us : List Told) → AllByRecursion IsReplay us → ((s : Told) → Has s us → Has s ts) → AllByRecursion (DidAll t.entries) us
    each rests [] replays there = tt
    each rests (s ∷ us) replays there =
        let m = s.journal.start.config.me in
        let is : told_of ts m ≡ Some s = first_told ts s apart (there s (inl refl)) in
        let (rest, begins) = as_told.did.front m in
        (did_all s t.entries rest replays.0.unseen rests (ap (λ o. acting (calls_in o) ++ rest) (sym is) ∙ begins) (all_sent.sent m ∙ ap (λ o. sent (calls_in o)) is), each rests us replays.1 (λ x h. there x (inr h)))

    of_each : AllByRecursion IsReplay ts → IsExact ts t.entries → (m : ℕ) (o : Option Told) → told_of ts m ≡ o → of_member m (exactly ts t.entries) ≡ calls_told ts m
    of_each replays exact m None none =
        exact_others ts t.entries m replays (none_told ts m none) ∙ outside (cases_lt m (length t.starts)) ∙ ap calls_in (sym none)
      where
        outside : ((m < length t.starts) ⊎ (length t.starts ≤ m)) → of_member m t.entries ≡ []
        outside (inl l) = absurd (not_none (told_of ts m) none (all_sent.each m l))
        outside (inr l) = none_of (length t.starts) m t.entries l as_told.run.inside
    of_each replays exact m (Some s) is =
        let (there, found) = find-Has (λ (x : Told). x.journal.start.config.me == m) ts s is in
        let me : s.journal.start.config.me ≡ m = eqb-true s.journal.start.config.me m found in
        ap (λ k. of_member k (exactly ts t.entries)) (sym me) ∙ All-Has (λ (x : Told). of_member x.journal.start.config.me (exactly ts t.entries) ≡ x.journal.entries) s ts exact.each there ∙ ap calls_in (sym is)
