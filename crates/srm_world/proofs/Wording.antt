-- The random numbers that chose the waits of a run, over one more entry and over several steps.
use Rattle.std.proofs.Common.{◌≡◌, ◌≢◌, ℕ, zero, suc, ◌<◌, get_or, List, [], ◌∷◌, ◌++◌, length, refl, ap, sym, ◌∙◌, subst, inl, inr, arith, append_assoc, eq-eqb}
use Rattle.std.specs.Prelude.{◌⊎◌, Some, option_map, slice_get, slice_set, cond, Option}
use Rattle.std.proofs.lemmas.Bool.{cases_eq, ne_eqb}
use Rattle.std.proofs.lemmas.Grind.{flat_map-append}
use Rattle.std.proofs.lemmas.List.{append-nil, length-set, length-map}
use Rattle.std.proofs.lemmas.Option.{same_Some, slice_get-map, slice_get-get_or, slice_get_within}
use Rattle.srm_names.proofs.Lists.{at_place, get_set_same, set_elsewhere}
use Rattle.srm_timers.specs.Arms.{AreChosen}
use Rattle.srm_timers.proofs.Arming.{chosen-append}
use Rattle.srm_outbox.specs.declared.out.Out.{Out}
use Rattle.srm_entries.specs.declared.entry.Entry.{Entry}
use Rattle.srm_entries.specs.declared.entry.Input.{Input}
use Rattle.srm_entries.specs.Configs.{Config}
use Rattle.srm_entries.specs.Timers.{low_of, high_of}
use Rattle.srm_agent.specs.Contents as agents
use Rattle.srm_agent.specs.Fits.{AgentFits}
use Rattle.srm_agent.specs.Noting.{Enters}
use Rattle.srm_world.specs.declared.start.Start.{Start}
use Rattle.srm_world.specs.Traces.{Trace, Journal, of_member}
use Rattle.srm_world.specs.Participants.{ParticipantContent}
use Rattle.srm_world.specs.RecordStarts.{RecordStart}
use Rattle.srm_world.specs.WaitWords.{RecorderView, WorldView, AreByWords, AreByOwnWords, RecordsByWords, PlaysByWords, arms_in}
use Rattle.srm_world.specs.Worlds.{AreWorld, words_of}
use Rattle.srm_world.proofs.Members.{of_member-append}

-- one generator

by_one : {W : Type 0} (next_word : W → ℕ × W) (c : Config) (from to : W) (e : Entry) → AreChosen next_word (low_of c) (high_of c) from e.effects.arms to → AreByWords next_word c from (e ∷ []) to
by_one next_word c from to e h = subst (λ xs. AreChosen next_word (low_of c) (high_of c) from xs to) (sym (append-nil e.effects.arms)) h

pub by_more : {W : Type 0} (next_word : W → ℕ × W) (c : Config) (from mid to : W) (xs ys : List Entry) → AreByWords next_word c from xs mid → AreByWords next_word c mid ys to → AreByWords next_word c from (xs ++ ys) to
by_more next_word c from mid to xs ys h k =
    subst (λ as_. AreChosen next_word (low_of c) (high_of c) from as_ to) (sym (flat_map-append (λ (e : Entry). e.effects.arms) xs ys)) (chosen-append next_word (low_of c) (high_of c) from mid to (arms_in xs) (arms_in ys) h k)

-- a recorder

pub recorded_by : {W : Type 0} (next_word : W → ℕ × W) (now : Option ℕ) (input : Input) (j : Journal) (a b : agents.AgentContent W) (e : Entry) (es : List Entry) {was begins : Option RecordStart} → AgentFits j.start.config j.start.made j.entries a → Enters next_word now input a b e → es ≡ j.entries ++ e ∷ [] → begins ≡ was
    → RecordsByWords next_word (record { journal = j; words = a.words; begins = was }) (record { journal = record { start = j.start; entries = es }; words = b.words; begins = begins })
recorded_by next_word now input j a b e es fits enters is still = record {
  added = e ∷ [];
  grown = is;
  words = by_one next_word j.start.config a.words b.words e (subst (λ (c : Config). AreChosen next_word (low_of c) (high_of c) a.words e.effects.arms b.words) fits.config enters.words);
  begins = still;
}

pub unrecorded : {W : Type 0} (next_word : W → ℕ × W) (j : Journal) (from to : W) (es : List Entry) {was begins : Option RecordStart} → es ≡ j.entries → to ≡ from → begins ≡ was
    → RecordsByWords next_word (record { journal = j; words = from; begins = was }) (record { journal = record { start = j.start; entries = es }; words = to; begins = begins })
unrecorded next_word j from to es is same still = record { added = []; grown = is ∙ sym (append-nil j.entries); words = same; begins = still }

-- the same in terms of what contracts see
pub no_words_recorded : {W : Type 0} (next_word : W → ℕ × W) (old new : RecorderView W) → new ≡ old → RecordsByWords next_word old new
no_words_recorded next_word old new same = subst (RecordsByWords next_word old) (sym same) (record { added = []; grown = sym (append-nil old.journal.entries); words = refl; begins = refl })

-- a world

-- the generator of a member
abbrev source : {W : Type 0} → ParticipantContent W → W
source p = p.agent.words

pub plays_nothing : {W : Type 0} (next_word : W → ℕ × W) (starts : List Start) (from to : List W) → to ≡ from → AreByOwnWords next_word starts from [] to
plays_nothing next_word starts from to same = record {
  count = ap length same;
  each = λ m a u v at_a at_u at_v. same_Some v u (sym at_v ∙ ap (λ ws. slice_get ws m) same ∙ at_u);
}

-- the generator of one member went on
pub plays_one : {W : Type 0} (next_word : W → ℕ × W) (starts : List Start) (ps : List (ParticipantContent W)) (i : ℕ) (d q : ParticipantContent W) (e : Entry) (a : Start) → i < length ps → slice_get starts i ≡ Some a → e.member ≡ i
    → AreChosen next_word (low_of a.config) (high_of a.config) (get_or ps i d).agent.words e.effects.arms q.agent.words → AreByOwnWords next_word starts (words_of ps) (e ∷ []) (words_of (slice_set ps i q))
plays_one {W = W} next_word starts ps i d q e a lt at mine drawn = record {
  count = length-map (slice_set ps i q) source ∙ length-set ps i q ∙ sym (length-map ps source);
  each = λ m b u v at_b at_u at_v. which m b u v at_b at_u at_v (cases_eq m i);
}
  where
    old : slice_get ps i ≡ Some (get_or ps i d)
    old = slice_get-get_or ps i d lt

    which : (m : ℕ) (b : Start) (u v : W) → slice_get starts m ≡ Some b → slice_get (words_of ps) m ≡ Some u → slice_get (words_of (slice_set ps i q)) m ≡ Some v → ((m ≡ i) ⊎ (m ≢ i)) → AreByWords next_word b.config u (of_member m (e ∷ [])) v
    which m b u v at_b at_u at_v (inl same) =
        let start : a ≡ b = same_Some a b (sym at ∙ ap (slice_get starts) (sym same) ∙ at_b) in
        let from : source (get_or ps i d) ≡ u = same_Some (source (get_or ps i d)) u (sym (slice_get-map source ps m ∙ ap (option_map source) (ap (slice_get ps) same ∙ old)) ∙ at_u) in
        let to : source q ≡ v = same_Some (source q) v (sym (slice_get-map source (slice_set ps i q) m ∙ ap (option_map source) (ap (slice_get (slice_set ps i q)) same ∙ get_set_same ps i (get_or ps i d) q old)) ∙ at_v) in
        let own : of_member m (e ∷ []) ≡ e ∷ [] = ap (λ x. cond x (e ∷ []) []) (eq-eqb e.member m (mine ∙ sym same)) in
        subst (λ es. AreByWords next_word b.config u es v) (sym own) (subst (λ w. AreByWords next_word b.config w (e ∷ []) v) from (subst (λ w. AreByWords next_word b.config (source (get_or ps i d)) (e ∷ []) w) to
        (subst (λ (s : Start). AreByWords next_word s.config (source (get_or ps i d)) (e ∷ []) (source q)) start (by_one next_word a.config (source (get_or ps i d)) (source q) e drawn))))
    which m b u v at_b at_u at_v (inr differ) =
        let none : of_member m (e ∷ []) ≡ [] = ap (λ x. cond x (e ∷ []) []) (ne_eqb e.member m (λ is. differ (sym is ∙ mine))) in
        subst (λ es. AreByWords next_word b.config u es v) (sym none)
        (same_Some v u (sym at_v ∙ slice_get-map source (slice_set ps i q) m ∙ ap (option_map source) (set_elsewhere ps i m q differ) ∙ sym (slice_get-map source ps m) ∙ at_u))

-- each member has a generator
pub sources_counted : {W : Type 0} (ps : List (ParticipantContent W)) (sents : List Out) (t : Trace) → AreWorld ps sents t → length (words_of ps) ≡ length t.starts
sources_counted ps sents t are = length-map ps source ∙ are.count

-- no generator went on
pub sources_stay : {W : Type 0} (ps : List (ParticipantContent W)) (i : ℕ) (d q : ParticipantContent W) → q.agent.words ≡ (get_or ps i d).agent.words → words_of (slice_set ps i q) ≡ words_of ps
sources_stay [] i d q e = refl
sources_stay (p ∷ ps) zero d q e = ap (λ w. w ∷ words_of ps) e
sources_stay (p ∷ ps) (suc i) d q e = ap (λ ws. p.agent.words ∷ ws) (sources_stay ps i d q e)

plays_more : {W : Type 0} (next_word : W → ℕ × W) (starts : List Start) (from mid to : List W) (xs ys : List Entry) → AreByOwnWords next_word starts from xs mid → AreByOwnWords next_word starts mid ys to → AreByOwnWords next_word starts from (xs ++ ys) to
plays_more next_word starts from mid to xs ys h k = record {
  count = k.count ∙ h.count;
  each = λ m a u v at_a at_u at_v.
      let l = slice_get_within from m u at_u in
      let (w, at_w) = at_place mid m (omega (arith, l, h.count)) in
      subst (λ es. AreByWords next_word a.config u es v) (sym (of_member-append m xs ys)) (by_more next_word a.config u w v (of_member m xs) (of_member m ys) (h.each m a u w at_a at_u at_w) (k.each m a w v at_a at_w at_v));
}

-- what contracts see of a world
abbrev pub played : {W : Type 0} → Trace → List W → WorldView W
played t ws = record { trace = t; words = ws }

pub same_played : {W : Type 0} (t now : Trace) (ws all : List W) → t ≡ now → ws ≡ all → played t ws ≡ played now all
same_played t now ws all same taken = ap (λ (x : Trace). played x ws) same ∙ ap (played now) taken

pub plays_still : {W : Type 0} (next_word : W → ℕ × W) (p : WorldView W) → PlaysByWords next_word p p
plays_still next_word p = record { added = []; grown = sym (append-nil p.trace.entries); words = plays_nothing next_word p.trace.starts p.words p.words refl }

pub plays_kept : {W : Type 0} (next_word : W → ℕ × W) (old new : WorldView W) → new ≡ old → PlaysByWords next_word old new
plays_kept next_word old new same = subst (PlaysByWords next_word old) (sym same) (plays_still next_word old)

pub plays_on : {W : Type 0} (next_word : W → ℕ × W) (old between now : WorldView W) → PlaysByWords next_word old between → between.trace.starts ≡ old.trace.starts → PlaysByWords next_word between now → PlaysByWords next_word old now
plays_on next_word old between now h starts k = record {
  added = h.added ++ k.added;
  grown = k.grown ∙ ap (λ es. es ++ k.added) h.grown ∙ append_assoc old.trace.entries h.added k.added;
  words = plays_more next_word old.trace.starts old.words between.words now.words h.added k.added h.words (subst (λ ss. AreByOwnWords next_word ss between.words k.added now.words) starts k.words);
}
