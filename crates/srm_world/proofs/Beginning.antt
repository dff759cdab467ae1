-- A new world, member by member.
use Rattle.std.proofs.Common.{◌≡◌, ℕ, ◌+◌, ◌≤◌, ◌<◌, get_or, List, [], ◌∷◌, ◌++◌, length, take, refl, ap, sym, ◌∙◌, subst, append_assoc, inl, inr, arith}
use Rattle.std.specs.Prelude.{◌⊎◌, Some, None, slice_get}
use Rattle.std.proofs.lemmas.Option.{slice_get_within}
use Rattle.std.proofs.lemmas.List.{map-append, append-nil, length-append, length-map, take_more, take_all, length_push}
use Rattle.srm_names.proofs.Lists.{slice_get-snoc}
use Rattle.srm_entries.specs.Configs.{Config}
use Rattle.srm_outbox.specs.declared.out.Out.{Out}
use Rattle.srm_entries.specs.declared.entry.Entry.{Entry}
use Rattle.srm_world.specs.declared.start.Start.{Start}
use Rattle.srm_world.specs.Traces.{Trace, IsRoster, started}
use Rattle.srm_world.specs.Participants.{ParticipantContent, ParticipantFits}
use Rattle.srm_world.specs.Worlds.{words_of, AllFit, AreWorld}
use Rattle.srm_world.proofs.Lawful.{lawful}
use Rattle.srm_world.proofs.Stepping.{run_more}

none_fit : {W : Type 0} (starts : List Start) (ps : List (ParticipantContent W)) → starts ≡ [] → AllFit starts ps []
none_fit starts ps none m a p at_a at_p = let e : None ≡ Some a = sym (ap (λ xs. slice_get xs m) none) ∙ at_a in absurd (cc)

fresh_more : {W : Type 0} (starts : List Start) (ps : List (ParticipantContent W)) (a : Start) (p : ParticipantContent W) → length starts ≡ length ps → AllFit starts ps [] → ParticipantFits a.config a.made [] p → AllFit (starts ++ a ∷ []) (ps ++ p ∷ []) []
fresh_more starts ps a p same all fits k b q at_b at_q = which (slice_get-snoc starts a k b at_b) (slice_get-snoc ps p k q at_q)
  where
    which : ((slice_get starts k ≡ Some b) ⊎ ((k ≡ length starts) × (a ≡ b))) → ((slice_get ps k ≡ Some q) ⊎ ((k ≡ length ps) × (p ≡ q))) → ParticipantFits b.config b.made [] q
    which (inl x) (inl y) = all k b q x y
    which (inl x) (inr y) = let l = slice_get_within starts k b x in absurd (omega (arith, y.0, same))
    which (inr x) (inl y) = let l = slice_get_within ps k q y in absurd (omega (arith, x.0, same))
    which (inr x) (inr y) = subst (λ (s : Start). ParticipantFits s.config s.made [] q) x.1 (subst (ParticipantFits a.config a.made []) y.1 fits)

-- the first so many members have begun
pub record HaveBegun {W : Type 0} (configs : List Config) (i : ℕ) (starts : List Start) (ps : List (ParticipantContent W)) : Type 0 where
  pub starts_are : starts ≡ started (take i configs)
  pub begun : length starts ≡ i
  pub count : length ps ≡ i
  pub fit : AllFit starts ps []

pub none_begun : {W : Type 0} (configs : List Config) (starts : List Start) (ps : List (ParticipantContent W)) → starts ≡ [] → ps ≡ [] → HaveBegun configs 0 starts ps
none_begun configs starts ps none nobody = record { starts_are = none; begun = ap length none; count = ap length nobody; fit = none_fit starts ps none }

pub one_more_begun : {W : Type 0} (configs : List Config) (i : ℕ) (starts starts' : List Start) (ps ps' : List (ParticipantContent W)) (c : Config) (p : ParticipantContent W) → HaveBegun configs i starts ps → i < length configs → c ≡ get_or configs i c
    → ParticipantFits c 0 [] p → starts' ≡ starts ++ record { config = c; made = 0 } ∷ [] → ps' ≡ ps ++ p ∷ [] → HaveBegun configs (i + 1) starts' ps'
one_more_begun configs i starts starts' ps ps' c p h l at fits starts_are ps_are =
    let start : Start = record { config = c; made = 0 } in
    let more : take (i + 1) configs ≡ take i configs ++ c ∷ [] = take_more configs i c l ∙ ap (λ x. take i configs ++ x ∷ []) (sym at) in
    record {
      starts_are = starts_are ∙ ap (λ xs. xs ++ start ∷ []) h.starts_are ∙ sym (ap started more ∙ map-append (λ (x : Config). record { config = x; made = 0 }) (take i configs) (c ∷ []));
      begun = ap length starts_are ∙ length_push starts start ∙ ap (λ n. n + 1) h.begun;
      count = ap length ps_are ∙ length_push ps p ∙ ap (λ n. n + 1) h.count;
      fit = subst (λ xs. AllFit xs ps' []) (sym starts_are) (subst (λ qs. AllFit (starts ++ start ∷ []) qs []) (sym ps_are) (fresh_more starts ps start p (h.begun ∙ sym h.count) h.fit fits));
    }

-- all of them have
abbrev begins : List Start → List Entry → Trace
begins starts es = record { starts = starts; entries = es }

pub begun_trace : {W : Type 0} (configs : List Config) (i : ℕ) (starts : List Start) (ps : List (ParticipantContent W)) (es : List Entry) (t : Trace) → HaveBegun configs i starts ps → length configs ≤ i → es ≡ [] → t ≡ record { starts = starts; entries = es }
    → t ≡ record { starts = started configs; entries = [] }
begun_trace configs i starts ps es t h l none is = is ∙ ap (begins starts) none ∙ ap (λ xs. begins xs []) (h.starts_are ∙ ap started (take_all i configs l))

pub begun_world : {W : Type 0} (configs : List Config) (i : ℕ) (starts : List Start) (ps : List (ParticipantContent W)) (sents : List Out) (es : List Entry) (t : Trace) → HaveBegun configs i starts ps → length configs ≤ i → IsRoster (started configs) → sents ≡ [] → es ≡ []
    → t ≡ record { starts = starts; entries = es } → AreWorld ps sents t
begun_world configs i starts ps sents es t h l roster unsent none is = subst (AreWorld ps sents) (sym (is ∙ ap (begins starts) none)) (subst (λ os. AreWorld ps os (begins starts [])) (sym unsent) (record {
  count = h.count ∙ sym h.begun;
  fit = h.fit;
  sent = record { same = refl; spelled = λ m a at. tt };
  lawful = lawful (begins starts []) (run_more starts [] ps (subst IsRoster (sym (h.starts_are ∙ ap started (take_all i configs l))) roster) (h.count ∙ sym h.begun) h.fit tt) tt;
}))

-- the generators of the members that have begun, and those still to come

pub no_source_taken : {W : Type 0} (ps : List (ParticipantContent W)) (rest all : List W) → ps ≡ [] → rest ≡ all → words_of ps ++ rest ≡ all
no_source_taken ps rest all none same = rw none same

pub source_taken : {W : Type 0} (ps more : List (ParticipantContent W)) (p : ParticipantContent W) (w : W) (before rest all : List W) → more ≡ ps ++ p ∷ [] → p.agent.words ≡ w → before ≡ w ∷ rest → words_of ps ++ before ≡ all → words_of more ++ rest ≡ all
source_taken ps more p w before rest all more_are is split h =
    ap (λ (qs : List (ParticipantContent _)). words_of qs ++ rest) more_are ∙ ap (λ ws. ws ++ rest) (map-append (λ (q : ParticipantContent _). q.agent.words) ps (p ∷ []))
    ∙ append_assoc (words_of ps) (p.agent.words ∷ []) rest ∙ ap (λ v. words_of ps ++ v ∷ rest) is ∙ ap (λ ws. words_of ps ++ ws) (sym split) ∙ h

pub all_taken : {W : Type 0} (ps : List (ParticipantContent W)) (rest all : List W) → length all ≤ length ps → words_of ps ++ rest ≡ all → words_of ps ≡ all
all_taken ps [] all l h = sym (append-nil (words_of ps)) ∙ h
all_taken ps (w ∷ rest) all l h =
    let k : length (words_of ps ++ w ∷ rest) ≡ length all = ap length h in
    let m : length (words_of ps) ≡ length ps = length-map ps (λ (q : ParticipantContent _). q.agent.words) in
    absurd (omega (arith, length-append (words_of ps) (w ∷ rest), k, m, l))
