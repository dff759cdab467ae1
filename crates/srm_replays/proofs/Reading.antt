-- What the entries before a call say of it is the same where they are alike.
use Rattle.std.proofs.Common.{◌≡◌, ℕ, ◌==◌, Bool, false, ◌&&◌, ◌||◌, List, [], ◌∷◌, ◌++◌, map, length, refl, ap, sym, ◌∙◌, subst}
use Rattle.std.specs.Prelude.{Option, Some, None, if◌then◌else◌, option_map, option_to_list, nat_lt}
use Rattle.std.specs.List.{list_any}
use Rattle.srm_names.specs.declared.page.Page.{Page}
use Rattle.srm_names.specs.declared.drawop.Drawop.{Drawop}
use Rattle.srm_names.specs.declared.limits.TheConstants.{PAGES}
use Rattle.srm_names.specs.Histories.{firsts}
use Rattle.srm_names.specs.Names.{first_page, same_page, stream_on}
use Rattle.srm_names.specs.FullName.{FullName}
use Rattle.srm_names.proofs.Snoc.{flat_map-snoc}
use Rattle.srm_codec.specs.declared.datagram.Datagram.{Datagram}
use Rattle.srm_codec.specs.Spelling.{sender_of, names_in, is_farewell}
use Rattle.srm_store.specs.Held as store
use Rattle.srm_store.specs.Finals.{row_number}
use Rattle.srm_entries.specs.Configs.{Config}
use Rattle.srm_entries.specs.declared.entry.Entry.{Entry}
use Rattle.srm_entries.specs.declared.entry.Input.{Input}
use Rattle.srm_entries.specs.declared.entry.Input.TheVariants.{Drew, Heard, Noise, Ticked, Showed, AskedLeave, Gave, Took}
use Rattle.srm_entries.specs.declared.cause.Cause.TheVariants as causes
use Rattle.srm_entries.specs.declared.entry.Verdict.{Verdict}
use Rattle.srm_entries.specs.declared.entry.Verdict.TheVariants.{Ignored}
use Rattle.srm_entries.specs.Entries.{done, done_input, heard_in, state, is_gone, slots, known, held_at, accepted, drawops_in, names_heard, held, held_by, evidence_by, evidence_in, is_held}
use Rattle.srm_entries.specs.Distances.{distance_calls, calls_in, calls_of}
use Rattle.srm_entries.specs.Timers.{ask_exponent, ask_basis_of, fix_basis_of, basis_of}
use Rattle.srm_entries.specs.Verdicts.{first_cause, is_stranger, lacks_slots_for, is_beyond, says_too_little, differs, verdict_of, VerdictRight}
use Rattle.srm_entries.specs.Runs.{EntryRight, expected_drawop}
use Rattle.srm_entries.proofs.Showing.{held-snoc, shown-snoc}
use Rattle.srm_timers.specs.Arms.{plan_of}
use Rattle.srm_timers.specs.AskCalls.{ask_basis}
use Rattle.srm_distance.specs.Distance as distances
use Rattle.srm_replays.specs.Law.{is_noise}
use Rattle.srm_replays.proofs.Alike.{Alike}
use Rattle.srm_replays.proofs.Ordered.{same_names, same_plans}

any_same : {X : Type 0} (p q : X → Bool) (xs : List X) → ((x : X) → p x ≡ q x) → list_any p xs ≡ list_any q xs
any_same p q [] same = refl
any_same p q (x ∷ xs) same = ap (λ b. b || list_any p xs) (same x) ∙ ap (λ b. q x || b) (any_same p q xs same)

-- what a datagram is answered, by the tests that read the entries before
abbrev heard_by : Config → Datagram → (gone lacks beyond short conflict : Bool) → Verdict
heard_by c g gone lacks beyond short conflict = first_cause (
    (gone, Ignored causes.Gone)
    ∷ (sender_of g == c.me, Ignored causes.Own)
    ∷ (is_stranger c g, Ignored causes.Stranger)
    ∷ (lacks, Ignored causes.PageLimit)
    ∷ (beyond || short, Ignored causes.BeyondFinal)
    ∷ (conflict, Ignored causes.Conflict) ∷ [])

module _ (c : Config) (us vs : List Entry) (a : Alike c us vs) where
  heard_same : (g : Datagram) → verdict_of c us (Heard g) ≡ verdict_of c vs (Heard g)
  heard_same g =
      let pages : List Page = map (λ (n : FullName). n.stream.page) (names_in g) in
      let lacks : lacks_slots_for us pages ≡ lacks_slots_for vs pages = ap (λ ps. nat_lt PAGES (length (firsts same_page (firsts same_page (first_page ∷ ps) ++ pages)))) a.pages in
      let beyond : list_any (is_beyond c.me us) (names_in g) ≡ list_any (is_beyond c.me vs) (names_in g) = any_same (is_beyond c.me us) (is_beyond c.me vs) (names_in g) (λ n. rw (a.settles, a.draws) refl) in
      let says : Page → ℕ = λ page. row_number (names_in g) (stream_on (sender_of g) page) in
      let short : says_too_little us g ≡ says_too_little vs g =
      ap (λ ns. is_farewell g && list_any (λ page. nat_lt (says page) (store.known ns (stream_on (sender_of g) page))) (slots us)) a.evidence
      ∙ ap (λ ps. is_farewell g && list_any (λ page. nat_lt (says page) (known vs (stream_on (sender_of g) page))) (firsts same_page (first_page ∷ ps))) a.pages in
      let conflict : list_any (λ d. differs d (held_at us d.name)) (drawops_in (Some g)) ≡ list_any (λ d. differs d (held_at vs d.name)) (drawops_in (Some g)) =
      any_same (λ d. differs d (held_at us d.name)) (λ d. differs d (held_at vs d.name)) (drawops_in (Some g)) (λ d. rw a.holds refl) in
      ap (λ s. heard_by c g (is_gone s) (lacks_slots_for us pages) (list_any (is_beyond c.me us) (names_in g)) (says_too_little us g) (list_any (λ d. differs d (held_at us d.name)) (drawops_in (Some g)))) a.states
      ∙ ap (λ b. heard_by c g (is_gone (state vs)) b (list_any (is_beyond c.me us) (names_in g)) (says_too_little us g) (list_any (λ d. differs d (held_at us d.name)) (drawops_in (Some g)))) lacks
      ∙ ap (λ b. heard_by c g (is_gone (state vs)) (lacks_slots_for vs pages) b (says_too_little us g) (list_any (λ d. differs d (held_at us d.name)) (drawops_in (Some g)))) beyond
      ∙ ap (λ b. heard_by c g (is_gone (state vs)) (lacks_slots_for vs pages) (list_any (is_beyond c.me vs) (names_in g)) b (list_any (λ d. differs d (held_at us d.name)) (drawops_in (Some g)))) short
      ∙ ap (λ b. heard_by c g (is_gone (state vs)) (lacks_slots_for vs pages) (list_any (is_beyond c.me vs) (names_in g)) (says_too_little vs g) b) conflict

  verdict_same : (i : Input) → verdict_of c us i ≡ verdict_of c vs i
  verdict_same (Drew page body) = rw (a.states, a.pages, a.draws) refl
  verdict_same (Heard g) = heard_same g
  verdict_same (Showed page) = rw (a.states, a.pages) refl
  verdict_same AskedLeave = rw a.states refl
  verdict_same Noise = refl
  verdict_same Ticked = refl
  verdict_same (Gave slot) = refl
  verdict_same (Took slot) = refl

  pub verdicts_same : (i : Input) (v w : Verdict) → is_noise i ≡ false → VerdictRight c us i v → VerdictRight c vs i w → v ≡ w
  verdicts_same (Drew page body) v w awake r s = r ∙ verdict_same (Drew page body) ∙ sym s
  verdicts_same (Heard g) v w awake r s = r.1 ∙ verdict_same (Heard g) ∙ sym s.1
  verdicts_same (Showed page) v w awake r s = r ∙ verdict_same (Showed page) ∙ sym s
  verdicts_same AskedLeave v w awake r s = r ∙ verdict_same AskedLeave ∙ sym s
  verdicts_same Noise v w awake r s = absurd (cc)
  verdicts_same Ticked v w awake r s = r ∙ sym s
  verdicts_same (Gave slot) v w awake r s = r ∙ sym s
  verdicts_same (Took slot) v w awake r s = r ∙ sym s

  pub drawop_same : (now : ℕ) (o : Option Input) → expected_drawop c us now o ≡ expected_drawop c vs now o
  drawop_same now None = refl
  drawop_same now (Some (Drew page body)) = rw a.draws refl
  drawop_same now (Some (Heard g)) = refl
  drawop_same now (Some Noise) = refl
  drawop_same now (Some Ticked) = refl
  drawop_same now (Some (Showed page)) = refl
  drawop_same now (Some AskedLeave) = refl
  drawop_same now (Some (Gave slot)) = refl
  drawop_same now (Some (Took slot)) = refl

-- Two entries at one moment and of one input, each allowed by those before it.
pub record AreTwins (c : Config) (made : ℕ) (us vs : List Entry) (e f : Entry) : Type 0 where
  pub alike : Alike c us vs
  pub right : EntryRight c made (record { before = us; this = e })
  pub other : EntryRight c made (record { before = vs; this = f })
  pub moment : e.moment ≡ f.moment
  pub input : e.input ≡ f.input
  pub awake : is_noise e.input ≡ false

module _ (c : Config) (made : ℕ) (us vs : List Entry) (e f : Entry) (t : AreTwins c made us vs e f) where
  pub same_verdict : e.verdict ≡ f.verdict
  same_verdict = verdicts_same c us vs t.alike e.input e.verdict f.verdict t.awake t.right.verdict (subst (λ i. VerdictRight c vs i f.verdict) (sym t.input) t.other.verdict)

  pub same_done : done e ≡ done f
  same_done = ap (λ v. done_input v e.input) same_verdict ∙ ap (done_input f.verdict) t.input

  pub same_heard : accepted e ≡ accepted f
  same_heard = ap heard_in same_done

  pub same_drawn : e.effects.drawn ≡ f.effects.drawn
  same_drawn =
      t.right.drawn ∙ drawop_same c us vs t.alike e.moment (done e) ∙ ap (λ m. expected_drawop c vs m (done e)) t.moment ∙ ap (expected_drawop c vs f.moment) same_done ∙ sym t.other.drawn

  pub same_asks : e.effects.asks ≡ f.effects.asks
  same_asks = same_names _ _ e.effects.asks f.effects.asks t.right.timers.asks t.other.timers.asks (λ n. rw (t.input, t.moment, t.alike.states, t.alike.holds, t.alike.evidence, t.alike.asks n) refl)

  pub same_fixes : e.effects.fixes ≡ f.effects.fixes
  same_fixes = same_names _ _ e.effects.fixes f.effects.fixes t.right.timers.fixes t.other.timers.fixes (λ n. rw (t.input, t.moment, t.alike.states, t.alike.fixes n) refl)

  -- with the entry itself

  held_with : held (us ++ e ∷ []) ≡ held (vs ++ f ∷ [])
  held_with =
      held-snoc us e ∙ ap (λ ds. ds ++ held_by e) t.alike.holds
      ∙ ap (λ o. held vs ++ (option_to_list o ++ drawops_in (accepted e))) same_drawn ∙ ap (λ o. held vs ++ (option_to_list f.effects.drawn ++ drawops_in o)) same_heard
      ∙ sym (held-snoc vs f)

  evidence_with : evidence_in (us ++ e ∷ []) ≡ evidence_in (vs ++ f ∷ [])
  evidence_with =
      shown-snoc us e ∙ ap (λ ns. ns ++ evidence_by e) t.alike.evidence
      ∙ ap (λ o. evidence_in vs ++ (map (λ (d : Drawop). d.name) (option_to_list o) ++ names_heard (accepted e))) same_drawn
      ∙ ap (λ o. evidence_in vs ++ (map (λ (d : Drawop). d.name) (option_to_list f.effects.drawn) ++ names_heard o)) same_heard
      ∙ sym (shown-snoc vs f)

  distances_with : distance_calls c.me (us ++ e ∷ []) ≡ distance_calls c.me (vs ++ f ∷ [])
  distances_with =
      flat_map-snoc (calls_in c.me) us e ∙ ap (λ cs. cs ++ calls_in c.me e) t.alike.distances
      ∙ ap (λ m. distance_calls c.me vs ++ calls_of c.me m (accepted e)) t.moment ∙ ap (λ o. distance_calls c.me vs ++ calls_of c.me f.moment o) same_heard
      ∙ sym (flat_map-snoc (calls_in c.me) vs f)

  -- timers

  same_fix : (n : FullName) → fix_basis_of c us e n ≡ fix_basis_of c vs f n
  same_fix n = rw (t.alike.holds, t.alike.fixes n, t.moment, t.alike.off n f.moment, t.alike.distances, same_heard) refl

  same_exponent : (n : FullName) → ask_exponent us e n ≡ ask_exponent vs f n
  same_exponent n = rw (held_with, evidence_with, t.alike.holds, t.alike.evidence, t.alike.asks n, same_asks, same_heard, t.moment) refl

  same_ask : (n : FullName) → ask_basis_of c us e n ≡ ask_basis_of c vs f n
  same_ask n =
      ap (λ cs. option_map (λ i. ask_basis i (distances.distance c.least_distance cs c.me n.stream.source)) (ask_exponent us e n)) distances_with
      ∙ ap (option_map (λ i. ask_basis i (distances.distance c.least_distance (distance_calls c.me (vs ++ f ∷ [])) c.me n.stream.source))) (same_exponent n)

  same_basis : (n : FullName) → basis_of c us e n ≡ basis_of c vs f n
  same_basis n =
      ap (λ b. if b then fix_basis_of c us e n else ask_basis_of c us e n) (rw t.alike.holds refl)
      ∙ ap (λ o. if is_held vs n then o else ask_basis_of c us e n) (same_fix n) ∙ ap (λ o. if is_held vs n then fix_basis_of c vs f n else o) (same_ask n)

  pub same_plans_here : map plan_of e.effects.arms ≡ map plan_of f.effects.arms
  same_plans_here = same_plans (basis_of c us e) (basis_of c vs f) e.effects.arms f.effects.arms t.right.arms.are t.other.arms.are same_basis
