-- In an honest run each held drawop was drawn by its source, and what a source says when it leaves is true.
use Rattle.std.proofs.Common.{◌≡◌, ℕ, ◌==◌, ◌≤◌, Bool, true, false, not, List, [], ◌∷◌, ◌++◌, length, refl, ap, sym, ◌∙◌, subst, inl, inr, arith, append_assoc}
use Rattle.std.specs.Prelude.{◌⊎◌, Option, Some, None, cond, IfSome, Contains, option_to_list}
use Rattle.std.specs.List.{flat_map, cons_option, AllByRecursion}
use Rattle.std.proofs.lemmas.List.{append-nil}
use Rattle.std.proofs.lemmas.List.Elements.{filter-append}
use Rattle.std.proofs.lemmas.Option.{none-some}
use Rattle.std.proofs.lemmas.Grind.{flat_map-append}
use Rattle.srm_names.specs.declared.page.Page.{Page}
use Rattle.srm_names.specs.declared.drawop.Drawop.{Drawop}
use Rattle.srm_names.specs.FullName.{FullName}
use Rattle.srm_names.specs.Histories.{Step, steps, steps_after, or_else}
use Rattle.srm_names.proofs.Lists.{Has, Has-append, Has-front, Has-back, Has-filter, Has-kept, Has-flat_map, flat_map-Has, Has-contained, Has-split, at_parts}
use Rattle.srm_codec.specs.declared.datagram.Datagram.{Datagram}
use Rattle.srm_codec.specs.declared.datagram.Datagram.TheVariants.{Data, Request, Repair, Session}
use Rattle.srm_entries.specs.declared.entry.Entry.{Entry}
use Rattle.srm_entries.specs.Entries.{accepted, sent, drawn, held, held_by, drawops_in}
use Rattle.srm_codec.specs.Spelling.{is_session}
use Rattle.srm_entries.specs.Sessions.{charged}
use Rattle.srm_store.specs.Finals.{Settling, rows_for, rows_of, row_number}
use Rattle.srm_names.specs.Names.{stream_on}
use Rattle.srm_entries.specs.Verdicts.{told, settlings, settling_of}
use Rattle.srm_entries.proofs.Sending.{data_sent_was_drawn, repair_sent_was_held}
use Rattle.srm_entries.proofs.Drawing.{draws_right}
use Rattle.srm_entries.proofs.Telling.{rows_in, farewell_in, farewell_is}
use Rattle.srm_entries.proofs.Parting.{session_sent, farewell_sent}
use Rattle.srm_world.specs.declared.start.Start.{Start}
use Rattle.srm_world.specs.Traces.{of_member, drawn_by, IsHonest, IsRunOf}
use Rattle.srm_world.proofs.Members.{MemberRun, run_of_entry, run_so_far, Has-of_member}

abbrev pub IsHonestStep : Step Entry → Type 0
IsHonestStep s = IfSome (accepted s.this) (Contains (sent s.before))

honest_here : (before : List Entry) (e : Entry) (g : Datagram) → IsHonestStep (record { before = before; this = e }) → accepted e ≡ Some g → Has g (sent before)
honest_here before e g honest h = Has-contained g (sent before) (subst (λ o. IfSome o (Contains (sent before))) h honest)

-- what a member heard was sent
pub heard_was_sent : (es : List Entry) (e : Entry) (g : Datagram) → IsHonest es → Has e es → accepted e ≡ Some g → Has g (sent es)
heard_was_sent es e g honest h q =
    let (before, after, split) = Has-split e es h in
    let parts = at_parts IsHonestStep before (e ∷ after) (subst (λ w. AllByRecursion IsHonestStep (steps w)) split honest) in
    subst (λ w. Has g (sent w)) (sym split)
    (subst (λ w. Has g w) (sym (flat_map-append (λ (x : Entry). x.effects.outs) before (e ∷ after))) (Has-front g (sent before) (sent (e ∷ after)) (honest_here before e g parts.1.0 q)))

-- who sent it
sender_entry : (es : List Entry) (g : Datagram) → Has g (sent es) → (e : Entry) × Has e es × Has g e.effects.outs
sender_entry es g h = Has-flat_map (λ (x : Entry). x.effects.outs) g es h

sent_by : (es : List Entry) (e : Entry) (g : Datagram) → Has e es → Has g e.effects.outs → Has g (sent (of_member e.member es))
sent_by es e g h k = flat_map-Has (λ (x : Entry). x.effects.outs) g e (of_member e.member es) (Has-of_member e es h) k

charged_by : (es : List Entry) (e : Entry) (g : Datagram) → is_session g ≡ false → Has e es → Has g e.effects.outs → Has g (flat_map charged (of_member e.member es))
charged_by es e g s h k = flat_map-Has charged g e (of_member e.member es) (Has-of_member e es h) (Has-kept (λ (x : Datagram). not (is_session x)) g e.effects.outs (ap not s) k)

-- whoever is told heard a farewell
told_heard : (source : ℕ) (rows : List FullName) (es : List Entry) → told es source ≡ Some rows → (e : Entry) × Has e es × (farewell_in source (accepted e) ≡ Some rows)
told_heard source rows [] t = absurd (none-some rows t)
told_heard source rows (e ∷ es) t = which (settling_of (accepted e)) refl t (told_heard source rows es)
  where
    which : (o : Option Settling) → settling_of (accepted e) ≡ o → rows_of (cons_option o (settlings es)) source ≡ Some rows
        → (told es source ≡ Some rows → (x : Entry) × Has x es × (farewell_in source (accepted x) ≡ Some rows))
        → (x : Entry) × Has x (e ∷ es) × (farewell_in source (accepted x) ≡ Some rows)
    which None q k more = let (x, h, r) = more k in (x, inr h, r)
    which (Some settling) q k more = here (rows_for source settling) refl k
      where
        here : (o : Option (List FullName)) → rows_for source settling ≡ o → or_else o (told es source) ≡ Some rows
            → (x : Entry) × Has x (e ∷ es) × (farewell_in source (accepted x) ≡ Some rows)
        here None r k = let (x, h, f) = more k in (x, inr h, f)
        here (Some found) r k = (e, inl refl, ap (rows_in source) q ∙ r ∙ k)

-- a member that is told knows how much the source drew
pub told_is_true : (starts : List Start) (es : List Entry) → IsRunOf starts es → IsHonest es → (m source : ℕ) (rows : List FullName) → told (of_member m es) source ≡ Some rows
    → (page : Page) → length (drawn_by es source page) ≤ row_number rows (stream_on source page)
told_is_true starts es run honest m source rows t page =
    let (e, h, f) = told_heard source rows (of_member m es) t in
    from_heard e h (accepted e) refl f
  where
    from_heard : (e : Entry) → Has e (of_member m es) → (o : Option Datagram) → accepted e ≡ o → farewell_in source o ≡ Some rows → length (drawn_by es source page) ≤ row_number rows (stream_on source page)
    from_heard e h None q f = absurd (grind arith)
    from_heard e h (Some g) q f =
        let (at, shown, echoes, is) = farewell_is source g rows f in
        let was_sent : Has (Session source at true shown rows echoes) (sent es) = subst (λ w. Has w (sent es)) is (heard_was_sent es e g honest (Has-filter (λ (x : Entry). x.member == m) e es h) q) in
        let (from, there, out) = sender_entry es (Session source at true shown rows echoes) was_sent in
        let r = run_of_entry starts es from run there in
        let k = sent_by es from (Session source at true shown rows echoes) there out in
        let s = session_sent r.config r.made (of_member from.member es) (Session source at true shown rows echoes) r.run.each refl k in
        let same : from.member ≡ source = sym r.me ∙ sym s.session_message.0 in
        let l = farewell_sent r.config r.made (of_member from.member es) source at shown rows echoes r.run.each k page in
        subst (λ w. length (drawn_by es w page) ≤ row_number rows (stream_on source page)) same (subst (λ w. length (drawn_by es from.member page) ≤ row_number rows (stream_on w page)) (sym s.session_message.0) l)

-- what a member drew in its run it drew as its own
drawn_own : (m : ℕ) (es : List Entry) (d : Drawop) → MemberRun m es → Has d (drawn (of_member m es)) → Has d (drawn (of_member d.name.stream.source es))
drawn_own m es d r h = subst (λ w. Has d (drawn (of_member w es))) (sym ((draws_right r.config r.made (of_member m es) r.run.each).own d h ∙ r.me)) h

abbrev HeldRight : List Entry → List Entry → Type 0
HeldRight es before = (m : ℕ) (d : Drawop) → Has d (held (of_member m before)) → Has d (drawn (of_member d.name.stream.source es))

heard_drawop : (o : Option Datagram) (d : Drawop) → Has d (drawops_in o) → (o ≡ Some (Data d)) ⊎ ((s : ℕ) × (o ≡ Some (Repair s d)))
heard_drawop None d h = absurd h
heard_drawop (Some (Data x)) d (inl e) = inl (ap (λ w. Some (Data w)) (sym e))
heard_drawop (Some (Data x)) d (inr h) = absurd h
heard_drawop (Some (Repair s x)) d (inl e) = inr (s, ap (λ w. Some (Repair s w)) (sym e))
heard_drawop (Some (Repair s x)) d (inr h) = absurd h
heard_drawop (Some (Request s n w)) d h = absurd h
heard_drawop (Some (Session a b f p r x)) d h = absurd h

gained : (starts : List Start) (es before : List Entry) (e : Entry) (rest : List Entry) → IsRunOf starts es → es ≡ before ++ e ∷ rest → IsHonestStep (record { before = before; this = e })
    → HeldRight es before → (d : Drawop) → Has d (held_by e) → Has d (drawn (of_member d.name.stream.source es))
gained starts es before e rest run split honest p d h = elim (Has-append d (option_to_list e.effects.drawn) (drawops_in (accepted e)) h) [
  | inl l ↦ drawn_own e.member es d (run_of_entry starts es e run there) (flat_map-Has (λ (x : Entry). option_to_list x.effects.drawn) d e (of_member e.member es) (Has-of_member e es there) l)
  | inr r ↦ elim (heard_drawop (accepted e) d r) [ inl q ↦ of_data q | inr q ↦ of_repair q.0 q.1 ]
]
  where
    there : Has e es
    there = subst (λ w. Has e w) (sym split) (Has-back e before (e ∷ rest) (inl refl))

    in_all : (x : Entry) → Has x before → Has x es
    in_all x k = subst (λ w. Has x w) (sym split) (Has-front x before (e ∷ rest) k)

    of_data : accepted e ≡ Some (Data d) → Has d (drawn (of_member d.name.stream.source es))
    of_data q =
        let (from, k, out) = sender_entry before (Data d) (honest_here before e (Data d) honest q) in
        let r = run_of_entry starts es from run (in_all from k) in
        drawn_own from.member es d r (data_sent_was_drawn r.config (of_member from.member es) d r.run.bucket (charged_by es from (Data d) refl (in_all from k) out))

    of_repair : (s : ℕ) → accepted e ≡ Some (Repair s d) → Has d (drawn (of_member d.name.stream.source es))
    of_repair s q =
        let (from, k, out) = sender_entry before (Repair s d) (honest_here before e (Repair s d) honest q) in
        let r = run_so_far from.member before (e ∷ rest) (subst (λ w. MemberRun from.member w) split (run_of_entry starts es from run (in_all from k))) in
        p from.member d (repair_sent_was_held r.config (of_member from.member before) s d r.run.bucket (charged_by before from (Repair s d) refl k out))

held_step : (starts : List Start) (es before : List Entry) (e : Entry) (rest : List Entry) → IsRunOf starts es → es ≡ before ++ e ∷ rest → IsHonestStep (record { before = before; this = e })
    → HeldRight es before → HeldRight es (before ++ e ∷ [])
held_step starts es before e rest run split honest p m d h =
    which (e.member == m) (Has-append d (held (of_member m before)) (held (of_member m (e ∷ [])))
    (subst (λ w. Has d w) (ap held (filter-append (λ (x : Entry). x.member == m) before (e ∷ [])) ∙ flat_map-append held_by (of_member m before) (of_member m (e ∷ []))) h))
  where
    which : (b : Bool) → Has d (held (of_member m before)) ⊎ Has d (held (cond b (e ∷ []) [])) → Has d (drawn (of_member d.name.stream.source es))
    which b (inl k) = p m d k
    which true (inr k) = gained starts es before e rest run split honest p d (subst (λ w. Has d w) (append-nil (held_by e)) k)
    which false (inr k) = absurd k

held_along : (starts : List Start) (es before rest : List Entry) → IsRunOf starts es → es ≡ before ++ rest → AllByRecursion IsHonestStep (steps_after before rest) → HeldRight es before → HeldRight es es
held_along starts es before [] run split honest p = subst (λ w. HeldRight es w) (sym (split ∙ append-nil before)) p
held_along starts es before (e ∷ rest) run split honest p =
    held_along starts es (before ++ e ∷ []) rest run (split ∙ sym (append_assoc before (e ∷ []) rest)) honest.1 (held_step starts es before e rest run split honest.0 p)

-- each drawop that a member holds was drawn by its source
pub held_was_drawn : (starts : List Start) (es : List Entry) → IsRunOf starts es → IsHonest es → (m : ℕ) (d : Drawop) → Has d (held (of_member m es)) → Has d (drawn (of_member d.name.stream.source es))
held_was_drawn starts es run honest = held_along starts es [] es run refl honest (λ m d h. absurd h)
