-- What a session message says that was sent, and a farewell: its sender draws nothing after it.
use Rattle.std.proofs.Common.{◌≡◌, ℕ, zero, suc, ◌≤◌, Bool, true, false, not, ◌&&◌, ◌||◌, List, [], ◌∷◌, ◌++◌, length, refl, ap, sym, ◌∙◌, subst, inl, inr, arith, eq-eqb, append_assoc}
use Rattle.std.specs.Prelude.{Option, Some, None, unwrap_or, if◌then◌else◌, option_to_list, filter, nat_le}
use Rattle.std.specs.List.{list_any, AllByRecursion}
use Rattle.std.proofs.lemmas.Option.{none-some}
use Rattle.std.proofs.lemmas.Bool.{lt-ltb, both_ways, not-true}
use Rattle.std.proofs.lemmas.List.{append-nil}
use Rattle.srm_names.specs.declared.page.Page.{Page}
use Rattle.srm_names.specs.declared.stream.Stream.{Stream}
use Rattle.srm_names.specs.declared.drawop.Drawop.{Drawop}
use Rattle.srm_names.specs.declared.echo.Echo.{Echo}
use Rattle.srm_names.specs.FullName.{FullName}
use Rattle.srm_names.specs.Histories.{steps, steps_after}
use Rattle.srm_names.specs.Names.{same_page, stream_on}
use Rattle.srm_names.proofs.Lists.{Has, Has-append, Has-flat_map, Has-split, Has-passes, at_parts, list_any-Has}
use Rattle.srm_names.proofs.Snoc.{along}
use Rattle.srm_codec.specs.declared.datagram.Datagram.{Datagram}
use Rattle.srm_codec.specs.declared.datagram.Datagram.TheVariants.{Session}
use Rattle.srm_entries.specs.Configs.{Config}
use Rattle.srm_entries.specs.declared.entry.Entry.{Entry}
use Rattle.srm_entries.specs.declared.state.AgentState.TheVariants.{Gone}
use Rattle.srm_entries.specs.declared.entry.Input.{Input}
use Rattle.srm_entries.specs.declared.entry.Input.TheVariants.{Drew, Heard, Noise, Ticked, Showed, AskedLeave, Gave, Took}
use Rattle.srm_entries.specs.Entries.{done, ticked, is_tick, state, is_gone, is_leaving, sent, drawn, drawn_on, known}
use Rattle.srm_store.specs.Finals.{row_number, number_in_rows}
use Rattle.srm_codec.specs.Spelling.{is_session, is_farewell}
use Rattle.srm_entries.specs.Sessions.{charged, all_data_sent, session_due, session_message_due, EndsWith, IsSessionMessage, if_positive}
use Rattle.srm_entries.specs.Runs.{EntryRight, expected_state}
use Rattle.srm_entries.proofs.Showing.{IsDrawing, kind, drawing_not_gone, leaving_not_gone, state-snoc, drawn-snoc, done_is}
use Rattle.srm_entries.proofs.Drawing.{draws_right}

-- a session message that went was the one that ends its entry
pub ends : (c : Config) (before : List Entry) (e : Entry) (g : Datagram) (o : Option Bool) → EndsWith c before e o → Has g e.effects.outs → is_session g ≡ true → (f : Bool) × (o ≡ Some f) × IsSessionMessage c before e.moment f g
ends c before e g None q h s = let k = Has-passes (λ (x : Datagram). not (is_session x)) g e.effects.outs (subst (λ w. Has g w) q h) in absurd (both_ways (is_session g) (not-true (is_session g) k.1) s)
ends c before e g (Some f) (last, q, r) h s = elim (Has-append g (charged e) (last ∷ []) (subst (λ w. Has g w) q h)) [
  | inl l ↦ (let k = Has-passes (λ (x : Datagram). not (is_session x)) g e.effects.outs l in absurd (both_ways (is_session g) (not-true (is_session g) k.1) s))
  | inr k ↦ elim k [ inl w ↦ (f, refl, subst (λ x. IsSessionMessage c before e.moment f x) (sym w) r) | inr w ↦ absurd w ]
]

-- the entry in which a session message went
pub record Sending (c : Config) (made : ℕ) (es : List Entry) (g : Datagram) : Type 0 where
  pub before : List Entry
  pub this : Entry
  pub after : List Entry
  pub split : es ≡ before ++ this ∷ after
  pub earlier : AllByRecursion (EntryRight c made) (steps before)
  pub right : EntryRight c made (record { before = before; this = this })
  pub later : AllByRecursion (EntryRight c made) (steps_after (before ++ this ∷ []) after)
  pub out : Has g this.effects.outs
  pub farewell : Bool
  pub due : session_message_due c made before this ≡ Some farewell
  pub session_message : IsSessionMessage c before this.moment farewell g

pub session_sent : (c : Config) (made : ℕ) (es : List Entry) (g : Datagram) → AllByRecursion (EntryRight c made) (steps es) → is_session g ≡ true → Has g (sent es) → Sending c made es g
session_sent c made es g all s h =
    let (e, k, m) = Has-flat_map (λ (x : Entry). x.effects.outs) g es h in
    let (before, after, q) = Has-split e es k in
    let parts = at_parts (EntryRight c made) before (e ∷ after) (subst (λ w. AllByRecursion (EntryRight c made) (steps w)) q all) in
    let (f, due, session_message) = ends c before e g (session_message_due c made before e) parts.1.0.session m s in
    record { before = before; this = e; after = after; split = q; earlier = parts.0; right = parts.1.0; later = parts.1.1; out = m; farewell = f; due = due; session_message = session_message }

ticks_if : (b gone : Bool) (x : Option Bool) (f : Bool) → (if not b || gone then None else x) ≡ Some f → b ≡ true
ticks_if true gone x f e = refl
ticks_if false gone x f e = absurd (none-some f e)

pub ending_ticks : (c : Config) (made : ℕ) (before : List Entry) (e : Entry) (f : Bool) → session_message_due c made before e ≡ Some f → ticked e ≡ true
ending_ticks c made before e f q = ticks_if (ticked e) (is_gone (state before))
    (if is_leaving (state before) && all_data_sent (before ++ e ∷ []) then Some true else if nat_le (session_due c made before) e.moment then Some false else None) f q

not_drawing : (c : Config) (made : ℕ) (before : List Entry) (e : Entry) → EntryRight c made (record { before = before; this = e }) → (IsDrawing c before e → ⊥) → e.effects.drawn ≡ None
not_drawing c made before e right never = elim (kind c made before e right) [ inl drew ↦ absurd (never drew) | inr k ↦ elim k [ inl h ↦ h.2 | inr quiet ↦ quiet.1 ] ]

pub tick_draws_nothing : (c : Config) (made : ℕ) (before : List Entry) (e : Entry) → EntryRight c made (record { before = before; this = e }) → ticked e ≡ true → e.effects.drawn ≡ None
tick_draws_nothing c made before e right t = not_drawing c made before e right (λ drew. both_ways (ticked e) (ap is_tick (done_is e.verdict e.input (Drew drew.0 drew.1) drew.2).1) t)

stays_gone : (b : Bool) (o : Option Input) → (o ≡ Some AskedLeave → ⊥) → expected_state Gone b o ≡ Gone
stays_gone true o never = refl
stays_gone false None never = refl
stays_gone false (Some (Drew page body)) never = refl
stays_gone false (Some (Heard g)) never = refl
stays_gone false (Some Noise) never = refl
stays_gone false (Some Ticked) never = refl
stays_gone false (Some (Showed page)) never = refl
stays_gone false (Some AskedLeave) never = absurd (never refl)
stays_gone false (Some (Gave j)) never = refl
stays_gone false (Some (Took j)) never = refl

-- a member that is gone draws nothing any more
gone_draws_nothing : (c : Config) (made : ℕ) (xs ys : List Entry) → state xs ≡ Gone → AllByRecursion (EntryRight c made) (steps_after xs ys) → drawn (xs ++ ys) ≡ drawn xs
gone_draws_nothing c made xs ys gone all =
    (along (EntryRight c made) (λ zs. (state zs ≡ Gone) × (drawn zs ≡ drawn xs)) step xs ys (gone, refl) all).1
  where
    step : (zs : List Entry) (e : Entry) → (state zs ≡ Gone) × (drawn zs ≡ drawn xs) → EntryRight c made (record { before = zs; this = e }) → (state (zs ++ e ∷ []) ≡ Gone) × (drawn (zs ++ e ∷ []) ≡ drawn xs)
    step zs e (g, same) right =
        let none : e.effects.drawn ≡ None = not_drawing c made zs e right (λ drew. both_ways (is_gone (state zs)) (drawing_not_gone c made zs e drew.0 drew.1 right drew.2) (ap is_gone g)) in (
          state-snoc zs e ∙ right.state ∙ ap (λ s. expected_state s (list_any is_farewell e.effects.outs) (done e)) g
              ∙ stays_gone (list_any is_farewell e.effects.outs) (done e) (λ d. both_ways (is_gone (state zs)) (leaving_not_gone c made zs e right d) (ap is_gone g)),
          drawn-snoc zs e ∙ ap (λ o. drawn zs ++ option_to_list o) none ∙ append-nil (drawn zs) ∙ same,
        )

positive_row : (n : ℕ) (rows : List FullName) (s : Stream) → number_in_rows rows s ≡ if_positive n → row_number rows s ≡ n
positive_row zero rows s e = ap (λ o. unwrap_or o 0) e
positive_row (suc n) rows s e = ap (λ o. unwrap_or o 0) e ∙ ap (λ b. unwrap_or (if b then Some (suc n) else None) 0) (lt-ltb 0 (suc n) (omega arith))

-- a farewell says how much its sender drew, and ever will have drawn
pub farewell_sent : (c : Config) (made : ℕ) (es : List Entry) (sender at : ℕ) (shown : Page) (rows : List FullName) (echoes : List Echo) → AllByRecursion (EntryRight c made) (steps es)
    → Has (Session sender at true shown rows echoes) (sent es) → (page : Page) → length (drawn_on page es) ≤ row_number rows (stream_on c.me page)
farewell_sent c made es sender at shown rows echoes all h page =
    let s = session_sent c made es (Session sender at true shown rows echoes) all refl h in
    let gone : state (s.before ++ s.this ∷ []) ≡ Gone = state-snoc s.before s.this ∙ s.right.state
    ∙ ap (λ b. expected_state (state s.before) b (done s.this)) (list_any-Has is_farewell (Session sender at true shown rows echoes) s.this.effects.outs s.out refl) in
    let none : s.this.effects.drawn ≡ None = tick_draws_nothing c made s.before s.this s.right (ending_ticks c made s.before s.this s.farewell s.due) in
    let same : drawn es ≡ drawn s.before =
    ap drawn (s.split ∙ sym (append_assoc s.before (s.this ∷ []) s.after)) ∙ gone_draws_nothing c made (s.before ++ s.this ∷ []) s.after gone s.later
    ∙ drawn-snoc s.before s.this ∙ ap (λ o. drawn s.before ++ option_to_list o) none ∙ append-nil (drawn s.before) in
    let row : row_number rows (stream_on c.me page) ≡ known s.before (stream_on c.me page) = positive_row (known s.before (stream_on c.me page)) rows (stream_on c.me page)
    (s.session_message.5.exact (stream_on c.me page) ∙ ap (λ b. if b then if_positive (known s.before (stream_on c.me page)) else None) (eq-eqb c.me c.me refl)) in
    let l : length (drawn_on page s.before) ≤ known s.before (stream_on c.me page) = (draws_right c made s.before s.earlier).shown page in
    let m : length (drawn_on page es) ≡ length (drawn_on page s.before) = ap (λ w. length (filter (λ (d : Drawop). same_page page d.name.stream.page) w)) same in
    omega arith
