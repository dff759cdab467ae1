-- Members at rest on a page know of the same, and have released the same.
use Rattle.std.proofs.Common.{◌≡◌, ℕ, zero, suc, ◌==◌, ◌+◌, ◌≤◌, ◌<◌, true, false, List, [], ◌∷◌, ◌++◌, map, refl, ap, sym, ◌∙◌, subst, arith, inl}
use Rattle.std.specs.Prelude.{Option, Some, option_to_list}
use Rattle.std.specs.List.{AllByRecursion}
use Rattle.std.proofs.lemmas.Bool.Decides.{nat_tests}
use Rattle.srm_names.specs.declared.page.Page.{Page}
use Rattle.srm_names.specs.declared.stream.Stream.{Stream}
use Rattle.srm_names.specs.declared.drawop.Drawop.{Drawop}
use Rattle.srm_names.specs.FullName.{FullName}
use Rattle.srm_names.specs.Histories.{steps, count_up, until_none}
use Rattle.srm_names.specs.Names.{named, stream_on}
use Rattle.srm_names.proofs.Lists.{Has, Has-back, Has-map, Has-flat_map, Has-filter, Has-passes, Has-contained}
use Rattle.srm_names.proofs.Snoc.{steps_front}
use Rattle.srm_codec.specs.declared.datagram.Datagram.{Datagram}
use Rattle.srm_codec.specs.declared.datagram.Datagram.TheVariants.{Data, Request, Repair, Session}
use Rattle.srm_entries.specs.declared.entry.Entry.{Entry}
use Rattle.srm_entries.specs.Entries.{accepted, drawn, held_at, is_held, is_missing, known, released}
use Rattle.srm_entries.specs.Runs.{EntryRight}
use Rattle.srm_entries.proofs.Responding.{run_at}
use Rattle.srm_entries.proofs.Drawing.{drawn_once}
use Rattle.srm_entries.proofs.SessionMessages.{Says, message_sent, known_after_tick, hearer_knows}
use Rattle.srm_world.specs.declared.start.Start.{Start}
use Rattle.srm_world.specs.Traces.{of_member, IsRunOf, IsHonest}
use Rattle.srm_world.specs.Claims.{IsSessionMessageOn, HeardLast, AtRest, RestLaw}
use Rattle.srm_world.proofs.Members.{MemberRun, of_member-append, of_member-own, run_of_entry}
use Rattle.srm_world.proofs.Honesty.{held_was_drawn}
use Rattle.srm_world.proofs.Holding.{held_under, held_known, held_to_known}

-- who heard the last session message of another knows at least as much on the page

of_member-split : (k : ℕ) (es before after : List Entry) (e : Entry) → es ≡ before ++ e ∷ after → e.member ≡ k → of_member k es ≡ of_member k before ++ e ∷ of_member k after
of_member-split k es before after e q m =
    ap (of_member k) q ∙ of_member-append k before (e ∷ after)
    ∙ ap (λ xs. of_member k before ++ xs) (of_member-append k (e ∷ []) after ∙ ap (λ xs. xs ++ of_member k after) (of_member-own k [] e m))

heard_later : (m : ℕ) (es before after : List Entry) (e h : Entry) → es ≡ before ++ e ∷ after → Has h (of_member m after) → Has h (of_member m es)
heard_later m es before after e h q has =
    subst (λ xs. Has h xs) (sym (ap (of_member m) q ∙ of_member-append m before (e ∷ after) ∙ ap (λ xs. of_member m before ++ xs) (of_member-append m (e ∷ []) after)))
    (Has-back h (of_member m before) (of_member m (e ∷ []) ++ of_member m after) (Has-back h (of_member m (e ∷ [])) (of_member m after) has))

said : (starts : List Start) (es : List Entry) (m k source : ℕ) (page : Page) (before after : List Entry) (e : Entry) (g : Datagram) → MemberRun k es → es ≡ before ++ e ∷ after → e.member ≡ k
    → Has g e.effects.outs → IsSessionMessageOn k page g → Has (Some g) (map accepted (of_member m after))
    → known (of_member k (before ++ e ∷ [])) (stream_on source page) ≤ known (of_member m es) (stream_on source page)
said starts es m k source page before after e (Data d) r q of out is came = absurd is
said starts es m k source page before after e (Request sender name mask) r q of out is came = absurd is
said starts es m k source page before after e (Repair sender d) r q of out is came = absurd is
said starts es m k source page before after e (Session sender sent farewell shown rows echoes) r q of out is came =
    let same : Session sender sent farewell shown rows echoes ≡ Session sender sent false page rows echoes =
    ap (λ f. Session sender sent f shown rows echoes) is.1 ∙ ap (λ p. Session sender sent false p rows echoes) is.2 in
    let split : of_member k es ≡ of_member k before ++ e ∷ of_member k after = of_member-split k es before after e q of in
    let right : EntryRight r.config r.made (record { before = of_member k before; this = e }) =
    (run_at r.config r.made (of_member k es) (of_member k before) (of_member k after) e r.run.each split).0 in
    let all : AllByRecursion (EntryRight r.config r.made) (steps (of_member k before)) =
    steps_front (EntryRight r.config r.made) [] (of_member k before) (e ∷ of_member k after) (subst (λ xs. AllByRecursion (EntryRight r.config r.made) (steps xs)) split r.run.each) in
    let says : Says r.config (of_member k before) e page rows =
    message_sent r.config r.made (of_member k before) e sender sent page rows echoes right (subst (λ x. Has x e.effects.outs) same out) in
    let (h, has, hears) = Has-map accepted (Some (Session sender sent farewell shown rows echoes)) (of_member m after) came in
    subst (λ n. n ≤ known (of_member m es) (stream_on source page))
    (sym (ap (λ xs. known xs (stream_on source page)) (of_member-own k before e of) ∙ known_after_tick r.config r.made (of_member k before) e (stream_on source page) right says.at_tick))
    (hearer_knows r.config r.made (of_member k before) e source sender sent page rows echoes (of_member m es) h r.inside all says
    (heard_later m es before after e h q has) (sym hears ∙ ap Some same))

knows_as_much : (starts : List Start) (es : List Entry) (m k : ℕ) (page : Page) → IsRunOf starts es → HeardLast es m k page → (source : ℕ)
    → known (of_member k es) (stream_on source page) ≤ known (of_member m es) (stream_on source page)
knows_as_much starts es m k page run h source =
    let here : Has h.sending es = subst (λ xs. Has h.sending xs) (sym h.split) (Has-back h.sending h.before (h.sending ∷ h.after) (inl refl)) in
    let r : MemberRun k es = subst (λ w. MemberRun w es) h.of_k (run_of_entry starts es h.sending run here) in
    subst (λ n. n ≤ known (of_member m es) (stream_on source page)) (h.same source)
    (said starts es m k source page h.before h.after h.sending h.session_message r h.split h.of_k
    (Has-contained h.session_message h.sending.effects.outs h.sent) h.is_session_message (Has-contained (Some h.session_message) (map accepted (of_member m h.after)) h.came))

-- what two members hold under one name is the same

-- a member that drew something has a run
run_of_drawer : (starts : List Start) (es : List Entry) (source : ℕ) (d : Drawop) → IsRunOf starts es → Has d (drawn (of_member source es)) → MemberRun source es
run_of_drawer starts es source d run h =
    let (e, k, o) = Has-flat_map (λ (x : Entry). option_to_list x.effects.drawn) d (of_member source es) h in
    subst (λ w. MemberRun w es) (same e.member source (Has-passes (λ (x : Entry). x.member == source) e es k).1)
    (run_of_entry starts es e run (Has-filter (λ (x : Entry). x.member == source) e es k))
  where
    same : (a b : ℕ) → (a == b) ≡ true → a ≡ b
    same a b e = grind (arith, nat_tests)

held_alike : (starts : List Start) (es : List Entry) (m k : ℕ) (n : FullName) → IsRunOf starts es → IsHonest es
    → is_held (of_member m es) n ≡ true → is_held (of_member k es) n ≡ true → held_at (of_member m es) n ≡ held_at (of_member k es) n
held_alike starts es m k n run honest hm hk =
    let (d, one) = held_under (of_member m es) n hm in
    let (x, two) = held_under (of_member k es) n hk in
    let drew : Has d (drawn (of_member n.stream.source es)) = subst (λ (f : FullName). Has d (drawn (of_member f.stream.source es))) one.name (held_was_drawn starts es run honest m d one.has) in
    let drew_too : Has x (drawn (of_member n.stream.source es)) = subst (λ (f : FullName). Has x (drawn (of_member f.stream.source es))) two.name (held_was_drawn starts es run honest k x two.has) in
    let r = run_of_drawer starts es n.stream.source d run drew in
    one.at ∙ ap Some (drawn_once r.config r.made (of_member n.stream.source es) d x r.run.each drew drew_too (one.name ∙ sym two.name)) ∙ sym two.at

-- the law

map_alike : (f g : ℕ → Option Drawop) (from n : ℕ) → ((j : ℕ) → from ≤ j → j < from + n → f j ≡ g j) → map f (count_up from n) ≡ map g (count_up from n)
map_alike f g from zero e = refl
map_alike f g from (suc n) e =
    ap (λ o. o ∷ map f (count_up (from + 1) n)) (e from (omega arith) (omega arith))
    ∙ ap (λ os. g from ∷ os) (map_alike f g (from + 1) n (λ j l u. e j (omega arith) (omega arith)))

known_alike : (starts : List Start) (es : List Entry) (m k : ℕ) (page : Page) → IsRunOf starts es → AtRest es m k page → (source : ℕ) → known (of_member m es) (stream_on source page) ≡ known (of_member k es) (stream_on source page)
known_alike starts es m k page run rest source =
    meet (known (of_member m es) (stream_on source page)) (known (of_member k es) (stream_on source page)) (knows_as_much starts es k m page run rest.other source) (knows_as_much starts es m k page run rest.one source)
  where
    meet : (a b : ℕ) → a ≤ b → b ≤ a → a ≡ b
    meet a b p q = omega arith

released_alike : (starts : List Start) (es : List Entry) (m k : ℕ) (page : Page) → IsRunOf starts es → IsHonest es → AtRest es m k page → (source : ℕ)
    → released (of_member m es) (stream_on source page) ≡ released (of_member k es) (stream_on source page)
released_alike starts es m k page run honest rest source =
    ap (λ n. until_none (map (one_at m) (count_up 1 n))) (held_to_known (of_member m es) s one_none ∙ same)
    ∙ ap until_none (map_alike (one_at m) (one_at k) 1 (known (of_member k es) s) (λ j l u. alike j l (within j (known (of_member k es) s) u)))
    ∙ ap (λ n. until_none (map (one_at k) (count_up 1 n))) (sym (held_to_known (of_member k es) s other_none))
  where
    s : Stream
    s = stream_on source page

    one_at : ℕ → ℕ → Option Drawop
    one_at member j = held_at (of_member member es) (named s j)

    within : (j n : ℕ) → j < 1 + n → j ≤ n
    within j n l = omega arith

    same : known (of_member m es) s ≡ known (of_member k es) s
    same = known_alike starts es m k page run rest source

    one_none : (n : FullName) → n.stream ≡ s → is_missing (of_member m es) n ≡ false
    one_none n q = rest.one_complete n (ap (λ (t : Stream). t.page) q)

    other_none : (n : FullName) → n.stream ≡ s → is_missing (of_member k es) n ≡ false
    other_none n q = rest.other_complete n (ap (λ (t : Stream). t.page) q)

    alike : (j : ℕ) → 1 ≤ j → j ≤ known (of_member k es) s → one_at m j ≡ one_at k j
    alike j l u = held_alike starts es m k (named s j) run honest
        (held_known (of_member m es) s j (one_none (named s j) refl) l (subst (λ n. j ≤ n) (sym same) u))
        (held_known (of_member k es) s j (other_none (named s j) refl) l u)

pub rest_law : RestLaw
rest_law t run honest m k page rest = record {
  knowledge = known_alike t.starts t.entries m k page run rest;
  releases = released_alike t.starts t.entries m k page run honest rest;
}
