-- What an event does to a world.
use Rattle.std.proofs.Common.{◌≡◌, ◌≢◌, ℕ, zero, suc, ◌+◌, ◌≤◌, ◌<◌, get_or, Bool, true, false, List, [], ◌∷◌, ◌++◌, length, take, refl, ap, sym, ◌∙◌, subst, inl, inr, arith}
use Rattle.std.specs.Prelude.{◌⊎◌, Option, Some, None, option_map, unwrap_or, cond, slice_get, slice_set, map, nat_lt, IfSome, IsSome, Contains, ◌↔◌, IsTrue}
use Rattle.std.specs.List.{AllByRecursion, enumerate_from}
use Rattle.std.proofs.lemmas.Option.{same_Some, slice_get-map, slice_get-get_or, slice_get_within, get_or_from_slice_get}
use Rattle.std.proofs.lemmas.Bool.Decides.{nat_tests}
use Rattle.std.proofs.lemmas.Bool.{cases_eq, lt-ltb, ne_eqb}
use Rattle.std.proofs.lemmas.List.{length-set, append-nil, map-append, take_more}
use Rattle.srm_names.proofs.Lists.{AllByRecursion-append, by_place, from_places, at_place, get_set_same, set_elsewhere}
use Rattle.srm_names.proofs.Snoc.{flat_map-snoc}
use Rattle.srm_codec.specs.declared.datagram.Datagram.{Datagram}
use Rattle.srm_timers.specs.Arms.{AreChosen}
use Rattle.srm_outbox.specs.declared.out.Out.{Out}
use Rattle.srm_entries.specs.declared.entry.Entry.{Entry}
use Rattle.srm_entries.specs.declared.entry.Input.{Input}
use Rattle.srm_entries.specs.declared.entry.Input.TheVariants.{Ticked}
use Rattle.srm_entries.specs.declared.entry.Verdict.{Verdict}
use Rattle.srm_entries.specs.declared.entry.Verdict.TheVariants.{Done, Ignored, Refused}
use Rattle.srm_entries.specs.Entries.{accepted, heard_in, done_input, is_tick, sent, state, is_gone, last_moment}
use Rattle.srm_entries.specs.Configs.{Config}
use Rattle.srm_entries.specs.Timers.{low_of, high_of}
use Rattle.srm_entries.specs.Runs.{EntryRight, IsMemberRun}
use Rattle.srm_outbox.specs.Outs.{IsOut, AreOutsOf}
use Rattle.srm_agent.specs.Noting.{moment_that_counts}
use Rattle.srm_agent.proofs.Fitting.{fits_run}
use Rattle.srm_entries.proofs.Running.{steps_more}
use Rattle.srm_entries.proofs.Silence.{unticked_sends_nothing}
use Rattle.srm_world.specs.declared.event.Event.{Event}
use Rattle.srm_world.specs.declared.event.Event.TheVariants.{Deliver}
use Rattle.srm_world.specs.declared.start.Start.{Start}
use Rattle.srm_world.specs.Traces.{Trace, of_member, IsRoster, IsAtPlace, IsRunOfMember, IsRunOf, IsHonest}
use Rattle.srm_world.specs.Events.{member_of, moment_in, input_of, in_slot, input_heard, required_input, made_at, last_of_member, FollowsOne, Follows}
use Rattle.srm_world.specs.Claims.{IsLawful}
use Rattle.srm_world.specs.WaitWords.{WorldView, AreByOwnWords, PlaysByWords}
use Rattle.srm_world.specs.Participants.{ParticipantContent, ParticipantFits, ParticipantAdds, GoesOn, ParticipantStays, HearsBytes, SendsOuts}
use Rattle.srm_world.specs.Worlds.{words_of, AllFit, AreSent, AreWorld, EntersTrace, EntersAll, Skips, KeepsParticipants, Appends, after_entry}
use Rattle.srm_world.proofs.Members.{of_member-append, of_member-own}
use Rattle.srm_world.proofs.Wording.{plays_nothing, plays_one, sources_stay, plays_still, plays_on}
use Rattle.srm_world.proofs.Going.{newest_right}
use Rattle.srm_world.proofs.Lawful.{lawful}

pub of_member-other : (m : ℕ) (xs : List Entry) (e : Entry) → e.member ≢ m → of_member m (xs ++ e ∷ []) ≡ of_member m xs
of_member-other m xs e q = of_member-append m xs (e ∷ []) ∙ ap (λ b. of_member m xs ++ cond b (e ∷ []) []) (ne_eqb e.member m q) ∙ append-nil (of_member m xs)

-- the settings at a place are those of its member
me_from : (starts : List Start) (from k many : ℕ) (a : Start) → AllByRecursion (IsAtPlace many) (enumerate_from from starts) → slice_get starts k ≡ Some a → a.config.me ≡ from + k
me_from [] from k many a all at = cc
me_from (x ∷ starts) from zero many a all at = ap (λ (s : Start). s.config.me) (sym (same_Some x a at)) ∙ all.0.0 ∙ omega arith
me_from (x ∷ starts) from (suc k) many a all at = me_from starts (from + 1) k many a all.1 at ∙ omega arith

pub me_at : (starts : List Start) (m : ℕ) (a : Start) → IsRoster starts → slice_get starts m ≡ Some a → a.config.me ≡ m
me_at starts m a roster at = me_from starts 0 m (length starts) a roster.places at ∙ omega arith

pub sent-snoc : (es : List Entry) (e : Entry) → sent (es ++ e ∷ []) ≡ sent es ++ e.effects.outs
sent-snoc es e = flat_map-snoc (λ (x : Entry). x.effects.outs) es e

-- one member went on to another content
fit_set : {W : Type 0} (starts : List Start) (ps : List (ParticipantContent W)) (es new : List Entry) (m : ℕ) (a : Start) (p q : ParticipantContent W) → AllFit starts ps es → slice_get starts m ≡ Some a → slice_get ps m ≡ Some p
    → ParticipantFits a.config a.made (of_member m new) q → ((k : ℕ) → k ≢ m → of_member k new ≡ of_member k es) → AllFit starts (slice_set ps m q) new
fit_set starts ps es new m a p q all start at fits others k b x there_a there = which (cases_eq k m)
  where
    which : ((k ≡ m) ⊎ (k ≢ m)) → ParticipantFits b.config b.made (of_member k new) x
    which (inl same) =
        let is : q ≡ x = same_Some q x (sym (get_set_same ps m p q at) ∙ ap (slice_get (slice_set ps m q)) (sym same) ∙ there) in
        let begun : a ≡ b = same_Some a b (sym start ∙ ap (slice_get starts) (sym same) ∙ there_a) in
        subst (λ (j : ℕ). ParticipantFits b.config b.made (of_member j new) x) (sym same) (subst (λ (s : Start). ParticipantFits s.config s.made (of_member m new) x) begun (subst (ParticipantFits a.config a.made (of_member m new)) is fits))
    which (inr differ) = subst (λ (ys : List Entry). ParticipantFits b.config b.made ys x) (sym (others k differ)) (all k b x there_a (sym (set_elsewhere ps m k q differ) ∙ there))

-- a member whose call ran out of memory
pub keeps_at : {W : Type 0} (ps : List (ParticipantContent W)) (sents : List Out) (i : ℕ) (d q : ParticipantContent W) → i < length ps → ParticipantStays (get_or ps i d) q → KeepsParticipants ps (slice_set ps i q) sents sents
keeps_at ps sents i d q lt h = record {
  fits = λ starts es all. stays starts es all;
  words = sources_stay ps i d q h.words;
  count = length-set ps i q;
  sent = refl;
}
  where
    stays : (starts : List Start) (es : List Entry) → AllFit starts ps es → AllFit starts (slice_set ps i q) es
    stays starts es all k b x there_b there = which (cases_eq k i)
      where
        which : ((k ≡ i) ⊎ (k ≢ i)) → ParticipantFits b.config b.made (of_member k es) x
        which (inl same) =
            let is : q ≡ x = same_Some q x (sym (get_set_same ps i (get_or ps i d) q (slice_get-get_or ps i d lt)) ∙ ap (slice_get (slice_set ps i q)) (sym same) ∙ there) in
            subst (ParticipantFits b.config b.made (of_member k es)) is (h.fits b.config b.made (of_member k es) (all k b (get_or ps i d) there_b (ap (slice_get ps) same ∙ slice_get-get_or ps i d lt)))
        which (inr differ) = all k b x there_b (sym (set_elsewhere ps i k q differ) ∙ there)

pub keeps_all : {W : Type 0} (ps : List (ParticipantContent W)) (sents : List Out) → KeepsParticipants ps ps sents sents
keeps_all ps sents = record { fits = λ starts es all. all; words = refl; count = refl; sent = refl }

heard_by : (v : Verdict) (input : Input) (gs : List Datagram) → IfSome (heard_in (Some input)) (Contains gs) → IfSome (heard_in (done_input v input)) (Contains gs)
heard_by Done input gs h = h
heard_by (Ignored cause) input gs h = tt
heard_by (Refused fault) input gs h = tt

-- what a call of the member at a place makes of a world
record Called {W : Type 0} (ps : List (ParticipantContent W)) (t : Trace) (event : Event) (i : ℕ) (q : ParticipantContent W) (e : Entry) : Type 0 where
  pub start : Start
  pub at : slice_get t.starts i ≡ Some start
  pub adds : ParticipantAdds start.config start.made (of_member i t.entries) (moment_in event) q e
  pub right : EntryRight start.config start.made (record { before = of_member i t.entries; this = e })
  pub run : IsMemberRun start.config start.made (of_member i t.entries ++ e ∷ [])
  pub mine : e.member ≡ i

called : {W : Type 0} (next_word : W → ℕ × W) (ps : List (ParticipantContent W)) (sents : List Out) (t : Trace) (event : Event) (i : ℕ) (d q : ParticipantContent W) (input : Input) (e : Entry) → AreWorld ps sents t → i < length ps
    → GoesOn next_word (moment_in event) input (get_or ps i d) q e → Called ps t event i q e
called next_word ps sents t event i d q input e w lt goes =
    let (a, at) = at_place t.starts i (omega (arith, lt, w.count)) in
    let adds = goes.adds a.config a.made (of_member i t.entries) (w.fit i a (get_or ps i d) at (slice_get-get_or ps i d lt)) in
    let right : EntryRight a.config a.made (record { before = of_member i t.entries; this = e }) = newest_right a.config a.made (of_member i t.entries) e adds.fits.agent.run in
    record {
      start = a;
      at = at;
      adds = adds;
      right = right;
      run = fits_run a.config a.made (of_member i t.entries ++ e ∷ []) _ adds.fits.agent;
      mine = right.member ∙ me_at t.starts i a w.lawful.run.roster at;
    }

enters : {W : Type 0} (next_word : W → ℕ × W) (ps : List (ParticipantContent W)) (sents more : List Out) (t : Trace) (event : Event) (i : ℕ) (d q : ParticipantContent W) (input : Input) (e : Entry) → AreWorld ps sents t → i < length ps → i ≡ member_of event
    → GoesOn next_word (moment_in event) input (get_or ps i d) q e → Called ps t event i q e → input_of t.entries event ≡ Some input → IfSome (heard_in (Some input)) (Contains (sent t.entries)) → AreSent t.starts more (t.entries ++ e ∷ [])
    → EntersTrace t.starts t.entries event (slice_set ps i q) more e
enters next_word ps sents more t event i d q input e w lt named goes c asks hears sends = record {
  asks = rw (lt-ltb (member_of event) (length t.starts) (omega (arith, lt, w.count, named))) (asks ∙ ap Some (sym goes.input_is));
  is_entry = record {
    member = c.mine ∙ named;
    input_is = refl;
    moment = c.adds.moment ∙ ap (moment_that_counts (moment_in event)) last;
  };
  inside = omega (arith, lt, w.count, c.mine);
  hears = heard_by e.verdict e.input (sent t.entries) (subst (λ x. IfSome (heard_in (Some x)) (Contains (sent t.entries))) (sym goes.input_is) hears);
  fit = fit_set t.starts ps t.entries (t.entries ++ e ∷ []) i c.start (get_or ps i d) q w.fit c.at (slice_get-get_or ps i d lt)
      (subst (λ (ys : List Entry). ParticipantFits c.start.config c.start.made ys q) (sym (of_member-own i t.entries e c.mine)) c.adds.fits)
      (λ k differ. of_member-other k t.entries e (λ same. differ (sym same ∙ c.mine)));
  sent = sends;
}
  where
    made : made_at t.starts i ≡ c.start.made
    made = ap (λ (o : Option Start). unwrap_or (option_map (λ (a : Start). a.made) o) 0) c.at

    last : last_moment c.start.made (of_member i t.entries) ≡ last_of_member t.starts t.entries (member_of event)
    last = ap (λ n. last_moment n (of_member i t.entries)) (sym made) ∙ ap (λ k. last_of_member t.starts t.entries k) named

sends_nothing : (starts : List Start) (sents : List Out) (es : List Entry) (e : Entry) → AreSent starts sents es → e.effects.outs ≡ [] → AreSent starts sents (es ++ e ∷ [])
sends_nothing starts sents es e s none = record { same = s.same ∙ sym (sent-snoc es e ∙ ap (λ gs. sent es ++ gs) none ∙ append-nil (sent es)); spelled = s.spelled }

sends_these : (starts : List Start) (sents outs : List Out) (es : List Entry) (e : Entry) (m : ℕ) (a : Start) → ((n : ℕ) (b : Start) → slice_get starts n ≡ Some b → a.config.session ≡ b.config.session)
    → AreSent starts sents es → AreOutsOf a.config.session outs e.effects.outs → AreSent starts (sents ++ outs) (es ++ e ∷ [])
sends_these starts sents outs es e m a session s o = record {
  same = map-append (λ (x : Out). x.datagram) sents outs ∙ ap (λ gs. gs ++ map (λ (x : Out). x.datagram) outs) s.same ∙ ap (λ gs. sent es ++ gs) o.same ∙ sym (sent-snoc es e);
  spelled = λ n b at. AllByRecursion-append (IsOut b.config.session) sents outs (s.spelled n b at) (subst (λ k. AllByRecursion (IsOut k) outs) (session n b at) o.spelled);
}

one_session : (t : Trace) (es : List Entry) (m : ℕ) (a : Start) → IsRunOf t.starts es → slice_get t.starts m ≡ Some a → (n : ℕ) (b : Start) → slice_get t.starts n ≡ Some b → a.config.session ≡ b.config.session
one_session t es m a run at n b there =
    by_place (λ (x : Start). a.config.session ≡ x.config.session) t.starts n b (by_place (λ (y : Start). AllByRecursion (λ (x : Start). y.config.session ≡ x.config.session) t.starts) t.starts m a run.roster.session at) there

-- the generator of the member at the place chose its waits
by_words : {W : Type 0} (next_word : W → ℕ × W) (ps : List (ParticipantContent W)) (sents : List Out) (t : Trace) (event : Event) (i : ℕ) (d q : ParticipantContent W) (input : Input) (e : Entry) → AreWorld ps sents t → i < length ps
    → GoesOn next_word (moment_in event) input (get_or ps i d) q e → Called ps t event i q e → AreByOwnWords next_word t.starts (words_of ps) (e ∷ []) (words_of (slice_set ps i q))
by_words next_word ps sents t event i d q input e w lt goes c = plays_one next_word t.starts ps i d q e c.start lt c.at c.mine
    (subst (λ (s : Config). AreChosen next_word (low_of s) (high_of s) (get_or ps i d).agent.words e.effects.arms q.agent.words) (w.fit i c.start (get_or ps i d) c.at (slice_get-get_or ps i d lt)).agent.config goes.words)

-- a call that is no tick and hears nothing
pub enters_at : {W : Type 0} (next_word : W → ℕ × W) (ps : List (ParticipantContent W)) (sents : List Out) (event : Event) (i : ℕ) (d q : ParticipantContent W) (now : Option ℕ) (input : Input) (e : Entry) → i < length ps → i ≡ member_of event → now ≡ moment_in event
    → GoesOn next_word now input (get_or ps i d) q e → ((es : List Entry) → input_of es event ≡ Some input) → heard_in (Some input) ≡ None → is_tick input ≡ false → EntersAll next_word ps (slice_set ps i q) sents sents event e
enters_at next_word ps sents event i d q now input e lt named at goes asks unheard unticked = record {
  enters = λ t w.
      let goes = subst (λ o. GoesOn next_word o input (get_or ps i d) q e) at goes in
      let c = called next_word ps sents t event i d q input e w lt goes in
      enters next_word ps sents sents t event i d q input e w lt named goes c (asks t.entries) (rw unheard tt)
      (sends_nothing t.starts sents t.entries e w.sent (unticked_sends_nothing c.start.config c.start.made (of_member i t.entries) e c.run (ap is_tick goes.input_is ∙ unticked)));
  words = λ t w. let goes = subst (λ o. GoesOn next_word o input (get_or ps i d) q e) at goes in by_words next_word ps sents t event i d q input e w lt goes (called next_word ps sents t event i d q input e w lt goes);
  count = length-set ps i q;
}

pub ticks_at : {W : Type 0} (next_word : W → ℕ × W) (ps : List (ParticipantContent W)) (sents more outs : List Out) (event : Event) (i : ℕ) (d q : ParticipantContent W) (now : Option ℕ) (e : Entry) → i < length ps → i ≡ member_of event → now ≡ moment_in event
    → GoesOn next_word now Ticked (get_or ps i d) q e → SendsOuts (get_or ps i d) e outs → ((es : List Entry) → input_of es event ≡ Some Ticked) → more ≡ sents ++ outs → EntersAll next_word ps (slice_set ps i q) sents more event e
ticks_at next_word ps sents more outs event i d q now e lt named at goes sends asks is = record {
  enters = λ t w.
      let goes = subst (λ o. GoesOn next_word o Ticked (get_or ps i d) q e) at goes in
      let c = called next_word ps sents t event i d q Ticked e w lt goes in
      let fits = w.fit i c.start (get_or ps i d) c.at (slice_get-get_or ps i d lt) in
      enters next_word ps sents more t event i d q Ticked e w lt named goes c (asks t.entries) tt
      (subst (λ os. AreSent t.starts os (t.entries ++ e ∷ [])) (sym is)
      (sends_these t.starts sents outs t.entries e i c.start (one_session t t.entries i c.start w.lawful.run c.at) w.sent (sends.each c.start.config c.start.made (of_member i t.entries) fits)));
  words = λ t w. let goes = subst (λ o. GoesOn next_word o Ticked (get_or ps i d) q e) at goes in by_words next_word ps sents t event i d q Ticked e w lt goes (called next_word ps sents t event i d q Ticked e w lt goes);
  count = length-set ps i q;
}

datagram_at : (starts : List Start) (sents : List Out) (es : List Entry) (index : ℕ) (o : Option Out) → AreSent starts sents es → slice_get sents index ≡ o → slice_get (sent es) index ≡ option_map (λ (x : Out). x.datagram) o
datagram_at starts sents es index o s at = ap (λ gs. slice_get gs index) (sym s.same) ∙ slice_get-map (λ (x : Out). x.datagram) sents index ∙ ap (option_map (λ (x : Out). x.datagram)) at

contained : (gs : List Datagram) (index : ℕ) (g : Datagram) → slice_get gs index ≡ Some g → Contains gs g
contained gs index g at = (index, slice_get_within gs index g at, get_or_from_slice_get gs index g g at)

heard_was_sent : (gone : Bool) (g : Datagram) (gs : List Datagram) → Contains gs g → IfSome (heard_in (Some (input_heard gone g))) (Contains gs)
heard_was_sent true g gs h = tt
heard_was_sent false g gs h = h

no_tick : (gone : Bool) (g : Datagram) → is_tick (input_heard gone g) ≡ false
no_tick true g = refl
no_tick false g = refl

-- a datagram is delivered
pub delivers_at : {W : Type 0} (next_word : W → ℕ × W) (ps : List (ParticipantContent W)) (sents : List Out) (event : Event) (i member now index : ℕ) (o : Out) (d q : ParticipantContent W) (e : Entry) → event ≡ Deliver member now index → i < length ps → i ≡ member_of event
    → slice_get sents index ≡ Some o → GoesOn next_word (Some now) e.input (get_or ps i d) q e → HearsBytes o.bytes (get_or ps i d) e → EntersAll next_word ps (slice_set ps i q) sents sents event e
delivers_at next_word ps sents event i member now index o d q e is lt named at goes reads = record {
  enters = λ t w.
      let goes = subst (λ n. GoesOn next_word n e.input (get_or ps i d) q e) (ap moment_in (sym is)) goes in
      let c = called next_word ps sents t event i d q e.input e w lt goes in
      let fits = w.fit i c.start (get_or ps i d) c.at (slice_get-get_or ps i d lt) in
      let there : slice_get (sent t.entries) index ≡ Some o.datagram = datagram_at t.starts sents t.entries index (Some o) w.sent at in
      let out : IsOut c.start.config.session o = by_place (IsOut c.start.config.session) sents index o (w.sent.spelled i c.start c.at) at in
      let input : e.input ≡ input_heard (is_gone (state (of_member i t.entries))) o.datagram = reads.each c.start.config c.start.made (of_member i t.entries) o.datagram fits out.spelled in
      let me : i ≡ member = named ∙ ap member_of is in
      let asks : input_of t.entries event ≡ Some e.input =
      ap (input_of t.entries) is ∙ ap (option_map (input_heard (is_gone (state (of_member member t.entries))))) there ∙ ap (λ k. Some (input_heard (is_gone (state (of_member k t.entries))) o.datagram)) (sym me) ∙ ap Some (sym input) in
      enters next_word ps sents sents t event i d q e.input e w lt named goes c asks
      (subst (λ x. IfSome (heard_in (Some x)) (Contains (sent t.entries))) (sym input) (heard_was_sent (is_gone (state (of_member i t.entries))) o.datagram (sent t.entries) (contained (sent t.entries) index o.datagram there)))
      (sends_nothing t.starts sents t.entries e w.sent (unticked_sends_nothing c.start.config c.start.made (of_member i t.entries) e c.run (ap is_tick input ∙ no_tick (is_gone (state (of_member i t.entries))) o.datagram)));
  words = λ t w. let goes = subst (λ n. GoesOn next_word n e.input (get_or ps i d) q e) (ap moment_in (sym is)) goes in by_words next_word ps sents t event i d q e.input e w lt goes (called next_word ps sents t event i d q e.input e w lt goes);
  count = length-set ps i q;
}

-- what is skipped

either_way : (b : Bool) (o : Option Input) → o ≡ None → cond b o None ≡ None
either_way true o e = e
either_way false o e = refl

pub skips_unsent : {W : Type 0} (ps : List (ParticipantContent W)) (sents : List Out) (event : Event) (member now index : ℕ) → event ≡ Deliver member now index → slice_get sents index ≡ None → Skips ps ps sents sents event
skips_unsent ps sents event member now index is past = record {
  nothing = λ t w. either_way (nat_lt (member_of event) (length t.starts)) (input_of t.entries event)
      (ap (input_of t.entries) is ∙ ap (option_map (input_heard (is_gone (state (of_member member t.entries))))) (datagram_at t.starts sents t.entries index None w.sent past));
  same = refl;
  sent = refl;
}

pub skips_slot : {W : Type 0} (ps : List (ParticipantContent W)) (sents : List Out) (event : Event) → ((es : List Entry) → input_of es event ≡ None) → Skips ps ps sents sents event
skips_slot ps sents event none = record { nothing = λ t w. either_way (nat_lt (member_of event) (length t.starts)) (input_of t.entries event) (none t.entries); same = refl; sent = refl }

pub skips_member : {W : Type 0} (ps : List (ParticipantContent W)) (sents : List Out) (event : Event) (i : ℕ) → i ≡ member_of event → length ps ≤ i → Skips ps ps sents sents event
skips_member ps sents event i named past = record {
  nothing = λ t w. ap (λ b. cond b (input_of t.entries event) None) (not_below (member_of event) (length t.starts) (omega (arith, w.count, named, past)));
  same = refl;
  sent = refl;
}
  where
    not_below : (a b : ℕ) → b ≤ a → nat_lt a b ≡ false
    not_below a b l = grind (arith, nat_tests)

pub in_slot_is : (slot : ℕ) (input : Input) → slot < 8 → in_slot slot input ≡ Some input
in_slot_is slot input below = rw (lt-ltb slot 8 below) refl

pub in_slot_none : (slot : ℕ) (input : Input) → 8 ≤ slot → in_slot slot input ≡ None
in_slot_none slot input l = ap (λ b. cond b (Some input) None) (past slot l)
  where
    past : (a : ℕ) → 8 ≤ a → nat_lt a 8 ≡ false
    past a l = grind (arith, nat_tests)

-- the world after an event

pub run_more : {W : Type 0} (starts : List Start) (es : List Entry) (ps : List (ParticipantContent W)) → IsRoster starts → length ps ≡ length starts → AllFit starts ps es → AllByRecursion (λ (e : Entry). e.member < length starts) es → IsRunOf starts es
run_more starts es ps roster count fit inside = record {
  roster = roster;
  inside = inside;
  each = from_places (IsRunOfMember es) starts (λ k a at.
      let (p, there) = at_place ps k (omega (arith, count, slice_get_within starts k a at)) in
      subst (λ m. IsMemberRun a.config a.made (of_member m es)) (sym (me_at starts k a roster at)) (fits_run a.config a.made (of_member k es) p.agent (fit k a p at there).agent));
}

-- after an entry
pub world_more : {W : Type 0} (next_word : W → ℕ × W) (old new : List (ParticipantContent W)) (sents more : List Out) (t now : Trace) (event : Event) (e : Entry) → now ≡ after_entry t e → AreWorld old sents t → EntersAll next_word old new sents more event e
    → AreWorld new more now
world_more next_word old new sents more t now event e is w all = subst (AreWorld new more) (sym is) (
    let es : List Entry = t.entries ++ e ∷ [] in
    let h = all.enters t w in
    let run : IsRunOf t.starts es = run_more t.starts es new w.lawful.run.roster (all.count ∙ w.count) h.fit (AllByRecursion-append (λ (x : Entry). x.member < length t.starts) t.entries (e ∷ []) w.lawful.run.inside (h.inside, tt)) in
    let honest : IsHonest es = steps_more (λ s. IfSome (accepted s.this) (Contains (sent s.before))) t.entries e w.lawful.honest h.hears in
    record { count = all.count ∙ w.count; fit = h.fit; sent = h.sent; lawful = lawful (record { starts = t.starts; entries = es }) run honest })

-- after a call that left the trace as it was
pub world_same : {W : Type 0} (old new : List (ParticipantContent W)) (sents more : List Out) (t : Trace) → AreWorld old sents t → KeepsParticipants old new sents more → AreWorld new more t
world_same old new sents more t w keeps = record {
  count = keeps.count ∙ w.count;
  fit = keeps.fits t.starts t.entries w.fit;
  sent = subst (λ os. AreSent t.starts os t.entries) (sym keeps.sent) w.sent;
  lawful = w.lawful;
}

pub skips_keep : {W : Type 0} (old new : List (ParticipantContent W)) (sents more : List Out) (event : Event) → Skips old new sents more event → KeepsParticipants old new sents more
skips_keep old new sents more event skips = record { fits = λ starts es all. subst (λ ps. AllFit starts ps es) (sym skips.same) all; words = ap words_of skips.same; count = ap length skips.same; sent = skips.sent }

pub followed : {W : Type 0} (next_word : W → ℕ × W) (old new : List (ParticipantContent W)) (sents more : List Out) (t : Trace) (event : Event) (e : Entry) → AreWorld old sents t → EntersAll next_word old new sents more event e → FollowsOne t.starts t.entries event (t.entries ++ e ∷ [])
followed next_word old new sents more t event e w all = let h = all.enters t w in rw h.asks (e, h.is_entry, refl)

pub was_asked : {W : Type 0} (next_word : W → ℕ × W) (old new : List (ParticipantContent W)) (sents more : List Out) (t : Trace) (event : Event) (e : Entry) → AreWorld old sents t → EntersAll next_word old new sents more event e → IsSome (required_input t.starts t.entries event)
was_asked next_word old new sents more t event e w all = let h = all.enters t w in rw h.asks refl

pub was_skipped : {W : Type 0} (old new : List (ParticipantContent W)) (sents more : List Out) (t : Trace) (event : Event) → AreWorld old sents t → Skips old new sents more event → FollowsOne t.starts t.entries event t.entries
was_skipped old new sents more t event w skips = rw (skips.nothing t w) refl

-- a run of events goes on by one
pub follows_more : (starts : List Start) (old between new : List Entry) (events : List Event) (event : Event) → Follows starts old events between → FollowsOne starts between event new → Follows starts old (events ++ event ∷ []) new
follows_more starts old between new [] event h one = (new, subst (λ es. FollowsOne starts es event new) h one, refl)
follows_more starts old between new (x ∷ events) event h one = (h.0, h.1, follows_more starts h.0 between new events event h.2 one)

-- the same world, with what is kept in other places
pub world_is : {W : Type 0} (ps items : List (ParticipantContent W)) (sents more : List Out) (t now : Trace) → items ≡ ps → more ≡ sents → now ≡ t → AreWorld ps sents t → AreWorld items more now
world_is ps items sents more t now items_are more_is now_is w = subst (λ xs. AreWorld xs more now) (sym items_are) (subst (λ os. AreWorld ps os now) (sym more_is) (subst (AreWorld ps sents) (sym now_is) w))

-- what was appended to the trace of a world

pub appended_world : {W : Type 0} (next_word : W → ℕ × W) (old new items : List (ParticipantContent W)) (sents more : List Out) (t now : Trace) (event : Event) (applied : Bool) → items ≡ new → AreWorld old sents t → Appends next_word old new sents more event t now applied → AreWorld items more now
appended_world next_word old new items sents more t now event true same w (e, all, is) = subst (λ ps. AreWorld ps more now) (sym same) (world_more next_word old new sents more t now event e is w all)
appended_world next_word old new items sents more t now event false same w (skips, is) =
    world_is new items more more t now same refl is (world_same old new sents more t w (skips_keep old new sents more event skips))

pub appended_follows : {W : Type 0} (next_word : W → ℕ × W) (old new : List (ParticipantContent W)) (sents more : List Out) (t now : Trace) (event : Event) (applied : Bool) → AreWorld old sents t → Appends next_word old new sents more event t now applied → FollowsOne t.starts t.entries event now.entries
appended_follows next_word old new sents more t now event true w (e, all, is) = subst (λ (x : Trace). FollowsOne t.starts t.entries event x.entries) (sym is) (followed next_word old new sents more t event e w all)
appended_follows next_word old new sents more t now event false w (skips, is) = subst (λ (x : Trace). FollowsOne t.starts t.entries event x.entries) (sym is) (was_skipped old new sents more t event w skips)

pub appended_asked : {W : Type 0} (next_word : W → ℕ × W) (old new : List (ParticipantContent W)) (sents more : List Out) (t now : Trace) (event : Event) (applied : Bool) → AreWorld old sents t → Appends next_word old new sents more event t now applied
    → IsTrue applied ↔ IsSome (required_input t.starts t.entries event)
appended_asked next_word old new sents more t now event true w (e, all, is) = ((λ h. was_asked next_word old new sents more t event e w all), (λ h. refl))
appended_asked next_word old new sents more t now event false w (skips, is) = ((λ h. absurd (cc)), (λ h. absurd (no_input (required_input t.starts t.entries event) (skips.nothing t w) h)))
  where
    no_input : (o : Option Input) → o ≡ None → IsSome o → ⊥
    no_input None e h = absurd (cc)
    no_input (Some x) e h = absurd (cc)

pub appended_starts : {W : Type 0} (next_word : W → ℕ × W) (old new : List (ParticipantContent W)) (sents more : List Out) (t now : Trace) (event : Event) (applied : Bool) → Appends next_word old new sents more event t now applied → now.starts ≡ t.starts
appended_starts next_word old new sents more t now event true (e, all, is) = ap (λ (x : Trace). x.starts) is
appended_starts next_word old new sents more t now event false (skips, is) = ap (λ (x : Trace). x.starts) is

-- the generators after it
pub appended_words : {W : Type 0} (next_word : W → ℕ × W) (first old new items : List (ParticipantContent W)) (sents more : List Out) (t now : Trace) (event : Event) (applied : Bool) → old ≡ first → items ≡ new → AreWorld old sents t → Appends next_word old new sents more event t now applied
    → PlaysByWords next_word (record { trace = t; words = words_of first }) (record { trace = now; words = words_of items })
appended_words next_word first old new items sents more t now event applied first_is same w h =
    subst (λ ps. PlaysByWords next_word (record { trace = t; words = words_of ps }) (record { trace = now; words = words_of items })) first_is
    (subst (λ ps. PlaysByWords next_word (record { trace = t; words = words_of old }) (record { trace = now; words = words_of ps })) (sym same) (plays applied h))
  where
    plays : (applied : Bool) → Appends next_word old new sents more event t now applied → PlaysByWords next_word (record { trace = t; words = words_of old }) (record { trace = now; words = words_of new })
    plays true (e, all, is) = record { added = e ∷ []; grown = ap (λ (x : Trace). x.entries) is; words = all.words t w }
    plays false (skips, is) = record { added = []; grown = ap (λ (x : Trace). x.entries) is ∙ sym (append-nil t.entries); words = plays_nothing next_word t.starts (words_of old) (words_of new) (ap words_of skips.same) }

-- how far a run of events has come
pub record RunsTo {W : Type 0} (next_word : W → ℕ × W) (old : WorldView W) (events : List Event) (i : ℕ) (now : WorldView W) : Type 0 where
  pub follows : Follows old.trace.starts old.trace.entries (take i events) now.trace.entries
  pub starts : now.trace.starts ≡ old.trace.starts
  pub words : PlaysByWords next_word old now
  pub lawful : IsLawful now.trace

pub runs_from : {W : Type 0} (next_word : W → ℕ × W) (old : WorldView W) (events : List Event) → IsLawful old.trace → RunsTo next_word old events 0 old
runs_from next_word old events law = record { follows = refl; starts = refl; words = plays_still next_word old; lawful = law }

-- one event of a run
pub record Happens {W : Type 0} (next_word : W → ℕ × W) (event : Event) (old new : WorldView W) : Type 0 where
  pub follows : FollowsOne old.trace.starts old.trace.entries event new.trace.entries
  pub starts : new.trace.starts ≡ old.trace.starts
  pub words : PlaysByWords next_word old new
  pub lawful : IsLawful new.trace

pub stepped : {W : Type 0} (next_word : W → ℕ × W) (event : Event) (old new : WorldView W) → FollowsOne old.trace.starts old.trace.entries event new.trace.entries → new.trace.starts ≡ old.trace.starts → PlaysByWords next_word old new → IsLawful new.trace → Happens next_word event old new
stepped next_word event old new follows starts words law = record { follows = follows; starts = starts; words = words; lawful = law }

pub runs_on : {W : Type 0} (next_word : W → ℕ × W) (old between now : WorldView W) (events : List Event) (i : ℕ) (event : Event) → RunsTo next_word old events i between → i < length events → event ≡ get_or events i event → Happens next_word event between now → RunsTo next_word old events (i + 1) now
runs_on next_word old between now events i event h l at s = record {
  follows = subst (λ es. Follows old.trace.starts old.trace.entries es now.trace.entries) (sym (take_more events i event l))
      (follows_more old.trace.starts old.trace.entries between.trace.entries now.trace.entries (take i events) (get_or events i event) h.follows
      (subst (λ (x : Event). FollowsOne old.trace.starts between.trace.entries x now.trace.entries) at (subst (λ ss. FollowsOne ss between.trace.entries event now.trace.entries) h.starts s.follows)));
  starts = s.starts ∙ h.starts;
  words = plays_on next_word old between now h.words h.starts s.words;
  lawful = s.lawful;
}
