-- Two calls at one moment, of one input, after runs that are abreast: if the one acts, the other's entry is the same.
use Rattle.std.proofs.Common.{◌≡◌, ℕ, ◌+◌, Bool, true, false, ◌&&◌, List, [], ◌∷◌, ◌++◌, map, length, refl, ap, sym, ◌∙◌, subst}
use Rattle.std.specs.Prelude.{Option, Some, None, cond, count_by, nat_le, option_map, option_to_list, slice_get}
use Rattle.std.specs.List.{filter_map, list_any}
use Rattle.std.proofs.lemmas.List.Sums.{sum_by-append}
use Rattle.srm_names.specs.declared.page.Page.{Page}
use Rattle.srm_names.specs.declared.echo.Echo.{Echo}
use Rattle.srm_names.specs.declared.stream.Stream.{Stream}
use Rattle.srm_names.specs.declared.page_msg.PageMsg.{PageMsg}
use Rattle.srm_names.specs.FullName.{FullName}
use Rattle.srm_names.specs.Histories.{firsts}
use Rattle.srm_names.specs.Names.{first_page, same_page}
use Rattle.srm_names.proofs.Snoc.{flat_map-snoc}
use Rattle.srm_codec.specs.declared.datagram.Datagram.{Datagram}
use Rattle.srm_codec.specs.declared.datagram.Datagram.TheVariants.{Data, Request, Repair, Session}
use Rattle.srm_codec.specs.Spelling.{is_data, is_farewell}
use Rattle.srm_distance.specs.Echoes as echoes
use Rattle.srm_timers.specs.Arms.{AreChosen}
use Rattle.srm_entries.specs.Configs.{Config}
use Rattle.srm_entries.specs.declared.entry.Entry.{Entry}
use Rattle.srm_entries.specs.declared.entry.Input.{Input}
use Rattle.srm_entries.specs.declared.entry.Input.TheVariants.{Drew, Heard, Noise, Ticked, Showed, AskedLeave, Gave, Took}
use Rattle.srm_entries.specs.declared.entry.Verdict.{Verdict}
use Rattle.srm_entries.specs.declared.entry.Verdict.TheVariants.{Done, Ignored, Refused}
use Rattle.srm_store.specs.Held as store
use Rattle.srm_entries.specs.Entries.{done, state, shown, sent, drawn, slots}
use Rattle.srm_entries.specs.Timers.{low_of, high_of}
use Rattle.srm_entries.specs.Sessions.{charged, all_data_sent, session_message_due, EndsWith, IsSessionMessage, expected_row}
use Rattle.srm_entries.specs.Giving.{given, MessageRight}
use Rattle.srm_entries.specs.Packing.{packed}
use Rattle.srm_entries.specs.Bucket.{Going, entries_of, datagrams_of, data_item, due_item}
use Rattle.srm_entries.specs.Runs.{expected_state}
use Rattle.srm_entries.proofs.Marking.{hands}
use Rattle.srm_entries.proofs.Showing.{drawn-snoc}
use Rattle.srm_agent.proofs.Unsent.{kept_data}
use Rattle.srm_replays.specs.Calls.{is_done, acts_by, acts}
use Rattle.srm_replays.specs.Law.{is_noise}
use Rattle.srm_replays.proofs.Ordered.{same_rows}
use Rattle.srm_replays.proofs.Waits.{SameArms, same_arms}
use Rattle.srm_replays.proofs.Alike.{Alike}
use Rattle.srm_replays.proofs.Reading.{AreTwins, same_verdict, same_done, same_drawn, same_asks, same_fixes, same_plans_here}
use Rattle.srm_replays.proofs.Giving.{answer, is_answer}
use Rattle.srm_replays.proofs.Resting.{GoesOn}
use Rattle.srm_replays.proofs.Abreast.{Abreast, SameGoes, same_goes_here}

-- what a give brings

answer_reads : (c : Config) (us vs : List Entry) → Alike c us vs → (g : List PageMsg) (page : Option Page) → answer c us g page ≡ answer c vs g page
answer_reads c us vs a g None = rw a.states refl
answer_reads c us vs a g (Some page) = rw (a.states, a.holds, a.settles) refl

answer_same : (c : Config) (us vs : List Entry) → Alike c us vs → (j : ℕ) → answer c us (given us j) (slice_get (slots us) j) ≡ answer c vs (given vs j) (slice_get (slots vs) j)
answer_same c us vs a j =
    ap (λ g. answer c us g (slice_get (slots us) j)) (a.gives j)
    ∙ ap (λ ps. answer c us (given vs j) (slice_get (firsts same_page (first_page ∷ ps)) j)) a.pages
    ∙ answer_reads c us vs a (given vs j) (slice_get (slots vs) j)

never_took : (v : Verdict) → (is_done v && false) ≡ true → ⊥
never_took Done e = cc
never_took (Ignored cause) e = cc
never_took (Refused fault) e = cc

-- the session message

module _ (c : Config) (us vs : List Entry) (a : Alike c us vs) (now : ℕ) where
  rows_read : (b d : Bool) (s : Stream) → b ≡ d → expected_row c us b s ≡ expected_row c vs d s
  rows_read b d s e = rw (e, a.showing, a.evidence) refl

  session_same : (b : Bool) (sender sent : ℕ) (farewell : Bool) (page : Page) (rows : List FullName) (owed : List Echo) (h : Datagram)
      → IsSessionMessage c us now b (Session sender sent farewell page rows owed) → IsSessionMessage c vs now b h → Session sender sent farewell page rows owed ≡ h
  session_same b sender sent farewell page rows owed (Data d) m k = absurd k
  session_same b sender sent farewell page rows owed (Request who name mask) m k = absurd k
  session_same b sender sent farewell page rows owed (Repair who d) m k = absurd k
  session_same b sender sent farewell page rows owed (Session sender' sent' farewell' page' rows' owed') m k =
      let p : sender ≡ sender' = m.0 ∙ sym k.0 in
      let q : sent ≡ sent' = m.1 ∙ sym k.1 in
      let f : farewell ≡ farewell' = m.2 ∙ sym k.2 in
      let w : page ≡ page' = m.3 ∙ a.showing ∙ sym k.3 in
      let o : owed ≡ owed' = m.4 ∙ ap (λ cs. echoes.echoes_owed cs c.me now) a.distances ∙ sym k.4 in
      let r : rows ≡ rows' = same_rows rows rows' m.5.in_order k.5.in_order (λ s. m.5.exact s ∙ rows_read farewell farewell' s f ∙ sym (k.5.exact s)) in
      cc

  message_same : (b : Bool) (g h : Datagram) → IsSessionMessage c us now b g → IsSessionMessage c vs now b h → g ≡ h
  message_same b (Data d) h m k = absurd m
  message_same b (Request who name mask) h m k = absurd m
  message_same b (Repair who d) h m k = absurd m
  message_same b (Session sender sent farewell page rows owed) h m k = session_same b sender sent farewell page rows owed h m k

ends_same : (c : Config) (us vs : List Entry) → Alike c us vs → (e f : Entry) → e.moment ≡ f.moment → charged e ≡ charged f → (o : Option Bool) → EndsWith c us e o → EndsWith c vs f o → e.effects.outs ≡ f.effects.outs
ends_same c us vs a e f moment same None h k = h ∙ same ∙ sym k
ends_same c us vs a e f moment same (Some b) (g, is, m) (h, also, k) =
    is ∙ ap (λ w. w ++ g ∷ []) same ∙ ap (λ x. charged f ++ x ∷ []) (message_same c us vs a e.moment b g h m (subst (λ n. IsSessionMessage c vs n b h) (sym moment) k)) ∙ sym also

data_in : (us : List Entry) (e : Entry) → count_by is_data (sent (us ++ e ∷ [])) ≡ count_by is_data (sent us) + count_by is_data (charged e)
data_in us e =
    ap (count_by is_data) (flat_map-snoc (λ (x : Entry). x.effects.outs) us e) ∙ sum_by-append (λ g. cond (is_data g) 1 0) (sent us) e.effects.outs
    ∙ ap (λ n. count_by is_data (sent us) + n) (sym (kept_data e.effects.outs))

module _ {W : Type 0} (next_word : W → ℕ × W) (c : Config) (made : ℕ) (me : nat_le c.members c.me ≡ false) (us vs : List Going) (x y : Going) (a : Abreast c made us vs) (on : GoesOn c made us x) (also : GoesOn c made vs y)
    (moment : x.entry.moment ≡ y.entry.moment) (input : x.entry.input ≡ y.entry.input) (awake : is_noise x.entry.input ≡ false) (acting : acts x.entry ≡ true) where
  twins : AreTwins c made (entries_of us) (entries_of vs) x.entry y.entry
  twins = record { alike = a.alike; right = on.right; other = also.right; moment = moment; input = input; awake = awake }

  drawn_here : x.entry.effects.drawn ≡ y.entry.effects.drawn
  drawn_here = same_drawn c made (entries_of us) (entries_of vs) x.entry y.entry twins

  asks_here : x.entry.effects.asks ≡ y.entry.effects.asks
  asks_here = same_asks c made (entries_of us) (entries_of vs) x.entry y.entry twins

  fixes_here : x.entry.effects.fixes ≡ y.entry.effects.fixes
  fixes_here = same_fixes c made (entries_of us) (entries_of vs) x.entry y.entry twins

  done_here : done x.entry ≡ done y.entry
  done_here = same_done c made (entries_of us) (entries_of vs) x.entry y.entry twins

  hands_here : hands c.me us x ≡ hands c.me vs y
  hands_here = rw (drawn_here, asks_here, fixes_here, a.alike.showing)
      (ap (λ hs. data_item y.entry.effects.drawn ++ map (due_item (shown (entries_of vs))) (packed c.me y.entry.effects.asks ++ filter_map (λ n. option_map (Repair c.me) (store.held_at hs n)) y.entry.effects.fixes)) a.alike.holds)

  pub goes_here : SameGoes c us vs x y
  goes_here = same_goes_here c made us vs x y a on also moment input hands_here

  charged_here : charged x.entry ≡ charged y.entry
  charged_here = sym on.goes.same ∙ ap datagrams_of goes_here.goes ∙ also.goes.same

  sent_here : all_data_sent (entries_of us ++ x.entry ∷ []) ≡ all_data_sent (entries_of vs ++ y.entry ∷ [])
  sent_here =
      ap (λ ds. nat_le (length ds) (count_by is_data (sent (entries_of us ++ x.entry ∷ []))))
      (drawn-snoc (entries_of us) x.entry ∙ ap (λ ds. ds ++ option_to_list x.entry.effects.drawn) a.alike.draws ∙ ap (λ o. drawn (entries_of vs) ++ option_to_list o) drawn_here ∙ sym (drawn-snoc (entries_of vs) y.entry))
      ∙ ap (nat_le (length (drawn (entries_of vs ++ y.entry ∷ []))))
      (data_in (entries_of us) x.entry ∙ ap (λ gs. count_by is_data gs + count_by is_data (charged x.entry)) a.alike.sends ∙ ap (λ gs. count_by is_data (sent (entries_of vs)) + count_by is_data gs) charged_here
      ∙ sym (data_in (entries_of vs) y.entry))

  ending_here : session_message_due c made (entries_of us) x.entry ≡ session_message_due c made (entries_of vs) y.entry
  ending_here = rw (sent_here, a.alike.states, a.alike.sessions, input, moment) refl

  outs_here : x.entry.effects.outs ≡ y.entry.effects.outs
  outs_here = ends_same c (entries_of us) (entries_of vs) a.alike x.entry y.entry moment charged_here (session_message_due c made (entries_of vs) y.entry)
      (subst (EndsWith c (entries_of us) x.entry) ending_here on.right.session) also.right.session

  messages_read : (i : Input) (m n : Option PageMsg) → i ≡ x.entry.input → MessageRight c (entries_of us) i m → MessageRight c (entries_of vs) i n → m ≡ n
  messages_read (Gave j) m n e k l =
      is_answer c made (entries_of us) a.each me (given (entries_of us) j) (slice_get (slots (entries_of us)) j) m k
      ∙ answer_same c (entries_of us) (entries_of vs) a.alike j
      ∙ sym (is_answer c made (entries_of vs) a.other_each me (given (entries_of vs) j) (slice_get (slots (entries_of vs)) j) n l)
  messages_read (Took j) m n e k l = absurd (never_took x.entry.verdict (subst (λ i. (is_done x.entry.verdict && acts_by i x.entry.effects) ≡ true) (sym e) acting))
  messages_read (Drew page body) m n e k l = k ∙ sym l
  messages_read (Heard g) m n e k l = k ∙ sym l
  messages_read Noise m n e k l = k ∙ sym l
  messages_read Ticked m n e k l = k ∙ sym l
  messages_read (Showed page) m n e k l = k ∙ sym l
  messages_read AskedLeave m n e k l = k ∙ sym l

  message_here : x.entry.effects.message ≡ y.entry.effects.message
  message_here = messages_read x.entry.input x.entry.effects.message y.entry.effects.message refl on.right.message
      (subst (λ i. MessageRight c (entries_of vs) i y.entry.effects.message) (sym input) also.right.message)

  state_here : x.entry.effects.state ≡ y.entry.effects.state
  state_here =
      on.right.state ∙ ap (λ s. expected_state s (list_any is_farewell x.entry.effects.outs) (done x.entry)) a.alike.states
      ∙ ap (λ gs. expected_state (state (entries_of vs)) (list_any is_farewell gs) (done x.entry)) outs_here
      ∙ ap (expected_state (state (entries_of vs)) (list_any is_farewell y.entry.effects.outs)) done_here ∙ sym also.right.state

  pub arms_here : (from to other : W) → AreChosen next_word (low_of c) (high_of c) from x.entry.effects.arms to → AreChosen next_word (low_of c) (high_of c) from y.entry.effects.arms other
      → SameArms x.entry.effects.arms y.entry.effects.arms to other
  arms_here from to other h k = same_arms next_word c from to other x.entry.effects.arms y.entry.effects.arms (same_plans_here c made (entries_of us) (entries_of vs) x.entry y.entry twins) h k

  pub same_going : x.entry.effects.arms ≡ y.entry.effects.arms → x ≡ y
  same_going arms =
      let verdict : x.entry.verdict ≡ y.entry.verdict = same_verdict c made (entries_of us) (entries_of vs) x.entry y.entry twins in
      let member : x.entry.member ≡ y.entry.member = on.right.member ∙ sym also.right.member in
      λ i. record {
        entry = record {
          member = member i;
          moment = moment i;
          input = input i;
          verdict = verdict i;
          effects = record { drawn = drawn_here i; arms = arms i; asks = asks_here i; fixes = fixes_here i; outs = outs_here i; message = message_here i; state = state_here i };
        };
        goes = goes_here.goes i;
      }
