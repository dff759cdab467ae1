-- What lines that were read of a run's record tell: which calls, what was taken, and that nothing else was sent.
use Rattle.std.proofs.Common.{◌≡◌, ℕ, zero, suc, ◌+◌, Bool, true, false, List, [], ◌∷◌, ◌++◌, length, refl, ap, sym, ◌∙◌, subst, inl, inr, arith, append_assoc, append-nil, length-append}
use Rattle.std.specs.Prelude.{◌||◌, ◌&&◌, ◌⊎◌, Option, Some, None, slice_get, if◌then◌else◌}
use Rattle.std.specs.List.{AllByRecursion, cons_option, flat_map, enumerate_from}
use Rattle.std.proofs.lemmas.Grind.{flat_map-append}
use Rattle.std.proofs.lemmas.List.{append_cancel_left}
use Rattle.std.proofs.lemmas.List.Elements.{filter_map-append}
use Rattle.std.proofs.lemmas.Option.{none-some, same_Some}
use Rattle.srm_names.specs.declared.limits.TheConstants.{PAGES}
use Rattle.srm_names.specs.declared.page_msg.PageMsg.{PageMsg}
use Rattle.srm_names.specs.Histories.{IsPrefix}
use Rattle.srm_names.proofs.Lists.{AllByRecursion-append, AllByRecursion-parts, front_itself, front_of_front}
use Rattle.srm_entries.specs.declared.entry.Entry.{Entry}
use Rattle.srm_entries.specs.declared.entry.Input.{Input}
use Rattle.srm_entries.specs.declared.entry.Input.TheVariants.{Drew, Heard, Noise, Ticked, Showed, AskedLeave, Gave, Took}
use Rattle.srm_entries.specs.Entries.{sent}
use Rattle.srm_entries.specs.Giving.{given}
use Rattle.srm_world.specs.Traces.{Journal}
use Rattle.srm_replays.specs.Calls.{acts, acts_by, is_done}
use Rattle.srm_replays.specs.Law.{RestsUnseen}
use Rattle.srm_frames.specs.declared.beginning.Beginning.{Beginning}
use Rattle.srm_frames.specs.declared.line.Line.{Line}
use Rattle.srm_frames.specs.Lines.{is_end}
use Rattle.srm_frames.specs.WhatIsRead.{has_end}
use Rattle.srm_record.specs.Calls.{call_of, at_moment, line_of, lines_of}
use Rattle.srm_record.specs.Takes.{slot_lines, listed_lines, takes_at, end_at}
use Rattle.srm_record.specs.Records.{lines_so_far, last_of_record, lines_with_takes, whole_lines}
use Rattle.srm_audited.specs.Written.{IsRecorded}
use Rattle.srm_audited.proofs.Fronts.{fronts, first_calls, AreFronts, as_long, front_at, emptied, empty_fronts, all_fronts, nothing_taken, first_takes}

unlike : (b : Bool) → b ≡ true → b ≡ false → ⊥
unlike b t f = absurd cc

-- ---- no line of a call or a take is the end

ends_append : (xs ys : List Line) → has_end (xs ++ ys) ≡ (has_end xs || has_end ys)
ends_append [] ys = refl
ends_append (x ∷ xs) ys = ap (λ b. is_end x || b) (ends_append xs ys) ∙ shifted (is_end x)
  where
    shifted : (b : Bool) → (b || (has_end xs || has_end ys)) ≡ ((b || has_end xs) || has_end ys)
    shifted true = refl
    shifted false = refl

nends_so : (xs ys : List Line) → has_end xs ≡ false → has_end ys ≡ false → has_end (xs ++ ys) ≡ false
nends_so xs ys one other = ends_append xs ys ∙ ap (λ b. b || has_end ys) one ∙ other

call_goes_on : (session moment : ℕ) (i : Input) (ls : List Line) → has_end ls ≡ false → has_end (cons_option (at_moment moment (call_of session i)) ls) ≡ false
call_goes_on session moment (Drew page body) ls more = more
call_goes_on session moment (Heard g) ls more = more
call_goes_on session moment Noise ls more = more
call_goes_on session moment Ticked ls more = more
call_goes_on session moment (Showed page) ls more = more
call_goes_on session moment AskedLeave ls more = more
call_goes_on session moment (Gave slot) ls more = more
call_goes_on session moment (Took slot) ls more = more

calls_go_on : (session : ℕ) (es : List Entry) → has_end (lines_of session es) ≡ false
calls_go_on session [] = refl
calls_go_on session (e ∷ es) = go (acts e) (calls_go_on session es)
  where
    go : (b : Bool) → has_end (lines_of session es) ≡ false → has_end (cons_option (if b then at_moment e.moment (call_of session e.input) else None) (lines_of session es)) ≡ false
    go true more = call_goes_on session e.moment e.input (lines_of session es) more
    go false more = more

slot_goes_on : (last slot : ℕ) (ms : List PageMsg) → has_end (slot_lines last slot ms) ≡ false
slot_goes_on last slot [] = refl
slot_goes_on last slot (m ∷ ms) = slot_goes_on last slot ms

takes_go_on : (last from : ℕ) (lists : List (List PageMsg)) → has_end (flat_map (listed_lines last) (enumerate_from from lists)) ≡ false
takes_go_on last from [] = refl
takes_go_on last from (ms ∷ lists) = nends_so (slot_lines last from ms) (flat_map (listed_lines last) (enumerate_from (from + 1) lists)) (slot_goes_on last from ms) (takes_go_on last (from + 1) lists)

pub unended : (b : Beginning) (es : List Entry) (lists : List (List PageMsg)) → has_end (lines_with_takes b es lists) ≡ false
unended b es lists = nends_so (lines_so_far b es) (takes_at (last_of_record b es) lists) (calls_go_on b.config.session es) (takes_go_on (last_of_record b es) 0 lists)

pub ends_so : (xs : List Line) (x : Line) → is_end x ≡ true → has_end (xs ++ x ∷ []) ≡ true
ends_so xs x e = ends_append xs (x ∷ []) ∙ go (has_end xs) (is_end x) e
  where
    go : (a b : Bool) → b ≡ true → (a || (b || false)) ≡ true
    go a true e = any a
      where
        any : (a : Bool) → (a || true) ≡ true
        any true = refl
        any false = refl
    go a false e = absurd cc

-- ---- what was sent

nothing_between : (xs ys zs : List Line) → (xs ++ ys) ++ zs ≡ xs → ys ≡ []
nothing_between xs [] zs e = refl
nothing_between xs (y ∷ ys) zs e =
    let long : length xs + length (y ∷ ys) + length zs ≡ length xs = ap (λ n. n + length zs) (sym (length-append xs (y ∷ ys))) ∙ sym (length-append (xs ++ y ∷ ys) zs) ∙ ap length e in
    absurd (omega (arith, long))

-- a call without a line doesn't act
no_line_rests : (session : ℕ) (e : Entry) → line_of session e ≡ None → acts e ≡ false
no_line_rests session e none = go (is_done e.verdict) e.input (acts_by e.input e.effects) refl none
  where
    go : (a : Bool) (i : Input) (b : Bool) → acts_by i e.effects ≡ b → (if (a && b) then at_moment e.moment (call_of session i) else None) ≡ None → (a && b) ≡ false
    go false i b q h = refl
    go true i false q h = refl
    go true (Drew page body) true q h = absurd cc
    go true (Heard g) true q h = absurd cc
    go true Noise true q h = absurd cc
    go true Ticked true q h = absurd cc
    go true (Showed page) true q h = absurd cc
    go true AskedLeave true q h = absurd cc
    go true (Gave slot) true q h = absurd cc
    go true (Took slot) true q h = absurd cc

-- a call that sends nothing
abbrev pub IsSilent : Entry → Type 0
IsSilent e = e.effects.outs ≡ []

nothing_sent : (es : List Entry) → AllByRecursion IsSilent es → sent es ≡ []
nothing_sent [] all = refl
nothing_sent (e ∷ es) all = ap (λ gs. gs ++ sent es) all.0 ∙ nothing_sent es all.1

-- calls that have no lines
no_lines : (session : ℕ) (es : List Entry) → lines_of session es ≡ [] → AllByRecursion RestsUnseen es → AllByRecursion IsSilent es
no_lines session [] none unseen = tt
no_lines session (e ∷ es) none unseen = go (line_of session e) refl none (λ h. no_lines session es h unseen.1)
  where
    go : (o : Option Line) → line_of session e ≡ o → cons_option o (lines_of session es) ≡ [] → (lines_of session es ≡ [] → AllByRecursion IsSilent es) → IsSilent e × AllByRecursion IsSilent es
    go None is none more = ((unseen.0 (no_line_rests session e is)).sent, more none)
    go (Some l) is none more = absurd cc

sent_by_first : (session : ℕ) (es calls head tail : List Entry) → IsPrefix calls es → head ++ tail ≡ es → AllByRecursion IsSilent tail → AllByRecursion RestsUnseen es → IsPrefix (lines_of session head) (lines_of session calls)
    → sent es ≡ sent calls
sent_by_first session es calls head tail (more, front) parts silent unseen begins =
    ap sent (sym front) ∙ flat_map-append (λ (e : Entry). e.effects.outs) calls more ∙ ap (λ gs. sent calls ++ gs) (nothing_sent more quiet) ∙ append-nil (sent calls)
  where
    quiet : AllByRecursion IsSilent more
    quiet = elim (fronts calls more head tail (front ∙ sym parts)) [
      | inl h ↦ (AllByRecursion-parts IsSilent h.more more (subst (AllByRecursion IsSilent) (sym h.rest) silent)).1
      | inr s ↦
          (let between : lines_of session s.more ≡ [] =
          nothing_between (lines_of session calls) (lines_of session s.more) begins.0
          (ap (λ w. w ++ begins.0) (sym (ap (lines_of session) s.front ∙ filter_map-append (line_of session) calls s.more)) ∙ begins.1) in
          let first : AllByRecursion RestsUnseen (calls ++ (s.more ++ tail)) =
          subst (AllByRecursion RestsUnseen) (sym parts ∙ ap (λ w. w ++ tail) s.front ∙ append_assoc calls s.more tail) unseen in
          let rests : AllByRecursion RestsUnseen s.more = (AllByRecursion-parts RestsUnseen s.more tail (AllByRecursion-parts RestsUnseen calls (s.more ++ tail) first).1).0 in
          let same : more ≡ s.more ++ tail = append_cancel_left calls more (s.more ++ tail) (front ∙ sym parts ∙ ap (λ w. w ++ tail) s.front ∙ append_assoc calls s.more tail) in
          subst (AllByRecursion IsSilent) (sym same) (AllByRecursion-append IsSilent s.more tail (no_lines session s.more between rests) silent))
    ]

-- ---- a front of the lines

-- if the lines have all of these calls, but for the last ones, which send nothing, then nothing was sent but by these calls
abbrev pub TellWhatWasSent : Beginning → Journal → List Line → List Entry → Type 0
TellWhatWasSent b j ls calls = (head tail : List Entry) → head ++ tail ≡ j.entries → AllByRecursion IsSilent tail → AllByRecursion RestsUnseen j.entries → IsPrefix (lines_so_far b head) ls → sent j.entries ≡ sent calls

-- what the lines that were read tell, whose last isn't the end
pub record IsTold (b : Beginning) (j : Journal) (lists : List (List PageMsg)) (ls : List Line) : Type 0 where
  pub calls : List Entry
  pub took : List (List PageMsg)
  pub front : IsPrefix calls j.entries
  pub lines : ls ≡ lines_with_takes b calls took
  pub slots : length took ≡ PAGES
  pub taken : (slot : ℕ) (list : List PageMsg) → slice_get took slot ≡ Some list → IsPrefix list (given calls slot)
  pub fronts : (slot : ℕ) (list all : List PageMsg) → slice_get took slot ≡ Some list → slice_get lists slot ≡ Some all → IsPrefix list all
  pub all_sent : TellWhatWasSent b j ls calls

emptied_at : (lists : List (List PageMsg)) (k : ℕ) (list : List PageMsg) → slice_get (emptied lists) k ≡ Some list → [] ≡ list
emptied_at [] k list e = absurd (none-some list e)
emptied_at (ms ∷ lists) zero list e = same_Some [] list e
emptied_at (ms ∷ lists) (suc k) list e = emptied_at lists k list e

-- some of the calls
some_calls : (b : Beginning) (j : Journal) (lists : List (List PageMsg)) (ls more : List Line) → IsRecorded b j lists → lines_so_far b j.entries ≡ ls ++ more → IsTold b j lists ls
some_calls b j lists ls more is e =
    let h = first_calls b.config.session j.entries ls more e in
    record {
      calls = h.calls;
      took = emptied lists;
      front = h.front;
      lines = sym h.lines ∙ sym (append-nil (lines_so_far b h.calls)) ∙ ap (λ w. lines_so_far b h.calls ++ w) (sym (nothing_taken (last_of_record b h.calls) lists));
      slots = as_long (emptied lists) lists (empty_fronts lists) ∙ is.slots;
      taken = λ slot list at. subst (λ ms. IsPrefix ms (given h.calls slot)) (emptied_at lists slot list at) (given h.calls slot, refl);
      fronts = λ slot list all at there. subst (λ ms. IsPrefix ms all) (emptied_at lists slot list at) (all, refl);
      all_sent = λ head tail parts silent unseen begins. sent_by_first b.config.session j.entries h.calls head tail h.front parts silent unseen (subst (IsPrefix (lines_so_far b head)) (sym h.lines) begins);
    }

-- all of them, and some of what was taken
some_takes : (b : Beginning) (j : Journal) (lists took : List (List PageMsg)) (ls : List Line) → IsRecorded b j lists → AreFronts took lists → ls ≡ lines_with_takes b j.entries took → IsTold b j lists ls
some_takes b j lists took ls is are lines = record {
  calls = j.entries;
  took = took;
  front = front_itself j.entries;
  lines = lines;
  slots = as_long took lists are ∙ is.slots;
  taken = λ slot list at. let h = front_at took lists slot list are at in front_of_front list h.all (given j.entries slot) h.front (is.taken slot h.all h.at);
  fronts = λ slot list all at there. let h = front_at took lists slot list are at in subst (IsPrefix list) (same_Some h.all all (sym h.at ∙ there)) h.front;
  all_sent = λ head tail parts silent unseen begins. refl;
}

-- one line, put together of two lists
one_line : (xs ys : List Line) (l : Line) → xs ++ ys ≡ l ∷ [] → (xs ≡ []) ⊎ ((xs ≡ l ∷ []) × (ys ≡ []))
one_line [] ys l e = inl refl
one_line (x ∷ []) ys l e = inr (ap (λ w. w ∷ []) (let same : x ≡ l = cc in same), cc)
one_line (x ∷ y ∷ xs) ys l e = absurd cc

pub told_in : (b : Beginning) (j : Journal) (lists : List (List PageMsg)) (ls left : List Line) → IsRecorded b j lists → has_end ls ≡ false → ls ++ left ≡ whole_lines b j.entries lists → IsTold b j lists ls
told_in b j lists ls left is open_ e =
    let so_far = lines_so_far b j.entries in
    let takes = takes_at (last_of_record b j.entries) lists in
    let end = end_at (last_of_record b j.entries) in
    elim (fronts ls left so_far (takes ++ end ∷ []) (e ∙ append_assoc so_far takes (end ∷ []))) [
      | inr s ↦ some_calls b j lists ls s.more is s.front
      | inl h ↦ elim (fronts h.more left takes (end ∷ []) h.rest) [
        | inr s ↦
            (let k = first_takes (last_of_record b j.entries) lists h.more s.more (sym s.front) in
            some_takes b j lists k.took ls is k.fronts (h.front ∙ ap (λ w. so_far ++ w) (sym k.lines)))
        | inl k ↦ elim (one_line k.more left end k.rest) [
          | inl none ↦ some_takes b j lists lists ls is (all_fronts lists) (h.front ∙ ap (λ w. so_far ++ w) (k.front ∙ ap (λ w. takes ++ w) none ∙ append-nil takes))
          | inr (last, none) ↦ absurd (over (h.front ∙ ap (λ w. so_far ++ w) (k.front ∙ ap (λ w. takes ++ w) last)))
        ]
      ]
    ]
  where
    over : ls ≡ lines_so_far b j.entries ++ (takes_at (last_of_record b j.entries) lists ++ end_at (last_of_record b j.entries) ∷ []) → ⊥
    over same =
        let ended : has_end ls ≡ true =
        ap has_end (same ∙ sym (append_assoc (lines_so_far b j.entries) (takes_at (last_of_record b j.entries) lists) (end_at (last_of_record b j.entries) ∷ [])))
        ∙ ends_so (lines_with_takes b j.entries lists) (end_at (last_of_record b j.entries)) refl in
        unlike (has_end ls) ended open_

-- where the last line is the end, there is no other
pub ended_in : (b : Beginning) (j : Journal) (lists : List (List PageMsg)) (ls left : List Line) → has_end ls ≡ true → ls ++ left ≡ whole_lines b j.entries lists → left ≡ []
ended_in b j lists ls left ended e =
    let all = lines_with_takes b j.entries lists in
    let end = end_at (last_of_record b j.entries) in
    elim (fronts ls left all (end ∷ []) e) [
      | inl h ↦ elim (one_line h.more left end h.rest) [
        | inl none ↦ absurd (unlike (has_end ls) ended (ap has_end (h.front ∙ ap (λ w. all ++ w) none ∙ append-nil all) ∙ unended b j.entries lists))
        | inr (last, none) ↦ none
      ]
      | inr s ↦ absurd (unlike (has_end all) (ap has_end s.front ∙ ends_append ls s.more ∙ ap (λ b. b || has_end s.more) ended) (unended b j.entries lists))
    ]
