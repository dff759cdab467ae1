-- The entry of a give.
use Rattle.std.proofs.Common.{◌≡◌, ℕ, zero, suc, ◌==◌, Bool, true, false, List, [], ◌∷◌, ◌++◌, refl, ap, sym, ◌∙◌, subst, inl, inr}
use Rattle.std.specs.Prelude.{Option, Some, None, Ok, slice_get, slice_set, if◌then◌else◌}
use Rattle.std.specs.List.{cons_option}
use Rattle.std.proofs.lemmas.Bool.{cases_eq, eq-eqb, ne_eqb}
use Rattle.std.proofs.lemmas.List.{append-nil}
use Rattle.std.proofs.lemmas.Option.{none-some, same_Some}
use Rattle.srm_names.specs.declared.page_msg.PageMsg.{PageMsg}
use Rattle.srm_names.specs.PageFeeds.{continues}
use Rattle.srm_names.proofs.Feeds.{last_continues}
use Rattle.srm_names.proofs.Lists.{set_elsewhere}
use Rattle.srm_entries.specs.declared.entry.Entry.{Entry}
use Rattle.srm_entries.specs.declared.entry.Input.TheVariants.{Gave}
use Rattle.srm_entries.specs.declared.entry.Verdict.TheVariants.{Done}
use Rattle.srm_entries.specs.Configs.{Config}
use Rattle.srm_entries.specs.Entries.{slots}
use Rattle.srm_entries.specs.Giving.{given, given_in, GiveRight}
use Rattle.srm_agent_state.specs.Progress.{ProgressContent, ProgressFits}
use Rattle.srm_agent_state.proofs.Midway.{if_none}
use Rattle.srm_agent.specs.Contents.{AgentContent}
use Rattle.srm_agent.specs.Fits.{AgentFits, EachProgressFits}
use Rattle.srm_entries.specs.Still.{entry_without_effects}
use Rattle.srm_agent.specs.Noting.{Enters, HasEntry, gave_by}
use Rattle.srm_entries.proofs.Feeding.{feeds_right, fed_gives, given-snoc}
use Rattle.srm_entries.proofs.Running.{slots-same}
use Rattle.srm_agent.proofs.Still.{MayFollow, still_fits, same_progress}
use Rattle.srm_agent.proofs.Entering.{of_member, stays_at}

-- what may be given continues the page feed of its slot
pub give_continues : {W : Type 0} (c : Config) (made : ℕ) (past : List Entry) (a : AgentContent W) (j : ℕ) (m : PageMsg) → AgentFits c made past a → GiveRight c past j (Some m) → continues (given past j) m ≡ true
give_continues c made past a j m h right =
    let fed = feeds_right c made past h.run in
    last_continues (given past j) m (fed_gives c past (slice_get (slots past) j) (given past j) m fed.tells right (fed.feeds j)).fed

may_give : {W : Type 0} (c : Config) (made : ℕ) (past : List Entry) (a : AgentContent W) (j : ℕ) (m : Option PageMsg) → AgentFits c made past a → GiveRight c past j m → MayFollow c made past a.last (Gave j) Done m a.state
may_give c made past a j m h right = record { unheard = refl; undrawn = refl; idle = refl; moment_right = h.last; verdict_right = refl; message_right = right; state_right = h.state }

not_given : (j slot : ℕ) → given_in j (Gave slot) None ≡ None
not_given j slot = if_none (j == slot) None refl

pub gives_nothing : {W : Type 0} (next_word : W → ℕ × W) (a : AgentContent W) (slot : ℕ) (e : Entry) → e ≡ entry_without_effects a.config.me a.last (Gave slot) Done None a.state
    → ((c : Config) (made : ℕ) (past : List Entry) → AgentFits c made past a → GiveRight c past slot None) → Enters next_word None (Gave slot) a a e
gives_nothing next_word a slot e is right = record {
  input_is = ap (λ (x : Entry). x.input) is;
  words = rw is refl;
  moment_is = ap (λ (x : Entry). x.moment) is;
  fits = λ c made past h. of_member c made past a a e (λ me. entry_without_effects me a.last (Gave slot) Done None a.state) h is
      (still_fits c made past a a a.last (Gave slot) Done None a.state h (may_give c made past a slot None h (right c made past h))
      (record { config = refl; store = refl; distances = refl; timers = refl; bucket = refl; due = refl }) refl (stays_at a.last) refl
      (h.pages ∙ sym (slots-same past _ refl)) (same_progress past _ a.progress (λ j. not_given j slot) h.progress));
}

set_there : {X : Type 0} (xs : List X) (i : ℕ) (x y : X) → slice_get (slice_set xs i x) i ≡ Some y → x ≡ y
set_there [] i x y e = absurd (none-some y e)
set_there (z ∷ zs) zero x y e = same_Some x y e
set_there (z ∷ zs) (suc i) x y e = set_there zs i x y e

-- the progress with one message more in a slot
progress_more : (past : List Entry) (e : Entry) (progress : List ProgressContent) (slot i : ℕ) (f : ProgressContent) (m : PageMsg) → e.input ≡ Gave slot → e.effects.message ≡ Some m → i ≡ slot → EachProgressFits past progress
    → ProgressFits (given past slot ++ m ∷ []) f → EachProgressFits (past ++ e ∷ []) (slice_set progress i f)
progress_more past e progress slot i f m input message at h more = record { each = each }
  where
    given_then : (j : ℕ) (b : Bool) → (j == slot) ≡ b → given (past ++ e ∷ []) j ≡ given past j ++ cons_option (if b then Some m else None) []
    given_then j b q = given-snoc past e j ∙ rw (input, message, q) refl

    each : (j : ℕ) (x : ProgressContent) → slice_get (slice_set progress i f) j ≡ Some x → ProgressFits (given (past ++ e ∷ []) j) x
    each j x there = elim (cases_eq j i) [
      | inl same ↦ subst (λ g. ProgressFits g x) (sym (given_then j true (eq-eqb j slot (same ∙ at))))
          (subst (λ w. ProgressFits (given past j ++ m ∷ []) w) (set_there progress i f x (subst (λ k. slice_get (slice_set progress i f) k ≡ Some x) same there))
          (subst (λ k. ProgressFits (given past k ++ m ∷ []) f) (sym (same ∙ at)) more))
      | inr other ↦ subst (λ g. ProgressFits g x) (sym (given_then j false (ne_eqb j slot (λ k. other (k ∙ sym at))) ∙ append-nil (given past j))) (h.each j x (sym (set_elsewhere progress i j f other) ∙ there))
    ]

pub gives_message : {W : Type 0} (next_word : W → ℕ × W) (a : AgentContent W) (slot i : ℕ) (m : PageMsg) (f : ProgressContent) (e : Entry) → e ≡ entry_without_effects a.config.me a.last (Gave slot) Done (Some m) a.state → i ≡ slot
    → ((c : Config) (made : ℕ) (past : List Entry) → AgentFits c made past a → GiveRight c past slot (Some m))
    → ((c : Config) (made : ℕ) (past : List Entry) → AgentFits c made past a → ProgressFits (given past slot ++ m ∷ []) f)
    → Enters next_word None (Gave slot) a (record a { progress = slice_set a.progress i f }) e
gives_message next_word a slot i m f e is at right more = record {
  input_is = ap (λ (x : Entry). x.input) is;
  words = rw is refl;
  moment_is = ap (λ (x : Entry). x.moment) is;
  fits = λ c made past h. of_member c made past a (record a { progress = slice_set a.progress i f }) e (λ me. entry_without_effects me a.last (Gave slot) Done (Some m) a.state) h is
      (still_fits c made past a (record a { progress = slice_set a.progress i f }) a.last (Gave slot) Done (Some m) a.state h (may_give c made past a slot (Some m) h (right c made past h))
      (record { config = refl; store = refl; distances = refl; timers = refl; bucket = refl; due = refl }) refl (stays_at a.last) refl
      (h.pages ∙ sym (slots-same past _ refl)) (progress_more past _ a.progress slot i f m refl refl at h.progress (more c made past h)));
}

-- a give that isn't refused
pub give_enters : {W : Type 0} (next_word : W → ℕ × W) (a b : AgentContent W) (slot : ℕ) (m : Option PageMsg) → Enters next_word None (Gave slot) a b (gave_by a slot m) → HasEntry next_word None (Gave slot) (λ e message. message ≡ e.effects.message) a b (Ok m)
give_enters next_word a b slot m enters = (gave_by a slot m, enters, refl)

-- and its entry, where it is noted
pub give_notes : {W : Type 0} (next_word : W → ℕ × W) (a b : AgentContent W) (slot : ℕ) (m n : Option PageMsg) (e : Entry) → Enters next_word None (Gave slot) a b (gave_by a slot m) → b ≡ record a { progress = b.progress } → n ≡ m → e ≡ gave_by b slot n
    → Enters next_word None (Gave slot) a b e
give_notes next_word a b slot m n e enters rest same is = subst (Enters next_word None (Gave slot) a b) (sym (is ∙ ap (gave_by b slot) same ∙ ap (λ x. gave_by x slot m) rest)) enters
