-- The random numbers that choose waits, over one call of the recorder and over several.
use Rattle.std.proofs.Common.{◌≡◌, ℕ, List, ◌++◌, refl, ap, ◌∙◌, subst, inl, inr, append_assoc}
use Rattle.std.specs.Prelude.{Result}
use Rattle.srm_entries.specs.declared.fault.AgentFault.{AgentFault}
use Rattle.srm_entries.specs.Configs.{Config}
use Rattle.srm_agent.specs.declared.heard.Heard.{Heard}
use Rattle.srm_world.specs.Traces.{Journal}
use Rattle.srm_world.specs.Recording.{RecordsHeard}
use Rattle.srm_world.specs.WaitWords.{RecorderView, AreByWords, RecordsByWords}
use Rattle.srm_world.proofs.Wording.{by_more, no_words_recorded}
use Rattle.srm_node.specs.Nodes.{NodeView, NodeState, recorded_in}
use Rattle.srm_node.specs.Calls.{Calls}
use Rattle.srm_node.specs.Turns.{Paused}
use Rattle.srm_node.specs.Waits.{ChosenByWords, WaitsByWords}

pub waits_none : {W : Type 0} (next_word : W → ℕ × W) (r : RecorderView W) → WaitsByWords next_word r r
waits_none next_word r = record { start = refl; words = no_words_recorded next_word r r refl }

pub waits_on : {W : Type 0} (next_word : W → ℕ × W) (a b c : RecorderView W) → WaitsByWords next_word a b → WaitsByWords next_word b c → WaitsByWords next_word a c
waits_on next_word a b c h k = record {
  start = k.start ∙ h.start;
  words = record {
    added = h.words.added ++ k.words.added;
    grown = k.words.grown ∙ ap (λ es. es ++ k.words.added) h.words.grown ∙ append_assoc a.journal.entries h.words.added k.words.added;
    words = by_more next_word a.journal.start.config a.words b.words c.words h.words.added k.words.added h.words.words
        (subst (λ (s : Config). AreByWords next_word s b.words k.words.added c.words) (ap (λ s. s.config) h.start) k.words.words);
    begins = k.words.begins ∙ h.words.begins;
  };
}

pub waits_heard : {W : Type 0} (next_word : W → ℕ × W) (now : ℕ) (bytes : List ℕ) (a b : RecorderView W) (answer : Result Heard AgentFault) → RecordsHeard now bytes a.journal b.journal answer → RecordsByWords next_word a b → WaitsByWords next_word a b
waits_heard next_word now bytes a b answer (inl (e, grows, hearing, answers)) words = record { start = ap (λ (j : Journal). j.start) grows.grown; words = words }
waits_heard next_word now bytes a b answer (inr (wrong, same)) words = record { start = ap (λ (j : Journal). j.start) same; words = words }

-- a pause draws none
pub waits_paused : {W X C : Type 0} (next_word : W → ℕ × W) (calls : Calls X C) (a b : NodeState W X C) → Paused calls a.view b.view → b.words ≡ a.words → b.begins ≡ a.begins → WaitsByWords next_word (recorded_in a) (recorded_in b)
waits_paused {W} {X} {C} next_word calls a b paused words begins = record {
  start = ap (λ (j : Journal). j.start) journal;
  words = no_words_recorded next_word (recorded_in a) (recorded_in b)
      (ap (λ (j : Journal). record { journal = j; words = b.words; begins = b.begins }) journal ∙ ap (λ w. record { journal = a.view.journal; words = w; begins = b.begins }) words ∙ ap (λ r. record { journal = a.view.journal; words = a.words; begins = r }) begins);
}
  where
    journal : b.view.journal ≡ a.view.journal
    journal = ap (λ (n : NodeView X C). n.journal) paused.same

-- what a node returns of its journal is by its random numbers
pub chosen_by_words : {W : Type 0} (next_word : W → ℕ × W) (a b : RecorderView W) (last : Journal) → WaitsByWords next_word a b → last ≡ b.journal → ChosenByWords next_word a.journal a.words last
chosen_by_words next_word a b last waits is = record { added = waits.words.added; grown = ap (λ (j : Journal). j.entries) is ∙ waits.words.grown; to = b.words; chosen = waits.words.words }
