use Rattle.std.proofs.Common.{refl, arith}
use Rattle.srm_world.proofs.HearsAll.{hears_none, hears_next, words_go_on, same_start}
use Rattle.srm_world.proofs.Journaling.{lawful}
use Rattle.srm_world.proofs.Wording.{no_words_recorded}
use Rattle.srm_world.proofs.recorder.Recorder.hear_all.Goals as goal

pub loop-bytes-init : goal.loop-bytes-init
loop-bytes-init g c = record { lawful = rw (← c.self.view_is) (lawful _ _ c.self.invariant); hears = hears_none c.args.now _; words = no_words_recorded g.W.Words.next_word _ _ refl }

pub loop-bytes-preserved : goal.loop-bytes-preserved
loop-bytes-preserved g c = record {
  lawful = c.in_ok-hear.ensures.lawful;
  hears = hears_next c.args.now (λ v. v.items) c.args.datagrams.now c.loop-bytes.bytes-index c.bytes-item.result _ _ _ _ c.bytes-item.is (omega arith) c.loop-bytes.invariant.hears (rw c.deref.ensures.value at c.in_ok-hear.ensures.records);
  words = words_go_on g.W.Words.next_word _ _ _ (same_start c.args.now _ _ _ c.loop-bytes.invariant.hears) c.loop-bytes.invariant.words c.in_ok-hear.ensures.words;
}

pub returns-in_err-hear-clause-words : goal.returns-in_err-hear-clause-words
returns-in_err-hear-clause-words g c = words_go_on g.W.Words.next_word _ _ _ (same_start c.args.now _ _ _ c.loop-bytes.invariant.hears) c.loop-bytes.invariant.words c.in_err-hear.ensures.words
