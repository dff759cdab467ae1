use Rattle.std.proofs.Common.{take, map}
use Rattle.srm_world.specs.Claims.{IsLawfulJournal}
use Rattle.srm_world.specs.Recording.{HearsAll}
use Rattle.srm_world.specs.WaitWords.{RecordsByWords}
use Rattle.srm_world.proofs.recorder.Recorder.hear_all.Given as goal

abbrev pub invariant-loop-bytes : goal.invariant-loop-bytes
invariant-loop-bytes g l = record {
  lawful : IsLawfulJournal l.self.journal;
  hears : HearsAll l.now (take l.bytes-index (map (λ v. v.items) l.datagrams)) l.fn.self.journal l.self.journal;
  words : RecordsByWords g.W.Words.next_word l.fn.self l.self;
}
