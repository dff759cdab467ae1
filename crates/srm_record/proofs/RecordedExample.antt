-- Two runs of a member that heard a stroke and a farewell and gave what came of them, with the same record, so that the premises of the law can be met.
use Rattle.std.proofs.Common.{◌≡◌, ◌≢◌, List, length, take, drop, refl, sym, subst, lit<}
use Rattle.std.proofs.lemmas.List.{take-append-drop}
use Rattle.rand_pcg.specs.Pcg.{pcg64}
use Rattle.srm_timers.specs.Seeds.{words_of}
use Rattle.srm_entries.specs.declared.entry.Entry.{Entry}
use Rattle.srm_entries.specs.Runs.{IsMemberRun}
use Rattle.srm_entries.specs.Sample.{config}
use Rattle.srm_entries.proofs.Cutting.{run_part}
use Rattle.srm_world.specs.Traces.{of_member}
use Rattle.srm_world.proofs.TakesExample.{trace, run}
use Rattle.srm_replays.specs.Law.{acting, IsRunByWords}
use Rattle.srm_record.specs.Calls.{lines_of}
use Rattle.srm_record.proofs.Recorded.{record_law}

-- its five calls, and behind them what its page worker took, which has no line among the calls
abbrev done : List Entry
done = of_member 1 trace.entries

-- the calls alone
abbrev called : List Entry
called = take 5 done

done_by_words : IsRunByWords pcg64 (config 1) 0 (words_of 9) done
done_by_words = record { run = run.each.1.0; to = words_of 9; words = refl }

called_by_words : IsRunByWords pcg64 (config 1) 0 (words_of 9) called
called_by_words = record {
  run = run_part (config 1) 0 called (drop 5 done) (subst (IsMemberRun (config 1) 0) (sym (take-append-drop 5 done)) run.each.1.0);
  to = words_of 9;
  words = refl;
}

five_lines : length (lines_of 1 done) ≡ 5
five_lines = refl

-- they aren't one run, and have the same lines
differ : length called ≢ length done
differ e = absurd (cc)

same_lines : lines_of 1 called ≡ lines_of 1 done
same_lines = refl

did_the_same : acting called ≡ acting done
did_the_same = record_law pcg64 (config 1) 0 (words_of 9) done called (lit< tt) (lit< tt) done_by_words called_by_words same_lines

five_acted : length (acting done) ≡ 5
five_acted = refl
