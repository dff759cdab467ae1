-- The example is an honest run.
use Rattle.std.proofs.Common.{refl, lit<}
use Rattle.srm_world.specs.Traces.{IsHonest, IsRun}
use Rattle.srm_recovery.proofs.GroupTrace.{trace}
use Rattle.srm_recovery.proofs.GroupSource.{run_0}
use Rattle.srm_recovery.proofs.GroupRepairer.{run_1, run_2}

pub run : IsRun trace
run = record {
  roster = record { some = lit< tt; places = ((refl, refl), ((refl, refl), ((refl, refl), tt))); session = ((refl, (refl, (refl, tt))), ((refl, (refl, (refl, tt))), ((refl, (refl, (refl, tt))), tt))) };
  inside = (lit< tt, (lit< tt, (lit< tt, (lit< tt, (lit< tt, (lit< tt, (lit< tt, (lit< tt, (lit< tt, (lit< tt, (lit< tt, (lit< tt, (lit< tt, (lit< tt, (lit< tt, (lit< tt, (lit< tt, (lit< tt, (lit< tt, (lit< tt, (lit< tt, (lit< tt, (lit< tt, (lit< tt, (lit< tt, (lit< tt, (lit< tt, (lit< tt, (lit< tt, (lit< tt, (lit< tt, (lit< tt, (lit< tt, (lit< tt, (lit< tt, (lit< tt, (lit< tt, (lit< tt, (lit< tt, (lit< tt, (lit< tt, (lit< tt, (lit< tt, (lit< tt, (lit< tt, tt)))))))))))))))))))))))))))))))))))))))))))));
  each = (run_0, (run_1, (run_2, tt)));
}

pub honest : IsHonest trace.entries
honest = (tt, (tt, ((1, lit< tt, refl), (tt, ((2, lit< tt, refl), (tt, ((3, lit< tt, refl), (tt, (tt, (tt, (tt, (tt, (tt, (tt, (tt, (tt, (tt, (tt, (tt, (tt, (tt, (tt, (tt, (tt, (tt, (tt, (tt, ((5, lit< tt, refl), (tt, ((6, lit< tt, refl), (tt, ((7, lit< tt, refl), (tt, (tt, (tt, (tt, (tt, (tt, (tt, (tt, (tt, (tt, (tt, (tt, (tt, tt)))))))))))))))))))))))))))))))))))))))))))))
