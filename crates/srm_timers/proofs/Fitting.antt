-- The timers that are set for what is due are no more than the names among which all of it is.
use Rattle.std.proofs.Common.{◌≡◌, ◌≤◌, List, map, length, ap, arith}
use Rattle.std.proofs.lemmas.List.{length-map}
use Rattle.srm_names.specs.FullName.{FullName}
pub use Rattle.srm_deadlines.proofs.Fitting.{due_no_more}
use Rattle.srm_timers.specs.declared.arm.Arm.{Arm}
use Rattle.srm_timers.specs.Arms.{Plan, plan_of}

-- arms that are planned for names are no more than these
pub as_many : (plan : FullName → Plan) (names : List FullName) (arms : List Arm) → map plan_of arms ≡ map plan names → length arms ≤ length names
as_many plan names arms plans = let k : length (map plan_of arms) ≡ length (map plan names) = ap length plans in omega (arith, length-map arms plan_of, length-map names plan)
