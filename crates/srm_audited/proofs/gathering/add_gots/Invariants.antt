use Rattle.std.proofs.Common.{◌≡◌, ◌+◌, ◌++◌, length}
use Rattle.srm_names.specs.declared.limits.TheConstants.{PAGES}
use Rattle.srm_record.specs.Takes.{taken_in}
use Rattle.srm_audited.specs.Sessions.{gots_from}
use Rattle.srm_audited.proofs.gathering.add_gots.Given as goal

abbrev pub invariant-lists : goal.invariant-lists
invariant-lists l = record {
  all : l.gots.items ++ gots_from l.member l.slot (taken_in l.lists.items) ≡ l.initial.gots.items ++ gots_from l.member 0 (taken_in l.fn.taken.items);
  count : l.slot + length l.lists.items ≡ PAGES;
}

abbrev pub decreases-lists : goal.decreases-lists
decreases-lists l = length l.lists.items
