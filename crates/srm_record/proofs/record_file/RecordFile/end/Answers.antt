use Rattle.std.proofs.Common.{subst, sym}
use Rattle.srm_output.specs.Writing.{AppendsFront}
use Rattle.srm_record.specs.Records.{whole_record}
use Rattle.srm_record.specs.Takes.{lent}
use Rattle.srm_record.specs.Writing.{FileView, Stays}
use Rattle.srm_record.proofs.Ending.{ended_front, ended_stays}
use Rattle.srm_record.proofs.record_file.RecordFile.end.Goals as goal

pub returns-clause-front : goal.returns-clause-front
returns-clause-front g c es has =
    subst (λ (v : FileView). AppendsFront c.args.self.first v.now (whole_record c.args.self.beginning es (lent c.args.taken.now))) (sym c.file.view_is)
    (ended_front c.args.self c.put_takes.new.self c.put_end.new.self c.write.new.self (lent c.args.taken.now) c.put_takes.ensures c.put_end.ensures c.write.ensures es has)

pub returns-clause-stays : goal.returns-clause-stays
returns-clause-stays g c =
    subst (λ (v : FileView). Stays c.args.self.now v.now) (sym c.file.view_is)
    (ended_stays c.args.self c.put_takes.new.self c.put_end.new.self c.write.new.self _ _ c.put_takes.ensures c.put_end.ensures c.write.ensures)
