use Rattle.std.proofs.Common.{◌≡◌, ◌++◌, ◌∷◌, [], rules}
use Rattle.srm_verdicts.proofs.FilesRead.{one_more}
use Rattle.srm_verdicts.proofs.reading.add.Goals as goal

pub returns-clause-all : goal.returns-clause-all
returns-clause-all c =
    let items : c.push.new.self.items ≡ c.args.records.now.items ++ c.args.read ∷ [] = search rules in
    one_more c.args.records.now.items c.push.new.self.items c.args.read items c.requires.all c.requires.one
