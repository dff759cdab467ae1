use Rattle.std.proofs.Common.{◌≡◌, ◌++◌, ◌∷◌, [], length, rules, string_bytes, ◌∙◌}
use Rattle.std.proofs.lemmas.List.{length-append}
use Rattle.std.proofs.lemmas.Slice.Zip.{zip_end, zip_turn}
use Rattle.srm_verdicts.proofs.Worded.{lines_all, lines_more}
use Rattle.srm_verdicts.specs.VerdictTexts as spec
use Rattle.srm_verdicts.proofs.wording.verdict_text.Goals as goal

pub loop-path-preserved : goal.loop-path-preserved
loop-path-preserved c =
    let turn = zip_turn c.args.paths.now c.args.records.now c.loop-path.yielded c.into_iter-path-iterator.result c.loop-path.path-iterator c.next.new.self c.next.result (search rules) (search rules) c.loop-path.yielded_by (c.in-Some.path, c.in-Some.read) c.in-Some.is c.next.ensures.steps in
    let more = lines_more c.args.names.now c.args.paths.now c.args.records.now (length c.loop-path.yielded) _ (string_bytes c.loop-path.text) c.in-Some.path.now c.in-Some.read.now turn.0 turn.1 (turn.2 _) (turn.3 _) c.loop-path.invariant in
    let text : string_bytes c.push_str.new.self ≡ string_bytes c.loop-path.text ++ spec.record_line c.args.names.now c.in-Some.path.now.now c.in-Some.read.now = search rules in
    rw (length-append c.loop-path.yielded ((c.in-Some.path, c.in-Some.read) ∷ [])) (text ∙ more)

pub returns : goal.returns
returns c =
    lines_all c.args.names.now c.args.paths.now c.args.records.now (length c.loop-path.yielded) _ (string_bytes c.loop-path.text)
    (zip_end c.args.paths.now c.args.records.now c.loop-path.yielded c.into_iter-path-iterator.result c.loop-path.path-iterator c.next.new.self c.next.result (search rules) (search rules) c.loop-path.yielded_by c.in-None.is c.next.ensures.steps)
    c.loop-path.invariant
