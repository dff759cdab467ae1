use Rattle.std.proofs.Common.{ap, sym, ◌∙◌, max, take, get_or}
use Rattle.std.specs.Prelude.{if◌then◌else◌}
use Rattle.std.proofs.lemmas.List.{take_more}
use Rattle.srm_names.specs.FullName.{FullName}
use Rattle.srm_names.specs.Names.{same_stream}
use Rattle.srm_store.specs.Held.{greatest_in}
use Rattle.srm_agent_state.proofs.Evident.{greatest_in-snoc}
use Rattle.srm_agent_state.proofs.evidence.greatest_in.Goals as goal

pub loop-name-preserved : goal.loop-name-preserved
loop-name-preserved c = record {
  so_far = c.most_with-most.ensures.value ∙ ap (λ n. max n (if same_stream c.args.stream.now c.name-item.result.stream then c.name-item.result.number else 0)) c.loop-name.invariant.so_far
      ∙ ap (λ (n : FullName). max (greatest_in (take c.loop-name.name-index c.args.names.now) c.args.stream.now) (if same_stream c.args.stream.now n.stream then n.number else 0)) c.name-item.is
      ∙ sym (greatest_in-snoc (take c.loop-name.name-index c.args.names.now) (get_or c.args.names.now c.loop-name.name-index c.name-item.result) c.args.stream.now)
      ∙ ap (λ ns. greatest_in ns c.args.stream.now) (sym (take_more c.args.names.now c.loop-name.name-index c.name-item.result c.loop-name-test.true));
  last = c.most_with-most.ensures.last;
}
