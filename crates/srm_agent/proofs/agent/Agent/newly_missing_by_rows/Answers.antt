use Rattle.std.proofs.Common.{◌+◌, ◌++◌, ap, ◌∙◌}
use Rattle.std.proofs.lemmas.List.{take_all}
use Rattle.srm_entries.specs.Entries.{held, evidence_in, known}
use Rattle.srm_agent.specs.Growth.{is_newly_missing_by_rows}
use Rattle.srm_entries.specs.Verdicts.{settlings}
use Rattle.srm_agent.proofs.Joining.{rises_on, within_more, exact_more}
use Rattle.srm_agent.proofs.agent.Agent.newly_missing_by_rows.Goals as goal

pub loop-row-preserved : goal.loop-row-preserved
loop-row-preserved g c =
    let join = c.in_ok-extend_from_slice.ensures.items ∙ ap (λ ns. c.loop-row.newly_missing.items ++ ns) c.deref.ensures.value in
    record {
      rising = rises_on c.args.rows.now c.loop-row.newly_missing.items c.in_ok-more.more.items _ c.loop-row.row-index c.row-item.result c.stream-in-loop-row.result c.known-known.result (c.number.result + 1) c.requires c.loop-row-test.true c.row-item.is
          c.stream-in-loop-row.ensures c.loop-row.invariant.rising c.loop-row.invariant.within c.in_ok-more.ensures join;
      within = within_more c.args.rows.now c.loop-row.newly_missing.items c.in_ok-more.more.items _ c.loop-row.row-index c.row-item.result c.stream-in-loop-row.result c.known-known.result (c.number.result + 1) c.loop-row-test.true c.row-item.is
          c.stream-in-loop-row.ensures c.loop-row.invariant.within c.in_ok-more.ensures join;
      exact = λ s made past h.
          let fits = rw (← c.self.view_is) at h in
          exact_more past c.args.rows.now c.loop-row.newly_missing.items c.in_ok-more.more.items _ c.loop-row.row-index c.row-item.result c.stream-in-loop-row.result c.known-known.result (c.number.result + 1) c.loop-row-test.true c.row-item.is
          c.stream-in-loop-row.ensures (c.known-known.ensures.value (held past) (evidence_in past) (settlings past) fits.store ∙ ap (known past) c.stream.ensures) (ap (λ k. k + 1) c.number.ensures.value)
          (c.loop-row.invariant.exact s made past h) c.in_ok-more.ensures join;
    }

pub returns-clause-value : goal.returns-clause-value
returns-clause-value g c = record {
  each = λ s made past h. record {
    in_order = c.loop-row.invariant.rising;
    exact = λ n. c.loop-row.invariant.exact s made past h n ∙ ap (λ rs. is_newly_missing_by_rows past rs n) (take_all c.loop-row.row-index c.args.rows.now c.loop-row-test.false);
  };
}
