use Rattle.std.proofs.Common.{arith, ap, sym, subst, ◌∙◌, ◌+◌, length}
use Rattle.std.proofs.lemmas.List.{length_push}
use Rattle.srm_entries.specs.Configs.{Config}
use Rattle.srm_script.proofs.Rosters.{AreSettings, no_settings, one_more, is_roster}
use Rattle.srm_script.proofs.script.roster.roster.Goals as goal

pub loop-number-init : goal.loop-number-init
loop-number-init c = record { count = ap length c.new-configs.ensures.items; each = no_settings c.args.members 1 c.new-configs.result.items c.new-configs.ensures.items }

pub loop-number-preserved : goal.loop-number-preserved
loop-number-preserved c =
    let items = c.in_ok-push.ensures.items in
    let is = rw c.unwrap-config.ensures at c.with.ensures.value in
    let me = rw c.unwrap-me.ensures at c.new.ensures.value in
    record {
      count = ap length items ∙ length_push c.loop-number.configs.items c.unwrap-config.result ∙ ap (λ n. n + 1) c.loop-number.invariant.count;
      each = subst (AreSettings c.args.members 1) (sym items) (one_more c.args.members 1 c.loop-number.configs.items c.unwrap-config.result c.loop-number.invariant.each
          (ap (λ (x : Config). x.me) is ∙ me ∙ sym c.loop-number.invariant.count) (ap (λ (x : Config). x.members) is) (ap (λ (x : Config). x.session) is));
    }

pub returns-clause-roster : goal.returns-clause-roster
returns-clause-roster c = is_roster c.args.members 1 c.loop-number.configs.items c.loop-number.invariant.each (omega (arith, c.loop-number.invariant.count, c.loop-number-test.false, c.loop-number.auto.number-end)) c.requires.some
