use Rattle.std.proofs.Common.{map, subst}
use Rattle.srm_guarded.specs.Guarding.{IsSealBy}
use Rattle.srm_member.proofs.MemberRuns.{lines_known, prints_more, recorded_member}
use Rattle.srm_member.proofs.running.run.Goals as goal

pub returns-in-Ok-clause-whole : goal.returns-in-Ok-clause-whole
returns-in-Ok-clause-whole g c =
    recorded_member g.R.File.Write.contents g.R.File.Read.remaining c.args.options _ _ _ c.in_ok-key.key c.in_ok-seal.seal c.in_ok-station.station.node.view c.in_ok-station.station.taps.items c.in_ok-station.station.pens.items (map (λ bodies. bodies.items) c.in_ok-dealt.dealt.items) c.in_ok-record.record _ c.in_ok-station.station.node.words _
    c.in_ok-key.ensures.asked c.in_ok-key.ensures.whole (subst (λ me. IsSealBy c.in_ok-key.key me c.in_ok-seal.seal) c.me.ensures c.in_ok-seal.ensures) c.in_ok-station.ensures.new (lines_known _ _ _ _ c.in_ok-input.ensures.whole c.as_slice.ensures.value c.in_ok-dealt.ensures.ok.1) c.in_ok-record.ensures c.in_ok-station.ensures.words c.in_ok-station.ensures.begins c.in-Ok.ensures.whole

pub returns-clause-nothing : goal.returns-clause-nothing
returns-clause-nothing g c =
    prints_more c.in-Err.fault _ _ _ _ (λ run. record {
      key = c.in_ok-key.key;
      keyed = c.in_ok-key.ensures.asked;
      seal = c.in_ok-seal.seal;
      sealed = subst (λ me. IsSealBy c.in_ok-key.key me c.in_ok-seal.seal) c.me.ensures c.in_ok-seal.ensures;
      node = c.in_ok-station.station.node.view;
      taps = c.in_ok-station.station.taps.items;
      pens = c.in_ok-station.station.pens.items;
      new = c.in_ok-station.ensures.new;
      dealt = map (λ bodies. bodies.items) c.in_ok-dealt.dealt.items;
      lines = lines_known _ _ _ _ c.in_ok-input.ensures.whole c.as_slice.ensures.value c.in_ok-dealt.ensures.ok.1;
      took = run.0;
      whole = run.1;
      printed = run.2;
    }) c.in-Err.ensures.nothing
