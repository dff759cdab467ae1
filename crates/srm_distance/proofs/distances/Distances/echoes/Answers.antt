use Rattle.std.proofs.Common.{◌≡◌, ◌≢◌, ◌++◌, ◌+◌, ◌∷◌, [], List, ap, sym, subst, ◌∙◌, arith}
use Rattle.std.specs.List.{filter_map}
use Rattle.srm_names.specs.declared.echo.Echo.{Echo}
use Rattle.srm_names.specs.Histories.{count_up}
use Rattle.srm_distance.specs.Echoes.{echo_to}
use Rattle.srm_distance.specs.Content.{DistancesContent}
use Rattle.srm_distance.proofs.Collecting.{Collected, collected_self, collected_none, collected_some}
use Rattle.srm_distance.proofs.distances.Distances.echoes.Goals as goal
use Rattle.srm_distance.proofs.distances.Distances.echoes.Goals.{in-Some+in_ok-push, in_default}

pub loop-number-preserved-then-number-me : goal.loop-number-preserved-then-number-me
loop-number-preserved-then-number-me c =
    let same : c.loop-number.number ≡ c.args.self.now.me = c.if-number-me.true ∙ c.number-me.ensures.value ∙ ap (λ (d : DistancesContent). d.me) c.self.view_is in
    collected_self c.args.self.now c.args.now c.loop-number.number c.loop-number.echoes.items c.loop-number.invariant same

pub loop-number-preserved : goal.loop-number-preserved
loop-number-preserved c =
    let other : c.loop-number.number ≢ c.args.self.now.me = λ same. c.if-number-me.false (same ∙ sym (c.number-me.ensures.value ∙ ap (λ (d : DistancesContent). d.me) c.self.view_is)) in
    elim c.match-echo_to.branch [
      | in-Some+in_ok-push w ↦ (let more : c.match-echo_to.echoes.items ≡ c.loop-number.echoes.items ++ w.in-Some.echo ∷ [] = grind arith in
          subst (λ (es : List Echo). Collected c.args.self.now c.args.now (c.loop-number.number + 1) es) (sym more)
          (collected_some c.args.self.now c.args.now c.loop-number.number c.loop-number.echoes.items w.in-Some.echo c.loop-number.invariant other w.in-Some.ensures.value w.in-Some.ensures.member w.in-Some.ensures.range))
      | in_default w ↦ (let same : c.match-echo_to.echoes.items ≡ c.loop-number.echoes.items = grind arith in
          subst (λ (es : List Echo). Collected c.args.self.now c.args.now (c.loop-number.number + 1) es) (sym same)
          (collected_none c.args.self.now c.args.now c.loop-number.number c.loop-number.echoes.items c.loop-number.invariant w.in_default.ensures.value))
    ]

pub returns-clause-value : goal.returns-clause-value
returns-clause-value c = λ least me calls fits.
    let whole : c.loop-number.number ≡ 32 = omega arith in
    c.loop-number.invariant.value least me calls fits ∙ ap (λ k. filter_map (echo_to calls me c.args.now) (count_up 0 k)) whole
