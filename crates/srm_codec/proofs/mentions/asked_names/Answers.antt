use Rattle.std.proofs.Common.{arith, ap, ◌∙◌, ◌%◌, ◌/◌, ◌+◌, ◌++◌}
use Rattle.srm_names.specs.Names.{named}
use Rattle.std.specs.Vec.{vec_items}
use Rattle.std.proofs.lemmas.Bool.{eq-eqb, ne_eqb}
use Rattle.srm_codec.proofs.Asked.{left_to_ask, within, next_set, next_clear, none_left}
use Rattle.srm_codec.proofs.mentions.asked_names.Goals as goal
use Rattle.srm_codec.proofs.mentions.asked_names.Goals.{then-rest-eq1+in_ok-push, else-rest-eq1}

pub unwrap-requires : goal.unwrap-requires
unwrap-requires c =
    let low = within c.args.name c.loop-bit.bit c.loop-bit.rest c.loop-bit.names.items _ c.loop-bit-test.true (eq-eqb (c.loop-bit.rest % 2) 1 c.if-rest-eq1.true) c.loop-bit.invariant.so_far c.requires in
    c.at.ensures.known.1 (omega arith, omega (arith, low, c.number.ensures.value))

pub loop-bit-preserved : goal.loop-bit-preserved
loop-bit-preserved c = elim c.if-rest-eq1.branch [
  | then-rest-eq1+in_ok-push w ↦ record {
    so_far = next_set c.args.name w.unwrap.result c.loop-bit.bit c.loop-bit.rest c.loop-bit.names.items _ _ c.loop-bit-test.true (eq-eqb (c.loop-bit.rest % 2) 1 w.if-rest-eq1.true) c.loop-bit.invariant.so_far
        ((rw w.unwrap.ensures at w.at.ensures.value) ∙ ap (λ s. named s (w.number.result + 1 + c.loop-bit.bit)) w.stream-stream.ensures ∙ ap (λ n. named c.args.name.stream (n + 1 + c.loop-bit.bit)) w.number.ensures.value)
        (ap vec_items w.names-is ∙ w.in_ok-push.ensures.items);
  }
  | else-rest-eq1 w ↦ record {
    so_far = ap (λ v. vec_items v ++ left_to_ask c.args.name (c.loop-bit.bit + 1) (c.loop-bit.rest / 2)) w.names-is
        ∙ next_clear c.args.name c.loop-bit.bit c.loop-bit.rest c.loop-bit.names.items _ c.loop-bit-test.true (ne_eqb (c.loop-bit.rest % 2) 1 w.if-rest-eq1.false) c.loop-bit.invariant.so_far;
  }
]

pub returns : goal.returns
returns c = none_left c.args.name c.loop-bit.bit c.loop-bit.rest c.loop-bit.names.items _ c.loop-bit-test.false c.loop-bit.invariant.so_far
