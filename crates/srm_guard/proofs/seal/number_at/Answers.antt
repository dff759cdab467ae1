use Rattle.std.proofs.Common.{◌≡◌, ◌+◌, ◌-◌, drop, length, refl, arith}
use Rattle.std.specs.Int.{w64, from_be_bytes}
use Rattle.srm_window.specs.Senders.{numbered}
use Rattle.srm_guard.specs.Seals.{number_at}
use Rattle.srm_guard.proofs.Numbering.{counter_is, is_number, number_is, number_fits}
use Rattle.srm_guard.proofs.seal.number_at.Goals as goal

pub returns : goal.returns
returns c =
    let counter : c.counter_in-counter.result ≡ from_be_bytes w64 (drop (length c.args.text.now - 9 + 1) c.args.text.now) = counter_is c.args.text.now (length c.args.text.now - (length c.args.text.now - 9 + 1)) (length c.args.text.now - 9 + 1) c.counter_in-counter.result (omega arith) c.counter_in-counter.ensures in
    let is : numbered c.in-Some.sender c.counter_in-counter.result ≡ number_at c.args.text.now = number_is c.args.text.now (length c.args.text.now - 9) c.in-Some.sender c.counter_in-counter.result (omega arith) c.in-Some.ensures.value counter in (
      omega arith,
      is_number c.args.text.now (length c.args.text.now - 9) c.in-Some.sender c.counter_in-counter.result (omega arith) (λ i. omega (arith, c.type_inv.text i)) c.in-Some.ensures.value counter,
      is,
      number_fits c.args.text.now c.in-Some.sender c.counter_in-counter.result (rw c.in-Some.ensures.value (c.in-Some.ensures.known.0 refl)) c.counter_in-counter.type_inv is,
    )
