use Rattle.std.proofs.Common.{◌≡◌, ◌+◌, drop, sym, subst, ap, ◌∙◌, true, rules}
use Rattle.std.specs.Result.{is_ok}
use Rattle.std.proofs.lemmas.List.{take_rest, drop_all}
use Rattle.srm_codec.specs.declared.datagram.Datagram.TheVariants.{Request}
use Rattle.srm_entries.specs.Packing.{mask_of}
use Rattle.srm_names.proofs.Lists.{left_at}
use Rattle.srm_outbox.proofs.Requesting.{PackedSoFar, packs_covered, packs_more, packs_all, rising_from}
use Rattle.srm_outbox.proofs.packing.packed.Goals as goal
use Rattle.srm_outbox.proofs.packing.packed.Goals.{then-not-is_covered_by+in_ok-push_back, else-not-is_covered_by}

pub request-requires : goal.request-requires
request-requires c = rw (take_rest c.args.asks.now (c.loop-index.index + 1)) (rising_from c.loop-index.index c.index-asks-index.result c.args.asks.now c.loop-index-test.true c.index-asks-index.is c.requires)

pub loop-index-preserved : goal.loop-index-preserved
loop-index-preserved c =
    let so_far = subst (λ left. PackedSoFar c.args.me c.args.asks.now left c.loop-index.last c.loop-index.requests.items)
    (left_at c.loop-index.index c.index-asks-index.result c.args.asks.now c.loop-index-test.true c.index-asks-index.is) c.loop-index.invariant in
    elim c.if-not-is_covered_by.branch [
      | then-not-is_covered_by+in_ok-push_back w ↦ (let ok : is_ok w.push_back.result ≡ true = search rules in
          rw (w.requests-is, w.last-is, w.push_back.ensures.items, ok)
          (packs_more c.args.me c.args.asks.now (drop (c.loop-index.index + 1) c.args.asks.now) c.index-asks-index.result c.loop-index.last c.loop-index.requests.items w.request.result
          (sym c.is_covered_by.ensures ∙ w.if-not-is_covered_by.true)
          (w.request.ensures.value ∙ ap (λ ns. Request c.args.me c.index-asks-index.result (mask_of c.index-asks-index.result ns)) (take_rest c.args.asks.now (c.loop-index.index + 1)))
          w.request.ensures.spelled so_far))
      | else-not-is_covered_by w ↦ rw (w.requests-is, w.last-is)
          (packs_covered c.args.me c.args.asks.now (drop (c.loop-index.index + 1) c.args.asks.now) c.index-asks-index.result c.loop-index.last c.loop-index.requests.items
          (sym c.is_covered_by.ensures ∙ w.if-not-is_covered_by.false) so_far)
    ]

pub returns-clause-value : goal.returns-clause-value
returns-clause-value c = packs_all c.args.me c.args.asks.now c.loop-index.last c.loop-index.requests.items
    (subst (λ left. PackedSoFar c.args.me c.args.asks.now left c.loop-index.last c.loop-index.requests.items) (drop_all c.loop-index.index c.args.asks.now c.loop-index-test.false) c.loop-index.invariant)

pub returns-clause-each : goal.returns-clause-each
returns-clause-each c = c.loop-index.invariant.each
