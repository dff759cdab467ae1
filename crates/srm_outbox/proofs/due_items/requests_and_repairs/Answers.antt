use Rattle.std.proofs.Common.{◌≡◌, ◌+◌, ◌++◌, take, subst, true, rules}
use Rattle.std.specs.Prelude.{option_to_list}
use Rattle.std.specs.Result.{is_ok}
use Rattle.std.proofs.lemmas.List.{append-nil, take_all}
use Rattle.srm_entries.specs.Packing.{packed}
use Rattle.srm_outbox.proofs.Spelling.{RepairedSoFar, gives_spellable, repairing_begins, repairing_goes_on}
use Rattle.srm_outbox.proofs.due_items.requests_and_repairs.Goals as goal
use Rattle.srm_outbox.proofs.due_items.requests_and_repairs.Goals.{in-Some+in_ok-push_back, in_default}

pub loop-name-init : goal.loop-name-init
loop-name-init c = repairing_begins c.args.me c.args.store.now (packed c.args.me c.args.asks.now) c.in_ok-datagrams.datagrams.items c.in_ok-datagrams.ensures.value c.in_ok-datagrams.ensures.each

pub repair-requires : goal.repair-requires
repair-requires c = gives_spellable c.args.store.now c.name-item.result _ c.requires.spellable c.get.ensures

pub loop-name-preserved : goal.loop-name-preserved
loop-name-preserved c =
    let more = repairing_goes_on c.args.me c.args.store.now (packed c.args.me c.args.asks.now) c.args.fixes.now c.loop-name.name-index c.name-item.result c.loop-name.datagrams.items _ c.in_ok-repair.field-0
    c.loop-name-test.true c.name-item.is c.get.ensures c.in_ok-repair.ensures.value c.in_ok-repair.ensures.each c.loop-name.invariant in
    elim c.match-branch-3.branch [
      | in-Some+in_ok-push_back w ↦ (let ok : is_ok w.push_back.result ≡ true = search rules in
          rw (w.datagrams-is, w.push_back.ensures.items, ok)
          (subst (λ o. RepairedSoFar c.args.me c.args.store.now (packed c.args.me c.args.asks.now) (take (c.loop-name.name-index + 1) c.args.fixes.now) (c.loop-name.datagrams.items ++ option_to_list o)) w.in-Some.is more))
      | in_default w ↦ rw w.datagrams-is
          (subst (λ gs. RepairedSoFar c.args.me c.args.store.now (packed c.args.me c.args.asks.now) (take (c.loop-name.name-index + 1) c.args.fixes.now) gs) (append-nil c.loop-name.datagrams.items)
          (subst (λ o. RepairedSoFar c.args.me c.args.store.now (packed c.args.me c.args.asks.now) (take (c.loop-name.name-index + 1) c.args.fixes.now) (c.loop-name.datagrams.items ++ option_to_list o)) w.in_default.is more))
    ]

pub returns-clause-value : goal.returns-clause-value
returns-clause-value c =
    (subst (λ ns. RepairedSoFar c.args.me c.args.store.now (packed c.args.me c.args.asks.now) ns c.loop-name.datagrams.items) (take_all c.loop-name.name-index c.args.fixes.now c.loop-name-test.false) c.loop-name.invariant).value

pub returns-clause-each : goal.returns-clause-each
returns-clause-each c = c.loop-name.invariant.each
