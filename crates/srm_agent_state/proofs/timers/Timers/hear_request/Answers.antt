use Rattle.std.proofs.Common.{◌++◌, length, length-append, ap, ◌∙◌, arith}
use Rattle.std.specs.Prelude.{option_to_list}
use Rattle.srm_agent_state.proofs.Midway.{keep_on, waits_before, waits_join, settings_keep, places_stay, room_stays}
use Rattle.srm_agent_state.proofs.RequestTimers.{one_more_at_most, found_fits, request_hears}
use Rattle.srm_agent_state.proofs.OneAnswered.{one_more_answered}
use Rattle.srm_agent_state.proofs.timers.Timers.hear_request.Goals as goal

pub loop-name-preserved : goal.loop-name-preserved
loop-name-preserved g c = record {
  so_far = one_more_answered c.args.store.now c.args.from c.args.dist.now c.args.now c.args.asked.now c.loop-name.name-index c.loop-name.arms.items _ c.request_room.new.self c.loop-name.self c.hear_request_for-arm.new.self
      c.holds.result c.name-item.result c.hear_request_for-arm.result c.loop-name-test.true c.name-item.is c.holds.ensures c.loop-name.invariant.so_far c.hear_request_for-arm.ensures.hears c.add_arm.ensures.items;
  chosen = waits_join g.W.Words.next_word c.request_room.new.self c.args.words.now c.loop-name.words c.hear_request_for-arm.new.words c.loop-name.arms.items (option_to_list c.hear_request_for-arm.result) c.add_arm.new.arms.items
      c.add_arm.ensures.items c.loop-name.invariant.chosen (waits_before g.W.Words.next_word _ _ _ _ _ c.loop-name.invariant.settings c.hear_request_for-arm.ensures.chosen);
  settings = keep_on _ _ _ c.loop-name.invariant.settings (settings_keep _ _ c.hear_request_for-arm.ensures.room c.hear_request_for-arm.ensures.places);
  places = places_stay _ _ _ c.loop-name.invariant.places c.hear_request_for-arm.ensures.places;
  ready = room_stays _ _ _ c.loop-name.invariant.ready c.hear_request_for-arm.ensures.room;
  count = omega (arith, c.loop-name.invariant.count, one_more_at_most c.loop-name.arms.items c.add_arm.new.arms.items c.hear_request_for-arm.result c.add_arm.ensures.items);
  few = omega (arith, c.loop-name.invariant.few, c.add_arm.ensures.len);
  room = omega (arith, c.loop-name.invariant.room, c.add_arm.ensures.capacity);
}

pub unwrap-requires : goal.unwrap-requires
unwrap-requires g c =
    let fits = found_fits c.args.newly_missing.now c.args.asked.now c.args.dist.now c.unwrap-found.result.items c.requires.rising (rw c.unwrap-found.ensures at c.detect.ensures.arms) in
    c.extend_from_slice.ensures.succeeds (omega (arith, fits, ap length c.deref.ensures.value, c.loop-name.invariant.few, c.loop-name.invariant.room, c.loop-name.auto.name-index-end))

pub returns-clause-hears : goal.returns-clause-hears
returns-clause-hears g c =
    let joined = (rw c.unwrap.ensures at c.extend_from_slice.ensures.items) ∙ ap (λ xs. c.loop-name.arms.items ++ xs) c.deref.ensures.value in
    request_hears g.W.Words.next_word c.args.words.now c.detect.new.words c.args.store.now c.args.from c.args.asked.now c.args.newly_missing.now c.args.dist.now c.args.now c.loop-name.name-index
    c.loop-name.arms.items c.unwrap-found.result.items c.extend_from_slice.new.self.items c.args.self.now c.request_room.new.self c.loop-name.self c.detect.new.self
    c.request_room.ensures.kept c.loop-name.invariant.so_far c.loop-name-test.false
    (rw c.unwrap-found.ensures at c.detect.ensures.fits) c.detect.ensures.fixes (rw c.unwrap-found.ensures at c.detect.ensures.arms)
    (waits_before g.W.Words.next_word _ _ _ _ _ c.request_room.ensures.settings
    (waits_join g.W.Words.next_word c.request_room.new.self c.args.words.now c.loop-name.words c.detect.new.words c.loop-name.arms.items c.unwrap-found.result.items c.extend_from_slice.new.self.items joined c.loop-name.invariant.chosen
    (waits_before g.W.Words.next_word _ _ _ _ _ c.loop-name.invariant.settings (rw c.unwrap-found.ensures at c.detect.ensures.chosen))))
    joined

pub returns-clause-chosen : goal.returns-clause-chosen
returns-clause-chosen g c =
    let joined = (rw c.unwrap.ensures at c.extend_from_slice.ensures.items) ∙ ap (λ xs. c.loop-name.arms.items ++ xs) c.deref.ensures.value in
    waits_before g.W.Words.next_word _ _ _ _ _ c.request_room.ensures.settings
    (waits_join g.W.Words.next_word c.request_room.new.self c.args.words.now c.loop-name.words c.detect.new.words c.loop-name.arms.items c.unwrap-found.result.items c.extend_from_slice.new.self.items joined c.loop-name.invariant.chosen
    (waits_before g.W.Words.next_word _ _ _ _ _ c.loop-name.invariant.settings (rw c.unwrap-found.ensures at c.detect.ensures.chosen)))

pub returns-clause-settings : goal.returns-clause-settings
returns-clause-settings g c = keep_on _ _ _ c.request_room.ensures.settings (keep_on _ _ _ c.loop-name.invariant.settings c.detect.ensures.settings)

pub returns-clause-few : goal.returns-clause-few
returns-clause-few g c =
    let joined = (rw c.unwrap.ensures at c.extend_from_slice.ensures.items) ∙ ap (λ xs. c.loop-name.arms.items ++ xs) c.deref.ensures.value in
    let fits = found_fits c.args.newly_missing.now c.args.asked.now c.args.dist.now c.unwrap-found.result.items c.requires.rising (rw c.unwrap-found.ensures at c.detect.ensures.arms) in
    omega (arith, fits, ap length joined, length-append c.loop-name.arms.items c.unwrap-found.result.items, c.loop-name.invariant.count, c.loop-name.auto.name-index-end)
