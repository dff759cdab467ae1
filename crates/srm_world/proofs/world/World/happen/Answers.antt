use Rattle.std.proofs.Common.{refl, ap, ◌∙◌}
use Rattle.std.proofs.lemmas.List.{with_items_is}
use Rattle.srm_names.proofs.Results.{at_err}
use Rattle.srm_world.specs.Sent.{all_of}
use Rattle.srm_world.specs.Worlds.{AreWorld, words_of}
use Rattle.srm_world.proofs.Stepping.{world_is, world_same, appended_world, appended_follows, appended_asked, appended_starts, appended_words}
use Rattle.srm_world.proofs.Wording.{plays_still, plays_kept, same_played}
use Rattle.srm_world.proofs.world.World.happen.Goals as goal

pub invariant_of-self : goal.invariant_of-self
invariant_of-self g c = world_is _ _ _ _ _ _ refl c.make_room.ensures.same refl c.self.invariant

pub invariant_of-self-in_err-applied : goal.invariant_of-self-in_err-applied
invariant_of-self-in_err-applied g c =
    let w : AreWorld c.deref_mut.result.now (all_of c.make_room.new.self) c.self.inside.trace = world_is _ _ _ _ _ _ c.deref_mut.ensures.value c.make_room.ensures.same refl c.self.invariant in
    world_is _ _ _ _ _ _ (with_items_is c.self.inside.participants c.enter.new.participants (c.enter.auto.participants ∙ c.deref_mut.ensures.len)) refl c.in_err-applied.ensures.same
    (world_same c.deref_mut.result.now c.enter.new.participants (all_of c.make_room.new.self) (all_of c.enter.new.sent) c.self.inside.trace w c.in_err-applied.ensures.err)

pub invariant_of-self-2 : goal.invariant_of-self-2
invariant_of-self-2 g c =
    let w : AreWorld c.deref_mut.result.now (all_of c.make_room.new.self) c.self.inside.trace = world_is _ _ _ _ _ _ c.deref_mut.ensures.value c.make_room.ensures.same refl c.self.invariant in
    appended_world g.W.Words.next_word c.deref_mut.result.now c.enter.new.participants _ (all_of c.make_room.new.self) (all_of c.enter.new.sent) c.self.inside.trace c.enter.new.trace c.args.event.now c.in_ok-applied.applied
    (with_items_is c.self.inside.participants c.enter.new.participants (c.enter.auto.participants ∙ c.deref_mut.ensures.len)) w c.in_ok-applied.ensures.ok

pub returns-clause-follows : goal.returns-clause-follows
returns-clause-follows g c =
    let w : AreWorld c.deref_mut.result.now (all_of c.make_room.new.self) c.self.inside.trace = world_is _ _ _ _ _ _ c.deref_mut.ensures.value c.make_room.ensures.same refl c.self.invariant in
    rw (← c.self.view_is) (appended_follows g.W.Words.next_word c.deref_mut.result.now c.enter.new.participants (all_of c.make_room.new.self) (all_of c.enter.new.sent) c.self.inside.trace c.enter.new.trace c.args.event.now c.in_ok-applied.applied w c.in_ok-applied.ensures.ok)

pub returns-clause-applied : goal.returns-clause-applied
returns-clause-applied g c =
    let w : AreWorld c.deref_mut.result.now (all_of c.make_room.new.self) c.self.inside.trace = world_is _ _ _ _ _ _ c.deref_mut.ensures.value c.make_room.ensures.same refl c.self.invariant in
    rw (← c.self.view_is) (appended_asked g.W.Words.next_word c.deref_mut.result.now c.enter.new.participants (all_of c.make_room.new.self) (all_of c.enter.new.sent) c.self.inside.trace c.enter.new.trace c.args.event.now c.in_ok-applied.applied w c.in_ok-applied.ensures.ok)

pub returns-clause-starts : goal.returns-clause-starts
returns-clause-starts g c = rw (← c.self.view_is) (appended_starts g.W.Words.next_word c.deref_mut.result.now c.enter.new.participants (all_of c.make_room.new.self) (all_of c.enter.new.sent) c.self.inside.trace c.enter.new.trace c.args.event.now c.in_ok-applied.applied c.in_ok-applied.ensures.ok)

pub returns-clause-lawful : goal.returns-clause-lawful
returns-clause-lawful g c =
    let w : AreWorld c.deref_mut.result.now (all_of c.make_room.new.self) c.self.inside.trace = world_is _ _ _ _ _ _ c.deref_mut.ensures.value c.make_room.ensures.same refl c.self.invariant in
    (appended_world g.W.Words.next_word c.deref_mut.result.now c.enter.new.participants c.enter.new.participants (all_of c.make_room.new.self) (all_of c.enter.new.sent) c.self.inside.trace c.enter.new.trace c.args.event.now c.in_ok-applied.applied refl w c.in_ok-applied.ensures.ok).lawful

pub returns-clause-words : goal.returns-clause-words
returns-clause-words g c =
    let w : AreWorld c.deref_mut.result.now (all_of c.make_room.new.self) c.self.inside.trace = world_is _ _ _ _ _ _ c.deref_mut.ensures.value c.make_room.ensures.same refl c.self.invariant in
    rw (← c.self.view_is) (appended_words g.W.Words.next_word c.self.inside.participants.items c.deref_mut.result.now c.enter.new.participants _ (all_of c.make_room.new.self) (all_of c.enter.new.sent) c.self.inside.trace c.enter.new.trace c.args.event.now c.in_ok-applied.applied c.deref_mut.ensures.value
    (with_items_is c.self.inside.participants c.enter.new.participants (c.enter.auto.participants ∙ c.deref_mut.ensures.len)) w c.in_ok-applied.ensures.ok)

pub returns-in_err-make_room-clause-words : goal.returns-in_err-make_room-clause-words
returns-in_err-make_room-clause-words g c = rw (← c.self.view_is) (plays_still g.W.Words.next_word _)

pub returns-in_err-applied-clause-err : goal.returns-in_err-applied-clause-err
returns-in_err-applied-clause-err g c = at_err _ (same_played _ _ _ _ c.in_err-applied.ensures.same
    (ap words_of (with_items_is c.self.inside.participants c.enter.new.participants (c.enter.auto.participants ∙ c.deref_mut.ensures.len)) ∙ c.in_err-applied.ensures.err.words ∙ ap words_of c.deref_mut.ensures.value) ∙ c.self.view_is)

pub returns-in_err-applied-clause-words : goal.returns-in_err-applied-clause-words
returns-in_err-applied-clause-words g c = rw (← c.self.view_is) (plays_kept g.W.Words.next_word _ _ (same_played _ _ _ _ c.in_err-applied.ensures.same
    (ap words_of (with_items_is c.self.inside.participants c.enter.new.participants (c.enter.auto.participants ∙ c.deref_mut.ensures.len)) ∙ c.in_err-applied.ensures.err.words ∙ ap words_of c.deref_mut.ensures.value)))
