use Rattle.std.proofs.Common.{rules, ◌≡◌, true, [], ◌∷◌, ◌+◌, length, sym, ap, ◌∙◌, subst, length-append}
use Rattle.srm_names.specs.PageFeeds.{is_page_feed}
use Rattle.srm_pages.specs.declared.lane.LaneView.{LaneView}
use Rattle.srm_pages.specs.Seats.{CountsTaken}
use Rattle.srm_pages.proofs.LaneSteps.{takes}
use Rattle.srm_pages.proofs.Taps.{next_shown, next_counts}
use Rattle.srm_pages.proofs.tap.Tap.take.Goals as goal

pub recv_as-requires-clause-rule : goal.recv_as-requires-clause-rule
recv_as-requires-clause-rule g c = (takes _ _ c.self.invariant.1, λ _ _ _ _. tt)

pub post-requires : goal.post-requires
post-requires g c = search (rules, next_shown)

-- what the take and both stores made
counted : (g : _) → (c : goal.After-self-in-Ok-2-1 g) → CountsTaken c.post.new.self.seat c.post.new.self.slot c.recv_as.new.pass.me.0.client.taken
counted g c =
    let i = c.self.invariant in
    let took = c.in-Ok.ensures.rule in
    next_counts _ _ _ _ _ _ _ i.4 took.1 (c.in-Some.ensures.1 ∙ ap (λ n. n + 1) i.2) c.count.ensures.seat c.count.ensures.there c.post.ensures (ap (λ (v : LaneView). v.taken) took.0)

pub invariant_of-self-in-Ok : goal.invariant_of-self-in-Ok
invariant_of-self-in-Ok g c =
    let i = c.self.invariant in
    let took = c.in-Ok.ensures.rule in (
      c.in-Ok.ensures.channel.0,
      ap (λ (v : LaneView). v.takes) took.0 ∙ i.1,
      c.in-Some.ensures.1 ∙ ap (λ n. n + 1) i.2 ∙ sym (ap (λ (v : LaneView). length v.taken) took.0 ∙ length-append _ (c.in-Ok.msg ∷ [])),
      subst (λ (v : LaneView). is_page_feed v.taken ≡ true) (sym took.0) took.1,
      counted g c,
    )

pub returns-in-Ok-clause-counted : goal.returns-in-Ok-clause-counted
returns-in-Ok-clause-counted g c = counted g c
