use Rattle.std.proofs.Common.{◌≡◌, true, ℕ, List, [], length, get_or, refl, sym, ap, ◌∙◌, subst}
use Rattle.crossbeam_channel.specs.Claims.{IsSeatAt}
use Rattle.crossbeam_channel.specs.Ends.{ruled_capacity}
use Rattle.srm_names.specs.PageFeeds.{is_page_feed}
use Rattle.srm_pages.specs.declared.lane.LaneView.{LaneView}
use Rattle.srm_pages.specs.Board.{count_register}
use Rattle.srm_pages.specs.Seats.{LookoutView, CountsTaken}
use Rattle.srm_pages.proofs.LaneSteps.{forks}
use Rattle.srm_pages.proofs.BoardSteps.{zeros_at}
use Rattle.srm_pages.proofs.making.new_lanes.lane.Goals as goal

pub another-last-requires-clause-rule : goal.another-last-requires-clause-rule
another-last-requires-clause-rule c = let e = c.in_ok-sender.ensures.3 in forks _ _ (ap (λ (v : LaneView). v.puts) e) (ap (λ (v : LaneView). v.takes) e)

pub invariant_of-tap : goal.invariant_of-tap
invariant_of-tap c =
    let e = c.in_ok-sender.ensures in
    let a = c.another-last.ensures in
    let none : c.another-last.result.me.0.client.taken ≡ [] = ap (λ (v : LaneView). v.taken) a.rule.1 ∙ ap (λ (v : LaneView). v.taken) e.3 in (
      subst (λ ring. IsSeatAt ring c.another-last.result) (sym e.0) a.channel.2,
      ap (λ (v : LaneView). v.takes) a.rule.1,
      sym (ap length none),
      subst (λ (l : List _). is_page_feed l ≡ true) (sym none) refl,
      subst (λ (l : List _). CountsTaken c.args.marker.seat c.args.marker.slot l) (sym none) (subst (λ (l : List ℕ). CountsTaken l c.args.marker.slot []) (sym c.requires.0) (record { all = zeros_at _; of_member = λ member small. zeros_at _ })),
    )

pub returns : goal.returns
returns c =
    let e = c.in_ok-sender.ensures in
    let a = c.another-last.ensures in
    let sight = c.requires.1 in (
      (
        ap (λ (v : LaneView). v.put) a.rule.0 ∙ ap (λ (v : LaneView). v.put) e.3,
        ap (λ (s : LookoutView). get_or s.seen (count_register c.slot.result) 0) sight ∙ zeros_at _,
        refl,
        c.slot.ensures,
        ap (λ (s : LookoutView). s.board) sight,
        e.1,
      ),
      (ap (λ (v : LaneView). v.taken) a.rule.1 ∙ ap (λ (v : LaneView). v.taken) e.3, refl, refl, refl, subst (λ (l : List ℕ). CountsTaken l c.args.marker.slot []) (sym c.requires.0) (record { all = zeros_at _; of_member = λ member small. zeros_at _ })),
      λ i. record { board = (a.channel.0.0 ∙ sym a.channel.2.0) i; messages = (a.channel.0.1 ∙ sym a.channel.2.1) i; capacity = ap ruled_capacity (sym e.0) i },
    )
