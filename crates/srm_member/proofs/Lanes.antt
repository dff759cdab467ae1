-- New lanes serve a new node and its workers.
use Rattle.std.proofs.Common.{ℕ, List, arith}
use Rattle.std.proofs.lemmas.Option.{slice_get_within}
use Rattle.srm_names.proofs.Lists.{at_place}
use Rattle.srm_pages.specs.Ends.{FeedView, TapView, AreLanes}
use Rattle.srm_pages.specs.Seats.{LookoutView}
use Rattle.srm_node.specs.Hosting.{AreEndsOfLanes}
use Rattle.srm_member.specs.Stations.{AreNewTaps}

pub ends_of_lanes : (asked : ℕ) (feeds : List FeedView) (taps : List TapView) (viewers : List LookoutView) → AreLanes asked feeds taps viewers → AreEndsOfLanes feeds taps
ends_of_lanes asked feeds taps viewers (board, some, same, lanes, count, all) = λ k f t at there. (lanes.each k f t at there).2

pub new_taps : (asked : ℕ) (feeds : List FeedView) (taps : List TapView) (viewers : List LookoutView) → AreLanes asked feeds taps viewers → AreNewTaps taps
new_taps asked feeds taps viewers (board, some, same, lanes, count, all) = λ slot t at.
    let (f, at_f) = at_place feeds slot (omega (arith, some, same, slice_get_within taps slot t at)) in
    let (took, closed, place, at_board, counts) = (lanes.each slot f t at_f at).1 in
    (took, place)
