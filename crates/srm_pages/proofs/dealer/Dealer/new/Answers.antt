use Rattle.srm_pages.specs.Board.{zeros}
use Rattle.srm_pages.proofs.BoardSteps.{begins}
use Rattle.srm_pages.proofs.dealer.Dealer.new.Goals as goal

pub of_words-requires : goal.of_words-requires
unfolding zeros
of_words-requires c = begins
