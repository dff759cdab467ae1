-- A run of two calls that act, and its replay with noise between, so that the premises of the law can be met.
use Rattle.std.proofs.Common.{◌≡◌, List, [], ◌∷◌, refl, lit<, lit≤}
use Rattle.std.specs.List.{AllByRecursion}
use Rattle.srm_codec.specs.declared.fault.DecodeFault.TheVariants as decoding
use Rattle.srm_timers.specs.ListedWords.{next_listed}
use Rattle.srm_entries.specs.declared.entry.Entry.{Entry}
use Rattle.srm_names.specs.Names.{named}
use Rattle.srm_codec.specs.declared.datagram.Datagram.TheVariants.{Request}
use Rattle.srm_bucket.specs.declared.class.Class.TheVariants.{Shown}
use Rattle.srm_entries.specs.Bucket.{idle, classed}
use Rattle.srm_entries.specs.Runs.{EntryRight, IsMemberRun}
use Rattle.srm_entries.specs.Sample.{first_stream, gap, one_of_four}
use Rattle.srm_entries.proofs.AskedExample.{run}
use Rattle.srm_entries.proofs.Plain.{idle_right, one_goes}
use Rattle.srm_agent.proofs.Quiet.{no_arms}
use Rattle.srm_replays.specs.Law.{acting, IsRunByWords, RestsUnseen}
use Rattle.srm_replays.specs.Examples.{asks, noise}
use Rattle.srm_replays.proofs.Replaying.{replay_law, agreement_law}
use Rattle.srm_replays.proofs.Unseen.{unseen_law}

abbrev done : List Entry
done = gap ∷ asks ∷ []

abbrev replayed : List Entry
replayed = gap ∷ noise 1300000 ∷ asks ∷ []

noise_right : EntryRight one_of_four 1000000 (record { before = gap ∷ []; this = noise 1300000 })
noise_right = record {
  member = refl;
  moment = lit≤ tt;
  verdict = (decoding.Magic, (λ e. absurd (cc)), refl);
  drawn = refl;
  arms = no_arms one_of_four (gap ∷ []) (noise 1300000) (record { unheard = refl; drawn = refl; arms = refl; asks = refl; fixes = refl });
  timers = record { asks = record { in_order = refl; exact = λ n. refl }; fixes = record { in_order = refl; exact = λ n. refl } };
  senders = tt;
  spelled = tt;
  read = tt;
  session = refl;
  message = refl;
  state = refl;
}

-- noise changes nothing of what the request rests on
asks_right : EntryRight one_of_four 1000000 (record { before = gap ∷ noise 1300000 ∷ []; this = asks })
asks_right = record {
  member = was.member;
  moment = lit≤ tt;
  verdict = was.verdict;
  drawn = was.drawn;
  arms = record { are = record { in_order = was.arms.are.in_order; exact = was.arms.are.exact }; waits = was.arms.waits };
  timers = record { asks = record { in_order = refl; exact = was.timers.asks.exact }; fixes = record { in_order = refl; exact = was.timers.fixes.exact } };
  senders = was.senders;
  spelled = was.spelled;
  read = was.read;
  session = was.session;
  message = was.message;
  state = was.state;
}
  where
    was : EntryRight one_of_four 1000000 (record { before = gap ∷ []; this = asks })
    was = run.each.1.0

replayed_run : IsMemberRun one_of_four 1000000 replayed
replayed_run = record {
  each = (run.each.0, (noise_right, (asks_right, tt)));
  bucket = (idle gap ∷ idle (noise 1300000) ∷ record { entry = asks; goes = classed Shown (Request 1 (named first_stream 1) 0) ∷ [] } ∷ [], refl, (idle_right refl, (idle_right refl, (record { same = refl; at_ticks = tt }, tt))), one_goes 8000 4204 1400000 Shown (classed Shown (Request 1 (named first_stream 1) 0)).item (lit≤ tt, lit≤ tt, tt) (lit≤ tt, lit≤ tt, tt));
}

-- of a list that is used up comes 0, which chooses the least of each range
by_words : IsRunByWords next_listed one_of_four 1000000 [] done
by_words = record { run = run; to = []; words = (refl, (refl, refl)) }

replayed_by_words : IsRunByWords next_listed one_of_four 1000000 [] replayed
replayed_by_words = record { run = replayed_run; to = []; words = (refl, (refl, refl)) }

pub does_the_same : acting replayed ≡ acting done
does_the_same = replay_law next_listed one_of_four 1000000 [] done replayed (lit< tt) by_words replayed_by_words refl

pub decided : acting done ≡ acting replayed
decided = agreement_law next_listed one_of_four 1000000 [] replayed done (lit< tt) replayed_by_words by_words refl

pub noise_is_unseen : AllByRecursion RestsUnseen replayed
noise_is_unseen = unseen_law one_of_four 1000000 replayed replayed_run
