-- All that holds of an honest run, and of the run of one member.
use Rattle.std.proofs.Common.{◌≡◌, false, List, [], ◌∷◌, refl}
use Rattle.std.specs.List.{AllByRecursion}
use Rattle.srm_entries.specs.declared.entry.Entry.{Entry}
use Rattle.srm_entries.specs.declared.entry.Input.{Input}
use Rattle.srm_entries.specs.declared.entry.Input.TheVariants.{Drew, Heard, Noise, Ticked, Showed, AskedLeave, Gave, Took}
use Rattle.srm_entries.proofs.Given.{gives_law}
use Rattle.srm_entries.proofs.Rating.{rate_law}
use Rattle.srm_entries.proofs.Responding.{response_law}
use Rattle.srm_world.specs.Traces.{Journal, IsJournal, IsHandable, IsUntaken, CanBeHanded, is_take}
use Rattle.srm_world.specs.Claims.{IsLawfulJournal, LawfulLaw}
use Rattle.srm_world.proofs.Members.{responds_each, gives_each, keeps_rate_each}
use Rattle.srm_world.proofs.Taking.{takes_law}
use Rattle.srm_world.proofs.Resting.{rest_law}
use Rattle.srm_world.proofs.Unrefused.{none_for_memory}

pub lawful : LawfulLaw
lawful t run honest = record {
  run = run;
  honest = honest;
  takes = takes_law t run honest;
  rest = rest_law t run honest;
  responds = responds_each t run;
  gives = gives_each t run;
  rates = keeps_rate_each t run;
}

-- a call that a recorder takes is no take
pub handed_untaken : (input : Input) → CanBeHanded input → is_take input ≡ false
handed_untaken (Drew page body) can = refl
handed_untaken (Heard g) can = refl
handed_untaken Noise can = refl
handed_untaken Ticked can = refl
handed_untaken (Showed page) can = refl
handed_untaken AskedLeave can = refl
handed_untaken (Gave slot) can = refl
handed_untaken (Took slot) can = absurd can

all_untaken : (es : List Entry) → AllByRecursion IsHandable es → AllByRecursion IsUntaken es
all_untaken [] all = tt
all_untaken (e ∷ es) all = (handed_untaken e.input all.0.input, all_untaken es all.1)

pub lawful_journal : (j : Journal) → IsJournal j → IsLawfulJournal j
lawful_journal j h = record {
  run = h.run;
  responds = response_law j.start.config j.start.made j.entries h.run;
  gives = gives_law j.start.config j.start.made j.entries h.run;
  rate = rate_law j.start.config j.start.made j.entries h.run;
  handed = h.handed;
  untaken = all_untaken j.entries h.handed;
  memory = none_for_memory j.start.config j.start.made j.entries h.run;
}
