-- Lists that page workers took, beside the calls told of their members, in examples.
use Rattle.std.specs.Prelude.{[], ◌∷◌, refl}
use Rattle.srm_names.specs.declared.page_msg.PageMsg.TheVariants.{Close}
use Rattle.srm_audit.specs.declared.got.Got.{Got}
use Rattle.srm_audited.specs.Verdicts.{IsGiven, IsUngiven}

abbrev none_taken : Got
none_taken = record { member = 3; slot = 0; list = [] }

abbrev one_taken : Got
one_taken = record { member = 3; slot = 1; list = Close ∷ [] }

-- who has no record gave nothing, and nothing is a prefix of that
nothing_is_given : IsGiven [] none_taken
nothing_is_given = ([], refl)

-- the second list is the first that isn't
a_message_is_not : IsUngiven [] (none_taken ∷ one_taken ∷ one_taken ∷ []) 3 1
a_message_is_not = record {
  place = 1;
  got = one_taken;
  here = refl;
  before = (nothing_is_given, tt);
  ungiven = λ p. absurd cc;
  member_is = refl;
  slot_is = refl;
}
