-- Why no script says an honest run, at worked examples.
use Rattle.std.specs.Prelude.{◌≡◌, ◌<◌, true, false, [], ◌∷◌, map, refl, Some, None}
use Rattle.std.proofs.Common.{inl, inr, arith}
use Rattle.srm_names.specs.Names.{first_page}
use Rattle.srm_entries.specs.Configs.{Config}
use Rattle.srm_entries.specs.declared.entry.Input.{Input}
use Rattle.srm_entries.specs.declared.entry.Input.TheVariants.{Drew, Noise, Ticked}
use Rattle.srm_played.specs.declared.limits.TheConstants.{MOST_EVENTS}
use Rattle.srm_verdicts.specs.declared.no_script.NoScript.TheVariants.{MadeLater, Waits, Buckets, Distances, TooLong, TooManyEvents, Unread}
use Rattle.srm_verdicts.specs.Unsaid.{is_event, is_printable, unsaid_of, IsRefusedPicture, IsRefusedScript}

abbrev usual : Config
usual = record { me = 3; members = 5; session = 7; rate = 1000; depth = 2000; c1 = 2; c2 = 2; d1 = 1; d2 = 1; least_distance = 1 }

a_member_as_all_others : unsaid_of usual usual 0 ≡ None
a_member_as_all_others = refl

one_that_was_made_later : unsaid_of usual usual 1 ≡ Some (MadeLater 3)
one_that_was_made_later = refl

one_with_other_waits : unsaid_of usual (record usual { d2 = 2 }) 0 ≡ Some (Waits 3)
one_with_other_waits = refl

one_with_another_bucket : unsaid_of usual (record usual { depth = 2001 }) 0 ≡ Some (Buckets 3)
one_with_another_bucket = refl

one_with_another_floor : unsaid_of usual (record usual { least_distance = 2 }) 0 ≡ Some (Distances 3)
one_with_another_floor = refl

-- from a space to a tilde
strokes_that_a_script_says : map (λ b. is_printable (Drew first_page (b ∷ []))) (31 ∷ 32 ∷ 126 ∷ 127 ∷ []) ≡ false ∷ true ∷ true ∷ false ∷ []
strokes_that_a_script_says = refl

other_calls_are_said : is_printable Ticked ≡ true
other_calls_are_said = refl

-- a script isn't refused to a run that one says but for its length
no_other_cause : IsRefusedScript [] [] Unread → ⊥
no_other_cause (inl is) = cc
no_other_cause (inr is) = cc

a_picture_may_be : IsRefusedPicture [] [] Unread
a_picture_may_be = inr (inr refl)

-- noise is no event
events : map (λ (i : Input). is_event i) (Ticked ∷ Noise ∷ Drew first_page [] ∷ []) ≡ true ∷ false ∷ true ∷ []
events = refl

-- a picture isn't refused for its events to a run without any
not_for_few : IsRefusedPicture [] [] TooManyEvents → ⊥
not_for_few (inl (inl is)) = cc
not_for_few (inl (inr is)) = cc
not_for_few (inr (inl (is, many))) = let l : MOST_EVENTS < 0 = many in absurd (omega (arith, l))
not_for_few (inr (inr is)) = cc
