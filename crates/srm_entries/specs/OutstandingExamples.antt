-- What is outstanding, at worked examples.
use Rattle.std.specs.Prelude.{◌≡◌, ℕ, true, false, List, [], ◌∷◌, ◌++◌, map, length, Some, None, refl}
use Rattle.srm_names.specs.Histories.{count_up}
use Rattle.srm_names.specs.Names.{first_page, named, names_up_to, stream_on}
use Rattle.srm_codec.specs.declared.datagram.Datagram.TheVariants.{Data, Request, Repair, Session}
use Rattle.srm_codec.specs.Spelling.{bits_set}
use Rattle.srm_codec.specs.declared.fault.DecodeFault.TheVariants as decoding
use Rattle.srm_bucket.specs.declared.class.Class.{Class}
use Rattle.srm_bucket.specs.declared.class.Class.TheVariants.{Shown, New, Other}
use Rattle.srm_bucket.specs.Classes.{queued}
use Rattle.srm_entries.specs.declared.entry.Entry.{Entry}
use Rattle.srm_entries.specs.declared.entry.Input.TheVariants.{Heard, Noise}
use Rattle.srm_entries.specs.declared.cause.Cause.TheVariants as causes
use Rattle.srm_entries.specs.declared.entry.Verdict.TheVariants.{Done, Ignored}
use Rattle.srm_entries.specs.Bucket.{Going, idle, bucket_calls}
use Rattle.srm_entries.specs.Outstanding.{missing_of, missing_on, missing_in_all, next_missing, becomes_missing, heard_next}
use Rattle.srm_entries.specs.Sample.{trio, first_stream, drawop_of, draws, hears, full, elsewhere, known_three}

-- the third of three drawops is held, so two are missing; a repair of the first leaves one
abbrev repaired : List Entry
repaired = known_three ++ hears 1 2 (Repair 2 (drawop_of 1 0 [])) [] ∷ []

by_source : map (missing_of known_three first_page) (0 ∷ 1 ∷ []) ≡ 2 ∷ 0 ∷ []
by_source = refl

counted : map missing_in_all ([] ∷ known_three ∷ repaired ∷ []) ≡ 0 ∷ 2 ∷ 1 ∷ []
counted = refl

first_above : map (next_missing known_three first_stream) (0 ∷ 1 ∷ 2 ∷ []) ≡ Some (named first_stream 1) ∷ Some (named first_stream 2) ∷ None ∷ []
first_above = refl

first_unrepaired : next_missing repaired first_stream 0 ≡ Some (named first_stream 2)
first_unrepaired = refl

-- a session message with rows on two pages: three names of the one and two of the other
abbrev told_of_two : List Entry
told_of_two = hears 1 1 (Session 2 5 false first_page (named first_stream 3 ∷ named (stream_on 0 elsewhere) 2 ∷ []) []) [] ∷ []

by_page : map (missing_on told_of_two) (first_page ∷ elsewhere ∷ []) ≡ 3 ∷ 2 ∷ []
by_page = refl

on_both : missing_in_all told_of_two ≡ 5
on_both = refl

-- a request for 4 and, by bit 1 of its mask, for 6 makes three names missing
by_a_mask : map (becomes_missing known_three (hears 1 2 (Request 2 (named first_stream 4) 2) [])) (names_up_to first_stream 7) ≡ false ∷ false ∷ false ∷ true ∷ true ∷ true ∷ false ∷ []
unfolding bits_set
by_a_mask = refl

-- data makes those below it missing, and noise none
by_data : map (becomes_missing known_three (heard_next (trio 1) known_three (Heard (Data (drawop_of 5 0 [])), Done))) (names_up_to first_stream 6) ≡ false ∷ false ∷ false ∷ true ∷ false ∷ false ∷ []
by_data = refl

by_noise : map (becomes_missing known_three (heard_next (trio 1) known_three (Noise, Ignored (causes.Decode decoding.Short)))) (names_up_to first_stream 6) ≡ map (λ n. false) (count_up 1 6)
by_noise = refl

-- what was drawn waits as new data
abbrev five_drawn : List Going
five_drawn = map (λ n. idle (draws 0 1 (full n))) (count_up 1 5)

waiting : map (λ (class : Class). length (queued (bucket_calls 0 five_drawn) class)) (Shown ∷ New ∷ Other ∷ []) ≡ 0 ∷ 5 ∷ 0 ∷ []
waiting = refl
