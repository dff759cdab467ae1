-- How many timers calls may set, and where lines first differ, in examples.
use Rattle.std.specs.Prelude.{◌≡◌, ◌^◌, ◌-◌, [], ◌∷◌, refl}
use Rattle.std.proofs.lemmas.Option.{none-some}
use Rattle.srm_frames.specs.declared.line.Call.TheVariants.{Ticked, Ended}
use Rattle.srm_frames.specs.declared.line.Line.{Line}
use Rattle.srm_record.specs.Allowances.{timers_allowed}
use Rattle.srm_record.specs.Differing.{IsFirstOther}

three_lines : timers_allowed 3 ≡ 100300
three_lines = refl

any_lines : timers_allowed (2 ^ 64 - 1) ≡ 2 ^ 64 - 1
any_lines = refl

abbrev tick : Line
tick = record { moment = 10; call = Ticked }

abbrev end : Line
end = record { moment = 10; call = Ended }

-- the end is missing
one_is_missing : IsFirstOther (tick ∷ []) (tick ∷ end ∷ []) 1
one_is_missing = record { before = refl; other = none-some end }
