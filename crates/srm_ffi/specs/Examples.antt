-- The definitions at worked examples.
use Rattle.std.specs.Prelude.{◌≡◌, ℕ, [], ◌∷◌, map, Some, None, Ok, Err, refl}
use Rattle.srm_names.specs.declared.page_msg.PageMsg.TheVariants.{Draw, Left, Close}
use Rattle.srm_names.specs.declared.drawop.Drawop.{Drawop}
use Rattle.srm_names.specs.FullName.{FullName}
use Rattle.srm_codec.specs.declared.fault.DecodeFault.TheVariants.{Magic}
use Rattle.srm_entries.specs.declared.fault.AgentFault.TheVariants.{BodyLong}
use Rattle.srm_entries.specs.declared.cause.Cause.TheVariants.{Decode, Stranger}
use Rattle.srm_entries.specs.declared.cause.Outcome.TheVariants.{Taken, Ignored}
use Rattle.srm_ffi.specs.Codes.{cause_of, code_of, decode_fault_of, or_never}
use Rattle.srm_entries.specs.declared.state.AgentState.TheVariants.{Leaving}
use Rattle.srm_ffi.specs.Shapes.{body_of, raw_message, raw_outstanding}
use Rattle.srm_ffi.specs.Calls.{stream_named, written}

-- ---- codes: what is ignored has its cause, and noise its fault too

causes : map cause_of (Taken ∷ Ignored (Decode Magic) ∷ Ignored Stranger ∷ []) ≡ 0 ∷ 6 ∷ 7 ∷ []
causes = refl

faults : map decode_fault_of (Taken ∷ Ignored (Decode Magic) ∷ Ignored Stranger ∷ []) ≡ 0 ∷ 2 ∷ 0 ∷ []
faults = refl

done : code_of {A = ℕ} (Ok 9) ≡ 0
done = refl

too_long : code_of {A = ℕ} (Err BodyLong) ≡ 5
too_long = refl

moments : map or_never (Some 7 ∷ None ∷ []) ≡ 7 ∷ 18446744073709551615 ∷ []
moments = refl

-- ---- what is written where a call is done, and where it is refused

is_written : written (λ (n : ℕ). n) (Ok 3) 8 ≡ 3
is_written = refl

stays : written (λ (n : ℕ). n) (Err BodyLong) 8 ≡ 8
stays = refl

-- ---- messages: the second stroke of member 3 on page 5 of member 1, of two bytes

abbrev name : FullName
name = record { stream = record { source = 3; page = record { creator = 1; number = 5 } }; number = 2 }

abbrev drawn : Drawop
drawn = record { name = name; stamp = 40; body = 8 ∷ 9 ∷ [] }

stroke : raw_message (Draw drawn) ≡ record { stamp = 40; length = 2; name = record { page = record { creator = 1; number = 5 }; source = 3; number = 2 }; kind = 2 }
stroke = refl

left : raw_message (Left 3) ≡ record { stamp = 0; length = 0; name = record { page = record { creator = 0; number = 0 }; source = 3; number = 0 }; kind = 3 }
left = refl

bodies : map body_of (Draw drawn ∷ Close ∷ []) ≡ (8 ∷ 9 ∷ []) ∷ [] ∷ []
bodies = refl

-- ---- streams that C names: a creator that isn't there is refused before a source

named_streams : map (λ (n : ℕ × ℕ). stream_named n.0 5 n.1) ((1, 3) ∷ (32, 32) ∷ (31, 32) ∷ [])
    ≡ Ok (record { source = 3; page = record { creator = 1; number = 5 } }) ∷ Err 22 ∷ Err 26 ∷ []
named_streams = refl

-- ---- what is outstanding: a member that is leaving, with a request timer and three strokes that wait

waits : raw_outstanding (record { missing = 2; next_request = Some 70; next_repair = None; waiting_shown = 0; waiting_new = 3; waiting_other = 0; state = Leaving })
    ≡ record { next_request_at = 70; next_repair_at = 18446744073709551615; waiting_shown = 0; waiting_new = 3; waiting_other = 0; missing = 2; state = 2 }
waits = refl
