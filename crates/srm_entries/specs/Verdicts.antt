-- What a call is answered: the first refusal or cause that holds, else done.
use Rattle.std.specs.Prelude.{◌≡◌, ◌≢◌, ℕ, ◌==◌, nat_lt, nat_le, Bool, true, false, not, ◌&&◌, ◌||◌, List, [], ◌∷◌, ◌++◌, length, map, filter, if◌then◌else◌, Option, Some, None}
use Rattle.std.specs.List.{list_any, filter_map}
use Rattle.srm_names.specs.declared.limits.TheConstants.{PAGES, DRAWOPS, LONGEST_BODY}
use Rattle.srm_names.specs.declared.page.Page.{Page}
use Rattle.srm_names.specs.declared.stream.Stream.{Stream}
use Rattle.srm_names.specs.declared.drawop.Drawop.{Drawop}
use Rattle.srm_names.specs.FullName.{FullName}
use Rattle.srm_names.specs.Histories.{firsts}
use Rattle.srm_names.specs.Names.{same_page, same_stream, stream_on}
use Rattle.srm_codec.specs.declared.datagram.Datagram.{Datagram}
use Rattle.srm_codec.specs.declared.fault.DecodeFault.{DecodeFault}
use Rattle.srm_codec.specs.declared.fault.DecodeFault.TheVariants as decoding
use Rattle.srm_codec.specs.Spelling.{sender_of, names_in, is_farewell}
use Rattle.srm_store.specs.Held.{same_drawop}
use Rattle.srm_store.specs.Finals.{Settling, rows_of, row_number}
use Rattle.srm_store.specs.Finals as finals
use Rattle.srm_entries.specs.Configs.{Config}
use Rattle.srm_entries.specs.declared.entry.Entry.{Entry}
use Rattle.srm_entries.specs.declared.cause.Cause.TheVariants as causes
use Rattle.srm_entries.specs.declared.fault.AgentFault.TheVariants as faults
use Rattle.srm_entries.specs.declared.entry.Input.{Input}
use Rattle.srm_entries.specs.declared.entry.Input.TheVariants.{Drew, Heard, Noise, Showed, AskedLeave}
use Rattle.srm_entries.specs.declared.entry.Verdict.{Verdict}
use Rattle.srm_entries.specs.declared.entry.Verdict.TheVariants.{Done, Ignored, Refused}
use Rattle.srm_entries.specs.Entries.{accepted, state, is_gone, is_leaving, slots, drawn, held_at, known, drawops_in}

-- the rows of a farewell, and whose they are
abbrev pub settling_of : Option Datagram → Option Settling
settling_of None = None
settling_of (Some g) = if is_farewell g then Some (record { member = sender_of g; rows = names_in g }) else None

abbrev pub settlings : List Entry → List Settling
settlings es = filter_map (λ e. settling_of (accepted e)) es

-- the rows of the farewell that was heard of a source
abbrev pub told : List Entry → ℕ → Option (List FullName)
told es source = rows_of (settlings es) source

-- how far the stream goes, where its source is known to have left
abbrev pub final : List Entry → Stream → Option ℕ
final es s = finals.final (settlings es) s

-- how many drawops this member drew in a stream
abbrev pub drawn_in : List Entry → Stream → ℕ
drawn_in es s = length (filter (λ d. same_stream s d.name.stream) (drawn es))

abbrev pub exceeds : ℕ → Option ℕ → Bool
exceeds n None = false
exceeds n (Some bound) = nat_lt bound n

-- a number above the final of its stream, or of this member's own above what it drew
abbrev pub is_beyond : ℕ → List Entry → FullName → Bool
is_beyond me es n = exceeds n.number (final es n.stream) || (n.stream.source == me) && nat_lt (drawn_in es n.stream) n.number

-- a farewell that says less than is known already
abbrev pub says_too_little : List Entry → Datagram → Bool
says_too_little es g = is_farewell g && list_any (λ page. nat_lt (row_number (names_in g) (stream_on (sender_of g) page)) (known es (stream_on (sender_of g) page))) (slots es)

abbrev pub differs : Drawop → Option Drawop → Bool
differs d None = false
differs d (Some other) = not (same_drawop d other)

abbrev pub is_stranger : Config → Datagram → Bool
is_stranger c g = nat_le c.members (sender_of g) || list_any (λ n. nat_le c.members n.stream.source) (names_in g)

abbrev pub lacks_slots_for : List Entry → List Page → Bool
lacks_slots_for es pages = nat_lt PAGES (length (firsts same_page (slots es ++ pages)))

-- the first of the causes that holds
abbrev pub first_cause : List (Bool × Verdict) → Verdict
first_cause [] = Done
first_cause (c ∷ cs) = if c.0 then c.1 else first_cause cs

abbrev pub verdict_of : Config → List Entry → Input → Verdict
verdict_of c es (Drew page body) = first_cause (
    (is_gone (state es), Refused faults.Gone)
    ∷ (is_leaving (state es), Refused faults.Leaving)
    ∷ (nat_lt LONGEST_BODY (length body), Refused faults.BodyLong)
    ∷ (lacks_slots_for es (page ∷ []), Refused faults.PageLimit)
    ∷ (nat_le DRAWOPS (drawn_in es (stream_on c.me page)), Refused faults.StreamFull) ∷ [])
verdict_of c es (Heard g) = first_cause (
    (is_gone (state es), Ignored causes.Gone)
    ∷ (sender_of g == c.me, Ignored causes.Own)
    ∷ (is_stranger c g, Ignored causes.Stranger)
    ∷ (lacks_slots_for es (map (λ n. n.stream.page) (names_in g)), Ignored causes.PageLimit)
    ∷ (list_any (is_beyond c.me es) (names_in g) || says_too_little es g, Ignored causes.BeyondFinal)
    ∷ (list_any (λ d. differs d (held_at es d.name)) (drawops_in (Some g)), Ignored causes.Conflict) ∷ [])
verdict_of c es (Showed page) = first_cause (
    (is_gone (state es), Refused faults.Gone)
    ∷ (lacks_slots_for es (page ∷ []), Refused faults.PageLimit) ∷ [])
verdict_of c es AskedLeave = first_cause (
    (is_gone (state es), Refused faults.Gone)
    ∷ (is_leaving (state es), Refused faults.Leaving) ∷ [])
verdict_of c es _ = Done

-- a fault of bytes, which is none of memory
abbrev pub IsOfBytes : Verdict → Type 0
IsOfBytes v = (fault : DecodeFault) × (fault ≢ decoding.Memory) × (v ≡ Ignored (causes.Decode fault))

abbrev pub noise_right : Bool → Verdict → Type 0
noise_right true v = v ≡ Ignored causes.Gone
noise_right false v = IsOfBytes v

-- A gone agent hears nothing, so what comes to it is noise.
abbrev pub VerdictRight : Config → List Entry → Input → Verdict → Type 0
VerdictRight c es Noise v = noise_right (is_gone (state es)) v
VerdictRight c es (Heard g) v = (is_gone (state es) ≡ false) × (v ≡ verdict_of c es (Heard g))
VerdictRight c es input v = v ≡ verdict_of c es input
