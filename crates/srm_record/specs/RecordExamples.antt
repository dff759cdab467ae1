-- The worked record of docs/RECORDS.md, by the definitions.
use Rattle.std.specs.Prelude.{◌≡◌, ℕ, List, [], ◌∷◌, Option, Some, None, refl}
use Rattle.std.proofs.Common.{ap, arith}
use Rattle.srm_names.specs.declared.page_msg.PageMsg.TheVariants as messages
use Rattle.srm_names.specs.Names.{first_page}
use Rattle.srm_codec.specs.declared.datagram.Datagram.TheVariants.{Data}
use Rattle.srm_codec.specs.Spelling.{page_bytes}
use Rattle.srm_entries.specs.declared.entry.Entry.{Entry}
use Rattle.srm_entries.specs.Sample.{in_roster, drawop_of, draws, ticks, gives}
use Rattle.srm_world.specs.RecordStarts.{RecordStart}
use Rattle.srm_frames.specs.declared.beginning.Beginning.{Beginning}
use Rattle.srm_frames.specs.declared.line.Call.TheVariants.{Ticked, Gave}
use Rattle.srm_frames.specs.Checksums.{after_byte, crc_32}
use Rattle.srm_frames.specs.Frames.{sealed, frame_fields}
use Rattle.srm_frames.specs.Beginnings.{identity_fields, limit_fields, wait_fields, origin_fields, beginning_fields, beginning_text}
use Rattle.srm_frames.specs.Lines.{line_text, lines_text}
use Rattle.srm_record.specs.Calls.{lines_of}
use Rattle.srm_record.specs.Takes.{takes_at, end_at, lists_in}
use Rattle.srm_record.specs.Records.{whole_record}
use Rattle.srm_record.specs.Begun.{IsRecorded, IsStored, begins_in, beginning_in, begun_with}
use Rattle.srm_record.specs.Writing.{Stays}

abbrev began : Beginning
began = record { config = record (in_roster 0 2 4204) { session = 7 }; made = 5; seed = 9; wall = 1795811000000000 }

it_begins_so : beginning_text began ≡ 0x53 ∷ 0x52 ∷ 0x4d ∷ 0x43 ∷ 0x01 ∷ 0x00 ∷ 0x02 ∷ 0x00 ∷ 0x00 ∷ 0x00 ∷ 0x07 ∷ 0x00 ∷ 0x00 ∷ 0x1f ∷ 0x40 ∷ 0x00 ∷ 0x00 ∷ 0x10 ∷ 0x6c ∷ 0x00 ∷ 0x00 ∷ 0x00 ∷ 0x01 ∷ 0x02 ∷ 0x02 ∷ 0x01 ∷ 0x01 ∷ 0x00 ∷ 0x00 ∷ 0x00 ∷ 0x00 ∷ 0x00 ∷ 0x00 ∷ 0x00 ∷ 0x09 ∷ 0x00 ∷ 0x00 ∷ 0x00 ∷ 0x00 ∷ 0x00 ∷ 0x00 ∷ 0x00 ∷ 0x05 ∷ 0x00 ∷ 0x06 ∷ 0x61 ∷ 0x47 ∷ 0xd4 ∷ 0xbd ∷ 0x1e ∷ 0x00 ∷ 0xb3 ∷ 0x0a ∷ 0xb9 ∷ 0x99 ∷ []
unfolding after_byte crc_32 sealed identity_fields limit_fields wait_fields origin_fields beginning_fields
it_begins_so = refl

abbrev drawn : Entry
drawn = draws 0 10 (drawop_of 1 10 (0x68 ∷ 0x69 ∷ []))

abbrev sent : Entry
sent = ticks 0 20 [] [] [] (Data (drawop_of 1 10 (0x68 ∷ 0x69 ∷ [])) ∷ [])

-- nothing was due
abbrev idle : ℕ → Entry
idle now = ticks 0 now [] [] [] []

a_stroke : lines_text (lines_of 7 (drawn ∷ [])) ≡ 0x01 ∷ 0x00 ∷ 0x00 ∷ 0x00 ∷ 0x00 ∷ 0x00 ∷ 0x00 ∷ 0x00 ∷ 0x0a ∷ 0x00 ∷ 0x00 ∷ 0x00 ∷ 0x05 ∷ 0x00 ∷ 0x00 ∷ 0x00 ∷ 0x68 ∷ 0x69 ∷ 0x56 ∷ 0xec ∷ 0x40 ∷ 0x85 ∷ []
unfolding after_byte crc_32 sealed frame_fields line_text page_bytes
a_stroke = refl

-- a tick has no payload: what it sent is made anew
a_tick : lines_text (lines_of 7 (sent ∷ [])) ≡ 0x03 ∷ 0x00 ∷ 0x00 ∷ 0x00 ∷ 0x00 ∷ 0x00 ∷ 0x00 ∷ 0x00 ∷ 0x14 ∷ 0x00 ∷ 0x00 ∷ 0x00 ∷ 0x00 ∷ 0x27 ∷ 0xde ∷ 0x1b ∷ 0x0e ∷ []
unfolding after_byte crc_32 sealed frame_fields line_text
a_tick = refl

none_of_an_idle_tick : lines_of 7 (idle 20 ∷ []) ≡ []
none_of_an_idle_tick = refl

a_give : lines_text (lines_of 7 (gives 0 20 (Some (messages.Open first_page)) ∷ [])) ≡ 0x06 ∷ 0x00 ∷ 0x00 ∷ 0x00 ∷ 0x00 ∷ 0x00 ∷ 0x00 ∷ 0x00 ∷ 0x14 ∷ 0x00 ∷ 0x00 ∷ 0x00 ∷ 0x01 ∷ 0x00 ∷ 0xa8 ∷ 0x25 ∷ 0x43 ∷ 0xbd ∷ []
unfolding after_byte crc_32 sealed frame_fields line_text
a_give = refl

-- a give has the moment of the call before it, also where that call has no line
a_give_behind_an_idle_tick : lines_of 7 (sent ∷ idle 30 ∷ gives 0 30 (Some (messages.Open first_page)) ∷ []) ≡ record { moment = 20; call = Ticked } ∷ record { moment = 30; call = Gave 0 } ∷ []
a_give_behind_an_idle_tick = refl

what_was_taken : lines_text (takes_at 50 ((messages.Open first_page ∷ []) ∷ [] ∷ [])) ≡ 0x07 ∷ 0x00 ∷ 0x00 ∷ 0x00 ∷ 0x00 ∷ 0x00 ∷ 0x00 ∷ 0x00 ∷ 0x32 ∷ 0x00 ∷ 0x00 ∷ 0x00 ∷ 0x05 ∷ 0x00 ∷ 0x01 ∷ 0x00 ∷ 0x00 ∷ 0x00 ∷ 0x02 ∷ 0x42 ∷ 0x61 ∷ 0xfa ∷ []
unfolding after_byte crc_32 sealed frame_fields line_text page_bytes
what_was_taken = refl

-- the lists of eight slots are read from such lines
what_was_taken_again : lists_in (takes_at 50 ((messages.Open first_page ∷ []) ∷ [] ∷ (messages.Close ∷ []) ∷ [])) ≡ (messages.Open first_page ∷ []) ∷ [] ∷ (messages.Close ∷ []) ∷ [] ∷ [] ∷ [] ∷ [] ∷ [] ∷ []
what_was_taken_again = refl

the_end : line_text (end_at 50) ≡ 0x08 ∷ 0x00 ∷ 0x00 ∷ 0x00 ∷ 0x00 ∷ 0x00 ∷ 0x00 ∷ 0x00 ∷ 0x32 ∷ 0x00 ∷ 0x00 ∷ 0x00 ∷ 0x00 ∷ 0x8e ∷ 0x96 ∷ 0x7e ∷ 0x09 ∷ []
unfolding after_byte crc_32 sealed frame_fields line_text
the_end = refl

-- what a file has taken stays where bytes come behind it, and doesn't where one of them goes
it_grows : Stays (Some (0x53 ∷ [])) (Some (0x53 ∷ 0x52 ∷ []))
it_grows = (0x52 ∷ [], refl)

it_shrinks : Stays (Some (0x53 ∷ 0x52 ∷ [])) (Some (0x53 ∷ [])) → ⊥
it_shrinks (more, is) = let gone : 0x53 ∷ [] ≡ 0x53 ∷ 0x52 ∷ more = is in absurd (cc)

-- a record of this beginning, in a file that held a byte, is stored behind that byte, and not in its place
held_a_byte : IsStored (begun_with began (Some (0x20 ∷ []))) [] [] (Some (0x20 ∷ whole_record began [] []))
held_a_byte = refl

not_in_its_place : (more : List ℕ) → IsStored (begun_with began (Some (0x20 ∷ []))) [] [] (Some (0x21 ∷ more)) → ⊥
not_in_its_place more h = cc

-- what is known of a beginning is all that stands in it
begins_as_it_was : (first : Option (List ℕ)) → beginning_in (begun_with began first) ≡ began
begins_as_it_was first = refl

-- with another seed it begins otherwise
another_seed : (first : Option (List ℕ)) → begun_with (record began { seed = 10 }) first ≡ begun_with began first → ⊥
another_seed first e = let seeds : 10 ≡ 9 = ap (λ (r : RecordStart). r.seed) e in omega (arith, seeds)

-- a history without a file is written to no record
no_file_no_record : begins_in None ≡ None
no_file_no_record = refl

-- and leaves no file; one that is written to a record leaves its file, and not none
leaves_no_file : IsRecorded {F = List ℕ} Some None [] [] None
leaves_no_file = refl

not_without_its_file : (r : RecordStart) → IsRecorded {F = List ℕ} Some (Some r) [] [] None → ⊥
not_without_its_file r h = h
