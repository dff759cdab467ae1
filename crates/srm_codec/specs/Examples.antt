-- The definitions at worked examples.
use Rattle.std.specs.Prelude.{◌≡◌, ℕ, List, [], ◌∷◌, ◌++◌, length, replicate, Result, Ok, Err, true, false, take, refl}
use Rattle.std.proofs.Common.{inl, inr}
use Rattle.srm_names.specs.declared.stream.Stream.{Stream}
use Rattle.srm_names.specs.Names.{first_page, named, stream_on}
use Rattle.srm_codec.specs.declared.datagram.Datagram.{Datagram}
use Rattle.srm_codec.specs.declared.datagram.Datagram.TheVariants.{Data, Request, Session}
use Rattle.srm_codec.specs.declared.fault.DecodeFault.TheVariants.{Short, Number, Length, Order, Source, Memory}
use Rattle.srm_codec.specs.declared.fault.DecodeFault.{DecodeFault}
use Rattle.srm_codec.specs.declared.fault.DecodeFault.TheVariants as faults
use Rattle.srm_codec.specs.Spelling.{bits_set, head, page_bytes, name_bytes, drawop_bytes, echo_bytes, request_bytes, spelling}
use Rattle.srm_codec.specs.Reading.{IsJudged, takes_memory}
use Rattle.srm_codec.specs.Judging.{prefix_at, judge, magic_at, version_at, kind_at, session_at, member_at, moment_at, page_at, source_at, stream_at, name_at, body_at, drawop_at, only_drawop, mask_at, flag_at, echo_at, items_at, list_at, any_stream_at, number_in_stream_at, echo_member_at, size_at, data_of, request_of, packed_of, repair_of, session_of, contents_of}

abbrev zero_stream : Stream
zero_stream = stream_on 0 first_page

abbrev hi : Datagram
hi = Data (record { name = named zero_stream 1; stamp = 0; body = 0x68 ∷ 0x69 ∷ [] })

abbrev hi_bytes : List ℕ
hi_bytes = 0x53 ∷ 0x52 ∷ 1 ∷ 1 ∷ 0 ∷ 0 ∷ 0 ∷ 7 ∷ 0 ∷ 0 ∷ 0 ∷ 0 ∷ 0 ∷ 0 ∷ 0 ∷ 0 ∷ 1 ∷ 0 ∷ 0 ∷ 0 ∷ 0 ∷ 0 ∷ 0 ∷ 0 ∷ 0 ∷ 0 ∷ 2 ∷ 0x68 ∷ 0x69 ∷ []

spelled : spelling 7 hi ≡ hi_bytes
unfolding head page_bytes name_bytes drawop_bytes echo_bytes request_bytes spelling
spelled = refl

read : judge 7 hi_bytes ≡ Ok hi
unfolding bits_set head page_bytes name_bytes drawop_bytes echo_bytes request_bytes spelling prefix_at judge magic_at version_at kind_at session_at member_at moment_at page_at source_at stream_at name_at body_at drawop_at only_drawop mask_at flag_at echo_at items_at list_at any_stream_at number_in_stream_at echo_member_at size_at data_of request_of packed_of repair_of session_of contents_of
read = refl

one_more : judge 7 (hi_bytes ++ 0 ∷ []) ≡ Err Length
unfolding bits_set head page_bytes name_bytes drawop_bytes echo_bytes request_bytes spelling prefix_at judge magic_at version_at kind_at session_at member_at moment_at page_at source_at stream_at name_at body_at drawop_at only_drawop mask_at flag_at echo_at items_at list_at any_stream_at number_in_stream_at echo_member_at size_at data_of request_of packed_of repair_of session_of contents_of
one_more = refl

one_less : judge 7 (take 28 hi_bytes) ≡ Err Short
unfolding bits_set head page_bytes name_bytes drawop_bytes echo_bytes request_bytes spelling prefix_at judge magic_at version_at kind_at session_at member_at moment_at page_at source_at stream_at name_at body_at drawop_at only_drawop mask_at flag_at echo_at items_at list_at any_stream_at number_in_stream_at echo_member_at size_at data_of request_of packed_of repair_of session_of contents_of
one_less = refl

none : judge 7 [] ≡ Err Short
unfolding bits_set head page_bytes name_bytes drawop_bytes echo_bytes request_bytes spelling prefix_at judge magic_at version_at kind_at session_at member_at moment_at page_at source_at stream_at name_at body_at drawop_at only_drawop mask_at flag_at echo_at items_at list_at any_stream_at number_in_stream_at echo_member_at size_at data_of request_of packed_of repair_of session_of contents_of
none = refl

-- asks 1, 3, 33 and 34: the mask of the first names 3 and 33
packed : spelling 7 (Request 1 (named zero_stream 1) 0x80000002) ≡ 0x53 ∷ 0x52 ∷ 2 ∷ 2 ∷ 0 ∷ 0 ∷ 0 ∷ 7 ∷ 1 ∷ 0 ∷ 0 ∷ 0 ∷ 0 ∷ 0 ∷ 0 ∷ 0 ∷ 1 ∷ 0x80 ∷ 0 ∷ 0 ∷ 2 ∷ []
unfolding head page_bytes name_bytes drawop_bytes echo_bytes request_bytes spelling
packed = refl

packed_read : judge 7 (spelling 7 (Request 1 (named zero_stream 1) 0x80000002)) ≡ Ok (Request 1 (named zero_stream 1) 0x80000002)
unfolding bits_set head page_bytes name_bytes drawop_bytes echo_bytes request_bytes spelling prefix_at judge magic_at version_at kind_at session_at member_at moment_at page_at source_at stream_at name_at body_at drawop_at only_drawop mask_at flag_at echo_at items_at list_at any_stream_at number_in_stream_at echo_member_at size_at data_of request_of packed_of repair_of session_of contents_of
packed_read = refl

mask_zero : judge 7 (take 17 (spelling 7 (Request 1 (named zero_stream 1) 2)) ++ 0 ∷ 0 ∷ 0 ∷ 0 ∷ []) ≡ Err Number
unfolding bits_set head page_bytes name_bytes drawop_bytes echo_bytes request_bytes spelling prefix_at judge magic_at version_at kind_at session_at member_at moment_at page_at source_at stream_at name_at body_at drawop_at only_drawop mask_at flag_at echo_at items_at list_at any_stream_at number_in_stream_at echo_member_at size_at data_of request_of packed_of repair_of session_of contents_of
mask_zero = refl

mask_past : judge 7 (spelling 7 (Request 1 (named zero_stream 65536) 2)) ≡ Err Number
unfolding bits_set head page_bytes name_bytes drawop_bytes echo_bytes request_bytes spelling prefix_at judge magic_at version_at kind_at session_at member_at moment_at page_at source_at stream_at name_at body_at drawop_at only_drawop mask_at flag_at echo_at items_at list_at any_stream_at number_in_stream_at echo_member_at size_at data_of request_of packed_of repair_of session_of contents_of
mask_past = refl

session_spelled : judge 7 (spelling 7 (Session 3 1000000 false first_page (named zero_stream 3 ∷ []) (record { member = 1; t1 = 1000000; delay = 30000 } ∷ []))) ≡ Ok (Session 3 1000000 false first_page (named zero_stream 3 ∷ []) (record { member = 1; t1 = 1000000; delay = 30000 } ∷ []))
unfolding bits_set head page_bytes name_bytes drawop_bytes echo_bytes request_bytes spelling prefix_at judge magic_at version_at kind_at session_at member_at moment_at page_at source_at stream_at name_at body_at drawop_at only_drawop mask_at flag_at echo_at items_at list_at any_stream_at number_in_stream_at echo_member_at size_at data_of request_of packed_of repair_of session_of contents_of
session_spelled = refl

session_length : length (spelling 7 (Session 3 1000000 false first_page (named zero_stream 3 ∷ []) (record { member = 1; t1 = 1000000; delay = 30000 } ∷ []))) ≡ 48
unfolding head page_bytes name_bytes drawop_bytes echo_bytes request_bytes spelling
session_length = refl

twice_a_row : judge 7 (spelling 7 (Session 3 1000000 false first_page (named zero_stream 3 ∷ named zero_stream 3 ∷ []) [])) ≡ Err Order
unfolding bits_set head page_bytes name_bytes drawop_bytes echo_bytes request_bytes spelling prefix_at judge magic_at version_at kind_at session_at member_at moment_at page_at source_at stream_at name_at body_at drawop_at only_drawop mask_at flag_at echo_at items_at list_at any_stream_at number_in_stream_at echo_member_at size_at data_of request_of packed_of repair_of session_of contents_of
twice_a_row = refl

farewell_of_another : judge 7 (spelling 7 (Session 3 1000000 true first_page (named zero_stream 3 ∷ []) [])) ≡ Err Source
unfolding bits_set head page_bytes name_bytes drawop_bytes echo_bytes request_bytes spelling prefix_at judge magic_at version_at kind_at session_at member_at moment_at page_at source_at stream_at name_at body_at drawop_at only_drawop mask_at flag_at echo_at items_at list_at any_stream_at number_in_stream_at echo_member_at size_at data_of request_of packed_of repair_of session_of contents_of
farewell_of_another = refl

largest : length (spelling 7 (Data (record { name = named zero_stream 1; stamp = 0; body = replicate 1024 7 }))) ≡ 1051
unfolding head page_bytes name_bytes drawop_bytes echo_bytes request_bytes spelling
largest = refl

-- ---- out of memory: only for a valid datagram that isn't a request

abbrev memory : Result Datagram DecodeFault
memory = Err Memory

other_session : judge 8 hi_bytes ≡ Err faults.Session
unfolding bits_set head page_bytes name_bytes drawop_bytes echo_bytes request_bytes spelling prefix_at judge magic_at version_at kind_at session_at member_at moment_at page_at source_at stream_at name_at body_at drawop_at only_drawop mask_at flag_at echo_at items_at list_at any_stream_at number_in_stream_at echo_member_at size_at data_of request_of packed_of repair_of session_of contents_of
other_session = refl

a_fault_stands : IsJudged takes_memory memory (Err faults.Session) → ⊥
a_fault_stands (inl e) = absurd cc
a_fault_stands (inr e) = absurd (let k = e.2 in cc)

a_request_stands : IsJudged takes_memory memory (Ok (Request 1 (named zero_stream 1) 0)) → ⊥
a_request_stands (inl e) = absurd cc
a_request_stands (inr e) = absurd (let k = e.2 in let t = e.3 in cc)

data_may_be_refused : IsJudged takes_memory memory (Ok hi)
data_may_be_refused = inr (refl, hi, refl, refl)
