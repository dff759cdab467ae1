-- How far the streams of a source go, by the rows with which it was settled.
use Rattle.std.specs.Prelude.{◌≡◌, ℕ, ◌==◌, List, find, slice_index_or, if◌then◌else◌, Option, Some, None, option_map, unwrap_or}
use Rattle.srm_names.specs.declared.stream.Stream.{Stream}
use Rattle.srm_names.specs.FullName.{FullName}
use Rattle.srm_names.specs.Histories.{or_else, first_of}
use Rattle.srm_names.specs.Names.{same_stream}

-- a member was settled with these rows
pub record Settling : Type 0 where
  pub member : ℕ
  pub rows : List FullName

abbrev pub rows_for : ℕ → Settling → Option (List FullName)
rows_for member s = if s.member == member then Some s.rows else None

-- the rows of a member: those of its first settling
abbrev pub rows_of : List Settling → ℕ → Option (List FullName)
rows_of settled member = first_of (rows_for member) settled

-- the number that the rows have for a stream, where they have one
abbrev pub number_in_rows : List FullName → Stream → Option ℕ
number_in_rows rows s = option_map (λ row. row.number) (find (λ row. same_stream s row.stream) rows)

-- and 0 where they have none
abbrev pub row_number : List FullName → Stream → ℕ
row_number rows s = unwrap_or (number_in_rows rows s) 0

abbrev pub final_in : Option (List FullName) → Stream → Option ℕ
final_in None s = None
final_in (Some rows) s = Some (row_number rows s)

-- how far the stream goes, where its source was settled
abbrev pub final : List Settling → Stream → Option ℕ
final settled s = final_in (rows_of settled s.source) s

-- the rows that are kept of each member, and room for those of one more
pub record FinalsContent : Type 0 where
  pub settled : List (Option (List FullName))
  pub room : ℕ

abbrev pub rows_kept : FinalsContent → ℕ → Option (List FullName)
rows_kept finals member = slice_index_or finals.settled member None

pub record SameFinals (old new : FinalsContent) : Type 0 where
  pub each : (m : ℕ) → rows_kept new m ≡ rows_kept old m

-- the rows of a member are kept, unless it was settled before
pub record Settles (member : ℕ) (rows : List FullName) (old new : FinalsContent) : Type 0 where
  pub each : (m : ℕ) → rows_kept new m ≡ (if m == member then or_else (rows_kept old m) (Some rows) else rows_kept old m)
