-- The table has what the definitions compute.
use Rattle.std.proofs.Common.{◌≡◌, ℕ, ◌+◌, ◌*◌, ◌<◌, List, get_or, map, refl, arith, ap, ◌∙◌}
use Rattle.std.specs.List.{range_with_len}
use Rattle.std.proofs.lemmas.List.FromFn.{get_or-map-range_with_len}
use Rattle.srm_frames.specs.declared.remainders.TheConstants.{REMAINDERS}
use Rattle.srm_frames.specs.Checksums.{remainder_after}

remainders : ℕ → List ℕ
remainders behind = map (remainder_after (8 * behind + 8)) (range_with_len 0 256)

table : REMAINDERS ≡ map remainders (range_with_len 0 16)
unfolding remainders remainder_after
table = refl

pub remainder_at : (behind low : ℕ) (other : List ℕ) → behind < 16 → low < 256 → get_or (get_or REMAINDERS behind other) low 0 ≡ remainder_after (8 * behind + 8) low
unfolding remainders
remainder_at behind low other few byte =
    ap (λ rows. get_or (get_or rows behind other) low 0) table
    ∙ ap (λ xs. get_or xs low 0) (get_or-map-range_with_len remainders 0 16 behind behind other few (omega arith))
    ∙ get_or-map-range_with_len (remainder_after (8 * behind + 8)) 0 256 low low 0 byte (omega arith)
