-- How the bytes of a record are put together.
use Rattle.std.specs.Prelude.{ℕ, ◌<◌, ◌^◌, List, ◌∷◌, ◌++◌, length}
use Rattle.std.specs.Int.{w32, w64, to_be_bytes}
use Rattle.srm_frames.specs.Checksums.{crc_32}

-- bytes, and behind them their checksum
unfoldable pub sealed : List ℕ → List ℕ
sealed bytes = bytes ++ to_be_bytes w32 (crc_32 bytes)

-- a kind, a moment, and the payload behind the length of it
unfoldable pub frame_fields : ℕ → ℕ → List ℕ → List ℕ
frame_fields kind moment payload = kind ∷ to_be_bytes w64 moment ++ to_be_bytes w32 (length payload) ++ payload

abbrev pub frame : ℕ → ℕ → List ℕ → List ℕ
frame kind moment payload = sealed (frame_fields kind moment payload)

-- A kind, a moment and a payload that a frame has room for.
pub record IsFrame (k m : ℕ) (p : List ℕ) : Type 0 where
  pub kind : k < 256
  pub moment : m < 2 ^ 64
  pub payload : length p < 2 ^ 32
