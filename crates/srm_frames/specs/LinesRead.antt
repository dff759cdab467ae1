-- What reading lines answers, step by step.
use Rattle.std.specs.Prelude.{◌≡◌, ℕ, true, false, List, [], ◌++◌, length, Option, Some, None, Result, Ok, Err, Vec}
use Rattle.std.specs.List.{AllByRecursion}
use Rattle.std.specs.Global.{Global}
use Rattle.srm_codec.specs.Spelling.{AreBytes}
use Rattle.srm_frames.specs.declared.fault.RecordFault.{RecordFault}
use Rattle.srm_frames.specs.declared.fault.RecordFault.TheVariants.{Frame, Memory}
use Rattle.srm_frames.specs.declared.line.Line.{Line}
use Rattle.srm_frames.specs.declared.reading.RecordEnd.{RecordEnd}
use Rattle.srm_frames.specs.Lines.{line_text, lines_text}
use Rattle.srm_frames.specs.WhatIsRead.{IsLine, HasNoLine, AreAllLines, HasFrame, has_end, EndsSo}

-- a line was read, with these bytes left
pub record IsNext (old : List ℕ) (l : Line) (new : List ℕ) : Type 0 where
  pub text : old ≡ line_text l ++ new
  pub is : IsLine l
  pub bytes : AreBytes new

-- The next line; none where no frame stands; and a frame that is no line's is a fault.
abbrev pub IsNextLine : ℕ → Result (Option Line) RecordFault → List ℕ → List ℕ → Type 0
IsNextLine place (Ok (Some l)) old new = IsNext old l new
IsNextLine place (Ok None) old new = (new ≡ old) × (HasFrame old → ⊥)
IsNextLine place (Err (Frame n)) old new = (n ≡ place) × HasFrame old × HasNoLine old
IsNextLine place (Err Memory) old new = Unit {0}
IsNextLine place (Err _) old new = ⊥

-- lines so far, none of them the end
pub record SoFar (first : List ℕ) (lines : List Line) (now : List ℕ) : Type 0 where
  pub text : first ≡ lines_text lines ++ now
  pub all : AllByRecursion IsLine lines
  pub unended : has_end lines ≡ false
  pub bytes : AreBytes now

-- lines, up to the end or to where no frame stands
pub record AreRead (old : List ℕ) (ls : List Line) (new : List ℕ) : Type 0 where
  pub text : old ≡ lines_text ls ++ new
  pub lines : AreAllLines ls new
  pub stops : has_end ls ≡ false → HasFrame new → ⊥

-- lines, and behind them a frame that is no line's
pub record AreCutShort (old : List ℕ) (n : ℕ) : Type 0 where
  pub lines : List Line
  pub rest : List ℕ
  pub text : old ≡ lines_text lines ++ rest
  pub all : AreAllLines lines rest
  pub unended : has_end lines ≡ false
  pub place : length lines ≡ n
  pub has : HasFrame rest

abbrev pub AreLinesAt : Result (Vec Line Global) RecordFault → List ℕ → List ℕ → Type 0
AreLinesAt (Ok lines) old new = AreRead old lines.items new
AreLinesAt (Err (Frame n)) old new = AreCutShort old n
AreLinesAt (Err Memory) old new = Unit {0}
AreLinesAt (Err _) old new = ⊥

-- how lines end with these bytes behind them, or bytes stand behind the end
abbrev pub IsEndOf : Result RecordEnd RecordFault → List Line → List ℕ → Type 0
IsEndOf (Ok end) lines rest = (has_end lines ≡ false → HasFrame rest → ⊥) → EndsSo lines end rest
IsEndOf (Err (Frame n)) lines rest = (length lines ≡ n) × (has_end lines ≡ true) × (rest ≡ [] → ⊥)
IsEndOf (Err _) lines rest = ⊥
