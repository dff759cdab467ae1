-- Records that were read, one behind another.
use Rattle.std.proofs.Common.{◌≡◌, ℕ, List, [], ◌∷◌, ◌++◌, length, sym, ◌∙◌, arith}
use Rattle.std.proofs.lemmas.List.{length-map}
use Rattle.std.proofs.lemmas.List.Elements.{All-push}
use denote.Ref.{Bor}
use Rattle.srm_frames.specs.declared.reading.Record.{Record}
use Rattle.srm_verdicts.specs.Shown.{IsOfBytes, AreOfBytes, AreRead}
use Rattle.srm_verdicts.specs.VerdictTexts.{paths_of}

pub none_yet : (rs : List Record) → rs ≡ [] → AreOfBytes rs
none_yet rs none = rw none (record { each = λ k d below. absurd (omega (arith, below)) })

pub one_more : (rs new : List Record) (r : Record) → new ≡ rs ++ r ∷ [] → AreOfBytes rs → IsOfBytes r → AreOfBytes new
one_more rs new r is all one = rw is (record { each = All-push IsOfBytes rs r all.each one })

-- the records of all paths
pub are_read : (paths : List (Bor (List ℕ))) (rs : List Record) → length rs ≡ length paths → AreOfBytes rs → AreRead (paths_of paths) rs
are_read paths rs count each = record { count = count ∙ sym (length-map paths (λ (path : Bor (List ℕ)). path.now)); of = each }
