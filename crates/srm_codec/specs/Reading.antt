-- What a reader of bytes answers, against a definition that reads from a list.
use Rattle.std.specs.Prelude.{◌≡◌, ◌⊎◌, ℕ, Bool, true, false, List, Result, Ok, Err}
use Rattle.srm_codec.specs.declared.datagram.Datagram.{Datagram}
use Rattle.srm_codec.specs.declared.datagram.Datagram.TheVariants.{Data, Request, Repair, Session}
use Rattle.srm_codec.specs.declared.fault.DecodeFault.{DecodeFault}
use Rattle.srm_codec.specs.declared.fault.DecodeFault.TheVariants.{Memory}
use Rattle.srm_codec.specs.Judging.{Read}

-- The answer, with these bytes left, is what reading gives.
abbrev pub IsRead : {A : Type 0} → Result A DecodeFault → List ℕ → Read A → Type 0
IsRead (Ok x) rest read = read ≡ Ok (x, rest)
IsRead (Err fault) rest read = read ≡ Err fault

-- The same, of an answer that is seen by a view.
abbrev pub IsReadBy : {A B : Type 0} → (A → B) → Result A DecodeFault → List ℕ → Read B → Type 0
IsReadBy view (Ok x) rest read = read ≡ Ok (view x, rest)
IsReadBy view (Err fault) rest read = read ≡ Err fault

-- The answer, with these bytes left, is what reading gives, unless memory ran out.
abbrev pub IsReadUnless : {A : Type 0} → Result A DecodeFault → List ℕ → Read A → Type 0
IsReadUnless (Ok x) rest read = read ≡ Ok (x, rest)
IsReadUnless (Err fault) rest read = (read ≡ Err fault) ⊎ (fault ≡ Memory)

-- The answer, with these bytes left, tells whether reading passes: it has the fault, where there is one.
abbrev pub IsSkimmed : {A B : Type 0} → Result A DecodeFault → List ℕ → Read B → Type 0
IsSkimmed {B = B} (Ok x) rest read = (y : B) × (read ≡ Ok (y, rest))
IsSkimmed (Err fault) rest read = read ≡ Err fault

-- what memory is taken for: a body, rows and echoes
abbrev pub takes_memory : Datagram → Bool
takes_memory (Data drawop) = true
takes_memory (Request sender name mask) = false
takes_memory (Repair sender drawop) = true
takes_memory (Session sender sent farewell shown rows echoes) = true

-- The answer is what judging gives; or memory ran out for what passed, and takes memory.
abbrev pub IsJudged : {A : Type 0} → (A → Bool) → Result A DecodeFault → Result A DecodeFault → Type 0
IsJudged takes (Ok x) judged = judged ≡ Ok x
IsJudged {A} takes (Err fault) judged = (judged ≡ Err fault) ⊎ ((fault ≡ Memory) × (x : A) × (judged ≡ Ok x) × (takes x ≡ true))
