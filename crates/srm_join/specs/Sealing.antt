-- What becomes of a key and of a datagram that are to make a seal and to be sealed.
use Rattle.std.specs.Prelude.{◌≡◌, ◌≢◌, ◌+◌, ◌<◌, ◌≤◌, ℕ, List, length, take, Result, Ok, Err}
use Rattle.srm_window.specs.Senders.{numbered}
use Rattle.srm_guard.specs.Seals.{SealView, IsNewSeal, next_to, one_sent, sealed}
use Rattle.srm_join.specs.declared.sealing.SealFault.{SealFault}
use Rattle.srm_join.specs.declared.sealing.SealFault.TheVariants.{NoKey, NoMember, Memory}
use Rattle.srm_join.specs.declared.sealing.Sealed.{Sealed}
use Rattle.srm_join.specs.declared.sealing.Sealed.TheVariants.{UsedUp, Short, Done}

-- 16 to 1,024 bytes
abbrev pub IsKeyLength : ℕ → Type 0
IsKeyLength n = (16 ≤ n) × (n ≤ 1024)

-- a new seal by the key, whose counters begin here; or no key, by its length; or no memory
abbrev pub SealsBy : List ℕ → ℕ → ℕ → Result SealView SealFault → Type 0
SealsBy key me start (Ok seal) = IsKeyLength (length key) × IsNewSeal key me start seal
SealsBy key me start (Err NoKey) = IsKeyLength (length key) → ⊥
SealsBy key me start (Err NoMember) = ⊥
SealsBy key me start (Err Memory) = IsKeyLength (length key)

-- the greatest counter, which is never used
abbrev pub no_counter : ℕ
no_counter = 18446744073709551615

-- The datagram stands sealed at the front of the buffer, and its counter is used. Or it doesn't fit, or no counter is left, and nothing changes.
abbrev pub SealsInto : ℕ → List ℕ → List ℕ → List ℕ → Sealed → SealView → SealView → Type 0
SealsInto to datagram before after (Done n) s t =
    (n ≡ length datagram + 25) × (n ≤ length before) × (next_to to s ≢ no_counter) × (take n after ≡ sealed s.key to (numbered s.me (next_to to s)) datagram) × (t ≡ one_sent to s)
SealsInto to datagram before after (Short n) s t = (n ≡ length datagram + 25) × (length before < n) × (after ≡ before) × (t ≡ s)
SealsInto to datagram before after UsedUp s t = (length datagram + 25 ≤ length before) × (next_to to s ≡ no_counter) × (after ≡ before) × (t ≡ s)
