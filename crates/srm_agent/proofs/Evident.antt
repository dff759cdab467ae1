-- What a request shows of a stream, and which names become missing by it.
use Rattle.std.proofs.Common.{◌≡◌, ℕ, ◌+◌, ◌≤◌, max, Bool, true, false, not, ◌&&◌, ◌||◌, List, [], ◌∷◌, ◌++◌, map, refl, ap, sym, ◌∙◌, arith}
use Rattle.std.specs.Prelude.{nat_lt, nat_le, if◌then◌else◌}
use Rattle.std.specs.List.{flat_map}
use Rattle.std.proofs.lemmas.Bool.Decides.{nat_tests}
use Rattle.std.proofs.lemmas.List.{append-nil}
use Rattle.srm_names.specs.declared.stream.Stream.{Stream}
use Rattle.srm_names.specs.FullName.{FullName}
use Rattle.srm_names.specs.Histories.{greatest}
use Rattle.srm_names.specs.Names.{same_stream, named, AreExactly}
use Rattle.srm_names.proofs.Same.{same_stream-is}
use Rattle.srm_codec.specs.declared.datagram.Datagram.TheVariants.{Request}
use Rattle.srm_codec.specs.Spelling.{asked_by, bits_set}
use Rattle.srm_store.specs.Held.{greatest_in, number_in}
use Rattle.srm_timers.specs.declared.arm.Arm.{Arm}
use Rattle.srm_entries.specs.declared.entry.Entry.{Entry}
use Rattle.srm_entries.specs.declared.state.AgentState.{AgentState}
use Rattle.srm_entries.specs.Entries.{is_held, is_missing, known}
use Rattle.srm_names.specs.Between.{is_between}
use Rattle.srm_agent.specs.Heeding.{heard_entry}
use Rattle.srm_agent_state.specs.TimerCalls.{AreNewlyMissing}
use Rattle.srm_entries.proofs.Adding.{shows, is_missing-snoc}
use Rattle.srm_agent_state.proofs.RequestSettings.{held_known}

-- a request shows nothing of another stream

none_of : (t s : Stream) (number : ℕ) (bits : List ℕ) → same_stream t s ≡ false → flat_map (number_in t) (map (λ bit. named s (number + 1 + bit)) bits) ≡ []
none_of t s number [] other = refl
none_of t s number (b ∷ bits) other = rw other (none_of t s number bits other)

pub asked_shows : (name : FullName) (mask : ℕ) (t : Stream) → greatest_in (asked_by name mask) t ≡ (if same_stream t name.stream then greatest_in (asked_by name mask) name.stream else 0)
asked_shows name mask t = go (same_stream t name.stream) refl
  where
    go : (b : Bool) → same_stream t name.stream ≡ b → greatest_in (asked_by name mask) t ≡ (if b then greatest_in (asked_by name mask) name.stream else 0)
    go true e = ap (greatest_in (asked_by name mask)) (same_stream-is t name.stream e)
    go false e = ap (λ (b : Bool). greatest ((if b then name.number ∷ [] else []) ++ flat_map (number_in t) (map (λ bit. named name.stream (name.number + 1 + bit)) (bits_set 32 mask)))) e
        ∙ ap greatest (none_of t name.stream name.number (bits_set 32 mask) e)

-- `s` says that the name is of the stream, `h` that it was held; `n` is its number, `k` what was known, `d` the last number that is asked for
request_law : (s h : Bool) (n k d : ℕ) → (h ≡ true → n ≤ k)
    → (s && nat_lt k n && nat_lt n (d + 1)) ≡ (not (nat_le 1 n && nat_le n k && not h) && (nat_le 1 n && nat_le n (max k (if s then d else 0)) && not (h || false)))
request_law true true n k d known = let l = known refl in grind (arith, nat_tests)
request_law true false n k d known = grind (arith, nat_tests)
request_law false true n k d known = grind (arith, nat_tests)
request_law false false n k d known = grind (arith, nat_tests)

pub fresh_request : (past : List Entry) (me moment sender : ℕ) (name : FullName) (mask : ℕ) (arms : List Arm) (state : AgentState) (names : List FullName)
    → AreExactly (is_between name.stream (known past name.stream) (greatest_in (asked_by name mask) name.stream + 1)) names → AreNewlyMissing past (heard_entry me moment (Request sender name mask) arms state) names
fresh_request past me moment sender name mask arms state names exactly = record { in_order = exactly.in_order; exact = λ n. exactly.exact n ∙ same n (same_stream n.stream name.stream) refl }
  where
    e : Entry
    e = heard_entry me moment (Request sender name mask) arms state

    shown : (n : FullName) → shows e n.stream ≡ (if same_stream n.stream name.stream then greatest_in (asked_by name mask) name.stream else 0)
    shown n = ap (λ (ns : List FullName). greatest (flat_map (number_in n.stream) ns)) (append-nil (asked_by name mask)) ∙ asked_shows name mask n.stream

    after : (n : FullName) → is_missing (past ++ e ∷ []) n
        ≡ (nat_le 1 n.number && nat_le n.number (max (known past n.stream) (if same_stream n.stream name.stream then greatest_in (asked_by name mask) name.stream else 0)) && not (is_held past n || false))
    after n = is_missing-snoc past e n ∙ ap (λ x. nat_le 1 n.number && nat_le n.number (max (known past n.stream) x) && not (is_held past n || false)) (shown n)

    same_known : (n : FullName) (s : Bool) → same_stream n.stream name.stream ≡ s
        → (s && nat_lt (known past name.stream) n.number && nat_lt n.number (greatest_in (asked_by name mask) name.stream + 1)) ≡ (s && nat_lt (known past n.stream) n.number && nat_lt n.number (greatest_in (asked_by name mask) name.stream + 1))
    same_known n true q = ap (λ z. nat_lt z n.number && nat_lt n.number (greatest_in (asked_by name mask) name.stream + 1)) (ap (known past) (sym (same_stream-is n.stream name.stream q)))
    same_known n false q = refl

    same : (n : FullName) (s : Bool) → same_stream n.stream name.stream ≡ s
        → is_between name.stream (known past name.stream) (greatest_in (asked_by name mask) name.stream + 1) n ≡ (not (is_missing past n) && is_missing (past ++ e ∷ []) n)
    same n s q = same_known n (same_stream n.stream name.stream) refl
        ∙ request_law (same_stream n.stream name.stream) (is_held past n) n.number (known past n.stream) (greatest_in (asked_by name mask) name.stream) (held_known past n)
        ∙ ap (λ b. not (is_missing past n) && b) (sym (after n))
