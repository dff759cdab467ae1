-- The definitions at worked examples.
use Rattle.std.specs.Prelude.{◌≡◌, ◌+◌, ℕ, true, false, List, [], ◌∷◌, length, replicate, codes, Option, Some, None, refl}
use Rattle.std.proofs.Common.{inr, subst, arith}
use Rattle.sha2.specs.Sha256.{sha256}
use Rattle.srm_wire.specs.Wires.{none_there, bytes_to}
use Rattle.srm_wire.specs.Counts.{no_drops, only_failed}
use Rattle.srm_window.specs.Senders.{numbered}
use Rattle.srm_guard.specs.declared.dropped.Cause.{Cause}
use Rattle.srm_guard.specs.declared.dropped.Cause.TheVariants.{Untagged, Older, Again}
use Rattle.srm_guard.specs.declared.seal.Opened.{Opened}
use Rattle.srm_guard.specs.declared.seal.Opened.TheVariants.{Foreign as IsForeign, Datagram as IsDatagram}
use Rattle.srm_guard.specs.Guards.{GuardView, ReceivesTagged, CausesDrop, BehindSeal, cannot_seal, counted_behind, new_guard, none_dropped, one_dropped}
use Rattle.srm_guard.specs.Seals.{SealView, HasNoSeal, with_number, number_at, next_to, one_sent}
use Rattle.srm_guard.specs.Tags.{HasOldTag, filled, key_block, padded, label, old_label, before_tag, tag_at_end}

three_bytes_fill_a_block : filled (1 ∷ 2 ∷ 3 ∷ []) ≡ 1 ∷ 2 ∷ 3 ∷ replicate 61 0
three_bytes_fill_a_block = refl

-- a key of 64 bytes is its block, and of a longer one the digest is
a_whole_block : key_block (replicate 64 7) ≡ replicate 64 7
a_whole_block = refl

a_longer_key : key_block (replicate 65 7) ≡ filled (sha256 (replicate 65 7))
a_longer_key = refl

each_byte_is_combined : padded (0 ∷ 255 ∷ []) 0x36 ≡ 54 ∷ 201 ∷ []
each_byte_is_combined = refl

the_label : label ≡ codes "ringyew-numbered"
the_label = refl

the_old_label : old_label ≡ codes "ringyew-datagram"
the_old_label = refl

-- a datagram of two bytes, and the tag of an older version behind it
before_an_old_tag : before_tag (1 ∷ 2 ∷ replicate 16 7) ≡ 1 ∷ 2 ∷ []
before_an_old_tag = refl

an_old_tag : tag_at_end (1 ∷ 2 ∷ replicate 16 7) ≡ replicate 16 7
an_old_tag = refl

-- what an older version tagged counts as untagged too
an_older_one_is_untagged : one_dropped Older none_dropped ≡ record { untagged = 1; older = 1; again = 0 }
an_older_one_is_untagged = refl

-- the sender in one byte, the counter in eight
a_number : with_number (numbered 3 258) (7 ∷ []) ≡ 7 ∷ 3 ∷ 0 ∷ 0 ∷ 0 ∷ 0 ∷ 0 ∷ 0 ∷ 1 ∷ 2 ∷ []
a_number = refl

and_back : number_at (7 ∷ 3 ∷ 0 ∷ 0 ∷ 0 ∷ 0 ∷ 0 ∷ 0 ∷ 1 ∷ 2 ∷ []) ≡ numbered 3 258
unfolding number_at
and_back = refl

-- a member that has sent two to member 1 and none to member 0
abbrev sends_on : SealView
sends_on = record { key = []; me = 2; next = 5 ∷ 7 ∷ []; windows = [] }

counts_on : next_to 1 (one_sent 1 sends_on) ≡ 8
counts_on = refl

and_not_for_others : next_to 0 (one_sent 1 sends_on) ≡ 5
and_not_for_others = refl

-- a wire below that counts its receives
abbrev counts : ℕ → ℕ → List (Option (List ℕ)) → ℕ → Type 0
counts before room answer after = after ≡ before + 1

-- a guard of member 2 whose wire was asked so often, and which dropped so many without their tag
abbrev guard_at : ℕ → ℕ → GuardView ℕ
guard_at asked untagged = record { wire = asked; seal = Some sends_on; dropped = record { untagged = untagged; older = 0; again = 0 }; own = 0 }

-- nobody sealed no bytes at all
empty_is_unsealed : (key : List ℕ) (me : ℕ) → HasNoSeal key me []
empty_is_unsealed key me n [] is e = cc
empty_is_unsealed key me n (x ∷ datagram) is e = cc

empty_has_no_old_tag : (key : List ℕ) → HasOldTag key [] → ⊥
empty_has_no_old_tag key h = omega (arith, h.0)

-- one was received and dropped, and then None
one_dropped_then_none : ReceivesTagged counts 8 none_there (guard_at 0 0) (guard_at 2 1)
one_dropped_then_none = record {
  dropped = [] ∷ [];
  few = omega arith;
  between = guard_at 1 1;
  drops = (guard_at 1 1, refl, (Untagged, IsForeign, (sends_on, refl, (empty_is_unsealed [] 2, empty_has_no_old_tag [], refl)), tt, refl), refl);
  brings = inr (refl, refl);
}

-- a datagram is dropped for no cause
not_a_datagram : (count : ℕ) (cause : Cause) → CausesDrop (IsDatagram count) cause → ⊥
not_a_datagram count Untagged h = h
not_a_datagram count Older h = h
not_a_datagram count Again h = h

-- and without a seal nothing is dropped
not_without_a_seal : (bytes : List ℕ) (after : Option SealView) (opened : Opened) (cause : Cause) → BehindSeal None bytes opened after → CausesDrop opened cause → ⊥
not_without_a_seal bytes after opened cause (is, none) h = not_a_datagram (length bytes) cause (subst (λ o. CausesDrop o cause) is h)

-- what a guard dropped is counted by its cause, beside what the wire below failed and dropped
counts_what_it_dropped : counted_behind 1 (record { untagged = 2; older = 1; again = 7 }) (record (only_failed 4) { dropped = record no_drops { strangers = 5; excess = 3 } })
    ≡ record (only_failed 5) { dropped = record no_drops { strangers = 5; untagged = 2; older = 1; again = 7; excess = 3 } }
counts_what_it_dropped = refl
