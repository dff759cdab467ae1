-- The names that become missing by data or a repair.
use Rattle.std.proofs.Common.{◌≡◌, ℕ, ◌≤◌, max, Bool, true, false, not, ◌&&◌, ◌||◌, List, [], ◌∷◌, ◌++◌, refl, ap, sym, ◌∙◌, arith}
use Rattle.std.specs.Prelude.{nat_lt, nat_le, ◌==◌, if◌then◌else◌}
use Rattle.std.proofs.lemmas.Bool.Decides.{nat_tests}
use Rattle.srm_names.specs.declared.stream.Stream.{Stream}
use Rattle.srm_names.specs.declared.drawop.Drawop.{Drawop}
use Rattle.srm_names.specs.FullName.{FullName}
use Rattle.srm_names.specs.Names.{same_stream, same_name, AreExactly}
use Rattle.srm_names.proofs.Same.{same_stream-is}
use Rattle.srm_entries.specs.declared.entry.Entry.{Entry}
use Rattle.srm_entries.specs.Entries.{is_held, is_missing, known}
use Rattle.srm_names.specs.Between.{is_between}
use Rattle.srm_agent_state.specs.TimerCalls.{AreNewlyMissing}
use Rattle.srm_entries.proofs.Adding.{shows, gains, is_missing-snoc}
use Rattle.srm_agent_state.proofs.RequestSettings.{held_known}

-- `s` says that the name is of the drawop's stream, `h` that it was held; `n` is its number, `k` what was known, `d` the drawop's number
fresh_law : (s h : Bool) (n k d : ℕ) → (h ≡ true → n ≤ k)
    → (s && nat_lt k n && nat_lt n d) ≡ (not (nat_le 1 n && nat_le n k && not h) && (nat_le 1 n && nat_le n (max k (if s then d else 0)) && not (h || (s && (n == d)))))
fresh_law true true n k d known = let l = known refl in grind (arith, nat_tests)
fresh_law true false n k d known = grind (arith, nat_tests)
fresh_law false true n k d known = grind (arith, nat_tests)
fresh_law false false n k d known = grind (arith, nat_tests)

-- what an entry shows and gains that brings one drawop
pub record Brings (d : Drawop) (e : Entry) : Type 0 where
  pub shows : (s : Stream) → shows e s ≡ (if same_stream s d.name.stream then d.name.number else 0)
  pub gains : (n : FullName) → gains e n ≡ same_name n d.name

pub fresh_drawop : (past : List Entry) (e : Entry) (d : Drawop) (k : ℕ) (names : List FullName) → Brings d e → k ≡ known past d.name.stream → AreExactly (is_between d.name.stream k d.name.number) names → AreNewlyMissing past e names
fresh_drawop past e d k names brings k_is exactly = record { in_order = exactly.in_order; exact = λ n. exactly.exact n ∙ same n (same_stream n.stream d.name.stream) refl }
  where
    after : (n : FullName) → is_missing (past ++ e ∷ []) n
        ≡ (nat_le 1 n.number && nat_le n.number (max (known past n.stream) (if same_stream n.stream d.name.stream then d.name.number else 0)) && not (is_held past n || same_name n d.name))
    after n = is_missing-snoc past e n
        ∙ ap (λ x. nat_le 1 n.number && nat_le n.number (max (known past n.stream) x) && not (is_held past n || gains e n)) (brings.shows n.stream)
        ∙ ap (λ x. nat_le 1 n.number && nat_le n.number (max (known past n.stream) (if same_stream n.stream d.name.stream then d.name.number else 0)) && not (is_held past n || x)) (brings.gains n)

    same_known : (n : FullName) (s : Bool) → same_stream n.stream d.name.stream ≡ s → (s && nat_lt k n.number && nat_lt n.number d.name.number) ≡ (s && nat_lt (known past n.stream) n.number && nat_lt n.number d.name.number)
    same_known n true q = ap (λ z. nat_lt z n.number && nat_lt n.number d.name.number) (k_is ∙ ap (known past) (sym (same_stream-is n.stream d.name.stream q)))
    same_known n false q = refl

    same : (n : FullName) (s : Bool) → same_stream n.stream d.name.stream ≡ s → is_between d.name.stream k d.name.number n ≡ (not (is_missing past n) && is_missing (past ++ e ∷ []) n)
    same n s q = same_known n (same_stream n.stream d.name.stream) refl
        ∙ fresh_law (same_stream n.stream d.name.stream) (is_held past n) n.number (known past n.stream) d.name.number (held_known past n)
        ∙ ap (λ b. not (is_missing past n) && b) (sym (after n))
