-- The verdict on a datagram, cause by cause.
use Rattle.std.proofs.Common.{◌≡◌, ℕ, ◌==◌, Bool, false, ◌&&◌, ◌||◌, List, [], ◌∷◌, map, refl, ap, sym, ◌∙◌}
use Rattle.std.specs.Prelude.{nat_lt, Option, Some}
use Rattle.std.specs.List.{list_any}
use Rattle.std.proofs.lemmas.Bool.{eq-eqb}
use Rattle.srm_names.specs.FullName.{FullName}
use Rattle.srm_names.proofs.Same.{stream_parts}
use Rattle.srm_codec.specs.declared.datagram.Datagram.{Datagram}
use Rattle.srm_codec.specs.Spelling.{sender_of, names_in}
use Rattle.srm_entries.specs.declared.cause.Cause.{Cause}
use Rattle.srm_entries.specs.declared.cause.Cause.TheVariants as causes
use Rattle.srm_entries.specs.declared.entry.Entry.{Entry}
use Rattle.srm_entries.specs.declared.entry.Input.TheVariants.{Heard}
use Rattle.srm_entries.specs.declared.entry.Verdict.TheVariants.{Ignored}
use Rattle.srm_entries.specs.Causes.{ignored_for}
use Rattle.srm_entries.specs.Configs.{Config}
use Rattle.srm_entries.specs.Entries.{is_gone, state, known, held_at, drawops_in}
use Rattle.srm_store.specs.PageTables.{table_lacks_room_for}
use Rattle.srm_names.specs.Names.{stream_on}
use Rattle.srm_entries.specs.Verdicts.{verdict_of, first_cause, is_stranger, is_beyond, says_too_little, lacks_slots_for, differs, drawn_in}
use Rattle.srm_agent.specs.Contents.{AgentContent}
use Rattle.srm_agent.specs.Fits.{AgentFits}
use Rattle.srm_agent.proofs.Slotted.{slots_lack}

-- one of this member's own above what it drew, which is what it knows
pub own_undrawn : {W : Type 0} (c : Config) (made : ℕ) (past : List Entry) (a : AgentContent W) (n : FullName) (k number : ℕ) → AgentFits c made past a → n.stream.source ≡ c.me → k ≡ known past n.stream → number ≡ n.number
    → nat_lt k number ≡ (n.stream.source == c.me) && nat_lt (drawn_in past n.stream) n.number
own_undrawn c made past a n k number h own is at =
    let s : n.stream ≡ stream_on c.me n.stream.page = stream_parts n.stream (stream_on c.me n.stream.page) own refl in
    ap (λ x. nat_lt x number) (is ∙ ap (known past) s ∙ sym (h.own n.stream.page) ∙ ap (drawn_in past) (sym s)) ∙ ap (nat_lt (drawn_in past n.stream)) at
    ∙ ap (λ b. b && nat_lt (drawn_in past n.stream) n.number) (sym (eq-eqb n.stream.source c.me own))

-- what was found of a datagram that names these names, to an agent that isn't gone
pub record Judged {W : Type 0} (c : Config) (made : ℕ) (past : List Entry) (a : AgentContent W) (g : Datagram) (names : List FullName) : Type 0 where
  pub fits : AgentFits c made past a
  pub here : is_gone a.state ≡ false
  pub of : names ≡ names_in g

same_gone : {W : Type 0} (c : Config) (made : ℕ) (past : List Entry) (a : AgentContent W) (g : Datagram) (names : List FullName) → Judged c made past a g names → is_gone (state past) ≡ false
same_gone c made past a g names j = ap is_gone (sym j.fits.state) ∙ j.here

same_own : {W : Type 0} (c : Config) (made : ℕ) (past : List Entry) (a : AgentContent W) (g : Datagram) (names : List FullName) (b : Bool) → Judged c made past a g names → (sender_of g == a.config.me) ≡ b → (sender_of g == c.me) ≡ b
same_own c made past a g names b j e = ap (λ (s : Config). sender_of g == s.me) (sym j.fits.config) ∙ e

same_stranger : {W : Type 0} (c : Config) (made : ℕ) (past : List Entry) (a : AgentContent W) (g : Datagram) (names : List FullName) (b : Bool) → Judged c made past a g names → is_stranger a.config g ≡ b → is_stranger c g ≡ b
same_stranger c made past a g names b j e = ap (λ s. is_stranger s g) (sym j.fits.config) ∙ e

same_room : {W : Type 0} (c : Config) (made : ℕ) (past : List Entry) (a : AgentContent W) (g : Datagram) (names : List FullName) (b : Bool) → Judged c made past a g names → table_lacks_room_for a.pages names ≡ b
    → lacks_slots_for past (map (λ (n : FullName). n.stream.page) (names_in g)) ≡ b
same_room c made past a g names b j e = slots_lack past (map (λ (n : FullName). n.stream.page) (names_in g)) ∙ ap (λ ps. table_lacks_room_for ps (names_in g)) (sym j.fits.pages) ∙ ap (table_lacks_room_for a.pages) (sym j.of) ∙ e

same_beyond : {W : Type 0} (c : Config) (made : ℕ) (past : List Entry) (a : AgentContent W) (g : Datagram) (names : List FullName) (b : Bool) → Judged c made past a g names → (list_any (is_beyond c.me past) names || says_too_little past g) ≡ b
    → (list_any (is_beyond c.me past) (names_in g) || says_too_little past g) ≡ b
same_beyond c made past a g names b j e = ap (λ ns. list_any (is_beyond c.me past) ns || says_too_little past g) (sym j.of) ∙ e

-- the first cause found is the verdict
pub first_judged : {W : Type 0} (c : Config) (made : ℕ) (past : List Entry) (a : AgentContent W) (g : Datagram) (names : List FullName) (own stranger full beyond conflicting : Bool) (o : Option Cause) → Judged c made past a g names
    → own ≡ (sender_of g == a.config.me) → stranger ≡ is_stranger a.config g → full ≡ table_lacks_room_for a.pages names → beyond ≡ (list_any (is_beyond c.me past) names || says_too_little past g)
    → conflicting ≡ list_any (λ d. differs d (held_at past d.name)) (drawops_in (Some g))
    → ignored_for o ≡ first_cause ((own, Ignored causes.Own) ∷ (stranger, Ignored causes.Stranger) ∷ (full, Ignored causes.PageLimit) ∷ (beyond, Ignored causes.BeyondFinal) ∷ (conflicting, Ignored causes.Conflict) ∷ [])
    → ignored_for o ≡ verdict_of c past (Heard g)
first_judged c made past a g names own stranger full beyond conflicting o j is_own is_other is_full goes conflicts first =
    first ∙ rw (
      same_gone c made past a g names j,
      same_own c made past a g names own j (sym is_own),
      same_stranger c made past a g names stranger j (sym is_other),
      same_room c made past a g names full j (sym is_full),
      same_beyond c made past a g names beyond j (sym goes),
      sym conflicts,
    ) refl
