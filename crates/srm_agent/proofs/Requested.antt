-- The entry of a request that was heard and accepted.
use Rattle.std.proofs.Common.{◌≡◌, ℕ, ◌+◌, ◌≤◌, false, List, [], ◌∷◌, ◌++◌, refl, ap, sym, ◌∙◌, subst}
use Rattle.std.specs.Prelude.{Some}
use Rattle.std.proofs.lemmas.List.{append-nil}
use Rattle.srm_names.specs.declared.stream.Stream.{Stream}
use Rattle.srm_names.specs.FullName.{FullName}
use Rattle.srm_names.specs.Names.{AreExactly}
use Rattle.srm_codec.specs.declared.datagram.Datagram.TheVariants.{Request}
use Rattle.srm_codec.specs.Spelling.{asked_by, IsSpellable}
use Rattle.srm_store.specs.Held.{greatest_in}
use Rattle.srm_store.specs.Stores.{StoreContent}
use Rattle.srm_store.specs.Fits.{StoreFits, StoreStays}
use Rattle.srm_distance.specs.Distance as defined
use Rattle.srm_distance.specs.Calls.{DistanceCall}
use Rattle.srm_timers.specs.declared.arm.Arm.{Arm}
use Rattle.srm_entries.specs.declared.entry.Entry.{Entry}
use Rattle.srm_entries.specs.declared.entry.Input.TheVariants.{Heard}
use Rattle.srm_entries.specs.Configs.{Config}
use Rattle.srm_entries.specs.Entries.{is_gone, known, held, evidence_in}
use Rattle.srm_entries.specs.Distances.{distance_calls}
use Rattle.srm_entries.specs.Verdicts.{settlings}
use Rattle.srm_agent.specs.Growth.{AreNewlyMissingUpTo}
use Rattle.srm_names.specs.Between.{is_between}
use Rattle.srm_agent_state.specs.Growth.{LearnsNames}
use Rattle.srm_store.specs.PageTables.{with_pages_of}
use Rattle.srm_agent_state.specs.TimersKept.{HaveSettings}
use Rattle.srm_distance.specs.Fits.{IsTableOf}
use Rattle.srm_agent_state.specs.TimerCalls.{AreDistancesAfter, TimersHearRequest, WaitsAreChosen}
use Rattle.srm_agent.specs.Contents.{AgentContent}
use Rattle.srm_agent.specs.Fits.{AgentFits}
use Rattle.srm_agent.specs.Heeding.{heard_entry}
use Rattle.srm_agent.specs.Noting.{Enters, IsAllowed}
use Rattle.srm_entries.proofs.Quiet.{same_distances}
use Rattle.srm_agent.proofs.Evident.{fresh_request}
use Rattle.srm_agent.proofs.Heeded.{Goes, Heeds, heard_with, heeds_by, heard_enters}

-- what was found between what is known and the greatest that is asked for
pub up_to_is : (s : Stream) (k l known_of greatest : ℕ) (names : List FullName) → known_of ≡ k → greatest ≡ l → AreExactly (is_between s known_of (greatest + 1)) names → AreExactly (is_between s k (l + 1)) names
up_to_is s k l known_of greatest names e f h = rw (sym e, sym f) h

pub fresh_in : {W : Type 0} {a : AgentContent W} {s t : Stream} {names newly_missing : List FullName} → s ≡ t → AreNewlyMissingUpTo s names a newly_missing → AreNewlyMissingUpTo t names a newly_missing
fresh_in {a = a} {names = names} {newly_missing = newly_missing} e h = subst (λ s. AreNewlyMissingUpTo s names a newly_missing) e h

pub request_enters : {W : Type 0} (next_word : W → ℕ × W) (a b : AgentContent W) (moment sender : ℕ) (name : FullName) (mask : ℕ) (names newly_missing : List FullName) (dist : List ℕ) (arms : List Arm) (roomy : StoreContent) (e : Entry)
    → names ≡ asked_by name mask → is_gone a.state ≡ false → IsSpellable (Request sender name mask) → a.last ≤ moment → IsAllowed (Heard (Request sender name mask)) a → AreNewlyMissingUpTo name.stream names a newly_missing → IsTableOf a.distances dist
    → TimersHearRequest roomy sender names newly_missing dist moment arms a.timers b.timers → StoreStays a.store roomy → LearnsNames names roomy b.store → b.pages ≡ with_pages_of a.pages names → b.distances ≡ a.distances → Goes a b moment
    → HaveSettings a.config a.timers → WaitsAreChosen next_word a.timers a.words arms b.words → e ≡ heard_entry a.config.me moment (Request sender name mask) arms a.state
    → Enters next_word (Some moment) (Heard (Request sender name mask)) a b e
request_enters next_word a b moment sender name mask names newly_missing dist arms roomy e asked here spellable late allowed up_to table hears kept shows pages same goes settings drawn e_is =
    heard_enters next_word a b moment (Request sender name mask) arms e late settings drawn e_is heeds
  where
    after : (c : Config) (made : ℕ) (past : List Entry) → AgentFits c made past a → AreDistancesAfter c (past ++ heard_entry c.me moment (Request sender name mask) arms a.state ∷ []) dist
    after c made past h = record {
      each = λ m l. table.each c.least_distance c.me (distance_calls c.me past) h.distances m l ∙ ap (λ (cs : List DistanceCall). defined.distance c.least_distance cs c.me m) (sym (same_distances c.me past (heard_entry c.me moment (Request sender name mask) arms a.state) refl));
    }

    heeds : (c : Config) (made : ℕ) (past : List Entry) → AgentFits c made past a → Heeds c made past a b moment (Request sender name mask) (heard_entry c.me moment (Request sender name mask) arms a.state)
    heeds c made past h =
        let old_fits = kept.each (held past) (evidence_in past) (settlings past) h.store in
        heeds_by c made past a b moment (Request sender name mask) arms h late here spellable allowed
        (hears.each c past (heard_entry c.me moment (Request sender name mask) arms a.state) (Request sender name mask) (refl, sym asked)
        (heard_with c.me moment (Request sender name mask) arms a.state spellable) h.timers old_fits
        (fresh_request past c.me moment sender name mask arms a.state newly_missing (subst (λ ns. AreExactly (is_between name.stream (known past name.stream) (greatest_in ns name.stream + 1)) newly_missing) asked (up_to.each c made past h))) (after c made past h))
        (rw (append-nil (held past), append-nil (settlings past)) (subst (λ ns. StoreFits (held past) (evidence_in past ++ ns) (settlings past) b.store) asked (shows.each (held past) (evidence_in past) (settlings past) old_fits)))
        (rw (append-nil (distance_calls c.me past), same) h.distances)
        (pages ∙ ap (with_pages_of a.pages) asked) goes
