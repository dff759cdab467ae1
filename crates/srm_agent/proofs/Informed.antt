-- The entry of a session message that was heard and accepted.
use Rattle.std.proofs.Common.{◌≡◌, ℕ, ◌≤◌, true, false, List, [], ◌∷◌, ◌++◌, refl, ap, sym, ◌∙◌, subst}
use Rattle.std.specs.Prelude.{Some}
use Rattle.std.specs.List.{flat_map, cons_option}
use Rattle.std.proofs.lemmas.List.{append-nil}
use Rattle.srm_names.specs.FullName.{FullName}
use Rattle.srm_names.specs.Histories.{greatest}
use Rattle.srm_names.specs.Names.{ascending}
use Rattle.srm_names.proofs.Snoc.{flat_map-snoc}
use Rattle.srm_codec.specs.declared.datagram.Datagram.{Datagram}
use Rattle.srm_codec.specs.declared.datagram.Datagram.TheVariants.{Data, Request, Repair, Session}
use Rattle.srm_codec.specs.Spelling.{names_in, row_below, IsSpellable}
use Rattle.srm_store.specs.Held.{number_in}
use Rattle.srm_store.specs.Stores.{StoreContent}
use Rattle.srm_store.specs.Fits.{StoreFits, StoreStays}
use Rattle.srm_distance.specs.Content.{DistancesContent}
use Rattle.srm_distance.specs.Distance as defined
use Rattle.srm_distance.specs.Fits.{DistancesFit, IsTableOf}
use Rattle.srm_distance.specs.Calls.{DistanceCall}
use Rattle.srm_timers.specs.declared.arm.Arm.{Arm}
use Rattle.srm_entries.specs.declared.entry.Entry.{Entry}
use Rattle.srm_entries.specs.declared.entry.Input.TheVariants.{Heard}
use Rattle.srm_entries.specs.declared.state.AgentState.{AgentState}
use Rattle.srm_entries.specs.Configs.{Config}
use Rattle.srm_entries.specs.Entries.{is_gone, held, evidence_in, drawops_in}
use Rattle.srm_entries.specs.Distances.{distance_calls, calls_in, calls_of}
use Rattle.srm_entries.specs.Verdicts.{settlings, settling_of}
use Rattle.srm_agent.specs.Growth.{AreNewlyMissingByRows}
use Rattle.srm_agent_state.specs.Growth.{HearsToo, LearnsToo}
use Rattle.srm_store.specs.PageTables.{with_pages_of}
use Rattle.srm_agent_state.specs.TimersKept.{HaveSettings, TimersContent}
use Rattle.srm_agent_state.specs.TimerCalls.{AreDistancesAfter, TimersHear, TimersStay, WaitsAreChosen, IsSession}
use Rattle.srm_agent.specs.Contents.{AgentContent}
use Rattle.srm_agent.specs.Fits.{AgentFits}
use Rattle.srm_agent.specs.Heeding.{heard_entry}
use Rattle.srm_agent.specs.Noting.{Enters, IsAllowed}
use Rattle.srm_agent.proofs.Heeded.{Goes, Heeds, heard_with, heeds_by, heard_enters}
use Rattle.srm_agent.proofs.Joining.{ShowsRows, fresh_rows}

-- the rows of a session message rise
pub rows_rise : (g : Datagram) (names : List FullName) → IsSession g → IsSpellable g → names ≡ names_in g → ascending row_below names ≡ true
rows_rise (Session sender sent farewell shown rows echoes) names is s e = ap (ascending row_below) e ∙ s.3.rising
rows_rise (Data drawop) names is s e = absurd is
rows_rise (Request sender name mask) names is s e = absurd is
rows_rise (Repair sender drawop) names is s e = absurd is

no_drawops : (g : Datagram) → IsSession g → drawops_in (Some g) ≡ []
no_drawops (Session sender sent farewell shown rows echoes) is = refl
no_drawops (Data drawop) is = absurd is
no_drawops (Request sender name mask) is = absurd is
no_drawops (Repair sender drawop) is = absurd is

pub shows_rows : (g : Datagram) (me moment : ℕ) (arms : List Arm) (state : AgentState) → IsSession g → ShowsRows (names_in g) (heard_entry me moment g arms state)
shows_rows (Session sender sent farewell shown rows echoes) me moment arms state is = record { shows = λ s. ap (λ (ns : List FullName). greatest (flat_map (number_in s) ns)) (append-nil rows); gains = λ n. refl }
shows_rows (Data drawop) me moment arms state is = absurd is
shows_rows (Request sender name mask) me moment arms state is = absurd is
shows_rows (Repair sender drawop) me moment arms state is = absurd is

-- room changes nothing of what is heard
pub hears_roomy : (is : Datagram → Type 0) (newly_missing : List FullName) (dist : List ℕ) (now : ℕ) (arms : List Arm) (a b d : TimersContent) → TimersStay a b → TimersHear is newly_missing dist now arms b d → TimersHear is newly_missing dist now arms a d
hears_roomy is newly_missing dist now arms a b d stays hears = record { each = λ c past e g it with_this fits. hears.each c past e g it with_this (stays.each c past fits) }

pub session_enters : {W : Type 0} (next_word : W → ℕ × W) (a b : AgentContent W) (moment : ℕ) (g : Datagram) (names newly_missing : List FullName) (dist : List ℕ) (arms : List Arm) (roomy : StoreContent) (after : DistancesContent) (e : Entry)
    → IsSession g → names ≡ names_in g → is_gone a.state ≡ false → IsSpellable g → a.last ≤ moment → IsAllowed (Heard g) a → AreNewlyMissingByRows names a newly_missing → HearsToo a.config.me moment g a.distances after → IsTableOf after dist
    → TimersHear IsSession newly_missing dist moment arms a.timers b.timers → StoreStays a.store roomy → LearnsToo g roomy b.store → b.pages ≡ with_pages_of a.pages names → b.distances ≡ after → Goes a b moment
    → HaveSettings a.config a.timers → WaitsAreChosen next_word a.timers a.words arms b.words → e ≡ heard_entry a.config.me moment g arms a.state
    → Enters next_word (Some moment) (Heard g) a b e
session_enters next_word a b moment g names newly_missing dist arms roomy after e is named here spellable late allowed fresh_of hears_too table hears kept learns pages same goes settings drawn e_is =
    heard_enters next_word a b moment g arms e late settings drawn e_is heeds
  where
    hears_by : (c : Config) (made : ℕ) (past : List Entry) → AgentFits c made past a → DistancesFit c.least_distance c.me (distance_calls c.me past ++ calls_of c.me moment (Some g)) after
    hears_by c made past h = (subst (λ (s : Config). HearsToo s.me moment g a.distances after) h.config hears_too).each c.least_distance (distance_calls c.me past) h.distances

    dist_after : (c : Config) (made : ℕ) (past : List Entry) → AgentFits c made past a → AreDistancesAfter c (past ++ heard_entry c.me moment g arms a.state ∷ []) dist
    dist_after c made past h = record {
      each = λ m l. table.each c.least_distance c.me (distance_calls c.me past ++ calls_of c.me moment (Some g)) (hears_by c made past h) m l
          ∙ ap (λ (cs : List DistanceCall). defined.distance c.least_distance cs c.me m) (sym (flat_map-snoc (calls_in c.me) past (heard_entry c.me moment g arms a.state)));
    }

    heeds : (c : Config) (made : ℕ) (past : List Entry) → AgentFits c made past a → Heeds c made past a b moment g (heard_entry c.me moment g arms a.state)
    heeds c made past h = heeds_by c made past a b moment g arms h late here spellable allowed
        (hears.each c past (heard_entry c.me moment g arms a.state) g is (heard_with c.me moment g arms a.state spellable) h.timers
        (fresh_rows past (heard_entry c.me moment g arms a.state) names newly_missing (subst (λ ns. ShowsRows ns (heard_entry c.me moment g arms a.state)) (sym named) (shows_rows g c.me moment arms a.state is)) (fresh_of.each c made past h)) (dist_after c made past h))
        (subst (λ ds. StoreFits ds (evidence_in past ++ names_in g) (settlings past ++ cons_option (settling_of (Some g)) []) b.store) (sym (ap (λ ds. held past ++ ds) (no_drawops g is) ∙ append-nil (held past)))
        (learns.each (held past) (evidence_in past) (settlings past) (kept.each (held past) (evidence_in past) (settlings past) h.store)))
        (subst (λ d. DistancesFit c.least_distance c.me (distance_calls c.me past ++ calls_of c.me moment (Some g)) d) (sym same) (hears_by c made past h))
        (pages ∙ ap (with_pages_of a.pages) named) goes
