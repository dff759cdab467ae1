-- The entry of data or a repair that was heard and accepted.
use Rattle.std.proofs.Common.{◌≡◌, ℕ, ◌≤◌, Bool, true, false, ◌||◌, List, [], ◌∷◌, ◌++◌, refl, ap, sym, ◌∙◌, subst, arith}
use Rattle.std.specs.Prelude.{Option, Some, None, is_some, if◌then◌else◌}
use Rattle.std.proofs.Math.Bool.{or-false}
use Rattle.std.proofs.lemmas.List.{append-nil}
use Rattle.srm_names.specs.declared.stream.Stream.{Stream}
use Rattle.srm_names.specs.declared.drawop.Drawop.{Drawop}
use Rattle.srm_names.specs.FullName.{FullName}
use Rattle.srm_names.specs.Histories.{greatest}
use Rattle.srm_names.specs.Names.{same_stream, same_name, AreExactly}
use Rattle.srm_codec.specs.declared.datagram.Datagram.{Datagram}
use Rattle.srm_codec.specs.declared.datagram.Datagram.TheVariants.{Data, Repair}
use Rattle.srm_codec.specs.Spelling.{names_in, is_farewell, IsSpellable}
use Rattle.srm_store.specs.Stores.{StoreContent}
use Rattle.srm_store.specs.Fits.{StoreStays}
use Rattle.srm_distance.specs.Distance as defined
use Rattle.srm_distance.specs.Calls.{DistanceCall}
use Rattle.srm_timers.specs.declared.arm.Arm.{Arm}
use Rattle.srm_deadlines.proofs.Same.{same_flip}
use Rattle.srm_entries.specs.declared.entry.Entry.{Entry}
use Rattle.srm_entries.specs.declared.entry.Input.TheVariants.{Heard}
use Rattle.srm_entries.specs.declared.state.AgentState.{AgentState}
use Rattle.srm_entries.specs.Configs.{Config}
use Rattle.srm_entries.specs.Entries.{is_gone, held, evidence_in, drawops_in}
use Rattle.srm_entries.specs.Distances.{distance_calls, calls_of}
use Rattle.srm_entries.specs.Verdicts.{settlings}
use Rattle.srm_names.specs.Between.{is_between}
use Rattle.srm_agent_state.specs.Growth.{HoldsToo}
use Rattle.srm_store.specs.PageTables.{with_pages_of}
use Rattle.srm_agent_state.specs.TimersKept.{HaveSettings, TimersContent}
use Rattle.srm_distance.specs.Fits.{IsTableOf}
use Rattle.srm_agent_state.specs.TimerCalls.{AreDistancesAfter, IsDrawopOf, TimersHear, TimersStay, WaitsAreChosen}
use Rattle.srm_agent.specs.Contents.{AgentContent}
use Rattle.srm_agent.specs.Fits.{AgentFits}
use Rattle.srm_agent.specs.Heeding.{AreNewlyMissingBelow, MayAccept, carrying, heard_entry}
use Rattle.srm_agent.specs.Noting.{Enters, IsAllowed, AgentStays}
use Rattle.srm_entries.proofs.Quiet.{same_distances}
use Rattle.srm_agent.proofs.Fitting.{refit}
use Rattle.srm_agent.proofs.Fresh.{Brings, fresh_drawop}
use Rattle.srm_agent.proofs.Heeded.{Goes, Heeds, heard_with, heeds_by, heard_enters}

-- a datagram that brings one drawop, and no session message
pub record BringsOne (d : Drawop) (g : Datagram) : Type 0 where
  pub drawops : drawops_in (Some g) ≡ d ∷ []
  pub names : names_in g ≡ d.name ∷ []
  pub unparting : is_farewell g ≡ false
  pub uncalled : (me now : ℕ) → calls_of me now (Some g) ≡ []
  pub brings : (me moment : ℕ) (arms : List Arm) (s : AgentState) → Brings d (heard_entry me moment g arms s)

one_number : (d : Drawop) (b : Bool) → greatest ((if b then d.name.number ∷ [] else []) ++ []) ≡ (if b then d.name.number else 0)
one_number d true = omega arith
one_number d false = refl

one_name : (d : Drawop) (n : FullName) → (same_name d.name n || false) ≡ same_name n d.name
one_name d n = or-false (same_name d.name n) ∙ same_flip d.name n

data_brings : (d : Drawop) → BringsOne d (Data d)
data_brings d = record {
  drawops = refl;
  names = refl;
  unparting = refl;
  uncalled = λ me now. refl;
  brings = λ me moment arms s. record { shows = λ t. one_number d (same_stream t d.name.stream); gains = λ n. one_name d n };
}

repair_brings : (sender : ℕ) (d : Drawop) → BringsOne d (Repair sender d)
repair_brings sender d = record {
  drawops = refl;
  names = refl;
  unparting = refl;
  uncalled = λ me now. refl;
  brings = λ me moment arms s. record { shows = λ t. one_number d (same_stream t d.name.stream); gains = λ n. one_name d n };
}

pub carrying_brings : (repairer : Option ℕ) (d : Drawop) → BringsOne d (carrying repairer d)
carrying_brings None d = data_brings d
carrying_brings (Some sender) d = repair_brings sender d

pub carrying_is : (repairer : Option ℕ) (d : Drawop) (repaired : Bool) → repaired ≡ is_some repairer → IsDrawopOf repaired d.name (carrying repairer d)
carrying_is None d repaired e = rw e refl
carrying_is (Some sender) d repaired e = rw e refl

-- the name of a drawop that may be accepted
pub may_carry : {W : Type 0} (repairer : Option ℕ) (d : Drawop) (names : List FullName) (moment : ℕ) (a : AgentContent W) → MayAccept (carrying repairer d) names moment a → MayAccept (carrying repairer d) (d.name ∷ []) moment a
may_carry repairer d names moment a may = subst (λ ns. MayAccept (carrying repairer d) ns moment a) (may.named ∙ (carrying_brings repairer d).names) may

pub drawop_enters : {W : Type 0} (next_word : W → ℕ × W) (a b : AgentContent W) (moment : ℕ) (g : Datagram) (is : Datagram → Type 0) (d : Drawop) (newly_missing : List FullName) (dist : List ℕ) (arms : List Arm) (roomy : StoreContent) (e : Entry)
    → BringsOne d g → is g → is_gone a.state ≡ false → IsSpellable g → a.last ≤ moment → IsAllowed (Heard g) a → AreNewlyMissingBelow d.name a newly_missing → IsTableOf a.distances dist
    → TimersHear is newly_missing dist moment arms a.timers b.timers → StoreStays a.store roomy → HoldsToo d roomy b.store → b.pages ≡ with_pages_of a.pages (d.name ∷ []) → b.distances ≡ a.distances → Goes a b moment
    → HaveSettings a.config a.timers → WaitsAreChosen next_word a.timers a.words arms b.words → e ≡ heard_entry a.config.me moment g arms a.state
    → Enters next_word (Some moment) (Heard g) a b e
drawop_enters next_word a b moment g is d newly_missing dist arms roomy e one it here spellable late allowed below table hears kept holds pages same goes settings drawn e_is =
    heard_enters next_word a b moment g arms e late settings drawn e_is heeds
  where
    after : (c : Config) (made : ℕ) (past : List Entry) → AgentFits c made past a → AreDistancesAfter c (past ++ heard_entry c.me moment g arms a.state ∷ []) dist
    after c made past h = record {
      each = λ m l. table.each c.least_distance c.me (distance_calls c.me past) h.distances m l ∙ ap (λ (cs : List DistanceCall). defined.distance c.least_distance cs c.me m) (sym (same_distances c.me past (heard_entry c.me moment g arms a.state) (one.uncalled c.me moment)));
    }

    heeds : (c : Config) (made : ℕ) (past : List Entry) → AgentFits c made past a → Heeds c made past a b moment g (heard_entry c.me moment g arms a.state)
    heeds c made past h = heeds_by c made past a b moment g arms h late here spellable allowed
        (hears.each c past (heard_entry c.me moment g arms a.state) g it (heard_with c.me moment g arms a.state spellable) h.timers
        (fresh_drawop past (heard_entry c.me moment g arms a.state) d _ newly_missing (one.brings c.me moment arms a.state) refl (below.each c made past h)) (after c made past h))
        (rw (one.drawops, one.names, one.unparting, append-nil (settlings past)) (holds.each (held past) (evidence_in past) (settlings past) (kept.each (held past) (evidence_in past) (settlings past) h.store)))
        (rw (one.uncalled c.me moment, append-nil (distance_calls c.me past), same) h.distances)
        (rw one.names pages) goes

-- what was found between what is known and the name
pub below_is : (n : FullName) (s : Stream) (k known_of number : ℕ) (names : List FullName) → s ≡ n.stream → k ≡ known_of → number ≡ n.number → AreExactly (is_between s k number) names → AreExactly (is_between n.stream known_of n.number) names
below_is n s k known_of number names e f g h = record {
  in_order = h.in_order;
  exact = λ m. h.exact m ∙ ap (λ t. is_between t k number m) e ∙ ap (λ x. is_between n.stream x number m) f ∙ ap (λ x. is_between n.stream known_of x m) g;
}

-- out of memory: the store has room, the timers stay, and no random number was consumed
pub stays : {W : Type 0} (a : AgentContent W) (s : StoreContent) (t : TimersContent) (w : W) → StoreStays a.store s → TimersStay a.timers t → w ≡ a.words → AgentStays a (record a { store = s; timers = t; words = w })
stays a s t w kept timers words = record {
  fits = λ c made past h. refit c made past a s t a.bucket w h (kept.each (held past) (evidence_in past) (settlings past) h.store) (timers.each c past h.timers) h.bucket;
  words = words;
}
