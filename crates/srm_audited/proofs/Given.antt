-- What page workers took, beside what the calls told of their members gave.
use Rattle.std.proofs.Common.{◌≡◌, ℕ, zero, suc, ◌+◌, ◌<◌, List, [], ◌∷◌, length, get_or, take, refl, ap, sym, ◌∙◌, subst, inl, inr, arith}
use Rattle.std.specs.Prelude.{Option, Some, option_map, unwrap_or, slice_get}
use Rattle.std.specs.List.{AllByRecursion, flat_map}
use Rattle.std.proofs.lemmas.Option.{none-some, same_Some, slice_get-get_or, slice_get_within}
use Rattle.srm_names.specs.declared.page_msg.PageMsg.{PageMsg}
use Rattle.srm_names.specs.Histories.{IsPrefix}
use Rattle.srm_names.proofs.Lists.{Has, Has-front, Has-back, map-Has, All-Has, AllByRecursion-append, AllByRecursion-snoc, by_place}
use Rattle.srm_entries.specs.declared.entry.Entry.{Entry}
use Rattle.srm_entries.specs.Giving.{given}
use Rattle.srm_world.specs.Traces.{Trace, Journal}
use Rattle.srm_frames.specs.declared.reading.Record.{Record}
use Rattle.srm_frames.proofs.Elements.{taken_more}
use Rattle.srm_audit.specs.declared.got.Got.{Got}
use Rattle.srm_audit.specs.declared.mismatch.Mismatch.TheVariants as mismatches
use Rattle.srm_audit.specs.Audits.{InOrder, AreFound, IsRefused}
use Rattle.srm_gaps.specs.declared.told.Told.{Told}
use Rattle.srm_gaps.specs.Gaps.{journals_of, AreOfOneSession}
use Rattle.srm_gaps.specs.Possible.{told_of}
use Rattle.srm_gaps.proofs.Exactly.{first_told}
use Rattle.srm_gaps.proofs.Rostered.{told_at, told_in_order}
use Rattle.srm_audited.specs.Sessions.{Replay, AreReplaysOf, gots_from, gots_of, AreOf, HasAllSlots, AreListed}
use Rattle.srm_audited.specs.Verdicts.{IsGiven, AreGiven, IsUngiven}
use Rattle.srm_audited.proofs.Writing.{IsIn, tolds}
use Rattle.srm_audited.proofs.Found.{IsTakenIn, all_found, none_foreign}

-- list by list

pub one_more_given : (ts : List Told) (gots : List Got) (at : ℕ) (got : Got) → at < length gots → got ≡ get_or gots at got → AreGiven ts (take at gots) → IsGiven ts got → AreGiven ts (take (at + 1) gots)
one_more_given ts gots at got there is so here = subst (AreGiven ts) (sym (taken_more gots at got there is)) (AllByRecursion-snoc (IsGiven ts) (take at gots) got so here)

pub ungiven_at : (ts : List Told) (gots : List Got) (at : ℕ) (got : Got) → at < length gots → got ≡ get_or gots at got → AreGiven ts (take at gots) → ¬ (IsGiven ts got) → IsUngiven ts gots got.member got.slot
ungiven_at ts gots at got there is so not = record {
  place = at;
  got = got;
  here = slice_get-get_or gots at got there ∙ ap Some (sym is);
  before = so;
  ungiven = not;
  member_is = refl;
  slot_is = refl;
}

-- of the records that members of a run wrote, all lists are given

abbrev calls_in : Option Told → List Entry
calls_in o = unwrap_or (option_map (λ (t : Told). t.journal.entries) o) []

lists_given : (ts : List Told) (u : Told) (m slot : ℕ) (lists : List (List PageMsg)) → told_of ts m ≡ Some u
    → ((i : ℕ) (list : List PageMsg) → slice_get lists i ≡ Some list → IsPrefix list (given u.journal.entries (slot + i))) → AllByRecursion (IsGiven ts) (gots_from m slot lists)
lists_given ts u m slot [] is prefix = tt
lists_given ts u m slot (list ∷ lists) is prefix = (
  subst (λ o. IsPrefix list (given (calls_in o) slot)) (sym is) (subst (λ k. IsPrefix list (given u.journal.entries k)) (omega arith) (prefix 0 list refl)),
  lists_given ts u m (slot + 1) lists is (λ i other at. subst (λ k. IsPrefix other (given u.journal.entries k)) (omega arith) (prefix (suc i) other at)),
)

all_given : (t : Trace) (ts : List Told) (ps : List Replay) → ((p : Replay) → Has p ps → told_of ts p.told.journal.start.config.me ≡ Some p.told) → AllByRecursion (IsIn t) ps → AreGiven ts (flat_map gots_of ps)
all_given t ts [] told all = tt
all_given t ts (p ∷ ps) told all =
    AllByRecursion-append (IsGiven ts) (gots_of p) (flat_map gots_of ps)
    (lists_given ts p.told p.told.journal.start.config.me 0 p.lists (told p (inl refl)) (λ i list at. subst (λ k. IsPrefix list (given p.told.journal.entries k)) (omega arith) (all.0.taken i list at)))
    (all_given t ts ps (λ q has. told q (inr has)) all.1)

pub are_given : (t : Trace) (ps : List Replay) → AllByRecursion (IsIn t) ps → AreOfOneSession (tolds ps) → AreGiven (tolds ps) (flat_map gots_of ps)
are_given t ps all apart = all_given t (tolds ps) ps (λ p has. first_told (tolds ps) p.told apart (map-Has (λ (x : Replay). x.told) p ps has)) all

-- where all are, none isn't
pub none_ungiven : (ts : List Told) (gots : List Got) (member slot : ℕ) → AreGiven ts gots → ¬ (IsUngiven ts gots member slot)
none_ungiven ts gots member slot all u = u.ungiven (by_place (IsGiven ts) gots u.place u.got all u.here)

-- lists that are given aren't foreign, whatever order the journals have

pub are_listed : (rs : List Record) (ts : List Told) (gots : List Got) → AreOf rs ts gots → AreListed ts gots
are_listed rs ts gots of = record { replays = of.replays; slots = all_slots rs of.replays of.each; told = of.told; lists = of.lists }
  where
    all_slots : (rs : List Record) (ps : List Replay) → AreReplaysOf rs ps → AllByRecursion HasAllSlots ps
    all_slots [] [] are = tt
    all_slots [] (p ∷ ps) are = absurd are
    all_slots (r ∷ rs) [] are = absurd are
    all_slots (r ∷ rs) (p ∷ ps) are = (are.0.slots, all_slots rs ps are.1)

-- a list of a slot is among those from that slot on
list_there : (m slot i : ℕ) (lists : List (List PageMsg)) (list : List PageMsg) → slice_get lists i ≡ Some list → Has (record { member = m; slot = slot + i; list = list }) (gots_from m slot lists)
list_there m slot i [] list at = absurd (none-some list at)
list_there m slot zero (first ∷ lists) list at = inl (ap (λ (l : List PageMsg). record { member = m; slot = slot + 0; list = l }) (sym (same_Some first list at)) ∙ ap (λ (k : ℕ). record { member = m; slot = k; list = first }) (omega arith))
list_there m slot (suc i) (first ∷ lists) list at = inr (subst (λ k. Has (record { member = m; slot = k; list = list }) (gots_from m (slot + 1) lists)) (omega arith) (list_there m (slot + 1) i lists list at))

taken_where_given : (ps : List Replay) (gots : List Got) (q : List Journal) → InOrder (journals_of (tolds ps)) q → AreGiven (tolds ps) gots → (rs : List Replay) → ((p : Replay) → Has p rs → Has p ps)
    → ((got : Got) → Has got (flat_map gots_of rs) → Has got gots) → AllByRecursion HasAllSlots rs → AllByRecursion (IsTakenIn q) rs
taken_where_given ps gots q order all [] there listed slots = tt
taken_where_given ps gots q order all (p ∷ rs) there listed slots = (
  record {
    inside = slice_get_within q me p.told.journal (told_at (tolds ps) q order p.told (map-Has (λ (x : Replay). x.told) p ps (there p (inl refl))));
    slots = slots.0;
    prefix = λ slot list at. subst (λ es. IsPrefix list (given es slot)) (sym (told_in_order (tolds ps) q order me))
        (All-Has (IsGiven (tolds ps)) (record { member = me; slot = slot; list = list }) gots all (listed (record { member = me; slot = slot; list = list }) (Has-front (record { member = me; slot = slot; list = list }) (gots_of p) (flat_map gots_of rs) (subst (λ k. Has (record { member = me; slot = k; list = list }) (gots_of p)) (omega arith) (list_there me 0 slot p.lists list at)))));
  },
  taken_where_given ps gots q order all rs (λ r h. there r (inr h)) (λ got h. listed got (Has-back got (gots_of p) (flat_map gots_of rs) h)) slots.1,
)
  where
    me : ℕ
    me = p.told.journal.start.config.me

pub given_not_foreign : (ts : List Told) (gots : List Got) (member slot : ℕ) → AreOfOneSession ts → AreListed ts gots → AreGiven ts gots → ¬ (IsRefused (journals_of ts) gots (mismatches.Foreign member slot))
given_not_foreign ts gots member slot session listed all (q, order, foreign) = none_foreign q gots member slot found foreign
  where
    told : ts ≡ tolds listed.replays
    told = listed.told

    found : AreFound q gots
    found = subst (λ (gs : List Got). AreFound q gs) (sym listed.lists)
        (all_found q listed.replays []
        (taken_where_given listed.replays gots q (subst (λ (us : List Told). InOrder (journals_of us) q) told order) (subst (λ (us : List Told). AreGiven us gots) told all) listed.replays (λ p h. h)
        (λ got h. subst (λ (gs : List Got). Has got gs) (sym listed.lists) h) listed.slots)
        (subst AreOfOneSession told session) (λ p h j. refl))
