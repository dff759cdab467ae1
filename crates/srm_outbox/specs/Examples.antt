-- What a member may hand in, and what went, at worked examples.
use Rattle.std.specs.Prelude.{◌≡◌, ℕ, ◌+◌, ◌≤◌, ◌<◌, true, false, [], ◌∷◌, Some, None, refl}
use Rattle.srm_names.specs.declared.limits.TheConstants.{LATEST_MOMENT, MEMBERS}
use Rattle.srm_names.specs.declared.drawop.Drawop.{Drawop}
use Rattle.srm_names.proofs.Lists.{All-Has, find-Has}
use Rattle.srm_store.specs.Fits.{StoreFits}
use Rattle.srm_store.specs.Held.{held_at, has_name}
use Rattle.srm_store.specs.Stores.{StoreContent}
use Rattle.srm_bucket.specs.Calls.{Classed, Popped}
use Rattle.srm_outbox.specs.declared.out.Outgoing.{Outgoing}
use Rattle.srm_codec.specs.declared.datagram.Datagram.TheVariants.{Data, Session}
use Rattle.srm_names.specs.Names.{first_page}
use Rattle.srm_entries.specs.Bucket.{pops}
use Rattle.srm_entries.specs.Sample.{first_drawop}
use Rattle.std.proofs.Common.{arith, sym, ◌∙◌, lit<, lit≤}
use Rattle.srm_codec.specs.Spelling.{is_drawop}
use Rattle.srm_outbox.specs.DueItems.{HoldsSpellable, MayHandIn}
use Rattle.srm_outbox.specs.Outbox.{NothingWent}

-- a tick pops until nothing comes
pops_of_two : (i j : Classed Outgoing) → pops 7 (i ∷ j ∷ []) ≡ Popped 7 (Some i) ∷ Popped 7 (Some j) ∷ Popped 7 None ∷ []
pops_of_two i j = refl

nothing_went : NothingWent (record { outs = []; noted = []; room = 3 })
nothing_went = record { outs = refl; noted = refl }

something_went : NothingWent (record { outs = []; noted = Data first_drawop ∷ []; room = 3 }) → ⊥
something_went h = let k : Data first_drawop ∷ [] ≡ [] = h.noted in absurd (cc)

-- a session message doesn't wait for the bucket
no_session_message : (me sent : ℕ) → MayHandIn me (Session me sent false first_page [] []) → ⊥
no_session_message me sent h = let k : true ≡ false = h.charged in absurd (cc)

nor_another_s_data : MayHandIn 1 (Data first_drawop) → ⊥
nor_another_s_data h = let k : 0 ≡ 1 = h.sender in absurd (omega (arith, k))

-- a stroke that can be spelled, and one whose stamp is past the latest moment
stroke_spelled : (s : StoreContent) → StoreFits (first_drawop ∷ []) [] [] s → HoldsSpellable s
stroke_spelled s fits = record {
  inserted = first_drawop ∷ [];
  evidence = [];
  settled = [];
  fits = fits;
  spellable = (((lit< tt, (lit< tt, lit< tt), lit≤ tt, lit≤ tt), lit≤ tt, lit≤ tt), tt);
}

abbrev late_drawop : Drawop
late_drawop = record first_drawop { stamp = LATEST_MOMENT + 1 }

nor_is_a_late_stroke : (s : StoreContent) → StoreFits (late_drawop ∷ []) [] [] s → HoldsSpellable s → ⊥
nor_is_a_late_stroke s fits h =
    let held : held_at h.inserted late_drawop.name ≡ Some late_drawop = sym (h.fits.held late_drawop.name (lit< tt)) ∙ fits.held late_drawop.name (lit< tt) in
    let late = All-Has is_drawop late_drawop h.inserted h.spellable (find-Has (has_name late_drawop.name) h.inserted late_drawop held).0 in
    omega (arith, late.1)
