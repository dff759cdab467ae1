use Rattle.std.proofs.Common.{◌++◌, ◌∷◌, [], ap, sym, subst, ◌∙◌, refl, take, append_assoc}
use Rattle.std.proofs.lemmas.List.{append-nil, take_more, take_all}
use Rattle.srm_names.specs.FullName.{FullName}
use Rattle.srm_store.specs.Fits.{StoreFits}
use Rattle.srm_store.proofs.Rooming.{not_refused}
use Rattle.srm_store.proofs.Seating.{page_among}
use Rattle.srm_agent_state.proofs.Evident.{is_among}
use Rattle.srm_entries.proofs.Holding.{ok_then}
use Rattle.srm_agent_state.proofs.evidence.learn_all.Goals as goal

pub loop-name-init : goal.loop-name-init
loop-name-init c = record {
  fits = λ inserted evidence settled h. subst (λ ns. StoreFits inserted ns settled c.args.store.now) (sym (append-nil evidence)) h;
  finals = refl;
  slots = c.requires.slots;
}

pub unwrap-requires : goal.unwrap-requires
unwrap-requires c =
    let at = is_among c.args.names.now c.loop-name.name-index c.name-item.result c.name-item.is c.loop-name-test.true in
    not_refused c.learn.result (c.learn.ensures.slot _ (page_among c.args.names.now c.name-item.result at) c.loop-name.invariant.slots) c.learn.ensures.memory

pub loop-name-preserved : goal.loop-name-preserved
loop-name-preserved c =
    let at = is_among c.args.names.now c.loop-name.name-index c.name-item.result c.name-item.is c.loop-name-test.true in
    let in_page = page_among c.args.names.now c.name-item.result at in
    let ok = not_refused c.learn.result (c.learn.ensures.slot _ in_page c.loop-name.invariant.slots) c.learn.ensures.memory in
    record {
      fits = λ inserted evidence settled h.
          subst (λ ns. StoreFits inserted ns settled c.learn.new.self)
          (append_assoc evidence (take c.loop-name.name-index c.args.names.now) (c.name-item.result ∷ [])
          ∙ ap (λ (n : FullName). evidence ++ (take c.loop-name.name-index c.args.names.now ++ n ∷ [])) c.name-item.is
          ∙ ap (λ ns. evidence ++ ns) (sym (take_more c.args.names.now c.loop-name.name-index c.name-item.result c.loop-name-test.true)))
          (ok_then c.learn.result ok c.learn.ensures.fits inserted (evidence ++ take c.loop-name.name-index c.args.names.now) settled (c.loop-name.invariant.fits inserted evidence settled h));
      finals = c.learn.ensures.settling ∙ c.loop-name.invariant.finals;
      slots = c.learn.ensures.slots.each _ in_page c.loop-name.invariant.slots;
    }

pub returns : goal.returns
returns c = record {
  finals = c.loop-name.invariant.finals;
  each = λ inserted evidence settled h.
      subst (λ ns. StoreFits inserted (evidence ++ ns) settled c.loop-name.store) (take_all c.loop-name.name-index c.args.names.now c.loop-name-test.false) (c.loop-name.invariant.fits inserted evidence settled h);
}
