use Rattle.std.proofs.Common.{◌≡◌, true, map, ◌++◌, sym, subst, ap, ◌∙◌}
use Rattle.srm_names.specs.Histories.{or_else}
use Rattle.srm_names.specs.Names.{ascending, name_below, among}
use Rattle.srm_timers.specs.Expiries.{ExpiryContent, timed_at}
use Rattle.srm_deadlines.specs.Places.{names_of, moment_among, value_at, has_place}
use Rattle.srm_timers.proofs.Arming.{moments_names, moments_of}
use Rattle.srm_timers.proofs.expiries.Expiries.set_all.Goals as goal

pub set_all-requires-clause-rising : goal.set_all-requires-clause-rising
set_all-requires-clause-rising g c =
    let items = c.deref.ensures.value ∙ c.add_moments.ensures.items ∙ ap (λ ms. ms ++ map (timed_at c.args.now) c.args.arms.now) c.self.invariant in
    ap (λ ms. ascending name_below (names_of ms)) items ∙ ap (ascending name_below) (moments_names c.args.now c.args.arms.now) ∙ c.requires.rising

pub set_all-requires-clause-places : goal.set_all-requires-clause-places
set_all-requires-clause-places g c =
    let items = c.deref.ensures.value ∙ c.add_moments.ensures.items ∙ ap (λ ms. ms ++ map (timed_at c.args.now) c.args.arms.now) c.self.invariant in
    record {
      each = λ n at. subst (λ (e : ExpiryContent). has_place e.places n ≡ true) (sym c.self.view_is)
          (c.requires.room.places n (sym (ap (λ ms. among (names_of ms) n) items ∙ ap (λ ns. among ns n) (moments_names c.args.now c.args.arms.now)) ∙ at));
    }

pub returns-clause-sets : goal.returns-clause-sets
returns-clause-sets g c =
    let items = c.deref.ensures.value ∙ c.add_moments.ensures.items ∙ ap (λ ms. ms ++ map (timed_at c.args.now) c.args.arms.now) c.self.invariant in
    rw (← c.self.view_is) (record {
      each = λ n. c.set_all.ensures.sets.each n
          ∙ ap (λ o. or_else o (value_at (g.D.Deadlines.places c.self.inside.deadlines) n)) (ap (λ ms. moment_among ms n) items ∙ moments_of c.args.now c.args.arms.now n);
    })
