use Rattle.std.proofs.Common.{◌≡◌, ◌-◌, length, take, true, false, refl, ap, sym, ◌∙◌, arith, subst}
use Rattle.srm_window.specs.Senders.{numbered, admits_of, windows_after}
use Rattle.srm_guard.specs.Seals.{SealView, HasNoSeal}
use Rattle.srm_guard.specs.Tags.{tagged, HasNoTag}
use Rattle.srm_guard.proofs.Sealing.{no_seal_untagged, no_seal_unnumbered, opens_datagram, opens_again, tagged_at, long_enough}
use Rattle.srm_guard.proofs.seal.Seal.open.Goals as goal

pub foreign-requires : goal.foreign-requires
foreign-requires c = rw (← c.self.view_is) (no_seal_untagged c.self.inside.key c.self.inside.me c.args.bytes.now (subst (λ me. HasNoTag c.self.inside.key me c.args.bytes.now) c.number.ensures.value c.in_default.ensures))

pub foreign-requires-in_default-number_at : goal.foreign-requires-in_default-number_at
foreign-requires-in_default-number_at c = rw (← c.self.view_is) (no_seal_unnumbered c.self.inside.key c.self.inside.me c.args.bytes.now c.in-Some.end (long_enough c.self.inside.key c.number.result c.args.bytes.now c.in-Some.end c.in-Some.ensures.0 c.in-Some.ensures.2) c.in_default-number_at.ensures)

pub returns-then-admit : goal.returns-then-admit
returns-then-admit c =
    let found = c.in-Some-number_at.ensures in
    let admits : admits_of (numbered c.in-Some-number_at.number.sender c.in-Some-number_at.number.counter) c.args.self.now.windows ≡ true = sym c.admit.ensures.admits ∙ c.if-admit.true in
    let noted : c.admit.new.self ≡ record c.args.self.now { windows = windows_after (numbered c.in-Some-number_at.number.sender c.in-Some-number_at.number.counter) c.args.self.now.windows } = c.admit.ensures.noted in
    let tag : c.args.bytes.now ≡ tagged c.args.self.now.key c.args.self.now.me (take c.in-Some.end c.args.bytes.now) = tagged_at c.args.self.now c.self.inside.key c.self.inside.me c.number.result c.args.bytes.now c.in-Some.end (ap (λ (s : SealView). s.key) c.self.view_is) (ap (λ (s : SealView). s.me) c.self.view_is) c.number.ensures.value c.in-Some.ensures.2 in
    opens_datagram c.args.self.now c.admit.new.self c.args.bytes.now c.in-Some.end c.in-Some-number_at.number.length (numbered c.in-Some-number_at.number.sender c.in-Some-number_at.number.counter)
    c.in-Some.ensures.0 c.in-Some.ensures.1 tag found.0 found.1 found.2 found.3 admits noted

pub returns-else-admit : goal.returns-else-admit
returns-else-admit c =
    let found = c.in-Some-number_at.ensures in
    let admits : admits_of (numbered c.in-Some-number_at.number.sender c.in-Some-number_at.number.counter) c.args.self.now.windows ≡ false = sym c.admit.ensures.admits ∙ c.if-admit.false in
    let noted : c.admit.new.self ≡ record c.args.self.now { windows = windows_after (numbered c.in-Some-number_at.number.sender c.in-Some-number_at.number.counter) c.args.self.now.windows } = c.admit.ensures.noted in
    let tag : c.args.bytes.now ≡ tagged c.args.self.now.key c.args.self.now.me (take c.in-Some.end c.args.bytes.now) = tagged_at c.args.self.now c.self.inside.key c.self.inside.me c.number.result c.args.bytes.now c.in-Some.end (ap (λ (s : SealView). s.key) c.self.view_is) (ap (λ (s : SealView). s.me) c.self.view_is) c.number.ensures.value c.in-Some.ensures.2 in
    opens_again c.args.self.now c.admit.new.self c.args.bytes.now c.in-Some.end c.in-Some-number_at.number.length (numbered c.in-Some-number_at.number.sender c.in-Some-number_at.number.counter)
    c.in-Some.ensures.0 c.in-Some.ensures.1 tag found.0 found.1 found.2 found.3 admits noted
