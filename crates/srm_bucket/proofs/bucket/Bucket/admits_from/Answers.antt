use Rattle.std.proofs.Common.{sym, ◌∙◌, rules}
use Rattle.srm_bucket.proofs.Admitting.{from_clear, from_too_much}
use Rattle.srm_bucket.proofs.bucket.Bucket.admits_from.Goals as goal

pub returns-then-is_clear : goal.returns-then-is_clear
returns-then-is_clear g c = rw (c.last.ensures, ← c.self.view_is) (from_clear _ c.args.class c.args.bytes (sym c.is_clear.ensures ∙ c.if-is_clear.true))

pub returns-then-rest-price : goal.returns-then-rest-price
returns-then-rest-price g c = rw (← c.self.view_is)
    (from_too_much _ c.args.class c.args.bytes c.full_level-full.result c.in_ok-rest.rest c.cost-price.result (sym c.is_clear.ensures ∙ c.if-is_clear.false) c.full_level-full.ensures.value c.cost-price.ensures
    (sym c.rest_behind.ensures ∙ c.in_ok-rest.was) (search rules))
