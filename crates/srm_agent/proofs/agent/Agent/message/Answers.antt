use Rattle.std.proofs.Common.{◌≡◌, ◌<◌, ap, sym, ◌∙◌, subst}
use Rattle.srm_names.specs.declared.limits.TheConstants.{MEMBERS}
use Rattle.srm_codec.specs.Spelling.{is_page}
use Rattle.srm_agent.specs.Contents.{AgentContent}
use Rattle.srm_agent.specs.SessionMessages.{IsSessionMessageOf}
use Rattle.srm_agent.proofs.MessageSpelled.{message_is, is_spellable}
use Rattle.srm_agent.proofs.agent.Agent.message.Goals as goal

pub returns : goal.returns
returns g c =
    let me : c.me.result ≡ c.args.self.now.config.me = c.me.ensures ∙ ap (λ (a : AgentContent _). a.config.me) c.self.view_is in
    let shown : c.self.inside.showing ≡ c.args.self.now.showing = ap (λ (a : AgentContent _). a.showing) c.self.view_is in
    subst (IsSessionMessageOf c.args.self.now c.args.moment c.args.farewell) (sym c.session.ensures)
    (message_is c.args.self.now c.args.moment c.args.farewell c.me.result c.self.inside.showing c.in_ok-rows.rows.items c.in_ok-echoes.echoes.items me shown c.in_ok-rows.ensures c.in_ok-echoes.ensures
    (is_spellable c.args.self.now c.args.moment c.args.farewell c.me.result c.self.inside.showing c.in_ok-rows.rows.items c.in_ok-echoes.echoes.items me c.requires
    (subst (λ m. m < MEMBERS) (sym me) c.is_in_range.ensures.me) (subst is_page (sym shown) c.is_in_range.ensures.showing) c.in_ok-rows.ensures c.in_ok-echoes.ensures))
