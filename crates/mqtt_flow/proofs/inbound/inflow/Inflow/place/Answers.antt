use Rattle.std.proofs.Common.{ap, ◌∙◌, subst}
use Rattle.std.specs.Prelude.{IfOk, IfErr}
use Rattle.mqtt_flow.specs.inbound.Inflow.{StandsAt, BelongsAt}
use Rattle.mqtt_flow.proofs.inbound.inflow.Inflow.place.Goals as goal

pub place-requires : goal.place-requires
place-requires c = rw c.deref.ensures.value c.self.invariant

pub returns-clause-found : goal.returns-clause-found
returns-clause-found c =
    subst (λ ids. IfOk c.place.result (StandsAt c.args.id ids)) (c.deref.ensures.value ∙ ap (λ v. v.ids) c.self.view_is) c.place.ensures.found

pub returns-clause-missing : goal.returns-clause-missing
returns-clause-missing c =
    subst (λ ids. IfErr c.place.result (BelongsAt c.args.id ids)) (c.deref.ensures.value ∙ ap (λ v. v.ids) c.self.view_is) c.place.ensures.missing
