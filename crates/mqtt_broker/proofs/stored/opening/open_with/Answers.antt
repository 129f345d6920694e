use Rattle.std.proofs.Common.{◌≡◌, ap, sym, subst, inl, inr}
use Rattle.std.specs.Prelude.{Err}
use Rattle.mqtt_keep.specs.declared.keeping.keep.KeepError.TheVariants.{Disk}
use Rattle.mqtt_rules.specs.declared.step.Capacity.{Capacity}
use Rattle.mqtt_broker_step.specs.Stepping.{Stepping}
use Rattle.mqtt_broker.specs.stored.Finishing.{HoldsWhole}
use Rattle.mqtt_broker.proofs.stored_lemmas.Answering.{refused_store, rest_again}
use Rattle.mqtt_broker.proofs.stored_lemmas.Begun.{opened_as}
use Rattle.mqtt_broker.proofs.stored.opening.open_with.Goals as goal

pub over-requires-clause-rest : goal.over-requires-clause-rest
over-requires-clause-rest g c =
    let h = c.requires.begun in
    rest_again h.0 c.store.new.step (c.in-Ok.ensures.told h.0 h.1 h.2 h.3).held.rest

pub over-requires-clause-whole : goal.over-requires-clause-whole
over-requires-clause-whole g c =
    let h = c.requires.begun in
    let held = (c.in-Ok.ensures.told h.0 h.1 h.2 h.3).held in
    (held.after, subst (λ (l : Capacity). HoldsWhole g.K.Keep c.store.new.keep l c.store.new.step.broker held.after) (sym (ap (λ (t : Stepping). t.limits) held.rest)) held.its)

pub returns-in-Ok : goal.returns-in-Ok
returns-in-Ok g c = λ first limits now whole u passed identifiers begun.
    let told = c.in-Ok.ensures.told limits now whole u in
    opened_as g.K.Keep g.met.K.Keep.tells limits now first whole c.args.keep c.store.new.keep c.store.new.step told.held c.over.result c.over.ensures
    begun u.over.lawful passed identifiers told.sound told.crash

pub returns-in-Err : goal.returns-in-Err
returns-in-Err g c = λ first limits now whole u passed identifiers begun.
    let told = c.in-Err.ensures.told limits now whole u in
    refused_store g.K.Keep limits now first whole c.args.keep c.store.new.keep c.in-Err.error begun
    (λ e. told.spent (ap Err e)) (λ e. told.schema (ap Err e))
    (λ h. told.cause (elim h [ inl e ↦ inl (ap Err e) | inr e ↦ inr (ap Err e) ]))
    (λ fine. told.same (λ e. let same : c.in-Err.error ≡ Disk = cc in fine same))
    told.crash told.sound
