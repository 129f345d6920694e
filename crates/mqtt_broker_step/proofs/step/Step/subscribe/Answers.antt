use Rattle.std.proofs.Common.{◌≡◌, ◌∷◌, [], refl, ap, sym, subst}
use Rattle.mqtt_records.specs.declared.state.change.Change.TheVariants.{PutSubscription}
use Rattle.mqtt_records.specs.declared.state.subscription.Subscription.{Subscription as TheSubscription}
use Rattle.mqtt_rules.specs.step.Deeds.{Subscribe}
use Rattle.mqtt_broker_step.specs.Backs.{TakesBack}
use Rattle.mqtt_broker_step.proofs.Doing.{on_ok, if_err_too, stands, part_ok, part_left}
use Rattle.mqtt_broker_step.proofs.step.Step.subscribe.Goals as goal

pub make-requires : goal.make-requires
make-requires c =
    let x = c.in-Some.session.now in
    let same : c.in-Ok-new.subscription ≡ c.args.subscription = c.in-Ok-new.ensures in
    subst (λ (y : TheSubscription). TakesBack (PutSubscription x.birth y) c.in-Ok.undo x) (sym same) c.in-Ok.ensures
    c.args.self.now.broker.records (stands c.args.birth c.args.self.now.broker.records x (sym c.in-Some.ensures))

pub returns-in-Ok-new-clause-ok : goal.returns-in-Ok-new-clause-ok
returns-in-Ok-new-clause-ok c =
    let x = c.in-Some.session.now in
    let same : c.in-Ok-new.subscription ≡ c.args.subscription = c.in-Ok-new.ensures in
    on_ok c.make.result
    (part_ok c.args.birth (Subscribe c.args.subscription) (PutSubscription x.birth c.in-Ok-new.subscription) x c.args.self.now c.make.new.self (sym c.in-Some.ensures)
    (ap (λ (y : TheSubscription). PutSubscription x.birth y ∷ []) (sym same)) refl refl)
    c.make.ensures.ok

pub returns-in-Ok-new-clause-left : goal.returns-in-Ok-new-clause-left
returns-in-Ok-new-clause-left c =
    let x = c.in-Some.session.now in
    let same : c.in-Ok-new.subscription ≡ c.args.subscription = c.in-Ok-new.ensures in
    if_err_too c.make.result
    (λ e. part_left c.args.birth (Subscribe c.args.subscription) (PutSubscription x.birth c.in-Ok-new.subscription) x e c.args.self.now c.make.new.self (sym c.in-Some.ensures)
    (ap (λ (y : TheSubscription). PutSubscription x.birth y ∷ []) (sym same)))
    c.make.ensures.fault c.make.ensures.err
