use Rattle.std.proofs.Common.{◌≡◌, refl, sym, subst}
use Rattle.std.specs.Prelude.{Err, ⊤, Result}
use Rattle.mqtt_broker_step.specs.declared.fault.StepFault.{StepFault}
use Rattle.mqtt_broker_step.specs.declared.fault.StepFault.TheVariants as faults
use Rattle.mqtt_broker_step.specs.declared.call.EngineError.{EngineError}
use Rattle.mqtt_broker_step.specs.declared.call.EngineError.TheVariants.{Memory, Spent, Stopped}
use Rattle.mqtt_broker.specs.stored.Calling.{Called}
use Rattle.mqtt_broker.specs.stored.Finishing.{IsAtRest, IsUnderWay}
use Rattle.mqtt_broker.specs.stored.Viewing.{viewed, viewed_before}
use Rattle.mqtt_broker.specs.declared.stored.parts.EngineParts.{EngineParts}
use Rattle.mqtt_broker.proofs.stored_lemmas.Finished.{back_called, back_rest, under_way_ordered}
use Rattle.mqtt_broker.proofs.stored.parts.EngineParts.finish_filled.Goals as goal

pub returns-in-Ok-clause-called : goal.returns-in-Ok-clause-called
returns-in-Ok-clause-called g c = λ now call u.
    c.store.ensures.called now call (subst (λ (r : Result ⊤ StepFault). IsUnderWay g.K.Keep now call c.args.again r c.args.self.now) c.in-Ok.is u)

-- a fault stays what it is
never_stops : (fault : StepFault) (e : EngineError) → (fault ≡ faults.Memory → e ≡ Memory) → (fault ≡ faults.Spent → e ≡ Spent) → e ≡ Stopped → ⊥
never_stops faults.Memory e memory spent is = let not_so = memory refl in absurd cc
never_stops faults.Spent e memory spent is = let not_so = spent refl in absurd cc

spent_fault : (fault : StepFault) (e : EngineError) → (fault ≡ faults.Memory → e ≡ Memory) → e ≡ Spent → fault ≡ faults.Spent
spent_fault faults.Memory e memory is = let not_so = memory refl in absurd cc
spent_fault faults.Spent e memory is = refl

pub take_back-requires-clause-ordered : goal.take_back-requires-clause-ordered
take_back-requires-clause-ordered g c =
    let its = c.requires.under_way in
    under_way_ordered g.K.Keep its.0 its.1 c.args.again c.args.done c.args.self.now its.2

pub returns-in-Err-clause-called : goal.returns-in-Err-clause-called
returns-in-Err-clause-called g c = λ now call u.
    let p = c.args.self.now in
    let fault = c.in-Err.fault in
    let v : IsUnderWay g.K.Keep now call c.args.again (Err fault) p = subst (λ (r : Result ⊤ StepFault). IsUnderWay g.K.Keep now call c.args.again r p) c.in-Err.is u in
    subst (λ (t : EngineParts _). Called g.K.Keep now call (viewed_before g.K.Keep p) (Err c.refusal.result) (viewed g.K.Keep t)) (sym c.take_back.ensures)
    (back_called g.K.Keep g.met.K.Keep.tells now call c.args.again p (Err fault) v c.refusal.result
    (never_stops fault c.refusal.result c.refusal.ensures.memory c.refusal.ensures.spent)
    (λ is. v.called (spent_fault fault c.refusal.result c.refusal.ensures.memory is)))

pub returns-in-Err-clause-rest : goal.returns-in-Err-clause-rest
returns-in-Err-clause-rest g c =
    let p = c.args.self.now in
    let its = c.requires.under_way in
    subst (λ (t : EngineParts _). IsAtRest g.K.Keep t) (sym c.take_back.ensures)
    (back_rest g.K.Keep g.met.K.Keep.tells its.0 its.1 c.args.again p c.args.done its.2)
