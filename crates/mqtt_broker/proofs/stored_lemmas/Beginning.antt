-- A step begins on rows that are alike to those of the whole broker.
use Rattle.std.proofs.Common.{◌≡◌, ℕ, Bool, false, ap, sym, subst, ◌∙◌}
use Rattle.std.specs.Prelude.{Result, ⊤}
use Rattle.mqtt_keep.specs.declared.keeping.keep.Keep.{Ghosts}
use Rattle.mqtt_routes.specs.routing.Subscriptions.{HeldSessions}
use Rattle.mqtt_rules.specs.declared.step.Capacity.{Capacity}
use Rattle.mqtt_rules.specs.step.Contents.{TakesLawful}
use Rattle.mqtt_rules.specs.step.Routing.{subscribers}
use Rattle.mqtt_rules.specs.step.State.{Broker, MemberChoice}
use Rattle.mqtt_rules.specs.step.Step.{Call, told}
use Rattle.mqtt_rules.specs.alike.Alike.{IsPump}
use Rattle.mqtt_rules.specs.filling.Filling.{filled}
use Rattle.mqtt_rules.proofs.filling_lemmas.Steps.{call_tells}
use Rattle.mqtt_broker_step.specs.declared.fault.StepFault.{StepFault}
use Rattle.mqtt_broker_step.specs.declared.call.EngineError.{EngineError}
use Rattle.mqtt_broker_step.specs.Stepping.{Stepping}
use Rattle.mqtt_broker_acts.specs.clock.Quiet.{AreQuietBefore}
use Rattle.mqtt_broker_queue.specs.subscribers.Indexing.{Serves}
use Rattle.mqtt_broker_acts.specs.calls.Doing.{IsCalled}
use Rattle.mqtt_broker.specs.declared.stored.outcome.Outcome.{Outcome}
use Rattle.mqtt_broker.specs.stored.Running.{Running}
use Rattle.mqtt_broker.specs.stored.Calling.{Called}
use Rattle.mqtt_broker.specs.stored.Finishing.{HasWhole, HoldsWhole, IsAtRest, IsUnderWay}
use Rattle.mqtt_broker.specs.stored.Viewing.{viewed, viewed_before}
use Rattle.mqtt_broker.specs.declared.stored.parts.EngineParts.{EngineParts}

module _ {K : Type 0} (g : Ghosts K) (now : ℕ) (call : Call) (again : Bool) (done : Result ⊤ StepFault) (p : EngineParts K) where
  -- a step under way, from what it began on
  pub begins : (index : HeldSessions) (some : Broker) (limits : Capacity) (t : Stepping) → p.stopped ≡ false → (h : HasWhole g p.keep p.hand limits some)
      → (g.is_sound p.keep → (choice : MemberChoice) → told limits choice now call some ≡ told limits choice now call h.whole) → TakesLawful call
      → (p.is_stale ≡ false → Serves index.sessions (subscribers some.records)) → AreQuietBefore p.quiet some.records
      → t.start ≡ some → t.limits ≡ limits → IsCalled now call again done t → IsUnderWay g now call again done (record p { step = t; index = index })
  begins index some limits t runs h tells taken serves quiet start same called = record {
    runs = runs;
    whole = h.whole;
    its = subst (λ (b : Broker). HoldsWhole g p.keep t.limits b h.whole) (sym start) (subst (λ (l : Capacity). HoldsWhole g p.keep l some h.whole) (sym same) h.its);
    at_hand = h.at_hand;
    tells = λ sound choice.
        subst (λ (b : Broker). told t.limits choice now call b ≡ told t.limits choice now call h.whole) (sym start)
        (subst (λ (l : Capacity). told l choice now call some ≡ told l choice now call h.whole) (sym same) (tells sound choice));
    taken = taken;
    goes = record {
      serves = λ fresh. subst (λ (b : Broker). Serves index.sessions (subscribers b.records)) (sym start) (serves fresh);
      quiet = subst (λ (b : Broker). AreQuietBefore p.quiet b.records) (sym start) quiet;
    };
    called = called;
  }

  -- a call that is no pump tells of slim rows what it tells of the whole broker
  pub others_tell : (some : Broker) (limits : Capacity) (h : HasWhole g p.keep p.hand limits some) → (IsPump call → ⊥) → (choice : MemberChoice) → told limits choice now call some ≡ told limits choice now call h.whole
  others_tell some limits h never choice = call_tells limits choice now call some h.whole never h.its.alike

  -- what was called where the step began was called of that engine
  pub called_of : (index : HeldSessions) (some : Broker) (limits : Capacity) (t : Stepping) (result : Result Outcome EngineError) (new : Running K) → t.start ≡ some → t.limits ≡ limits
      → Called g now call (viewed_before g (record p { step = t; index = index })) result new
      → Called g now call (record { keep = p.keep; limits = limits; broker = filled (g.fillings p.keep) some; stopped = p.stopped }) result new
  called_of index some limits t result new start same called =
      subst (λ (l : Capacity). Called g now call (record { keep = p.keep; limits = l; broker = filled (g.fillings p.keep) some; stopped = p.stopped }) result new) same
      (subst (λ (b : Broker). Called g now call (record { keep = p.keep; limits = t.limits; broker = filled (g.fillings p.keep) b; stopped = p.stopped }) result new) start called)

-- ---- calls that are no pump, of an engine at rest that runs

module _ {K : Type 0} (g : Ghosts K) (now : ℕ) (call : Call) (again : Bool) (done : Result ⊤ StepFault) (p : EngineParts K) (old : Running K) (same : viewed g p ≡ old)
    (index : HeldSessions) (t : Stepping) (start : t.start ≡ p.step.broker) (limits : t.limits ≡ p.step.limits) where
  -- a call that is no pump is under way once its step has done its deeds
  pub begins_call : IsAtRest g p → old.stopped ≡ false → (IsPump call → ⊥) → TakesLawful call → (p.is_stale ≡ false → Serves index.sessions (subscribers p.step.broker.records))
      → IsCalled now call again done t → IsUnderWay g now call again done (record p { step = t; index = index })
  begins_call rest running never taken serves called =
      let runs : p.stopped ≡ false = ap (λ (r : Running _). r.stopped) same ∙ running in
      let h = rest.its runs in
      begins g now call again done p index p.step.broker p.step.limits t runs h (λ sound. others_tell g now call again done p p.step.broker p.step.limits h never) taken serves rest.goes.quiet start limits called

  -- a call of the parts is one of the value that they had when it began
  pub call_of_view : (result : Result Outcome EngineError) (new : Running K) → Called g now call (viewed_before g (record p { step = t; index = index })) result new → Called g now call old result new
  call_of_view result new called =
      subst (λ (r : Running _). Called g now call r result new) same (called_of g now call again done p index p.step.broker p.step.limits t result new start limits called)
