-- A step that has begun, and one that hasn't.
use Rattle.std.proofs.Common.{◌≡◌, ℕ, [], ap, sym, subst, ◌∙◌}
use Rattle.mqtt_records.specs.declared.state.records.Records.{Records}
use Rattle.mqtt_rules.specs.declared.step.Capacity.{Capacity}
use Rattle.mqtt_rules.specs.step.State.{Broker, Env}
use Rattle.mqtt_rules.specs.step.Deeds.{Act}
use Rattle.mqtt_rules.specs.step.Step.{at_moment}
use Rattle.mqtt_broker_step.specs.declared.fault.StepFault.{StepFault}
use Rattle.mqtt_broker_step.specs.declared.fault.StepFault.TheVariants.{Memory}
use Rattle.mqtt_broker_step.specs.Stepping.{Stepping, IsLeft, at_rest, env_in, with_broker}
use Rattle.mqtt_broker_queue.specs.publications.Choosing.{LeavesSome}
use Rattle.mqtt_broker_acts.specs.calls.Doing.{begun}

-- a step at rest that is moved to a moment is one that has begun
pub begun_is : (now : ℕ) (s s1 : Stepping) → s ≡ at_rest s.limits s.broker → s1 ≡ with_broker (at_moment now s.broker) s → s1 ≡ begun s.limits now s.broker
begun_is now s s1 rest is = is ∙ ap (with_broker (at_moment now s.broker)) rest

-- what is stored stays
pub at_begun : (P : Records → Type 0) (limits : Capacity) (now : ℕ) (b : Broker) (s : Stepping) → s ≡ begun limits now b → P b.records → P s.broker.records
at_begun P limits now b s same h = subst (λ (t : Stepping). P t.broker.records) (sym same) h

-- want of memory leaves a step that can be taken back
pub memory_left : (act : Act) (fault : StepFault) (s new : Stepping) → new.start ≡ s.start → new.limits ≡ s.limits → fault ≡ Memory → IsLeft act fault s new
memory_left act fault s new start limits memory = record { start = start; limits = limits; spent = λ e. absurd cc }

-- want of memory may leave any act undone
pub memory_some : (act : Env → Act) (fault : StepFault) (s new : Stepping) → new.start ≡ s.start → new.limits ≡ s.limits → fault ≡ Memory → LeavesSome act fault s new
memory_some act fault s new start limits memory = record {
  number = 0;
  sender = [];
  members = [];
  is = λ choice same. memory_left (act (env_in choice s)) fault s new start limits memory;
}

-- a step that didn't begin
pub unbegun_left : (act : Act) (now : ℕ) (fault : StepFault) (s new : Stepping) → s ≡ at_rest s.limits s.broker → new ≡ s → fault ≡ Memory → IsLeft act fault (begun s.limits now s.broker) new
unbegun_left act now fault s new rest same memory =
    memory_left act fault (begun s.limits now s.broker) new
    (ap (λ (t : Stepping). t.start) same ∙ ap (λ (t : Stepping). t.start) rest)
    (ap (λ (t : Stepping). t.limits) same) memory

-- and also a step that did not begin
pub unbegun_some : (act : Env → Act) (now : ℕ) (fault : StepFault) (s new : Stepping) → s ≡ at_rest s.limits s.broker → new ≡ s → fault ≡ Memory → LeavesSome act fault (begun s.limits now s.broker) new
unbegun_some act now fault s new rest same memory =
    memory_some act fault (begun s.limits now s.broker) new
    (ap (λ (t : Stepping). t.start) same ∙ ap (λ (t : Stepping). t.start) rest)
    (ap (λ (t : Stepping). t.limits) same) memory
