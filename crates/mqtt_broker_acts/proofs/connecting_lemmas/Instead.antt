-- A CONNECT while more sessions stand than may.
use Rattle.std.proofs.Common.{[], refl}
use Rattle.mqtt_rules.specs.step.State.{Env}
use Rattle.mqtt_rules.specs.step.Deeds.{Act}
use Rattle.mqtt_broker_step.specs.declared.fault.StepFault.{StepFault}
use Rattle.mqtt_broker_step.specs.declared.fault.StepFault.TheVariants.{Memory}
use Rattle.mqtt_broker_step.specs.Stepping.{Stepping}
use Rattle.mqtt_broker_queue.specs.publications.Choosing.{LeavesSome}

-- what was refused for any reason is refused for want of memory
pub memory_instead : (first whole : Env → Act) (fault : StepFault) (s new : Stepping) → LeavesSome first fault s new → LeavesSome whole Memory s new
memory_instead first whole fault s new left =
    let is = left.is (λ number sender. left.members) refl in
    record {
      number = 0;
      sender = [];
      members = [];
      is = λ choice same. record { start = is.start; limits = is.limits; spent = λ e. absurd cc };
    }
