-- A call done in place: what it made of a step that began where none was under way (MQTT 5.0, 4.1).
use Rattle.std.specs.Prelude.{◌≡◌, ⊤, ℕ, Bool, Result, Ok, Err}
use Rattle.mqtt_rules.specs.declared.step.Capacity.{Capacity}
use Rattle.mqtt_rules.specs.step.State.{Broker, MemberChoice}
use Rattle.mqtt_rules.specs.step.Step.{Call, SpentStep, at_moment, deeds, is_again}
use Rattle.mqtt_broker_step.specs.declared.fault.StepFault.{StepFault}
use Rattle.mqtt_broker_step.specs.declared.fault.StepFault.TheVariants.{Spent}
use Rattle.mqtt_broker_step.specs.Stepping.{Stepping, at_rest, did, with_broker}

-- a step that has begun at a moment, if none was under way
abbrev pub begun : Capacity → ℕ → Broker → Stepping
begun limits now b = with_broker (at_moment now b) (at_rest limits b)

-- since it began, it did the deeds of a call, for some choice of members, and more may be there
pub record DidCall (now : ℕ) (call : Call) (again : Bool) (s : Stepping) : Type 0 where
  pub choice : MemberChoice
  pub is : s ≡ did (deeds s.limits choice now call s.start) (begun s.limits now s.start)
  pub again_is : again ≡ is_again call (deeds s.limits choice now call s.start)

-- or it was refused, and numbers are spent only if the call's are
abbrev pub IsCalled : (now : ℕ) (call : Call) (again : Bool) → Result ⊤ StepFault → Stepping → Type 0
IsCalled now call again (Ok done) s = DidCall now call again s
IsCalled now call again (Err fault) s = fault ≡ Spent → SpentStep s.limits s.start now call
