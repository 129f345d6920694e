-- What the first bytes of a line ask of the engine, if anything is whole (MQTT 5.0, 2.1, 4.13).
use Rattle.std.specs.Prelude.{◌≡◌, ℕ, Option, Some, None, Result, IfOk, IfErr}
use Rattle.mqtt_keep.specs.declared.keeping.keep.Keep.{Ghosts}
use Rattle.mqtt_rules.specs.step.Step.{Call, at_moment, nothing_told}
use Rattle.mqtt_broker_step.specs.declared.call.EngineError.{EngineError}
use Rattle.mqtt_broker_step.specs.declared.call.EngineError.TheVariants.{Memory}
use Rattle.mqtt_broker.specs.declared.stored.outcome.Outcome.{Outcome}
use Rattle.mqtt_broker.specs.stored.Calling.{Called, Tells}
use Rattle.mqtt_broker.specs.stored.Running.{Running}

-- nothing came about but that the moment is the greatest handed in; or, for want of memory, not even that
pub record Rested {K : Type 0} (now : ℕ) (old : Running K) (result : Result Outcome EngineError) (new : Running K) : Type 0 where
  pub told : IfOk result (λ out. Tells nothing_told out × (new ≡ record old { broker = at_moment now old.broker }))
  pub memory : IfErr result (λ error. (error ≡ Memory) × (new ≡ old))

-- what is asked was called; if nothing is, the engine rested
abbrev pub CalledIf : {K : Type 0} (g : Ghosts K) (now : ℕ) (call : Option Call) (old : Running K) (result : Result Outcome EngineError) (new : Running K) → Type 0
CalledIf g now None old result new = Rested now old result new
CalledIf g now (Some call) old result new = Called g now call old result new
