-- The engine with the bytes of its lines: what it is between calls, and what a call makes of it (MQTT 5.0, 2.1, 4.1).
use Rattle.std.specs.Prelude.{◌≡◌, ℕ, suc, Bool, false, not, nat_eq, List, [], ◌∷◌, ◌++◌, filter, map, Option, Some, None, Result, IsOkAnd, IfOk, OnErr}
use Rattle.std.specs.List.{list_any}
use Rattle.mqtt_keep.specs.declared.keeping.keep.Keep.{Ghosts}
use Rattle.mqtt_records.specs.lists.Order.{IsBelow, remove_row}
use Rattle.mqtt_rules.specs.step.Lines.{line_number}
use Rattle.mqtt_rules.specs.step.State.{Broker, line_at}
use Rattle.mqtt_rules.specs.step.Step.{Call, nothing_told}
use Rattle.mqtt_broker.specs.engine.Framers.{HeldLine, begun, line_of}
use Rattle.mqtt_broker_step.specs.declared.call.EngineError.{EngineError}
use Rattle.mqtt_broker.specs.declared.stored.outcome.Outcome.{Outcome}
use Rattle.mqtt_broker.specs.stored.Calling.{Called, Tells}
use Rattle.mqtt_broker.specs.stored.Running.{Running}

-- an engine over a store, and what each line that is linked holds: the bytes that came on it and were not answered yet
pub record Serving (K : Type 0) : Type 0 where
  pub running : Running K
  pub held : List HeldLine

abbrev pub serving : {K : Type 0} → Running K → List HeldLine → Serving K
serving running held = record { running = running; held = held }

-- the lines that hold bytes are those that are linked, and their numbers were given
pub record IsOfLines (held : List HeldLine) (b : Broker) : Type 0 where
  pub linked : map line_of held ≡ map line_number b.lines
  pub given : IsBelow line_of (suc b.given) held

-- ---- what the lines hold after a call

abbrev pub has_closed : List ℕ → ℕ → Bool
has_closed closed line = list_any (nat_eq line) closed

-- a line that closed holds nothing any more, and each other what it held
abbrev pub without_closed : List ℕ → List HeldLine → List HeldLine
without_closed closed held = filter (λ h. not (has_closed closed h.line)) held

-- they close one after the other
abbrev pub ended : List ℕ → List HeldLine → List HeldLine
ended [] held = held
ended (line ∷ closed) held = ended closed (remove_row line_of line held)

-- a line that was linked holds nothing yet, and each other what it held
abbrev pub with_linked : Option ℕ → List HeldLine → List HeldLine
with_linked None held = held
with_linked (Some line) held = held ++ begun line ∷ []

-- ---- what a call makes of the engine, and what it answers

-- on a line that isn't linked, an engine that hasn't stopped answers nothing, whatever memory there is
abbrev pub IsPassedOver : {K : Type 0} → ℕ → Serving K → Result Outcome EngineError → Type 0
IsPassedOver line old result =
    line_at line old.running.broker ≡ None → old.running.stopped ≡ false → IsOkAnd result (λ out. Tells nothing_told out)

pub record Served {K : Type 0} (g : Ghosts K) (now : ℕ) (call : Call) (old : Serving K) (result : Result Outcome EngineError) (new : Serving K)
    : Type 0 where
  -- it is the call of the engine
  pub called : Called g now call old.running result new.running
  -- Ok: each line that closed holds nothing any more; otherwise each holds what it held
  pub held : IfOk result (λ out. new.held ≡ without_closed out.closed.items old.held)
  pub kept : OnErr result (new.held ≡ old.held)
