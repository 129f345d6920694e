-- What was said to each connection, by the answers of the broker's calls (MQTT 5.0, 4.2).
use Rattle.std.specs.Prelude.{◌≡◌, ◌⊎◌, ℕ, true, false, List, [], ◌++◌, Result, Ok, Err}
use Rattle.mqtt_keep.specs.declared.keeping.keep.Keep.{Ghosts}
use Rattle.mqtt_rules.specs.step.Laws.{IsAmong}
use Rattle.mqtt_broker_step.specs.declared.call.EngineError.{EngineError}
use Rattle.mqtt_broker.specs.declared.stored.outcome.Outcome.{Outcome}
use Rattle.mqtt_broker.specs.engine.Serving.{Serving}
use Rattle.mqtt_link.specs.Links.{and_then}
use Rattle.mqtt_serve.specs.turns.Leaving.{AreCalls, IsCalled, call_after, line_linked, no_call, piece_came, was_asked, was_told}
use Rattle.mqtt_serve.specs.turns.Wires.{Wire, IsOpened, bytes_to, is_standing}

-- ---- the outputs of calls, in order; a refusal has none

abbrev pub outputs_in : Result Outcome EngineError → List (ℕ × List ℕ)
outputs_in (Ok out) = out.outputs.items
outputs_in (Err error) = []

abbrev pub outputs_of_call : {K : Type 0} {g : Ghosts K} {old new : Serving K} → IsCalled g old new → List (ℕ × List ℕ)
outputs_of_call {K} {g} {old} {new} (line_linked now result called) = []
outputs_of_call {K} {g} {old} {new} (piece_came now number piece result called) = outputs_in result
outputs_of_call {K} {g} {old} {new} (was_asked now call result called) = outputs_in result
outputs_of_call {K} {g} {old} {new} (was_told result called) = []

abbrev pub outputs_of : {K : Type 0} {g : Ghosts K} {first last : Serving K} → AreCalls g first last → List (ℕ × List ℕ)
outputs_of {K} {g} {first} {last} no_call = []
outputs_of {K} {g} {first} {last} (call_after calls call) = outputs_of calls ++ outputs_of_call call

-- ---- what of them was said to a connection

-- All bytes of the outputs to its line, in order, if it stands still; else these, but for some at the end. To one that doesn't stand
-- nothing is said
pub record IsSaid (outputs : List (ℕ × List ℕ)) (old new : Wire) : Type 0 where
  pub number : new.number ≡ old.number
  pub unsaid : List ℕ
  pub said : and_then old.said (bytes_to old.number outputs) ≡ and_then new.said unsaid
  pub all : is_standing new.fate ≡ true → unsaid ≡ []
  pub stood : is_standing new.fate ≡ true → is_standing old.fate ≡ true
  pub still : is_standing old.fate ≡ false → new.said ≡ old.said

-- it was there before
pub record WasThere (outputs : List (ℕ × List ℕ)) (old : List Wire) (w : Wire) : Type 0 where
  pub then : Wire
  pub among : IsAmong then old
  pub said : IsSaid outputs then w

-- it has come behind some of them: then nothing had been said to it
pub record HasCome (outputs : List (ℕ × List ℕ)) (w : Wire) : Type 0 where
  pub before : List (ℕ × List ℕ)
  pub behind : List (ℕ × List ℕ)
  pub are : outputs ≡ before ++ behind
  pub number : ℕ
  pub then : Wire
  pub opened : IsOpened number then
  pub said : IsSaid behind then w

abbrev pub IsSaidTo : List (ℕ × List ℕ) → List Wire → Wire → Type 0
IsSaidTo outputs old w = WasThere outputs old w ⊎ HasCome outputs w

-- to each connection that is there the outputs to its line were said
abbrev pub AreSaid : List (ℕ × List ℕ) → List Wire → List Wire → Type 0
AreSaid outputs old new = (w : Wire) → IsAmong w new → IsSaidTo outputs old w
