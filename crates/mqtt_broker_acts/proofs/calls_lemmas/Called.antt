-- What holds between calls is what a packet of a connected client finds.
use Rattle.std.proofs.Common.{◌≡◌, ℕ}
use Rattle.std.specs.Prelude.{Some}
use Rattle.mqtt_rules.specs.declared.step.Capacity.{Capacity}
use Rattle.mqtt_rules.specs.step.Lines.{session_on}
use Rattle.mqtt_rules.specs.step.State.{Broker}
use Rattle.mqtt_rules.specs.step.Step.{at_moment}
use Rattle.mqtt_broker_acts.specs.calls.Ready.{IsReady}
use Rattle.mqtt_broker_acts.specs.calls.Inputs.{HasClient}
use Rattle.mqtt_broker_acts.proofs.calls_lemmas.Clients.{client_begun}

-- in a broker that is ready a session on a line is a client with a line
pub client_ready : (limits : Capacity) (line birth moment : ℕ) (b : Broker) → IsReady limits b → session_on line b ≡ Some (Some birth) → HasClient line birth (at_moment moment b)
client_ready limits line birth moment b ready on = client_begun line birth moment b (record {
  on = on;
  stands = ready.lines.stands line birth on;
  orders = ready.orders birth;
  filters = ready.filters;
  sources = ready.sources;
})
