-- What a line knows of its session's queue, and what is asked of its orders of release (MQTT 5.0, 4.6).
use Rattle.std.specs.Prelude.{◌≡◌, ℕ, ◌≤◌, List, [], Some}
use Rattle.mqtt_base.specs.declared.limits.TheConstants.{LAST_NUMBER}
use Rattle.mqtt_flow.specs.outbound.Queue.{greatest_order}
use Rattle.mqtt_records.specs.declared.state.session.Session.{Session}
use Rattle.mqtt_records.specs.declared.state.records.Records.{Records}
use Rattle.mqtt_rules.specs.step.State.{queue_on, session_at}

-- the places of the copies whose PUBLISH went out on it, and the bytes of those that go out in a shorter form, by place
pub record LineView : Type 0 where
  pub went : List ℕ
  pub sizes : List (ℕ × ℕ)

-- each copy has the bytes of its whole topic
abbrev pub whole_view : List ℕ → LineView
whole_view went = record { went = went; sizes = [] }

-- no order of release in the queue of the session is above the last number
abbrev pub HasKeptOrders : ℕ → Records → Type 0
HasKeptOrders birth r = (s : Session) → session_at birth r ≡ Some s → greatest_order (queue_on [] s) ≤ LAST_NUMBER
