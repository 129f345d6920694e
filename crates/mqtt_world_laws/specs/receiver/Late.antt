-- What is read on the line that a receiver gave up: a SUBSCRIBE, and a CONNECT by which a session begins or is renewed (MQTT
-- 5.0, 3.1.2.4, 3.1.4, 3.8).
use Rattle.std.specs.Prelude.{ℕ, [], None}
use Rattle.mqtt_world_model.specs.model.Ends.{Receiver, Wish, asks_for, wire_back}
use Rattle.mqtt_world_model.specs.model.World.{taken_old}
use Rattle.mqtt_rules.specs.step.State.{Broker, MemberChoice}
use Rattle.mqtt_rules.specs.step.Step.{Input}
use Rattle.mqtt_rules.specs.declared.step.Capacity.{Capacity}
use Rattle.mqtt_world_laws.specs.receiver.Calls.{receiver_called}

-- the receiver after the first packet of that line, a SUBSCRIBE, was read
abbrev pub reads_old_wish : Capacity → MemberChoice → ℕ → ℕ → Wish → Receiver → Broker → Receiver
reads_old_wish limits choice now n w r b =
    receiver_called limits choice now (Input n (wire_back r.client r.window r.aliases (asks_for w)))
    (record r { line = taken_old r.line }) b

-- the receiver as if it had kept that line, and no other
abbrev pub left_alone : Receiver → Receiver
left_alone r =
    let l = r.line in
    record r { line = record l { number = l.old_number; up = l.old; old_number = None; old = [] } }
