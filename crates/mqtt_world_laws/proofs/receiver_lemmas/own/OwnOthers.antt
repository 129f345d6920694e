-- Calls that are made for others, and a tick that closes a line on which CONNECT is late, leave a receiver in step.
use Rattle.std.proofs.Common.{◌≡◌, ℕ, false, List, nat_eq}
use Rattle.std.specs.List.{starts_with}
use Rattle.mqtt_base.specs.declared.session.CopyId.{CopyId}
use Rattle.mqtt_world_model.specs.model.Ends.{Receiver}
use Rattle.mqtt_records.specs.state.Session.{auto}
use Rattle.mqtt_rules.specs.step.State.{Broker, MemberChoice}
use Rattle.mqtt_rules.specs.step.Step.{Call, Tick, at_moment, stepped}
use Rattle.mqtt_rules.specs.declared.step.Capacity.{Capacity}
use Rattle.mqtt_world_laws.specs.receiver.Calls.{receiver_called}
use Rattle.mqtt_world_laws.specs.receiver.Own.{IsInStep, StepsOn}
use Rattle.mqtt_world_laws.specs.receiver.Served.{IsCallOfOthers, IsOverdue, IsTidy}
use Rattle.mqtt_world_laws.proofs.receiver_lemmas.others.CallsOfOthers.{others_go_on}
use Rattle.mqtt_world_laws.proofs.receiver_lemmas.others.LateConnect.{late_goes_on}

-- a call of another's leaves it in step
pub others_in_step : (largest : ℕ) (ids : List CopyId) (limits : Capacity) (choice : MemberChoice) (now : ℕ) (call : Call) (birth : ℕ) (ns : List ℕ) (r : Receiver) (b : Broker)
    → IsInStep largest ids birth ns r b → IsTidy limits b → starts_with nat_eq r.client auto ≡ false → IsCallOfOthers r.client ns call (at_moment now b)
    → StepsOn largest ids birth ns b.records.publications (receiver_called limits choice now call r b) (stepped limits choice now call b)
others_in_step largest ids limits choice now call birth ns r b k tidy plain its =
    let x = others_go_on largest ids limits choice now call birth ns r b k.runs k.served k.lines tidy plain its in
    record { more = x.more; new = x.new; differ = x.differ; in_step = record { runs = x.runs; served = x.served; lines = record { own = k.lines.own; old = k.lines.old } } }

-- so does a line that closes before its CONNECT
pub late_in_step : (largest : ℕ) (ids : List CopyId) (limits : Capacity) (choice : MemberChoice) (now birth : ℕ) (ns : List ℕ) (n : ℕ) (r : Receiver) (b : Broker)
    → IsInStep largest ids birth ns r b → IsOverdue n (at_moment now b)
    → IsInStep largest ids birth ns (receiver_called limits choice now Tick r b) (stepped limits choice now Tick b)
late_in_step largest ids limits choice now birth ns n r b k late =
    let x = late_goes_on largest ids limits choice now birth ns n r b k.runs k.served late in
    record { runs = x.0; served = x.1; lines = record { own = k.lines.own; old = k.lines.old } }
