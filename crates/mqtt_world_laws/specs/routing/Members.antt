-- A copy of QoS 0 for a member of a group always has a line to go out on (MQTT 5.0, 4.3.1, 4.8.2). Nor is there one without a line
-- while the broker opens: nobody is connected then (4.1).
use Rattle.std.specs.Prelude.{◌≡◌, false, List, Some}
use Rattle.std.specs.List.{AllByRecursion}
use Rattle.mqtt_rules.specs.declared.step.Capacity.{Capacity}
use Rattle.mqtt_rules.specs.step.State.{Broker, Line, line_of}
use Rattle.mqtt_rules.specs.step.Routing.{CopyTo, accepted_copies, is_queued}
use Rattle.mqtt_world_model.specs.model.World.{World}
use Rattle.mqtt_world_model.specs.model.Run.{Turn, Acceptance, acceptances_over}
use Rattle.mqtt_world_model.specs.model.Laws.{is_direct}

-- if a copy of a publication is a group's and has QoS 0, its session stands on a line
abbrev pub HasLine : Broker → CopyTo → Type 0
HasLine b d = is_queued d ≡ false → is_direct d.copy.id.cause ≡ false → (l : Line) × (line_of d.birth b ≡ Some l)

-- so each copy of a publication, as it is accepted
abbrev pub HaveLines : Acceptance → Type 0
HaveLines a = (ds : List CopyTo) → accepted_copies a.env a.message a.broker ≡ Some ds → AllByRecursion (HasLine a.broker) ds

abbrev pub AllHaveLines : Capacity → List Turn → World → Type 0
AllHaveLines limits ts w = AllByRecursion HaveLines (acceptances_over limits ts w)
