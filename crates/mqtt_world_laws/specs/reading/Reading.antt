-- What the broker reads in a run is lawful: it has a spelling, and is no longer than a packet may be (MQTT 5.0, 1.5.4, 2.1.4, 2.2.1).
use Rattle.std.specs.Prelude.{⊤, List, Option, Some, None}
use Rattle.std.specs.List.{AllByRecursion}
use Rattle.mqtt_rules.specs.step.Contents.{TakesLawful}
use Rattle.mqtt_rules.specs.step.Step.{Call}
use Rattle.mqtt_rules.specs.declared.step.Capacity.{Capacity}
use Rattle.mqtt_world_model.specs.model.Run.{Turn}
use Rattle.mqtt_world_model.specs.model.World.{World}
use Rattle.mqtt_world_laws.specs.causes.Endings.{Asked, asked_over}

-- a packet that is read has a spelling, and is no longer than a packet may be
abbrev pub TakesAsked : Option Call → Type 0
TakesAsked None = ⊤
TakesAsked (Some call) = TakesLawful call

abbrev pub ReadsLawful : Asked → Type 0
ReadsLawful x = TakesAsked x.call

-- so is each that a run reads
abbrev pub AllReadLawful : Capacity → List Turn → World → Type 0
AllReadLawful limits ts w = AllByRecursion ReadsLawful (asked_over limits ts w)
