-- That no copy is too large for a receiver: it names no Maximum Packet Size, and what is stored came in packets (MQTT 5.0, 2.1.4,
-- 3.1.2.11.4).
use Rattle.std.specs.Prelude.{◌≢◌, ⊤, List, [], ◌∷◌}
use Rattle.std.specs.List.{AllByRecursion}
use Rattle.mqtt_base.specs.declared.session.Ending.TheVariants.{TooLarge}
use Rattle.mqtt_rules.specs.declared.step.Capacity.{Capacity}
use Rattle.mqtt_world_model.specs.model.Run.{Turn, run}
use Rattle.mqtt_world_model.specs.model.World.{World}
use Rattle.mqtt_world_laws.specs.receiver.Drains.{Doing, drains, happens, turns_of}
use Rattle.mqtt_world_laws.specs.causes.Endings.{EndAt, ends_over}

-- no copy ends as too large
abbrev pub IsNotTooLarge : EndAt → Type 0
IsNotTooLarge x = x.ending ≢ TooLarge

abbrev pub NoneTooLarge : Capacity → List Turn → World → Type 0
NoneTooLarge limits ts w = AllByRecursion IsNotTooLarge (ends_over limits ts w)

-- in any drain of a script
abbrev pub FitWhere : Capacity → Doing → World → Type 0
FitWhere limits (happens t) w = ⊤
FitWhere limits (drains choice client most) w = NoneTooLarge limits (turns_of limits (drains choice client most) w) w

abbrev pub AllDrainsFit : Capacity → List Doing → World → Type 0
AllDrainsFit limits [] w = ⊤
AllDrainsFit limits (d ∷ ds) w = FitWhere limits d w × AllDrainsFit limits ds (run limits (turns_of limits d w) w)
