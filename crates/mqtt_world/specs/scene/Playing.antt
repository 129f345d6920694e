-- What an event of a script makes of a broker and its ends, in which these alone take part (MQTT 5.0, 4.1 to 4.4).
use Rattle.std.specs.Prelude.{◌≡◌, ⊤, ℕ, Option, None, Some}
use Rattle.mqtt_keep.specs.declared.keeping.keep.Keep.{Ghosts}
use Rattle.mqtt_world_model.specs.model.Tellings.{Telling}
use Rattle.mqtt_world_model.specs.model.World as world
use Rattle.mqtt_script.specs.declared.event.Event.{Event}
use Rattle.mqtt_script.specs.declared.event.Event.TheVariants.{Publisher, Receiver, Connect, GiveUp, Publish, Subscribe}
use Rattle.mqtt_script.specs.declared.event.Event.TheVariants.{ToBroker, ToEnd, Break, Pump, Clock, Tick, Restart, StopBefore}
use Rattle.mqtt_script.specs.declared.event.Event.TheVariants.{StopAfter, Stranger, Drain}
use Rattle.mqtt_world.specs.scene.Events.{Does}
use Rattle.mqtt_world.specs.scene.Scenes.{Played}

-- ends and the broker alone take part in it, and the broker stays open
abbrev pub IsOfEnds : Event → Type 0
IsOfEnds (Publisher client) = ⊤
IsOfEnds (Receiver client window aliases) = ⊤
IsOfEnds (Connect client clean_start) = ⊤
IsOfEnds (GiveUp client) = ⊤
IsOfEnds (Publish client draft) = ⊤
IsOfEnds (Subscribe client wish) = ⊤
IsOfEnds (ToBroker client old) = ⊤
IsOfEnds (ToEnd client) = ⊤
IsOfEnds (Break client) = ⊤
IsOfEnds (Pump client) = ⊤
IsOfEnds (Clock wait) = ⊥
IsOfEnds Tick = ⊤
IsOfEnds Restart = ⊥
IsOfEnds (StopBefore a) = ⊥
IsOfEnds (StopAfter a) = ⊥
IsOfEnds (Stranger name bytes) = ⊥
IsOfEnds (Drain client) = ⊥

-- what is no event of the world can't happen, and nothing changes
abbrev pub DoesIf : {K : Type 0} → Ghosts K → ℕ → Option world.Event → Played K → Option Telling → Played K → Type 0
DoesIf g now None old t new = (t ≡ None) × (new ≡ old)
DoesIf g now (Some e) old t new = Does g now e old t new
