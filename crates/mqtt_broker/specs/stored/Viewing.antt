-- The whole broker of an engine whose memory holds slim rows (MQTT 5.0, 3.3).
use Rattle.mqtt_keep.specs.declared.keeping.keep.Keep.{Ghosts}
use Rattle.mqtt_rules.specs.step.State.{Broker}
use Rattle.mqtt_rules.specs.filling.Filling.{filled}
use Rattle.mqtt_broker.specs.stored.Running.{Running}
use Rattle.mqtt_broker.specs.declared.stored.parts.EngineParts.{EngineParts}

-- a broker over the engine's store, each waiting copy saying what the store has for its place
abbrev pub viewed_on : {K : Type 0} → Ghosts K → Broker → EngineParts K → Running K
viewed_on g b p =
    record { keep = p.keep; limits = p.step.limits; broker = filled (g.fillings p.keep) b; stopped = p.stopped }

abbrev pub viewed : {K : Type 0} → Ghosts K → EngineParts K → Running K
viewed g p = viewed_on g p.step.broker p

-- as it was when the step under way began
abbrev pub viewed_before : {K : Type 0} → Ghosts K → EngineParts K → Running K
viewed_before g p = viewed_on g p.step.start p
