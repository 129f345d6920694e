-- The copies that came to stand in a receiver's queue, in the order in which they came (MQTT 5.0, 4.6).
use Rattle.std.specs.Prelude.{ℕ, not, List, [], ◌∷◌, ◌++◌, filter}
use Rattle.mqtt_base.specs.declared.session.CopyId.{CopyId}
use Rattle.mqtt_world_model.specs.model.Run.{Turn, turned}
use Rattle.mqtt_world_model.specs.model.World.{World}
use Rattle.mqtt_rules.specs.step.State.{session_named}
use Rattle.mqtt_rules.specs.declared.step.Capacity.{Capacity}
use Rattle.mqtt_world_laws.specs.delivery.HandedOver.{is_among, queued_by}

-- those that stand in the queue of a client's session
abbrev pub queue_at : List ℕ → World → List CopyId
queue_at client w = queued_by (session_named client w.broker.records)

-- those that have come, and behind them those that stand now and hadn't
abbrev pub come_with : List CopyId → List CopyId → List CopyId
come_with come now = come ++ filter (λ (c : CopyId). not (is_among come c)) now

-- those that stood there after any of the events, behind these
abbrev pub come_from : List ℕ → Capacity → List Turn → World → List CopyId → List CopyId
come_from client limits [] w come = come
come_from client limits (t ∷ ts) w come =
    let v = turned limits t w in
    come_from client limits ts v (come_with come (queue_at client v))

-- that stood there at the beginning, or after any of the events
abbrev pub come_over : List ℕ → Capacity → List Turn → World → List CopyId
come_over client limits ts w = come_from client limits ts w (queue_at client w)
