-- What is read off a run in which PUBLISH goes out in forms (MQTT 5.0, 3.3.2.3.4).
use Rattle.std.specs.Prelude.{ℕ, List, [], ◌∷◌, ◌++◌, count_by, filter_map, flat_map, map, nat_eq}
use Rattle.mqtt_base.specs.declared.session.CopyId.{CopyId}
use Rattle.mqtt_rules.specs.declared.step.Capacity.{Capacity}
use Rattle.mqtt_rules.specs.step.State.{Broker}
use Rattle.mqtt_rules.specs.step.Deeds.{Deed}
use Rattle.mqtt_world_model.specs.model.World.{World}
use Rattle.mqtt_world_model.specs.model.Run.{Acceptance, End, From, Reading, Turn, accepted_at, deeds_at, each_from, ended_in, entered_in}
use Rattle.mqtt_world_model.specs.model.Run.{message_read, read_at, setting, the_acceptances, the_deeds}
use Rattle.mqtt_world_laws.specs.acceptance.Steps.{Step, the_steps}
use Rattle.mqtt_world_laws.specs.causes.Endings.{Asked, EndAt, ends_in, the_asked}
use Rattle.mqtt_world_laws.specs.telling.AsSent.{AsSent, Most, run, turned}

-- a world that begins: nothing was told in it, and nobody knows an alias
abbrev pub begun : World → AsSent
begun w = record { world = w; tellings = []; known = [] }

-- off each event, on the world in which it comes
abbrev pub read_over : {X : Type 0} → Reading X → Most → Capacity → List Turn → AsSent → X
read_over r most limits [] s = r.nothing
read_over r most limits (t ∷ ts) s =
    r.join (read_at r (setting limits t) t.event s.world) (read_over r most limits ts (turned most limits t s))

-- ---- at the broker

-- how a run began and ended there, and what was done in it
pub record Course : Type 0 where
  pub begin : Broker
  pub end : Broker
  pub deeds : List Deed
  pub acceptances : List Acceptance
  pub steps : List Step
  pub asked : List Asked

abbrev pub course : Most → Capacity → List Turn → AsSent → Course
course most limits ts s = record {
  begin = s.world.broker;
  end = (run most limits ts s).world.broker;
  deeds = read_over the_deeds most limits ts s;
  acceptances = read_over the_acceptances most limits ts s;
  steps = read_over the_steps most limits ts s;
  asked = read_over the_asked most limits ts s;
}

-- the copies that entered a queue, and those that ended, by whatever cause
abbrev pub entered : Course → List CopyId
entered c = filter_map entered_in c.deeds

abbrev pub ended : Course → List CopyId
ended c = map (λ (e : End). e.copy) (filter_map ended_in c.deeds)

-- each end as it came
abbrev pub ends : Course → List EndAt
ends c = flat_map ends_in c.asked

-- ---- from the messages of a publisher

-- those that are accepted, and what of them
abbrev pub accepted_over : List ℕ → Most → Capacity → List Turn → AsSent → List ℕ
accepted_over client most limits [] s = []
accepted_over client most limits (t ∷ ts) s =
    accepted_at client (setting limits t) t.event s.world ++ accepted_over client most limits ts (turned most limits t s)

abbrev pub from_over : List ℕ → Most → Capacity → List Turn → AsSent → List From
from_over client most limits [] s = []
from_over client most limits (t ∷ ts) s =
    each_from (message_read client t.event s.world) (deeds_at (setting limits t) t.event s.world)
    ++ from_over client most limits ts (turned most limits t s)

-- how many publications are accepted from the message of this number
abbrev pub times_accepted : List ℕ → ℕ → Most → Capacity → List Turn → AsSent → ℕ
times_accepted client n most limits ts s = count_by (nat_eq n) (accepted_over client most limits ts s)
