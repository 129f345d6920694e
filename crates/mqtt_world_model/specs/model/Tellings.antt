-- What an event of a run tells, and what is seen of the world after it: messages, copies handed over, queues (MQTT 5.0,
-- 4.3).
use Rattle.std.specs.Prelude.{ℕ, Bool, true, false, List, [], length, map, filter_map, count_by, Option, Some, None}
use Rattle.mqtt_base.specs.declared.session.CopyId.{CopyId}
use Rattle.mqtt_flow.specs.inbound.Publisher.{Fate, Finish, sent_1, ended_1, sent, released, ended, completed, refused}
use Rattle.mqtt_flow.specs.inbound.Publisher.{forgotten}
use Rattle.mqtt_records.specs.declared.state.session.Session.{Session}
use Rattle.mqtt_rules.specs.declared.step.Report.{Report}
use Rattle.mqtt_rules.specs.step.Deeds.{Deed, report, output}
use Rattle.mqtt_world_model.specs.model.Ends.{Publisher, Receiver}
use Rattle.mqtt_world_model.specs.model.World.{Setting, World, Event, publisher, receiver, connect_end, give_up, publish, subscribe}
use Rattle.mqtt_world_model.specs.model.World.{to_end, clock, ask, restart, stop_before, stop_after}
use Rattle.mqtt_world_model.specs.model.Run.{deeds_at}
use Rattle.mqtt_world_model.specs.model.Laws.{copies_in}

-- ---- what an event tells: reports, and how many of the broker's packets went out; nothing if the broker stops or
-- restarts

pub record Telling : Type 0 where
  pub reports : List Report
  pub out : ℕ

abbrev pub silent : Telling
silent = record { reports = []; out = 0 }

abbrev pub telling : List Deed → Telling
telling ds = record { reports = filter_map report ds; out = length (filter_map output ds) }

abbrev pub tells : Setting → Event → World → Telling
tells set (publisher client) w = silent
tells set (receiver client window aliases) w = silent
tells set (connect_end client clean) w = telling (deeds_at set (connect_end client clean) w)
tells set (give_up client) w = silent
tells set (publish client d) w = silent
tells set (subscribe client x) w = silent
tells set (to_end client) w = silent
tells set (clock wait) w = silent
tells set (ask a) w = telling (deeds_at set (ask a) w)
tells set restart w = silent
tells set (stop_before a) w = silent
tells set (stop_after a) w = silent

-- ---- what is seen of an end; of none there is nothing to see

abbrev is_completed : Finish → Bool
is_completed completed = true
is_completed refused = false
is_completed forgotten = false

abbrev is_done : Fate → Bool
is_done (sent_1 id) = false
is_done (ended_1 by) = is_completed by
is_done (sent id) = false
is_done (released id) = false
is_done (ended by) = is_completed by

abbrev publication_of : CopyId → ℕ
publication_of c = c.publication

-- the publications of the copies of QoS 2 that a receiver was handed
abbrev pub handed_by : Option Receiver → List ℕ
handed_by None = []
handed_by (Some r) = map publication_of (copies_in r.ledger)

-- how many copies wait for a session, or are in flight to it
abbrev pub queue_length : Option Session → ℕ
queue_length None = 0
queue_length (Some s) = length s.queue

-- how many messages of a publisher have a handshake that is completed
abbrev pub done_by : Option Publisher → ℕ
done_by None = 0
done_by (Some p) = count_by is_done p.fates
