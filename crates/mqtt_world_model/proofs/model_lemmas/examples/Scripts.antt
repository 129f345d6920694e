-- What the worked runs of the world share: a publisher, a receiver and their first events; what each event tells, and
-- what a run comes to.
use Rattle.std.proofs.Common.{ℕ, ◌+◌, false, Bool, List, [], ◌∷◌, ◌++◌, length, map, Option, Some, None}
use Rattle.std.specs.Prelude.{codes}
use Rattle.mqtt_base.specs.declared.session.CopyId.{CopyId}
use Rattle.mqtt_base.specs.declared.session.Cause.TheVariants.{Direct}
use Rattle.mqtt_base.specs.declared.session.Qos.TheVariants.{ExactlyOnce}
use Rattle.mqtt_rules.specs.step.State.{session_named}
use Rattle.mqtt_rules.proofs.step_lemmas.examples.Play.{usual, first, topic, hi, options}
use Rattle.mqtt_world_model.specs.model.Ends.{Draft, Publisher, Wish}
use Rattle.mqtt_world_model.specs.model.World.{World, start, publisher_named, receiver_named}
use Rattle.mqtt_world_model.specs.model.World.{Event, publisher, receiver, connect_end, publish, subscribe, to_end, ask, to_broker, pump}
use Rattle.mqtt_world_model.specs.model.Run.{Turn, setting, turned, after}
use Rattle.mqtt_world_model.specs.model.Tellings.{Telling, tells, handed_by, queue_length, done_by}

abbrev pub turn : Event → Turn
turn e = record { event = e; choice = first }

abbrev pub turns : List Event → List Turn
turns es = map turn es

-- ---- the ends

abbrev pub p1 : List ℕ
p1 = codes "p1"

abbrev pub r1 : List ℕ
r1 = codes "r1"

abbrev pub draft : Draft
draft = record { qos = ExactlyOnce; content = record { retain = false; topic = topic; payload = hi } }

abbrev pub wish : Wish
wish = record { filter = topic; options = options ExactlyOnce; identifier = None }

-- the copy of the first publication for the first session
abbrev pub first_copy : CopyId
first_copy = record { publication = 1; birth = 1; cause = Direct }

-- ---- events that go together

abbrev pub joins : List ℕ → Bool → List Event
joins client clean = connect_end client clean ∷ ask (to_broker client) ∷ to_end client ∷ []

abbrev pub subscribes : List ℕ → List Event
subscribes client = subscribe client wish ∷ ask (to_broker client) ∷ to_end client ∷ []

-- one packet each way
abbrev pub exchange : List ℕ → List Event
exchange client = ask (to_broker client) ∷ to_end client ∷ []

-- what waits for a session is sent, and one packet goes each way
abbrev pub round : List ℕ → List Event
round client = ask (pump client) ∷ to_end client ∷ ask (to_broker client) ∷ []

-- r1 has subscribed to a/b at QoS 2, and the PUBLISH of p1 is under way to the broker
abbrev pub published : List Event
published =
    receiver r1 10 0 ∷ publisher p1 ∷ connect_end r1 false ∷ ask (to_broker r1) ∷ to_end r1 ∷ subscribe r1 wish ∷ ask (to_broker r1) ∷ to_end r1
    ∷ connect_end p1 false ∷ ask (to_broker p1) ∷ to_end p1 ∷ publish p1 draft ∷ []

-- it is read, its copy goes out, and r1 is handed that
abbrev pub pumped : List Event
pumped = published ++ ask (to_broker p1) ∷ ask (pump r1) ∷ to_end r1 ∷ []

-- ---- what the events of a run tell

abbrev pub sends_out : ℕ → Telling
sends_out n = record { reports = []; out = n }

abbrev pub tellings_from : List Event → World → List Telling
tellings_from [] w = []
tellings_from (e ∷ es) w = tells (setting usual (turn e)) e w ∷ tellings_from es (turned usual (turn e) w)

abbrev pub tellings : List Event → List Telling
tellings es = tellings_from es start

-- ---- what a run comes to

-- the publications of which r1 was handed copies of QoS 2, and how many copies are in its queue; how many messages p1 has,
-- and those whose handshake is completed; how many publications were accepted, and how many sessions stand
pub record Sum : Type 0 where
  pub handed : List ℕ
  pub queue : ℕ
  pub messages : ℕ
  pub done : ℕ
  pub publications : ℕ
  pub sessions : ℕ

-- messages of QoS 1 and 2 that went out, and any that did not yet
abbrev messages_of : Option Publisher → ℕ
messages_of None = 0
messages_of (Some p) = length p.fates + length p.unsent

abbrev pub sum_of : World → Sum
sum_of w = record {
  handed = handed_by (receiver_named r1 w);
  queue = queue_length (session_named r1 w.broker.records);
  messages = messages_of (publisher_named p1 w);
  done = done_by (publisher_named p1 w);
  publications = w.broker.records.publications;
  sessions = length w.broker.records.sessions;
}

abbrev pub comes_to : List Event → Sum
comes_to es = sum_of (after usual (turns es))
