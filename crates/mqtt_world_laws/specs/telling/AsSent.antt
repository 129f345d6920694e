-- The world of mqtt_world_model as packets really go: each PUBLISH in the form in which it is sent, and receivers that
-- read it by what they were told (MQTT 5.0, 3.1.2.11.5, 3.3.2.3.4).
use Rattle.std.specs.Prelude.{ℕ, zero, suc, cond, List, [], ◌∷◌, ◌++◌, map, bytes_eq, Option, Some, None}
use Rattle.mqtt_topic.specs.names.Aliases.{AliasTable, no_aliases}
use Rattle.mqtt_topic.specs.sending.Told.{most_of}
use Rattle.mqtt_rules.specs.declared.step.Capacity.{Capacity}
use Rattle.mqtt_rules.specs.step.State.{Broker, Telling}
use Rattle.mqtt_rules.specs.step.Deeds.{Deed, LinePart, Greet, On, after_all, wires}
use Rattle.mqtt_rules.specs.step.Step.{Call, Outcome, at_moment, deeds, stepped, told}
use Rattle.mqtt_world_model.specs.model.Lines.{left}
use Rattle.mqtt_world_model.specs.model.Ends.{Receiver, publisher_reads}
use Rattle.mqtt_world_model.specs.model.World.{World, start, Setting, with_publisher, publisher_told, receiver_told, restarts}
use Rattle.mqtt_world_model.specs.model.World.{Asking, to_broker, old_to_broker, break, pump, tick, stranger, is_open_line}
use Rattle.mqtt_world_model.specs.model.World.{Event, receiver, connect_end, to_end, ask, restart, stop_before, stop_after}
use Rattle.mqtt_world_model.specs.model.World.{call_of_stranger, stranger_named, comes, before, call_of, next_held, held_count}
use Rattle.mqtt_world_model.specs.model.World.{with_line, next_line, is_bad}
use Rattle.mqtt_world_model.specs.model.World as meant
use Rattle.mqtt_world_model.specs.model.Run.{Turn, setting}
use Rattle.mqtt_world_laws.specs.telling.Reading.{receiver_reads, known_after}

-- the Topic Alias Maximum of the client on each line, as its CONNECT says it (3.1.2.11.5)
abbrev pub Most : Type 0
Most = ℕ → ℕ

pub record AsSent : Type 0 where
  pub world : World  -- in which a packet under way to an end is as it went out
  pub tellings : List Telling  -- what the broker has told on each line, from its CONNECT on
  pub known : List AliasTable  -- what aliases stand for to the receivers, one after the other

abbrev pub start_as_sent : AsSent
start_as_sent = record { world = start; tellings = []; known = [] }

abbrev pub in_world : World → AsSent → AsSent
in_world w s = record { world = w; tellings = s.tellings; known = s.known }

-- ---- a step of the broker

-- a client that is greeted is granted as many aliases as it takes, ten at most (3.1.2.11.5, ours)
abbrev pub granted_part : ℕ → LinePart → LinePart
granted_part most (Greet birth keep_alive window largest none) =
    Greet birth keep_alive window largest (most_of (Some most))
granted_part most part = part

abbrev pub granted : Most → Deed → Deed
granted most (On n part) = On n (granted_part (most n) part)
granted most d = d

abbrev pub deeds_granted : Most → Setting → Call → World → List Deed
deeds_granted most set call w = map (granted most) (deeds set.limits set.choice w.now call w.broker)

-- the broker at the moment of a call, with what it has told
abbrev pub telling : List Telling → ℕ → Broker → Broker
telling tellings now b = record (at_moment now b) { tellings = tellings }

-- what the call tells, each PUBLISH in the form in which it goes out
abbrev pub told_as_sent : Most → Setting → Call → AsSent → Outcome
told_as_sent most set call s = record (told set.limits set.choice s.world.now call s.world.broker) {
  outputs = wires (deeds_granted most set call s.world) (telling s.tellings s.world.now s.world.broker);
}

-- the call, with its outputs on the lines
abbrev pub world_after : Most → Setting → Call → AsSent → World
world_after most set call s =
    let b = stepped set.limits set.choice s.world.now call s.world.broker in
    let out = told_as_sent most set call s in
    record s.world {
      broker = b;
      publishers = map (publisher_told b out) s.world.publishers;
      receivers = map (receiver_told b out) s.world.receivers;
    }

abbrev pub calls : Most → Setting → Call → AsSent → AsSent
calls most set call s = record {
  world = world_after most set call s;
  tellings =
      let ds = deeds_granted most set call s.world in
      (after_all ds (telling s.tellings s.world.now s.world.broker)).tellings;
  known = s.known;
}

abbrev pub calls_if : Most → Setting → Option Call → AsSent → AsSent
calls_if most set None s = s
calls_if most set (Some call) s = calls most set call s

-- ---- what the broker is asked for

abbrev pub first_step : Most → Setting → Asking → AsSent → AsSent
first_step most set a s = calls_if most set (call_of set a s.world) (in_world (before set a s.world) s)

abbrev pub answers_rest : Most → Setting → ℕ → List ℕ → AsSent → AsSent
answers_rest most set zero name s = s
answers_rest most set (suc more) name s =
    let call = call_of_stranger (stranger_named name s.world) in
    answers_rest most set more name (calls_if most set call (in_world (next_held name s.world) s))

abbrev pub leaves : List ℕ → AsSent → AsSent
leaves client s = in_world (with_line client left left s.world) s

abbrev pub asks : Most → Setting → Asking → AsSent → AsSent
asks most set (to_broker client) s = first_step most set (to_broker client) s
asks most set (old_to_broker client) s = first_step most set (old_to_broker client) s
asks most set (break client) s = leaves client (first_step most set (break client) s)
asks most set (pump client) s = first_step most set (pump client) s
asks most set tick s = first_step most set tick s
asks most set (stranger name bytes) s =
    let c = comes set name bytes s.world in
    answers_rest most set (held_count (stranger_named name c)) name (in_world c s)

-- a broker that was restarted has told nothing
abbrev pub restarted : Setting → AsSent → AsSent
restarted set s = record { world = restarts set s.world; tellings = []; known = s.known }

-- ---- what the receivers know

-- changed for the receiver of this name
abbrev pub changed_for : List ℕ → (Receiver → AliasTable → AliasTable) → List Receiver → List AliasTable → List AliasTable
changed_for client f [] known = known
changed_for client f (r ∷ rs) [] = []
changed_for client f (r ∷ rs) (k ∷ ks) = cond (bytes_eq r.client client) (f r k) k ∷ changed_for client f rs ks

-- on a new line it knows nothing: an alias is of one Network Connection (3.3.2.3.4)
abbrev pub known_joined : Most → Option ℕ → List ℕ → AsSent → List AliasTable
known_joined most None client s = s.known
known_joined most (Some n) client s = changed_for client (λ r k. no_aliases (most n)) s.world.receivers s.known

-- the first packet under way to the receiver of this name is read
abbrev pub known_read : List ℕ → AsSent → List AliasTable
known_read client s = changed_for client (λ r k. known_after k r.line.down) s.world.receivers s.known

abbrev pub receivers_read : List ℕ → World → List Receiver → List AliasTable → List Receiver
receivers_read client w [] known = []
receivers_read client w (r ∷ rs) [] = r ∷ rs
receivers_read client w (r ∷ rs) (k ∷ ks) =
    cond (bytes_eq r.client client) (receiver_reads (is_open_line r.line w) k r.line.down r) r
    ∷ receivers_read client w rs ks

abbrev pub end_reads : List ℕ → AsSent → World
end_reads client s =
    with_publisher client (λ p. publisher_reads (is_open_line p.line s.world) p.line.down p)
    (record s.world { receivers = receivers_read client s.world s.world.receivers s.known })

-- ---- what happens: calls and reading are as above, and all else as in mqtt_world_model

abbrev pub happens : Most → Setting → Event → AsSent → AsSent
happens most set (receiver client window aliases) s = record {
  world = meant.happens set (receiver client window aliases) s.world;
  tellings = s.tellings;
  known = s.known ++ no_aliases 0 ∷ [];
}
happens most set (connect_end client clean) s = record {
  world = meant.happens set (connect_end client clean) s.world;
  tellings = s.tellings;
  known = known_joined most (next_line set.limits s.world.broker) client s;
}
happens most set (to_end client) s =
    record { world = end_reads client s; tellings = s.tellings; known = known_read client s }
happens most set (ask a) s = asks most set a s
happens most set restart s = restarted set s
happens most set (stop_before a) s = restarted set (in_world (before set a s.world) s)
happens most set (stop_after a) s = restarted set (first_step most set a s)
happens most set e s = in_world (meant.happens set e s.world) s

-- a bad event does nothing
abbrev pub turned : Most → Capacity → Turn → AsSent → AsSent
turned most limits t s = cond (is_bad t.event s.world) s (happens most (setting limits t) t.event s)

abbrev pub run : Most → Capacity → List Turn → AsSent → AsSent
run most limits [] s = s
run most limits (t ∷ ts) s = run most limits ts (turned most limits t s)

-- the world after these turns, from nothing
abbrev pub after : Most → Capacity → List Turn → AsSent
after most limits ts = run most limits ts start_as_sent
