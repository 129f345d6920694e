-- Runs of the world, and what is counted over them: messages accepted, copies entered, ended and handed over.
use Rattle.std.specs.Prelude.{ℕ, zero, suc, Bool, true, false, not, ◌&&◌, ◌||◌, cond, List, [], ◌∷◌, ◌++◌, map}
use Rattle.std.specs.Prelude.{filter_map, nat_eq, bytes_eq, Option, Some, None, is_none, count_by}
use Rattle.std.specs.List.{cons_option}
use Rattle.mqtt_base.specs.declared.session.CopyId.{CopyId}
use Rattle.mqtt_base.specs.declared.session.Ending.{Ending}
use Rattle.mqtt_base.specs.declared.session.Qos.{Qos}
use Rattle.mqtt_rules.specs.declared.step.Capacity.{Capacity}
use Rattle.mqtt_rules.specs.step.State.{Broker, Env, MemberChoice, session_named}
use Rattle.mqtt_rules.specs.step.Deeds.{Message, FromClient, Enter, Leave, Deed, Accept, At, after as after_deed}
use Rattle.mqtt_rules.specs.step.Step.{Call, NewLine, env_of, at_moment, deeds, opening, opening_deeds, unopened}
use Rattle.mqtt_flow.specs.inbound.Line.{Link, away, asked, live}
use Rattle.mqtt_world_model.specs.model.Ends.{Sent, message_in, Publisher, Receiver}
use Rattle.mqtt_world_model.specs.model.World.{Setting, World, start, Event, publisher, receiver, ask, stop_before, stop_after, restart}
use Rattle.mqtt_world_model.specs.model.World.{connect_end, give_up, link_of, receiver_named, Asking, to_broker, old_to_broker, break, pump}
use Rattle.mqtt_world_model.specs.model.World.{tick, stranger, publisher_named, stranger_named, calls_if, comes, call_of}
use Rattle.mqtt_world_model.specs.model.World.{call_of_stranger, next_held, held_count, before, first_step, is_bad, step}

-- an event, with the broker's free choice of members in it
pub record Turn : Type 0 where
  pub event : Event
  pub choice : MemberChoice

abbrev pub setting : Capacity → Turn → Setting
setting limits t = record { limits = limits; choice = t.choice }

abbrev pub turned : Capacity → Turn → World → World
turned limits t w = step (setting limits t) t.event w

abbrev pub run : Capacity → List Turn → World → World
run limits [] w = w
run limits (t ∷ ts) w = run limits ts (turned limits t w)

-- the world after these turns, from nothing
abbrev pub after : Capacity → List Turn → World
after limits ts = run limits ts start

-- ---- what is read off an event: off its new line, calls and openings, those that were committed, each on the world in
-- which it comes

pub record Reading (X : Type 0) : Type 0 where
  pub nothing : X
  pub join : X → X → X  -- of the one that comes first, and of what follows it
  pub linked : Setting → World → X
  pub called : Setting → Call → World → X
  pub opened : Setting → World → X

abbrev pub read_if : {X : Type 0} → Reading X → Setting → Option Call → World → X
read_if r set None w = r.nothing
read_if r set (Some call) w = r.called set call w

-- one call for each packet of a stranger
abbrev pub read_rest : {X : Type 0} → Reading X → Setting → ℕ → List ℕ → World → X
read_rest r set zero name w = r.nothing
read_rest r set (suc more) name w =
    let call = call_of_stranger (stranger_named name w) in
    r.join (read_if r set call w) (read_rest r set more name (calls_if set call (next_held name w)))

abbrev pub read_first : {X : Type 0} → Reading X → Setting → Asking → World → X
read_first r set a w = read_if r set (call_of set a w) (before set a w)

abbrev pub read_asked : {X : Type 0} → Reading X → Setting → Asking → World → X
read_asked r set (to_broker client) w = read_first r set (to_broker client) w
read_asked r set (old_to_broker client) w = read_first r set (old_to_broker client) w
read_asked r set (break client) w = read_first r set (break client) w
read_asked r set (pump client) w = read_first r set (pump client) w
read_asked r set tick w = read_first r set tick w
read_asked r set (stranger name bytes) w =
    let c = comes set name bytes w in
    read_rest r set (held_count (stranger_named name c)) name c

abbrev pub read_opening : {X : Type 0} → Reading X → Setting → World → X
read_opening r set w = r.opened set w

abbrev pub read_in : {X : Type 0} → Reading X → Setting → Event → World → X
read_in r set (connect_end client clean) w = r.linked set w
read_in r set (ask a) w = read_asked r set a w
read_in r set restart w = read_opening r set w
read_in r set (stop_before a) w = read_opening r set (before set a w)
read_in r set (stop_after a) w = r.join (read_first r set a w) (read_opening r set (first_step set a w))
read_in r set e w = r.nothing

-- a bad event does nothing
abbrev pub read_at : {X : Type 0} → Reading X → Setting → Event → World → X
read_at r set e w = cond (is_bad e w) r.nothing (read_in r set e w)

-- off a run
abbrev pub read_over : {X : Type 0} → Reading X → Capacity → List Turn → World → X
read_over r limits [] w = r.nothing
read_over r limits (t ∷ ts) w = r.join (read_at r (setting limits t) t.event w) (read_over r limits ts (turned limits t w))

-- ---- the deeds

abbrev pub the_deeds : Reading (List Deed)
the_deeds = record {
  nothing = [];
  join = λ first more. first ++ more;
  linked = λ set w. deeds set.limits set.choice w.now NewLine w.broker;
  called = λ set call w. deeds set.limits set.choice w.now call w.broker;
  opened = λ set w. opening_deeds set.limits set.choice w.now w.broker.records;
}

abbrev pub deeds_at : Setting → Event → World → List Deed
deeds_at set e w = read_at the_deeds set e w

abbrev pub deeds_over : Capacity → List Turn → World → List Deed
deeds_over limits ts w = read_over the_deeds limits ts w

-- ---- how often a publication was accepted from a message

-- the numbers of the publications that the deeds accept from a client's PUBLISH
abbrev pub client_number : Deed → Option ℕ
client_number (Accept number FromClient m) = Some number
client_number d = None

-- the message whose PUBLISH is the first packet
abbrev pub front_message : List Sent → Option ℕ
front_message [] = None
front_message (packet ∷ rest) = message_in packet

abbrev pub front_of_line : Option Publisher → Option ℕ
front_of_line None = None
front_of_line (Some p) = front_message p.line.up

abbrev pub front_of_old : Option Publisher → Option ℕ
front_of_old None = None
front_of_old (Some p) = front_message p.line.old

-- the message of this publisher that is read
abbrev pub asked_from : List ℕ → Asking → World → Option ℕ
asked_from client (to_broker other) w = cond (bytes_eq other client) (front_of_line (publisher_named client w)) None
asked_from client (old_to_broker other) w = cond (bytes_eq other client) (front_of_old (publisher_named client w)) None
asked_from client a w = None

abbrev pub message_read : List ℕ → Event → World → Option ℕ
message_read client (ask a) w = asked_from client a w
message_read client (stop_after a) w = asked_from client a w
message_read client e w = None

abbrev pub each_of : Option ℕ → List Deed → List ℕ
each_of None ds = []
each_of (Some n) ds = map (λ number. n) (filter_map client_number ds)

-- the messages of this publisher that are accepted in an event
abbrev pub accepted_at : List ℕ → Setting → Event → World → List ℕ
accepted_at client set e w = each_of (message_read client e w) (deeds_at set e w)

-- and in a run
abbrev pub accepted_over : List ℕ → Capacity → List Turn → World → List ℕ
accepted_over client limits [] w = []
accepted_over client limits (t ∷ ts) w =
    accepted_at client (setting limits t) t.event w ++ accepted_over client limits ts (turned limits t w)

-- accepted(m): how many publications were accepted from the message with this number
abbrev pub accepted_count : List ℕ → ℕ → Capacity → List Turn → ℕ
accepted_count client n limits ts = count_by (nat_eq n) (accepted_over client limits ts start)

-- ---- what was accepted, with the state in which it was

-- a publication as it was accepted: its number, what it carries, and how the broker stood and chose
pub record Acceptance : Type 0 where
  pub number : ℕ
  pub message : Message
  pub env : Env
  pub broker : Broker

abbrev pub accepted_by : Env → Deed → Broker → Option Acceptance
accepted_by env (Accept number origin m) b = Some (record { number = number; message = m; env = env; broker = b })
accepted_by env d b = None

-- each deed on what the ones before it left
abbrev pub acceptances_of : Env → List Deed → Broker → List Acceptance
acceptances_of env [] b = []
acceptances_of env (d ∷ ds) b = cons_option (accepted_by env d b) (acceptances_of env ds (after_deed d b))

abbrev pub acceptances_called : Setting → Call → World → List Acceptance
acceptances_called set call w =
    let b = at_moment w.now w.broker in
    acceptances_of (env_of set.limits set.choice w.broker) (deeds set.limits set.choice w.now call w.broker) b

abbrev pub acceptances_opened : Setting → World → List Acceptance
acceptances_opened set w =
    let b = unopened w.now w.broker.records in
    let env = env_of set.limits set.choice b in
    acceptances_of env (opening env b) b

-- a new line accepts nothing
abbrev pub the_acceptances : Reading (List Acceptance)
the_acceptances = record {
  nothing = [];
  join = λ first more. first ++ more;
  linked = λ set w. [];
  called = acceptances_called;
  opened = acceptances_opened;
}

abbrev pub acceptances_over : Capacity → List Turn → World → List Acceptance
acceptances_over limits ts w = read_over the_acceptances limits ts w

-- what was accepted from the messages of a publisher: each with its message's number
pub record From : Type 0 where
  pub message : ℕ
  pub publication : Message

abbrev pub client_message : Deed → Option Message
client_message (Accept number FromClient m) = Some m
client_message d = None

abbrev pub from_message : ℕ → Message → From
from_message n m = record { message = n; publication = m }

abbrev pub each_from : Option ℕ → List Deed → List From
each_from None ds = []
each_from (Some n) ds = map (from_message n) (filter_map client_message ds)

abbrev pub from_over : List ℕ → Capacity → List Turn → World → List From
from_over client limits [] w = []
from_over client limits (t ∷ ts) w =
    each_from (message_read client t.event w) (deeds_at (setting limits t) t.event w)
    ++ from_over client limits ts (turned limits t w)

-- ---- how often a copy entered and ended

abbrev pub entered_in : Deed → Option CopyId
entered_in (At who (Enter copy)) = Some copy.id
entered_in d = None

-- the end of a copy: whose it was, and how it ended
pub record End : Type 0 where
  pub client : List ℕ
  pub copy : CopyId
  pub qos : Qos
  pub by : Ending

abbrev pub ended_in : Deed → Option End
ended_in (At who (Leave e ending)) =
    Some (record { client = who.client; copy = e.copy.id; qos = e.copy.qos; by = ending })
ended_in d = None

abbrev pub entered_over : Capacity → List Turn → List CopyId
entered_over limits ts = filter_map entered_in (deeds_over limits ts start)

abbrev pub ended_over : Capacity → List Turn → List End
ended_over limits ts = filter_map ended_in (deeds_over limits ts start)

-- ---- runs in which ends begin clean: an end is made where no session of its name stands; and a Clean Start is carried
-- through: until the CONNACK to a CONNECT with Clean Start 1 was read, its line is not given up, and each further CONNECT
-- has Clean Start 1 too (3.1.2.4, ours)

abbrev pub is_clean : Option Publisher → Option Receiver → Bool
is_clean (Some p) r = p.line.clean
is_clean None (Some r) = r.line.clean
is_clean None None = false

-- such a CONNECT was sent, and its CONNACK not read
abbrev pub waits_clean : List ℕ → World → Bool
waits_clean client w = is_clean (publisher_named client w) (receiver_named client w)

abbrev pub is_asked : Option Link → Bool
is_asked None = false
is_asked (Some away) = false
is_asked (Some asked) = true
is_asked (Some live) = false

abbrev pub begins_clean : Event → World → Bool
begins_clean (publisher client) w = is_none (session_named client w.broker.records)
begins_clean (receiver client window aliases) w = is_none (session_named client w.broker.records)
begins_clean (connect_end client clean) w = clean || not (waits_clean client w)
begins_clean (give_up client) w = not (is_asked (link_of client w) && waits_clean client w)
begins_clean e w = true

abbrev pub are_beginnings_clean : Capacity → List Turn → World → Bool
are_beginnings_clean limits [] w = true
are_beginnings_clean limits (t ∷ ts) w =
    begins_clean t.event w && are_beginnings_clean limits ts (turned limits t w)
