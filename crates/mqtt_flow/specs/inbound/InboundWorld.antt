-- One inbound hop: a publisher, a session, the line between them and the line that was given up last (4.3, 4.4).
use Rattle.std.specs.Prelude.{ℕ, Bool, true, false, ◌||◌, List, [], ◌∷◌, ◌++◌, length, map, nat_eq, nat_lt, if◌then◌else◌, count_by, Option, slice_get}
use Rattle.mqtt_base.specs.declared.limits.TheConstants.{OPEN_LIMIT}
use Rattle.mqtt_flow.specs.declared.inbound.inflow.Published.{Published}
use Rattle.mqtt_flow.specs.declared.inbound.inflow.Published.TheVariants.{New, Again, Over}
use Rattle.mqtt_flow.specs.declared.inbound.inflow.ReleaseAnswer.{ReleaseAnswer}
use Rattle.mqtt_flow.specs.declared.inbound.inflow.ReleaseAnswer.TheVariants.{Known, Unknown}
use Rattle.mqtt_base.specs.Codes.{success, no_matching_subscribers, session_taken_over, identifier_in_use, identifier_not_found, receive_maximum_exceeded, quota_exceeded}
use Rattle.mqtt_flow.specs.inbound.Identifiers.{ids_without, free_identifier}
use Rattle.mqtt_flow.specs.inbound.Inbound.{answer_to, open_after, answer_to_release}
use Rattle.mqtt_flow.specs.inbound.Line.{Link, away, asked, live, sent_on}
use Rattle.mqtt_flow.specs.inbound.Publisher.{Qos, Fate, FromPublisher, CONNECT, PUBLISH_1, PUBLISH_2, PUBREL, ToPublisher, CONNACK, CONNACK_REFUSED, PUBACK, PUBREC, PUBCOMP, DISCONNECT, in_flight, first_fate, first_packet, resent_from, on_new_session, on_puback, on_pubrec, on_pubcomp, pubrel_for, IsConnectAlone, IsHeard}

pub record World : Type 0 where
  -- the publisher: a fate for each message that went out, by its number, and those that wait behind them
  pub fates : List Fate
  pub unsent : List Qos
  pub link : Link
  -- its last CONNECT had Clean Start 1, and no CONNACK was read since
  pub clean : Bool
  -- its line: whether the session is connected there, and the packets under way both ways
  pub linked : Bool
  pub up : List FromPublisher
  pub down : List ToPublisher
  -- what is under way on the line that it gave up last
  pub old : List FromPublisher
  -- whether the session stands, its open identifiers, and the numbers of the accepted messages in order
  pub stands : Bool
  pub ids : List ℕ
  pub accepted : List ℕ

-- what the broker decides of itself: whether it takes a message or a new session, and whether a message has a subscriber
pub data Choice : Type 0 where
  takes : Choice
  takes_unheard : Choice
  refuses : Choice

-- a stop of the broker before a commit is `restart`, one after it is the event and then `restart`
pub data Event : Type 0 where
  publish : (qos : Qos) → Event
  to_broker : (choice : Choice) → Event
  old_to_broker : (choice : Choice) → Event
  to_end : Event
  give_up : Event
  break : Event
  connect : (clean : Bool) → Event
  close : (code : ℕ) → Event
  close_old : Event
  restart : Event

-- one message goes out, if fewer than the Receive Maximum are in flight (4.9); `rest` waits behind it
abbrev pub send_one : Qos → List Qos → World → World
send_one qos rest w =
    if nat_lt (length (in_flight w.fates)) OPEN_LIMIT
    then record w {
      fates = w.fates ++ first_fate qos (free_identifier (in_flight w.fates)) ∷ [];
      unsent = rest;
      up = sent_on w.linked w.up (first_packet qos (free_identifier (in_flight w.fates)) (length w.fates) ∷ []);
    }
    else w

abbrev pub send_all : List Qos → World → World
send_all [] w = w
send_all (qos ∷ rest) w = send_all rest (send_one qos rest w)

-- unsent messages go out in order, if CONNACK was read
abbrev pub send_unsent : Link → World → World
send_unsent away w = w
send_unsent asked w = w
send_unsent live w = send_all w.unsent w

-- the publisher leaves its line, and what is under way there is lost
abbrev pub without_line : World → World
without_line w = record w { link = away; linked = false; up = []; down = [] }

-- CONNACK: a resumed session goes on, a new one begins; one that wasn't asked for is passed over (3.2.2.1.1, 4.4)
abbrev pub on_connack : Link → Bool → World → World
on_connack away present w = w
on_connack asked true w =
    send_unsent live (record w { link = live; clean = false; up = sent_on w.linked w.up (resent_from 0 w.fates) })
on_connack asked false w = send_unsent live (record w { link = live; clean = false; fates = map on_new_session w.fates })
on_connack live present w = w

-- the publisher reads a packet
abbrev pub on_packet : ToPublisher → World → World
on_packet (CONNACK present) w = on_connack w.link present w
on_packet (CONNACK_REFUSED code) w = without_line (record w { clean = false })
on_packet (PUBACK id code) w = send_unsent w.link (record w { fates = map (on_puback id code) w.fates })
on_packet (PUBREC id code) w =
    send_unsent w.link (record w { fates = map (on_pubrec id code) w.fates; up = sent_on w.linked w.up (pubrel_for id code w.fates) })
on_packet (PUBCOMP id code) w = send_unsent w.link (record w { fates = map (on_pubcomp id) w.fates })
on_packet (DISCONNECT code) w = without_line w

abbrev pub publisher_reads : List ToPublisher → World → World
publisher_reads [] w = w
publisher_reads (packet ∷ rest) w = on_packet packet (record w { down = rest })

-- what becomes of a PUBLISH: a new one is accepted, with a code, or refused
pub data Verdict : Type 0 where
  accept : (code : ℕ) → Verdict
  refuse : Verdict
  repeat : Verdict
  shut : Verdict

abbrev pub verdict_on : Published → Choice → Verdict
verdict_on New takes = accept success
verdict_on New takes_unheard = accept no_matching_subscribers
verdict_on New refuses = refuse
verdict_on Again choice = repeat
verdict_on Over choice = shut

abbrev pub accepted_by : Verdict → ℕ → List ℕ → List ℕ
accepted_by (accept code) n accepted = accepted ++ n ∷ []
accepted_by refuse n accepted = accepted
accepted_by repeat n accepted = accepted
accepted_by shut n accepted = accepted

-- a QoS 2 PUBLISH that is not refused does what `publish` does
abbrev pub ids_by : Verdict → ℕ → List ℕ → List ℕ
ids_by (accept code) id ids = open_after id ids
ids_by refuse id ids = ids
ids_by repeat id ids = open_after id ids
ids_by shut id ids = open_after id ids

-- its answer (3.4.2.1, 3.5.2.1); one above the Receive Maximum closes the line (4.9)
abbrev pub answer_1 : Verdict → ℕ → ToPublisher
answer_1 (accept code) id = PUBACK id code
answer_1 refuse id = PUBACK id quota_exceeded
answer_1 repeat id = PUBACK id identifier_in_use
answer_1 shut id = DISCONNECT receive_maximum_exceeded

abbrev pub answer_2 : Verdict → ℕ → ToPublisher
answer_2 (accept code) id = PUBREC id code
answer_2 refuse id = PUBREC id quota_exceeded
answer_2 repeat id = PUBREC id success
answer_2 shut id = DISCONNECT receive_maximum_exceeded

abbrev pub answer_to_pubrel : ReleaseAnswer → ℕ → ToPublisher
answer_to_pubrel Known id = PUBCOMP id success
answer_to_pubrel Unknown id = PUBCOMP id identifier_not_found

-- what is left of a line, and whether the session stays connected there
abbrev pub left_by : Verdict → List FromPublisher → List FromPublisher
left_by (accept code) rest = rest
left_by refuse rest = rest
left_by repeat rest = rest
left_by shut rest = []

abbrev pub linked_by : Verdict → Bool → Bool
linked_by (accept code) linked = linked
linked_by refuse linked = linked
linked_by repeat linked = linked
linked_by shut linked = false

abbrev pub on_publish_1 : Verdict → ℕ → ℕ → List FromPublisher → World → World
on_publish_1 verdict id n rest w =
    record w { up = left_by verdict rest; down = sent_on w.linked w.down (answer_1 verdict id ∷ []); linked = linked_by verdict w.linked; accepted = accepted_by verdict n w.accepted }

abbrev pub on_publish_2 : Verdict → ℕ → ℕ → List FromPublisher → World → World
on_publish_2 verdict id n rest w =
    record w { up = left_by verdict rest; down = sent_on w.linked w.down (answer_2 verdict id ∷ []); linked = linked_by verdict w.linked; ids = ids_by verdict id w.ids; accepted = accepted_by verdict n w.accepted }

-- a session that is connected on a line is connected nowhere else: what is under way on the other line is not read, but
-- for a CONNECT (3.1.4)
abbrev pub spared : List FromPublisher → List FromPublisher
spared [] = []
spared (CONNECT clean ∷ rest) = CONNECT clean ∷ rest
spared (PUBLISH_1 id n dup ∷ rest) = []
spared (PUBLISH_2 id n dup ∷ rest) = []
spared (PUBREL id ∷ rest) = []

-- CONNECT on the publisher's line: the session that stands is resumed or begun anew by Clean Start, and if none stands
-- a new one is begun or refused (3.1.2.4, 3.1.4)
abbrev pub on_connect : Bool → Bool → Choice → List FromPublisher → World → World
on_connect true false choice rest w =
    record w { up = rest; old = spared w.old; linked = true; down = w.down ++ CONNACK true ∷ [] }
on_connect true true choice rest w =
    record w { up = rest; old = spared w.old; linked = true; ids = []; down = w.down ++ CONNACK false ∷ [] }
on_connect false clean takes rest w =
    record w { up = rest; old = spared w.old; linked = true; stands = true; ids = []; down = w.down ++ CONNACK false ∷ [] }
on_connect false clean takes_unheard rest w =
    record w { up = rest; old = spared w.old; linked = true; stands = true; ids = []; down = w.down ++ CONNACK false ∷ [] }
on_connect false clean refuses rest w = record w { up = rest; down = w.down ++ CONNACK_REFUSED quota_exceeded ∷ [] }

-- the broker closes the publisher's line, with DISCONNECT if the session is connected there
abbrev pub closed_by : ℕ → World → World
closed_by code w = record w { linked = false; up = []; down = sent_on w.linked w.down (DISCONNECT code ∷ []) }

-- CONNECT on the line that was given up: if the session is connected on the publisher's line, that is closed (3.1.4)
abbrev pub taken_over : Bool → World → World
taken_over true w = closed_by session_taken_over w
taken_over false w = w

abbrev pub on_old_connect : Bool → Bool → Choice → List FromPublisher → World → World
on_old_connect true false choice rest w = taken_over w.linked (record w { old = rest })
on_old_connect true true choice rest w = taken_over w.linked (record w { old = rest; ids = [] })
on_old_connect false clean takes rest w = record w { old = rest; stands = true; ids = [] }
on_old_connect false clean takes_unheard rest w = record w { old = rest; stands = true; ids = [] }
on_old_connect false clean refuses rest w = record w { old = rest }

-- the broker reads the first packet of the publisher's line
abbrev pub broker_reads : Choice → List FromPublisher → World → World
broker_reads choice [] w = w
broker_reads choice (CONNECT clean ∷ rest) w = on_connect w.stands clean choice rest w
broker_reads choice (PUBLISH_1 id n dup ∷ rest) w = on_publish_1 (verdict_on (answer_to id w.ids) choice) id n rest w
broker_reads choice (PUBLISH_2 id n dup ∷ rest) w = on_publish_2 (verdict_on (answer_to id w.ids) choice) id n rest w
broker_reads choice (PUBREL id ∷ rest) w =
    record w { up = rest; down = sent_on w.linked w.down (answer_to_pubrel (answer_to_release id w.ids) id ∷ []); ids = ids_without id w.ids }

abbrev pub on_old_publish_1 : Verdict → ℕ → List FromPublisher → World → World
on_old_publish_1 verdict n rest w = record w { old = left_by verdict rest; accepted = accepted_by verdict n w.accepted }

abbrev pub on_old_publish_2 : Verdict → ℕ → ℕ → List FromPublisher → World → World
on_old_publish_2 verdict id n rest w =
    record w { old = left_by verdict rest; ids = ids_by verdict id w.ids; accepted = accepted_by verdict n w.accepted }

-- or of the line that was given up, where nobody reads its answer
abbrev pub broker_reads_old : Choice → List FromPublisher → World → World
broker_reads_old choice [] w = w
broker_reads_old choice (CONNECT clean ∷ rest) w = on_old_connect w.stands clean choice rest w
broker_reads_old choice (PUBLISH_1 id n dup ∷ rest) w = on_old_publish_1 (verdict_on (answer_to id w.ids) choice) n rest w
broker_reads_old choice (PUBLISH_2 id n dup ∷ rest) w = on_old_publish_2 (verdict_on (answer_to id w.ids) choice) id n rest w
broker_reads_old choice (PUBREL id ∷ rest) w = record w { old = rest; ids = ids_without id w.ids }

-- the publisher leaves its line, and the broker may still read it; one that carries a Clean Start through does not
abbrev pub on_give_up : Link → Bool → World → World
on_give_up away clean w = w
on_give_up asked true w = w
on_give_up asked false w = record w { link = away; linked = false; up = []; down = []; old = w.up }
on_give_up live clean w = record w { link = away; linked = false; up = []; down = []; old = w.up }

-- the publisher joins the broker by a new line. A Clean Start is carried through until CONNACK was read
abbrev pub on_join : Link → Bool → World → World
on_join away clean w = record w { link = asked; clean = w.clean || clean; linked = false; up = CONNECT (w.clean || clean) ∷ []; down = [] }
on_join asked clean w = w
on_join live clean w = w

abbrev pub step : World → Event → World
step w (publish qos) = send_unsent w.link (record w { unsent = w.unsent ++ qos ∷ [] })
step w (to_broker choice) = broker_reads choice w.up w
step w (old_to_broker choice) = broker_reads_old choice w.old w
step w to_end = publisher_reads w.down w
step w give_up = on_give_up w.link w.clean w
step w break = without_line w
step w (connect clean) = on_join w.link clean w
step w (close code) = closed_by code w
step w close_old = record w { old = [] }
step w restart = record w { link = away; linked = false; up = []; down = []; old = [] }

-- nothing stands
abbrev pub start : World
start =
    record {
      fates = [];
      unsent = [];
      link = away;
      clean = false;
      linked = false;
      up = [];
      down = [];
      old = [];
      stands = false;
      ids = [];
      accepted = [];
    }

-- a whole list of events
abbrev pub run : List Event → World → World
run [] w = w
run (event ∷ events) w = run events (step w event)

-- the world after these events
abbrev pub after : List Event → World
after events = run events start

-- a CONNECT is alone under way, on the publisher's line and on the one that it gave up last (3.1)
abbrev pub ConnectsAlone : World → Type 0
ConnectsAlone w = IsConnectAlone w.up × IsConnectAlone w.old

-- what is under way on the publisher's line is nothing, or begins with CONNECT, or the session is connected there. So it
-- is with what stays under way when the publisher gives its line up
abbrev pub Heard : World → Type 0
Heard w = IsHeard w.linked w.up

-- what became of a message, and how often it was accepted
abbrev pub fate_of : ℕ → World → Option Fate
fate_of n w = slice_get w.fates n

abbrev pub count_of : ℕ → List ℕ → ℕ
count_of n accepted = count_by (nat_eq n) accepted

abbrev pub accepted_count : ℕ → World → ℕ
accepted_count n w = count_of n w.accepted
