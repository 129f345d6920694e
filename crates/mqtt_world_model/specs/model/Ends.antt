-- Conforming ends: a publisher and a receiver, what they send, and what they do with what they read (MQTT 5.0, 4.3,
-- 4.4).
use Rattle.std.specs.Prelude.{ℕ, zero, suc, Bool, true, false, cond, List, [], ◌∷◌, ◌++◌, length, map, nat_lt, slice_get, Option}
use Rattle.std.specs.Prelude.{Some, None, unwrap_or, if◌then◌else◌}
use Rattle.mqtt_base.specs.declared.session.CopyId.{CopyId}
use Rattle.mqtt_base.specs.declared.session.Qos.{Qos as Quality}
use Rattle.mqtt_base.specs.declared.session.Qos.TheVariants.{AtMostOnce, AtLeastOnce, ExactlyOnce}
use Rattle.mqtt_base.specs.declared.session.SubscriptionOptions.{SubscriptionOptions}
use Rattle.mqtt_props.specs.declared.table.PropName.TheVariants.{SessionExpiryInterval, ReceiveMaximum}
use Rattle.mqtt_props.specs.declared.table.PropName.TheVariants.{SubscriptionIdentifier, TopicAliasMaximum}
use Rattle.mqtt_props.specs.Properties.{Prop, U16, U32, VarInt}
use Rattle.mqtt_packet.specs.declared.codec.publish.Delivery.{Delivery}
use Rattle.mqtt_packet.specs.declared.codec.publish.Delivery.TheVariants as delivery
use Rattle.mqtt_packet.specs.declared.codec.publish.Publish.{Publish as Publication}
use Rattle.mqtt_packet.specs.declared.codec.packet.Packet.{Packet}
use Rattle.mqtt_packet.specs.declared.codec.packet.Packet.TheVariants.{Connect, Connack, Publish, Puback, Pubrec, Pubrel}
use Rattle.mqtt_packet.specs.declared.codec.packet.Packet.TheVariants.{Pubcomp, Subscribe, Suback, Disconnect}
use Rattle.mqtt_packet.specs.subscribe.Options.{options_byte}
use Rattle.mqtt_base.specs.declared.limits.TheConstants.{OPEN_LIMIT}
use Rattle.mqtt_flow.specs.inbound.Identifiers.{is_among, ids_without, free_identifier}
use Rattle.mqtt_flow.specs.inbound.Line.{Link, away, asked, live, sent_on}
use Rattle.mqtt_base.specs.Codes.{success, identifier_not_found}
use Rattle.mqtt_flow.specs.inbound.Publisher.{Qos, qos_1, qos_2, Fate, FromPublisher, CONNECT, PUBLISH_1, PUBLISH_2, PUBREL}
use Rattle.mqtt_flow.specs.inbound.Publisher.{ToPublisher, CONNACK, CONNACK_REFUSED, PUBACK, PUBREC, PUBCOMP, DISCONNECT}
use Rattle.mqtt_flow.specs.inbound.Publisher.{in_flight, first_fate, first_packet, resent_from, on_new_session, on_puback}
use Rattle.mqtt_flow.specs.inbound.Publisher.{on_pubrec, on_pubcomp, pubrel_for}
use Rattle.mqtt_flow.specs.outbound.Receiver.{Body, Answer, connect, puback, pubrec, pubcomp, kept_after}
use Rattle.mqtt_records.specs.messages.PassedOn.{property}
use Rattle.mqtt_rules.specs.step.Packets as packets
use Rattle.mqtt_world_model.specs.model.Lines.{Down, Line, no_line, no_line_taking, left}

-- ---- a publisher (4.3.2, 4.3.3, 4.4)

-- what a message carries
pub record Content : Type 0 where
  pub retain : Bool
  pub topic : List ℕ
  pub payload : List ℕ

-- a message that has not gone out
pub record Draft : Type 0 where
  pub qos : Quality
  pub content : Content

-- what a publisher sends: CONNECT, PUBREL and a PUBLISH of QoS 1 or 2, which is tagged with the number of its message;
-- or a message of QoS 0
pub data Sent : Type 0 where
  shake : (packet : FromPublisher) → Sent
  plain : (content : Content) → Sent

-- messages of QoS 1 and 2 are numbered as they go out
pub record Publisher : Type 0 where
  pub client : List ℕ
  pub fates : List Fate
  pub contents : List Content
  pub unsent : List Draft
  pub line : Line Sent

abbrev pub new_publisher : List ℕ → Publisher
new_publisher client = record { client = client; fates = []; contents = []; unsent = []; line = no_line }

-- ---- its packets on the wire

abbrev pub no_content : Content
no_content = record { retain = false; topic = []; payload = [] }

abbrev pub content_at : ℕ → List Content → Content
content_at n contents = unwrap_or (slice_get contents n) no_content

abbrev pub publish_with : Delivery → Content → Packet
publish_with d c =
    Publish (record { delivery = d; retain = c.retain; topic = c.topic; properties = []; payload = c.payload })

-- Keep Alive 0, and a session that doesn't expire
abbrev pub connect_with : List ℕ → Bool → List Prop → Packet
connect_with client clean more = Connect (record {
  clean_start = clean;
  keep_alive = 0;
  properties = property SessionExpiryInterval (U32 0xffffffff) ∷ more;
  client_identifier = client;
  will = None;
  user_name = None;
  password = None;
})

abbrev pub wire : List ℕ → List Content → Sent → Packet
wire client contents (shake (CONNECT clean)) = connect_with client clean []
wire client contents (shake (PUBLISH_1 id n dup)) = publish_with (delivery.AtLeastOnce dup id) (content_at n contents)
wire client contents (shake (PUBLISH_2 id n dup)) = publish_with (delivery.ExactlyOnce dup id) (content_at n contents)
wire client contents (shake (PUBREL id)) = packets.pubrel id success
wire client contents (plain c) = publish_with delivery.AtMostOnce c

-- the message that a packet is a PUBLISH of
abbrev pub message_in : Sent → Option ℕ
message_in (shake (CONNECT clean)) = None
message_in (shake (PUBLISH_1 id n dup)) = Some n
message_in (shake (PUBLISH_2 id n dup)) = Some n
message_in (shake (PUBREL id)) = None
message_in (plain c) = None

-- ---- what it does

-- what goes out is lost if the line no longer stands
abbrev pub goes : {U : Type 0} → Bool → List U → Line U → Line U
goes stands packets l = record l { up = sent_on stands l.up packets }

abbrev pub numbered : Bool → Qos → Content → List Draft → Publisher → Publisher
numbered stands qos c rest p =
    let id = free_identifier (in_flight p.fates) in
    record p {
      fates = p.fates ++ first_fate qos id ∷ [];
      contents = p.contents ++ c ∷ [];
      unsent = rest;
      line = goes stands (shake (first_packet qos id (length p.fates)) ∷ []) p.line;
    }

abbrev pub goes_out : Bool → Quality → Content → List Draft → Publisher → Publisher
goes_out stands AtMostOnce c rest p = record p { unsent = rest; line = goes stands (plain c ∷ []) p.line }
goes_out stands AtLeastOnce c rest p = numbered stands qos_1 c rest p
goes_out stands ExactlyOnce c rest p = numbered stands qos_2 c rest p

-- one message goes out, if fewer than the Receive Maximum are in flight (4.9)
abbrev pub send_one : Bool → Draft → List Draft → Publisher → Publisher
send_one stands d rest p =
    if nat_lt (length (in_flight p.fates)) OPEN_LIMIT then goes_out stands d.qos d.content rest p else p

abbrev pub send_all : Bool → List Draft → Publisher → Publisher
send_all stands [] p = p
send_all stands (d ∷ rest) p = send_all stands rest (send_one stands d rest p)

-- unsent messages go out in order, if CONNACK was read
abbrev pub send_unsent : Bool → Link → Publisher → Publisher
send_unsent stands away p = p
send_unsent stands asked p = p
send_unsent stands live p = send_all stands p.unsent p

abbrev pub published : Bool → Draft → Publisher → Publisher
published stands d p = send_unsent stands p.line.link (record p { unsent = p.unsent ++ d ∷ [] })

-- ---- what it reads; what it does not know it passes over

abbrev pub connack_by : Bool → ℕ → ToPublisher
connack_by present code = cond (nat_lt 0 code) (CONNACK_REFUSED code) (CONNACK present)

abbrev pub heard : Packet → Option ToPublisher
heard (Connack a) = Some (connack_by a.session_present a.reason.0)
heard (Puback a) = Some (PUBACK a.identifier a.reason.0)
heard (Pubrec a) = Some (PUBREC a.identifier a.reason.0)
heard (Pubcomp a) = Some (PUBCOMP a.identifier a.reason.0)
heard (Disconnect n) = Some (DISCONNECT n.reason.0)
heard packet = None

abbrev pub connected : Line Sent → Line Sent
connected l = record l { link = live; clean = false }

abbrev pub reads_connack : Bool → Link → Bool → Publisher → Publisher
reads_connack stands away present p = p
reads_connack stands asked true p =
    send_unsent stands live (record p { line = goes stands (map shake (resent_from 0 p.fates)) (connected p.line) })
reads_connack stands asked false p =
    send_unsent stands live (record p { fates = map on_new_session p.fates; line = connected p.line })
reads_connack stands live present p = p

abbrev pub reads : Bool → ToPublisher → Publisher → Publisher
reads stands (CONNACK present) p = reads_connack stands p.line.link present p
reads stands (CONNACK_REFUSED code) p = record p { line = left (record p.line { clean = false }) }
reads stands (PUBACK id code) p = send_unsent stands p.line.link (record p { fates = map (on_puback id code) p.fates })
reads stands (PUBREC id code) p = send_unsent stands p.line.link (record p {
  fates = map (on_pubrec id code) p.fates;
  line = goes stands (map shake (pubrel_for id code p.fates)) p.line;
})
reads stands (PUBCOMP id code) p = send_unsent stands p.line.link (record p { fates = map (on_pubcomp id) p.fates })
reads stands (DISCONNECT code) p = record p { line = left p.line }

abbrev pub reads_if : Bool → Option ToPublisher → Publisher → Publisher
reads_if stands None p = p
reads_if stands (Some packet) p = reads stands packet p

-- the first packet under way to it
abbrev pub publisher_reads : Bool → List Down → Publisher → Publisher
publisher_reads stands [] p = p
publisher_reads stands (d ∷ rest) p =
    reads_if stands (heard d.packet) (record p { line = record p.line { down = rest } })

-- ---- a receiver (4.3.2, 4.3.3, 4.4)

-- a subscription that it asks for
pub record Wish : Type 0 where
  pub filter : List ℕ
  pub options : SubscriptionOptions
  pub identifier : Option ℕ

pub data Back : Type 0 where
  answers : (a : Answer) → Back
  asks_for : (w : Wish) → Back

-- what it has read: the copy, and what that carries
pub record Entry : Type 0 where
  pub copy : Option CopyId
  pub body : Body

pub record Receiver : Type 0 where
  pub client : List ℕ
  pub window : ℕ  -- its Receive Maximum (3.1.2.11.3)
  pub aliases : ℕ  -- its Topic Alias Maximum (3.1.2.11.5)
  pub since : ℕ  -- the last birth before it was made: an earlier session of its name was not its own
  pub asking : Bool  -- its SUBSCRIBE waits for its SUBACK
  pub kept : List ℕ
  pub ledger : List Entry  -- of QoS 2
  pub once : List Entry  -- of QoS 1
  pub line : Line Back

abbrev pub new_receiver : List ℕ → ℕ → ℕ → ℕ → Receiver
new_receiver client window aliases since = record {
  client = client;
  window = window;
  aliases = aliases;
  since = since;
  asking = false;
  kept = [];
  ledger = [];
  once = [];
  line = no_line_taking aliases;
}

abbrev pub identified : Option ℕ → List Prop
identified None = []
identified (Some n) = property SubscriptionIdentifier (VarInt n) ∷ []

abbrev pub subscribe_with : Wish → Packet
subscribe_with w = Subscribe (record {
  identifier = 1;
  properties = identified w.identifier;
  subscriptions = record { filter = w.filter; options = options_byte w.options } ∷ [];
})

-- who takes no aliases doesn't say so
abbrev pub taking : ℕ → List Prop
taking zero = []
taking (suc more) = property TopicAliasMaximum (U16 (suc more)) ∷ []

abbrev pub wire_back : List ℕ → ℕ → ℕ → Back → Packet
wire_back client window aliases (answers (connect clean)) =
    connect_with client clean (property ReceiveMaximum (U16 window) ∷ taking aliases)
wire_back client window aliases (answers (puback i code)) = packets.puback i code
wire_back client window aliases (answers (pubrec i code)) = packets.pubrec i code
wire_back client window aliases (answers (pubcomp i code)) = packets.pubcomp i code
wire_back client window aliases (asks_for w) = subscribe_with w

abbrev pub body_of : Bool → Publication → Body
body_of twice p = record { twice = twice; topic = p.topic; payload = p.payload }

abbrev pub entry_of : Bool → Option CopyId → Publication → Entry
entry_of twice copy p = record { copy = copy; body = body_of twice p }

abbrev pub answers_with : Bool → Answer → Receiver → Receiver
answers_with stands a r = record r { line = goes stands (answers a ∷ []) r.line }

-- a PUBLISH of QoS 2 is handed over if its identifier isn't kept (4.3.3)
abbrev pub reads_publish : Bool → Option CopyId → Publication → Delivery → Receiver → Receiver
reads_publish stands copy p delivery.AtMostOnce r = r
reads_publish stands copy p (delivery.AtLeastOnce dup i) r =
    answers_with stands (puback i success) (record r { once = r.once ++ entry_of false copy p ∷ [] })
reads_publish stands copy p (delivery.ExactlyOnce dup i) r = answers_with stands (pubrec i success) (record r {
  kept = kept_after i r.kept;
  ledger = if is_among i r.kept then r.ledger else r.ledger ++ entry_of true copy p ∷ [];
})

abbrev pub greeted : Line Back → Line Back
greeted l = record l { link = live; clean = false }

-- a CONNACK that was not asked for is passed over
abbrev pub receiver_connack : Link → Bool → ℕ → Receiver → Receiver
receiver_connack away present code r = r
receiver_connack live present code r = r
receiver_connack asked present code r = cond (nat_lt 0 code)
    (record r { line = left (record r.line { clean = false }) })
    (record r { line = greeted r.line; asking = false; kept = if present then r.kept else [] })

abbrev pub hears : Bool → Option CopyId → Packet → Receiver → Receiver
hears stands copy (Connack a) r = receiver_connack r.line.link a.session_present a.reason.0 r
hears stands copy (Publish p) r = reads_publish stands copy p p.delivery r
hears stands copy (Pubrel a) r =
    let code = if is_among a.identifier r.kept then success else identifier_not_found in
    answers_with stands (pubcomp a.identifier code) (record r { kept = ids_without a.identifier r.kept })
hears stands copy (Suback a) r = record r { asking = false }
hears stands copy (Disconnect n) r = record r { line = left r.line }
hears stands copy packet r = r

abbrev pub receiver_reads : Bool → List Down → Receiver → Receiver
receiver_reads stands [] r = r
receiver_reads stands (d ∷ rest) r = hears stands d.copy d.packet (record r { line = record r.line { down = rest } })
