-- CONNECT: its refusals, and its effects in order (MQTT 5.0, 3.1, 3.2).
use Rattle.std.specs.Prelude.{ℕ, suc, Bool, true, false, cond, not, ◌&&◌, List, [], ◌∷◌, ◌++◌, length, nat_lt, Option, Some, None, is_none, decimal, option_map}
use Rattle.std.specs.List.{starts_with}
use Rattle.std.specs.Prelude.{nat_eq}
use Rattle.mqtt_props.specs.declared.table.PropName.TheVariants.{SessionExpiryInterval, AssignedClientIdentifier, AuthenticationMethod, WillDelayInterval, ReceiveMaximum, TopicAliasMaximum, MaximumPacketSize}
use Rattle.mqtt_props.specs.Properties.{Prop, U16, U32, Text}
use Rattle.mqtt_props.specs.Laws.{has}
use Rattle.mqtt_packet.specs.declared.connect.connect.Connect.{Connect}
use Rattle.mqtt_packet.specs.declared.connect.connect.Will.{Will as WillAsked}
use Rattle.mqtt_topic.specs.names.Names.{is_topic_name, is_empty}
use Rattle.mqtt_topic.specs.sending.Told.{most_of}
use Rattle.mqtt_base.specs.Codes.{success, client_identifier_not_valid, bad_authentication_method, session_taken_over, topic_name_invalid, packet_too_large, quota_exceeded}
use Rattle.mqtt_base.specs.declared.limits.TheConstants.{OPEN_LIMIT, ALIAS_LIMIT, PACKET_LIMIT, CLIENT_LIMIT}
use Rattle.mqtt_flow.specs.outbound.Outbound.{resumed_with}
use Rattle.mqtt_records.specs.declared.messages.message.Will.{Will}
use Rattle.mqtt_records.specs.declared.state.session.Columns.{Columns}
use Rattle.mqtt_records.specs.declared.state.session.Session.{Session}
use Rattle.mqtt_records.specs.declared.state.records.Records.{Records}
use Rattle.mqtt_rules.specs.step.Packets.{number_or, connack}
use Rattle.mqtt_records.specs.messages.PassedOn.{number_at, property}
use Rattle.mqtt_rules.specs.step.State.{Line, Env, session_named, line_of, queue_on}
use Rattle.mqtt_rules.specs.step.Deeds.{whose, Resume, Greet, Deed, Begin, Name, At, On, Send, Gone, Act, after_all, always, series, only_if, with_session, with_line}
use Rattle.mqtt_rules.specs.step.Outbound.{all_turn_deeds}
use Rattle.mqtt_rules.specs.step.Closing.{publish_will, end_session, settle, drop_line}
use Rattle.mqtt_records.specs.state.Session.{auto}

-- ---- refusals (3.2.2.2)

pub record Case : Type 0 where
  pub holds : Bool
  pub code : ℕ

abbrev pub case : Bool → ℕ → Case
case holds code = record { holds = holds; code = code }

-- the code of the first case that holds
abbrev pub first_case : List Case → Option ℕ
first_case [] = None
first_case (c ∷ cs) = cond c.holds (Some c.code) (first_case cs)

abbrev pub has_bad_topic : Option WillAsked → Bool
has_bad_topic None = false
has_bad_topic (Some w) = not (is_topic_name w.topic)

-- the client's Maximum Packet Size; absent it is the greatest that there is, above the size of any packet (3.1.2.11.4)
abbrev pub largest_of : Connect → ℕ
largest_of c = number_or 0xffffffff MaximumPacketSize c.properties

-- the smallest Maximum Packet Size that the broker takes, in bytes (ours)
abbrev pub least_packet_size : ℕ
least_packet_size = 64

-- a name of that form which no session has
abbrev pub is_unassigned : List ℕ → Records → Bool
is_unassigned name r = starts_with nat_eq name auto && is_none (session_named name r)

abbrev pub refusal : Connect → Records → Option ℕ
refusal c r = first_case (
    case (has AuthenticationMethod c.properties) bad_authentication_method
    ∷ case (nat_lt (largest_of c) least_packet_size) packet_too_large
    ∷ case (nat_lt CLIENT_LIMIT (length c.client_identifier)) client_identifier_not_valid
    ∷ case (is_unassigned c.client_identifier r) client_identifier_not_valid
    ∷ case (has_bad_topic c.will) topic_name_invalid
    ∷ [])

-- the bytes of a CONNACK that refuses (3.2)
abbrev pub refusal_size : ℕ
refusal_size = 5

-- CONNACK with the code, if the client takes so many bytes, and the line closes
abbrev pub refused : Line → Connect → ℕ → List Deed
refused l c code =
    cond (nat_lt (largest_of c) refusal_size) [] (Send l.number (connack false code []) ∷ []) ++ Gone l.number ∷ []

-- ---- what comes before the new connection: takeover, settling, and Clean Start (3.1.4, 3.1.2.4)

-- the session of this client, if it stands by then
abbrev pub of_client : List ℕ → (Session → Act) → Act
of_client client f b = with_session (session_named client b.records) f b

-- the old line is told and closes as lost
abbrev pub take_over : Env → Session → Act
take_over env s b = with_line (line_of s.birth b) (drop_line env session_taken_over) b

-- its waiting Will is published, and it ends
abbrev pub clear : Env → Session → Act
clear env s b = series (publish_will env s ∷ of_client s.client (λ t. always (end_session t)) ∷ []) b

abbrev pub prepare : Env → Connect → Act
prepare env c b = series (
    of_client c.client_identifier (take_over env)
    ∷ of_client c.client_identifier (λ s. settle env s.birth)
    ∷ only_if c.clean_start (of_client c.client_identifier (clear env))
    ∷ []) b

-- ---- the new connection

-- the client's Receive Maximum (3.1.2.11.3)
abbrev pub window_of : Connect → ℕ
window_of c = number_or 65535 ReceiveMaximum c.properties

-- the most topics that the client is told by aliases: as many as it takes, and at most ten (3.1.2.11.5)
abbrev pub aliases_of : Connect → ℕ
aliases_of c = most_of (number_at TopicAliasMaximum c.properties)

abbrev pub greet : Line → Connect → ℕ → Deed
greet l c birth = On l.number (Greet birth c.keep_alive (window_of c) (largest_of c) (aliases_of c))

abbrev pub assigned : Bool → List ℕ → List Prop
assigned false client = []
assigned true client = property AssignedClientIdentifier (Text client) ∷ []

-- CONNACK 00: what the broker grants (3.2.2.3)
abbrev pub connack_properties : Bool → List ℕ → List Prop
connack_properties is_assigned client =
    assigned is_assigned client
    ++ property ReceiveMaximum (U16 OPEN_LIMIT)
    ∷ property TopicAliasMaximum (U16 ALIAS_LIMIT)
    ∷ property MaximumPacketSize (U32 PACKET_LIMIT)
    ∷ []

abbrev pub expiry_of : Connect → ℕ
expiry_of c = number_or 0 SessionExpiryInterval c.properties

-- the Will as it is stored
abbrev pub will_kept : WillAsked → Will
will_kept w = record {
  delay = number_or 0 WillDelayInterval w.properties;
  qos = w.qos;
  retain = w.retain;
  topic = w.topic;
  properties = w.properties;
  payload = w.payload;
}

abbrev pub will_of : Connect → Option Will
will_of c = option_map will_kept c.will

-- CONNACK, then PUBREL for each released copy, in the order of release (4.4)
abbrev pub resume : Line → Connect → ℕ → Session → List Deed
resume l c now s =
    At (whose s) (Resume (expiry_of c) (will_of c))
    ∷ greet l c s.birth
    ∷ Send l.number (connack true success (connack_properties false []))
    ∷ all_turn_deeds now l.number s (resumed_with (queue_on [] s))

abbrev pub fresh_row : ℕ → List ℕ → Connect → Columns
fresh_row birth client c = record { birth = birth; client = client; expiry = expiry_of c; closed = None }

abbrev pub begin : Line → Connect → Bool → List ℕ → ℕ → List Deed
begin l c is_assigned client birth =
    Begin (fresh_row birth client c) (will_of c)
    ∷ greet l c birth
    ∷ Send l.number (connack false success (connack_properties is_assigned client))
    ∷ []

-- an empty client identifier is given one (3.1.3.1)
abbrev pub begin_named : Bool → Line → Connect → Records → List Deed
begin_named false l c r = begin l c false c.client_identifier (suc r.births)
begin_named true l c r = Name (suc r.autos) ∷ begin l c true (auto ++ decimal (suc r.autos)) (suc r.births)

-- after the preparation the session is resumed, or a new one begins if there is a place for it; else nothing changes
abbrev pub joins : Env → Line → Connect → ℕ → List Deed → Records → Option Session → List Deed
joins env l c now ds r (Some s) = ds ++ resume l c now s
joins env l c now ds r None =
    cond (nat_lt (length r.sessions) env.limits.sessions)
    (ds ++ begin_named (is_empty c.client_identifier) l c r)
    (refused l c quota_exceeded)

abbrev pub joins_after : Env → Line → Connect → ℕ → List Deed → Records → List Deed
joins_after env l c now ds r = joins env l c now ds r (session_named c.client_identifier r)

abbrev pub connect_by : Option ℕ → Env → Line → Connect → Act
connect_by (Some code) env l c b = refused l c code
connect_by None env l c b = let ds = prepare env c b in joins_after env l c b.now ds (after_all ds b).records

abbrev pub on_connect : Env → Line → Connect → Act
on_connect env l c b = connect_by (refusal c b.records) env l c b
