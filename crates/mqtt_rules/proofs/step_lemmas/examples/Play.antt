-- Calls one after the other, on an empty store or on a given one, for the examples.
use Prim.Native.String.{String}
use Rattle.std.proofs.Common.{ℕ, zero, suc, ◌+◌, ◌-◌, ◌*◌, Bool, true, false, List, [], ◌∷◌, ◌++◌, map, Option, Some, None, ◌≡◌, refl, ap, ◌∙◌}
use Rattle.std.specs.Prelude.{cond, nat_lt, codes, ◌/◌}
use Rattle.mqtt_base.specs.declared.session.Qos.{Qos}
use Rattle.mqtt_base.specs.declared.session.Qos.TheVariants.{ExactlyOnce}
use Rattle.mqtt_base.specs.declared.session.Cause.TheVariants.{Direct, Share}
use Rattle.mqtt_base.specs.declared.session.CopyId.{CopyId}
use Rattle.mqtt_base.specs.declared.session.Phase.{Phase}
use Rattle.mqtt_base.specs.declared.session.Phase.TheVariants.{Waiting}
use Rattle.mqtt_base.specs.declared.session.RetainHandling.TheVariants.{SendAlways}
use Rattle.mqtt_base.specs.declared.session.SubscriptionOptions.{SubscriptionOptions}
use Rattle.mqtt_props.specs.declared.table.PropName.TheVariants.{SessionExpiryInterval, ReceiveMaximum, TopicAliasMaximum, MaximumPacketSize}
use Rattle.mqtt_props.specs.Properties.{Prop, U16, U32}
use Rattle.mqtt_packet.specs.declared.connect.connect.Will.{Will}
use Rattle.mqtt_packet.specs.declared.codec.publish.Publish.{Publish as Publication}
use Rattle.mqtt_packet.specs.declared.codec.publish.Delivery.TheVariants as delivery
use Rattle.mqtt_packet.specs.declared.codec.packet.Packet.{Packet}
use Rattle.mqtt_packet.specs.declared.codec.packet.Packet.TheVariants.{Connect, Publish, Subscribe, Unsubscribe}
use Rattle.mqtt_packet.specs.subscribe.Subscriptions.{Subscription as Asked}
use Rattle.mqtt_packet.specs.subscribe.Options.{options_byte}
use Rattle.mqtt_flow.specs.declared.outbound.entry.Full.{Full}
use Rattle.mqtt_flow.specs.declared.outbound.entry.Full.TheVariants.{Refuse}
use Rattle.mqtt_records.specs.declared.state.session.Session.{Session}
use Rattle.mqtt_records.specs.state.Records.{nothing, changed_all}
use Rattle.mqtt_rules.specs.declared.step.Capacity.{Capacity}
use Rattle.mqtt_rules.specs.declared.step.Report.{Report}
use Rattle.mqtt_records.specs.messages.PassedOn.{property}
use Rattle.mqtt_rules.specs.step.Packets.{connack, disconnect}
use Rattle.mqtt_rules.specs.step.State.{Broker, session_at, stored, MemberChoice}
use Rattle.mqtt_rules.specs.step.Step.{Call, NewLine, Input, Outcome, stepped, told, opened, at_moment, deeds, with_moment}
use Rattle.mqtt_records.specs.declared.messages.message.MessageCopy.{MessageCopy}
use Rattle.mqtt_records.specs.messages.Queue.{CopyRow}
use Rattle.mqtt_records.specs.lists.Order.{change_row}
use Rattle.mqtt_records.specs.state.Session.{birth_of, fresh}
use Rattle.mqtt_records.specs.declared.state.change.Change.{Change}
use Rattle.mqtt_rules.specs.step.Deeds.{Deed, rows_of, rows_of_all, stored_after, after, after_all}

abbrev pub usual : Capacity
usual = record { full = Refuse; queue = 1000; sessions = 1000; retained = 1000; lines = 64 }

abbrev pub blank : Broker
blank = record { records = nothing; lines = []; given = 0; now = 0; tellings = [] }

-- the first eligible member of each group
abbrev pub first : MemberChoice
first number sender = []

-- a call and its moment
pub data Event : Type 0 where
  at : (now : ℕ) (call : Call) → Event

abbrev pub step_with : Capacity → Event → Broker → Broker
step_with limits (at now call) b = stepped limits first now call b

abbrev pub runs_with : Capacity → List Event → Broker → Broker
runs_with limits [] b = b
runs_with limits (e ∷ es) b = runs_with limits es (step_with limits e b)

abbrev pub tells_with : Capacity → Event → Broker → Outcome
tells_with limits (at now call) b = told limits first now call b

abbrev pub step : Event → Broker → Broker
step e b = step_with usual e b

abbrev pub runs : List Event → Broker → Broker
runs es b = runs_with usual es b

abbrev pub tells : Event → Broker → Outcome
tells e b = tells_with usual e b

-- what the last of the events tells
abbrev pub asks : List Event → Event → Outcome
asks es e = tells e (runs es blank)

-- after a restart
abbrev pub reopened : ℕ → Broker → Broker
reopened now b = opened usual first now b.records

-- no client here takes an alias, so each packet goes out as it is meant
abbrev pub out : List (ℕ × Packet) → List ℕ → List Report → Bool → Outcome
out outputs closed reports again =
    record { outputs = outputs; wires = outputs; closed = closed; reports = reports; taken = 0; again = again }

-- ---- packets

abbrev pub never_expires : Prop
never_expires = property SessionExpiryInterval (U32 0xffffffff)

abbrev pub hello_with : List ℕ → List Prop → Option Will → Packet
hello_with name ps will = Connect (record {
  clean_start = false;
  keep_alive = 0;
  properties = ps;
  client_identifier = name;
  will = will;
  user_name = None;
  password = None;
})

abbrev pub hello : List ℕ → Packet
hello name = hello_with name (never_expires ∷ []) None

abbrev pub welcome : Bool → Packet
welcome present =
    connack present 0 (property ReceiveMaximum (U16 20) ∷ property TopicAliasMaximum (U16 10) ∷ property MaximumPacketSize (U32 65536) ∷ [])

abbrev pub in_line : ℕ → Packet → List Event
in_line n packet = at 0 NewLine ∷ at 0 (Input n packet) ∷ []

abbrev pub options : Qos → SubscriptionOptions
options qos = record { qos = qos; no_local = false; retain_as_published = false; retain_handling = SendAlways }

abbrev pub wish : List ℕ → SubscriptionOptions → Asked
wish filter o = record { filter = filter; options = options_byte o }

abbrev pub wants_with : ℕ → List Prop → List Asked → Packet
wants_with id ps asked = Subscribe (record { identifier = id; properties = ps; subscriptions = asked })

abbrev pub wants : ℕ → List ℕ → Qos → Packet
wants id filter qos = wants_with id [] (wish filter (options qos) ∷ [])

abbrev pub gives_up : ℕ → List (List ℕ) → Packet
gives_up id filters = Unsubscribe (record { identifier = id; properties = []; filters = filters })

abbrev pub topic : List ℕ
topic = codes "a/b"

abbrev pub hi : List ℕ
hi = codes "hi"

-- a PUBLISH of QoS 2 to a/b
abbrev pub message : ℕ → Publication
message id = record { delivery = delivery.ExactlyOnce false id; retain = false; topic = topic; properties = []; payload = hi }

abbrev pub sends : ℕ → Packet
sends id = Publish (message id)

-- and its copy
abbrev pub copy_out : Bool → ℕ → List Prop → Packet
copy_out dup id ps = Publish (record { delivery = delivery.ExactlyOnce dup id; retain = false; topic = topic; properties = ps; payload = hi })

abbrev pub direct : ℕ → ℕ → CopyId
direct number birth = record { publication = number; birth = birth; cause = Direct }

-- r1 is there for a/b at QoS 2, and p1 is connected
abbrev pub subscribed : List Event
subscribed = at 0 NewLine ∷ at 0 (Input 1 (hello (codes "r1"))) ∷ at 0 (Input 1 (wants 1 topic ExactlyOnce)) ∷ at 0 NewLine ∷ at 0 (Input 2 (hello (codes "p1"))) ∷ []

-- ---- for handshakes and moments

-- bytes by their hexadecimal digits, two and a space for each
abbrev pub digit : ℕ → ℕ
digit c = cond (nat_lt c 58) (c - 48) (c - 87)

abbrev pub bytes_of : List ℕ → List ℕ
bytes_of (high ∷ low ∷ space ∷ rest) = (16 * digit high + digit low) ∷ bytes_of rest
bytes_of (high ∷ low ∷ []) = (16 * digit high + digit low) ∷ []
bytes_of rest = []

abbrev pub bytes : String → List ℕ
bytes text = bytes_of (codes text)

-- all that the events tell, one after the other
abbrev pub all_outputs : List Event → Broker → List (ℕ × Packet)
all_outputs [] b = []
all_outputs (e ∷ es) b = (tells e b).outputs ++ all_outputs es (step e b)

abbrev pub all_reports : List Event → Broker → List Report
all_reports [] b = []
all_reports (e ∷ es) b = (tells e b).reports ++ all_reports es (step e b)

-- the sessions that stand, and the identifiers of QoS 2 publications that one of them has open
abbrev pub births : Broker → List ℕ
births b = map (λ s. s.birth) b.records.sessions

abbrev pub inbound_of : Option Session → List ℕ
inbound_of None = []
inbound_of (Some s) = s.inbound

abbrev pub open_at : ℕ → Broker → List ℕ
open_at birth b = inbound_of (session_at birth b.records)

-- the PUBLISH of QoS 2 to a/b once more, with DUP
abbrev pub sends_again : ℕ → Packet
sends_again id = copy_out true id []

-- with so many identifiers one after the other, from one on, on a line
abbrev pub burst : ℕ → ℕ → ℕ → List Event
burst line zero id = []
burst line (suc k) id = at 0 (Input line (sends id)) ∷ burst line k (1 + id)

-- r1 is there for a/b at QoS 2, and p1 has sent the PUBLISH with identifier 10
abbrev pub published : List Event
published = subscribed ++ at 0 (Input 2 (sends 10)) ∷ []

-- ---- for tables

abbrev pub tells_by : Capacity → MemberChoice → Event → Broker → Outcome
tells_by limits choice (at now call) b = told limits choice now call b

abbrev pub step_by : Capacity → MemberChoice → Event → Broker → Broker
step_by limits choice (at now call) b = stepped limits choice now call b

abbrev pub runs_by : Capacity → MemberChoice → List Event → Broker → Broker
runs_by limits choice [] b = b
runs_by limits choice (e ∷ es) b = runs_by limits choice es (step_by limits choice e b)

-- what is stored is as it was
abbrev pub Keeps : Capacity → Event → Broker → Type 0
Keeps limits e b = stored (step_with limits e b) ≡ stored b

-- the rows that a call writes, its moment left out
abbrev pub rows_by : Capacity → Event → Broker → List Change
rows_by limits (at now call) b = rows_of_all (deeds limits first now call b) b.records

none_before : (xs ys : List Change) → xs ++ ys ≡ [] → xs ≡ []
none_before [] ys e = refl
none_before (x ∷ xs) ys e = absurd (cc)

none_after : (xs ys : List Change) → xs ++ ys ≡ [] → ys ≡ []
none_after [] ys e = e
none_after (x ∷ xs) ys e = absurd (cc)

unwritten : (ds : List Deed) (b : Broker) → rows_of_all ds b.records ≡ [] → (after_all ds b).records ≡ b.records
unwritten [] b e = refl
unwritten (d ∷ ds) b e =
    let rest = rows_of_all ds (stored_after d b.records) in
    unwritten ds (after d b) (none_after (rows_of d b.records) rest e)
    ∙ ap (λ rows. changed_all rows b.records) (none_before (rows_of d b.records) rest e)

unmoved : (rows : List Change) (b : Broker) → rows ≡ [] → (with_moment rows b).records ≡ b.records
unmoved [] b e = refl
unmoved (row ∷ rows) b e = absurd (cc)

-- if no row is written
pub nothing_written : (limits : Capacity) (e : Event) (b : Broker) → rows_by limits e b ≡ [] → Keeps limits e b
nothing_written limits (at now call) b e =
    let ds = deeds limits first now call b in
    unmoved (rows_of_all ds b.records) (after_all ds (at_moment now b)) e ∙ unwritten ds (at_moment now b) e

abbrev pub narrow : Full → ℕ → Capacity
narrow full queue = record { full = full; queue = queue; sessions = 1000; retained = 1000; lines = 64 }

-- a session of this client that is away, with nothing
abbrev pub away : ℕ → List ℕ → Session
away birth client = fresh (record { birth = birth; client = client; expiry = 0xffffffff; closed = Some 0 })

-- two letters for each number below 1,024
abbrev pub letters : ℕ → List ℕ
letters n = let high = n / 32 in (48 + high) ∷ (48 + (n - 32 * high)) ∷ []

-- a copy of the message for session 1, and it in the queue at its place
abbrev pub copy_kept : ℕ → MessageCopy
copy_kept number = record {
  id = record { publication = number; birth = 1; cause = Direct };
  qos = ExactlyOnce;
  retain = false;
  identifiers = [];
  content = record { topic = topic; properties = []; payload = hi; arrived = 0 };
}

abbrev pub entry : ℕ → Phase → CopyRow
entry n phase = record { place = n; phase = phase; copy = copy_kept n }

-- so many entries that wait, from a number on
abbrev pub waiting : ℕ → ℕ → List CopyRow
waiting zero n = []
waiting (suc k) n = entry n Waiting ∷ waiting k (suc n)

abbrev pub with_entries : List CopyRow → Session → Session
with_entries queue s = record s { queue = queue }

-- the session with that birth has this queue, and so many publications were accepted
abbrev pub queued : ℕ → List CopyRow → ℕ → Broker → Broker
queued birth queue publications b =
    record b { records = record b.records { sessions = change_row birth_of birth (with_entries queue) b.records.sessions; publications = publications } }

-- a PUBLISH of QoS 0 to a/b, and its copy
abbrev pub low : List Prop → Packet
low ps = Publish (record { delivery = delivery.AtMostOnce; retain = false; topic = topic; properties = ps; payload = hi })

-- a PUBLISH of QoS 1 with RETAIN
abbrev pub keeps : List ℕ → ℕ → Packet
keeps name id = Publish (record { delivery = delivery.AtLeastOnce false id; retain = true; topic = name; properties = []; payload = codes "!" })

-- CONNECT with Clean Start
abbrev pub clean : List ℕ → Packet
clean name = Connect (record {
  clean_start = true;
  keep_alive = 0;
  properties = never_expires ∷ [];
  client_identifier = name;
  will = None;
  user_name = None;
  password = None;
})

abbrev pub shared : List ℕ
shared = codes "$share/g/a/b"

abbrev pub in_group : ℕ → ℕ → CopyId
in_group number birth = record { publication = number; birth = birth; cause = Share (codes "g/a/b") }

-- ---- answers on line 1: CONNACK with a code, or DISCONNECT with one, and it closes; or it closes without an answer

abbrev pub turned_away : ℕ → Outcome
turned_away code = out ((1, connack false code []) ∷ []) (1 ∷ []) [] false

abbrev pub told_off : ℕ → Outcome
told_off code = out ((1, disconnect code) ∷ []) (1 ∷ []) [] false

abbrev pub hung_up : Outcome
hung_up = out [] (1 ∷ []) [] false

abbrev pub nothing_at_all : Outcome
nothing_at_all = out [] [] [] false

abbrev pub linked : List Event
linked = at 0 NewLine ∷ []
