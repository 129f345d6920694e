-- Nobody is sent what he did not ask for: each PUBLISH that goes out, each copy that enters a queue and each subscription, traced to what
-- its client asked for (MQTT 5.0, 3.3.4, 3.8.4, 4.3.1).
use Rattle.std.specs.Prelude.{◌≡◌, ◌⊎◌, ℕ, ⊤, Bool, List, Option, Some, None}
use Rattle.std.specs.List.{AllByRecursion}
use Rattle.mqtt_base.specs.declared.session.Phase.TheVariants.{Sent}
use Rattle.mqtt_base.specs.declared.session.Qos.TheVariants.{AtMostOnce}
use Rattle.mqtt_props.specs.declared.table.PropName.TheVariants.{SubscriptionIdentifier}
use Rattle.mqtt_packet.specs.declared.codec.packet.Packet.TheVariants as packets
use Rattle.mqtt_packet.specs.declared.codec.publish.Publish.{Publish}
use Rattle.mqtt_packet.specs.declared.subscribe.subscribe.Subscribe.{Subscribe as Asking}
use Rattle.mqtt_packet.specs.subscribe.Options.{options_of}
use Rattle.mqtt_packet.specs.subscribe.Subscriptions.{Subscription as Wished}
use Rattle.mqtt_records.specs.declared.messages.message.MessageCopy.{MessageCopy}
use Rattle.mqtt_records.specs.declared.state.records.Records.{Records}
use Rattle.mqtt_records.specs.declared.state.session.Session.{Session}
use Rattle.mqtt_records.specs.declared.state.subscription.Subscription.{Subscription}
use Rattle.mqtt_records.specs.messages.PassedOn.{number_at}
use Rattle.mqtt_records.specs.messages.Queue.{CopyRow}
use Rattle.mqtt_rules.specs.declared.step.Capacity.{Capacity}
use Rattle.mqtt_rules.specs.step.Deeds.{Deed, At, Enter, Send, Subscribe, Whose}
use Rattle.mqtt_rules.specs.step.Laws.{IsAmong}
use Rattle.mqtt_rules.specs.step.Packets.{publish_of}
use Rattle.mqtt_rules.specs.step.State.{Broker, Line, MemberChoice, session_at}
use Rattle.mqtt_rules.specs.step.Step.{Call, Input, at_moment, deeds, env_of, opening_deeds, unopened}
use Rattle.mqtt_world_laws.specs.acceptance.Entries.{Moment, moments_of}
use Rattle.mqtt_world_laws.specs.causes.Endings.{Asked}
use Rattle.mqtt_world_laws.specs.unasked.Asking.{WasCalledFor}

-- ---- what goes out

-- a line of this number stands, and the session of this birth is connected on it
pub record IsOnLine (n birth : ℕ) (b : Broker) : Type 0 where
  pub line : Line
  pub stands : IsAmong line b.lines
  pub number : line.number ≡ n
  pub session : line.session ≡ Some birth

-- the copy stands in the session's queue, in flight under this packet identifier
pub record IsInFlight (birth : ℕ) (copy : MessageCopy) (id : ℕ) (b : Broker) : Type 0 where
  pub session : Session
  pub stands : session_at birth b.records ≡ Some session
  pub row : CopyRow
  pub queued : IsAmong row session.queue
  pub is : row.copy ≡ copy
  pub phase : row.phase ≡ Sent id

-- A PUBLISH that goes out on a line, as one of these deeds: it is that of a copy for the session that is connected there. The copy is in
-- flight in that session's queue; or it has QoS 0, and was called for in these deeds
pub record WasAskedFor (ms : List Moment) (n : ℕ) (p : Publish) (b : Broker) : Type 0 where
  pub birth : ℕ
  pub line : IsOnLine n birth b
  pub copy : MessageCopy
  pub dup : Bool
  pub id : ℕ
  pub is : packets.Publish p ≡ publish_of b.now dup id copy
  pub asked : IsInFlight birth copy id b ⊎ ((copy.qos ≡ AtMostOnce) × WasCalledFor ms birth copy)

-- ---- what a client asks for

-- a subscription that is granted is one of its client's SUBSCRIBE, with that filter, those options and that identifier (3.8)
pub record IsRequested (call : Option Call) (who : Whose) (x : Subscription) (b : Broker) : Type 0 where
  pub number : ℕ
  pub packet : Asking
  pub read : call ≡ Some (Input number (packets.Subscribe packet))
  pub line : IsOnLine number who.birth b
  pub wish : Wished
  pub asked : IsAmong wish packet.subscriptions
  pub filter : wish.filter ≡ x.filter
  pub options : options_of wish.options ≡ Some x.options
  pub identifier : number_at SubscriptionIdentifier packet.properties ≡ x.identifier

-- ---- a step

-- of each deed: a PUBLISH that goes out was asked for; a copy that enters a queue was called for by that queue's session; and a
-- subscription was requested
abbrev pub IsTraced : Option Call → List Moment → Deed → Broker → Type 0
IsTraced call ms (Send n (packets.Publish p)) b = WasAskedFor ms n p b
IsTraced call ms (At who (Enter copy)) b = WasCalledFor ms who.birth copy
IsTraced call ms (At who (Subscribe x)) b = IsRequested call who x b
IsTraced call ms d b = ⊤

-- so it is with each of these moments, traced to those
abbrev pub AreTraced : Option Call → List Moment → List Moment → Type 0
AreTraced call ms xs = AllByRecursion (λ (m : Moment). IsTraced call ms m.deed m.broker) xs

-- the deeds of a step, each on the state on which it comes
abbrev pub moments_in : Asked → List Moment
moments_in x = moments_of x.step.env x.step.deeds x.step.broker

-- all that a step sends, lets enter and grants was asked for
abbrev pub SendsNothingUnasked : Asked → Type 0
SendsNothingUnasked x = AreTraced x.call (moments_in x) (moments_in x)

-- a call of a broker, as a step
abbrev pub call_step : Capacity → MemberChoice → ℕ → Call → Broker → Asked
call_step limits choice now call b = record {
  call = Some call;
  step = record {
    env = env_of limits choice b;
    deeds = deeds limits choice now call b;
    broker = at_moment now b;
  };
}

-- and an opening
abbrev pub open_step : Capacity → MemberChoice → ℕ → Records → Asked
open_step limits choice now r = let b = unopened now r in record {
  call = None;
  step = record {
    env = env_of limits choice b;
    deeds = opening_deeds limits choice now r;
    broker = b;
  };
}
