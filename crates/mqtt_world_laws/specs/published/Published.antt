-- From publisher to receiver: a message as it was accepted, who had subscribed to it then, and what that client's receiver has of it by
-- the end of the run (MQTT 5.0, 3.3.4, 3.8.4, 4.3, 4.4).
use Rattle.std.specs.Prelude.{◌≡◌, ◌⊎◌, ◌≤◌, ℕ, ⊤, All, true, List, [], ◌∷◌, ◌++◌, Some}
use Rattle.mqtt_base.specs.declared.session.Cause.TheVariants.{Direct}
use Rattle.mqtt_base.specs.declared.session.CopyId.{CopyId}
use Rattle.mqtt_base.specs.declared.session.Ending.{Ending}
use Rattle.mqtt_base.specs.declared.session.Ending.TheVariants.{Taken, Refused, Expired, TooLarge, SessionEnded, Dropped}
use Rattle.mqtt_base.specs.declared.session.Qos.{Qos}
use Rattle.mqtt_flow.specs.inbound.Publisher.{completed, ended, ended_1}
use Rattle.mqtt_records.specs.messages.Queue.{CopyRow}
use Rattle.mqtt_records.specs.declared.state.session.Session.{Session}
use Rattle.mqtt_records.specs.declared.state.subscription.Subscription.{Subscription}
use Rattle.mqtt_routes.specs.routing.Intended.{granted_qos, is_hit}
use Rattle.mqtt_rules.specs.declared.step.Capacity.{Capacity}
use Rattle.mqtt_rules.specs.step.Laws.{IsAmong}
use Rattle.mqtt_rules.specs.step.Routing.{answers, publication_of, routed_subscription}
use Rattle.mqtt_rules.specs.step.State.{Broker, session_at, session_named}
use Rattle.mqtt_world_model.specs.model.Ends.{Content, Entry, Receiver, content_at}
use Rattle.mqtt_world_model.specs.model.Laws.{Carries, WasTaken, count_of, fate_of, handed_count}
use Rattle.mqtt_world_model.specs.model.Run.{Acceptance, Turn, acceptances_over, message_read, run}
use Rattle.mqtt_world_model.specs.model.World.{World, receiver_named}
use Rattle.mqtt_world_laws.specs.acceptance.Copies.{entered_from}
use Rattle.mqtt_world_laws.specs.acceptance.Once.{carriers, times_accepted}
use Rattle.mqtt_world_laws.specs.causes.Causes.{HasCause}
use Rattle.mqtt_world_laws.specs.causes.Endings.{EndAt, ends_over}
use Rattle.mqtt_world_laws.specs.drains.Emptied.{waiting_for}
use Rattle.mqtt_world_laws.specs.unsent.Unsent.{IsUnread}

-- ---- the message, as it was accepted

-- what a publisher's message of this number carries
abbrev pub content_of : List ℕ → ℕ → World → Content
content_of client n w = content_at n (carriers client w)

-- In this turn, with those before and behind it, the broker reads a PUBLISH of the message, and accepts it, with its topic, payload
-- and RETAIN
pub record WasPublished (client : List ℕ) (n : ℕ) (limits : Capacity) (ts : List Turn) (w : World) : Type 0 where
  pub earlier : List Turn
  pub turn : Turn
  pub later : List Turn
  pub are : earlier ++ turn ∷ later ≡ ts
  pub read : message_read client turn.event (run limits earlier w) ≡ Some n
  pub acceptance : Acceptance
  pub accepted : IsAmong acceptance (acceptances_over limits (turn ∷ []) (run limits earlier w))
  pub carries : Carries client (content_of client n (run limits ts w)) acceptance.message

-- ---- who had subscribed

-- A client's session stood as the PUBLISH was read, and had, as it was accepted, a subscription of its own that matches and that No
-- Local doesn't bar; both the message and the subscription have QoS 1 or 2
pub record HadSubscribed (reader : List ℕ) (b : Broker) (a : Acceptance) : Type 0 where
  pub birth : ℕ
  pub before : Session
  pub named : session_named reader b.records ≡ Some before
  pub its_birth : before.birth ≡ birth
  pub session : Session
  pub found : session_at birth a.broker.records ≡ Some session
  pub subscription : Subscription
  pub subscribed : IsAmong subscription session.subscriptions
  pub matches : is_hit (answers a.env a.broker.records) (publication_of a.message) birth (routed_subscription subscription) ≡ true
  pub granted : 1 ≤ granted_qos (publication_of a.message) (routed_subscription subscription)

-- the copy of a publication for a session, by its own subscriptions
abbrev pub direct_copy : Acceptance → ℕ → CopyId
direct_copy a birth = record { publication = a.number; birth = birth; cause = Direct }

-- ---- what has become of the copy

-- what an end says of the receiver: a copy that it took was handed over, of QoS 2 exactly once, of QoS 1 at least once; one that
-- expired or made way never was; of one that ended otherwise nothing is said here
abbrev pub OfEnd : Ending → Qos → CopyId → Receiver → Type 0
OfEnd Taken qos copy r = WasTaken qos copy r
OfEnd Refused qos copy r = ⊤
OfEnd Expired qos copy r = IsUnread r copy
OfEnd TooLarge qos copy r = ⊤
OfEnd SessionEnded qos copy r = ⊤
OfEnd Dropped qos copy r = IsUnread r copy

-- it stands in the queue of the client's session, unsent or in flight
pub record IsWaiting (reader : List ℕ) (copy : CopyId) (b : Broker) : Type 0 where
  pub session : Session
  pub named : session_named reader b.records ≡ Some session
  pub row : CopyRow
  pub among : IsAmong row session.queue
  pub is : row.copy.id ≡ copy

-- it has ended in these turns, as one of the client's, for the cause that its end has, with what that says of the receiver
pub record HasEnded (limits : Capacity) (ts : List Turn) (w : World) (reader : List ℕ) (copy : CopyId) (r : Receiver)
    : Type 0 where
  pub end : EndAt
  pub among : IsAmong end (ends_over limits ts w)
  pub copy_is : end.row.copy.id ≡ copy
  pub client_is : end.who.client ≡ reader
  pub cause : HasCause end
  pub says : OfEnd end.ending end.row.copy.qos copy r

-- what was read of the copy carries what the message does
abbrev pub CarriesMessage : Content → CopyId → Entry → Type 0
CarriesMessage content copy e =
    e.copy ≡ Some copy → (e.body.topic ≡ content.topic) × (e.body.payload ≡ content.payload)

-- The copy entered once. It waits in the queue of the client's session, or it has ended since it was accepted; so it has ended if
-- that queue is empty, as it is after a drain. The receiver was handed it once at most, with the message's topic and payload
pub record IsReceived (limits : Capacity) (since : List Turn) (v : World) (ts : List Turn) (w : World) (content : Content)
    (reader : List ℕ) (copy : CopyId) (r : Receiver) : Type 0 where
  pub enters : count_of copy (entered_from limits ts w) ≡ 1
  pub fate : IsWaiting reader copy (run limits ts w).broker ⊎ HasEnded limits since v reader copy r
  pub emptied : waiting_for reader (run limits ts w) ≡ 0 → HasEnded limits since v reader copy r
  pub once : handed_count copy r ≤ 1
  pub contents : All (CarriesMessage content copy) r.ledger × All (CarriesMessage content copy) r.once

-- so of a message that was published in a run, for each client that had subscribed then and whose receiver was there
abbrev pub ReachesEach : (client : List ℕ) (n : ℕ) (limits : Capacity) (ts : List Turn) (w : World)
    → WasPublished client n limits ts w → Type 0
ReachesEach client n limits ts w p =
    let v = run limits p.earlier w in
    (reader : List ℕ) (q r : Receiver) → receiver_named reader v ≡ Some q → receiver_named reader (run limits ts w) ≡ Some r
    → (s : HadSubscribed reader v.broker p.acceptance)
    → IsReceived limits (p.turn ∷ p.later) v ts w (content_of client n (run limits ts w)) reader
    (direct_copy p.acceptance s.birth) r

-- ---- the law

-- A message of QoS 2 whose handshake is completed was published, exactly once; one of QoS 1 that was acknowledged at least once. And
-- a message that was published reaches each who had subscribed
pub record ArePassedOn (limits : Capacity) (ts : List Turn) (w : World) : Type 0 where
  pub complete : (client : List ℕ) (n : ℕ) → fate_of client n (run limits ts w) ≡ Some (ended completed)
      → (times_accepted client n limits ts w ≡ 1) × WasPublished client n limits ts w
  pub acknowledged : (client : List ℕ) (n : ℕ) → fate_of client n (run limits ts w) ≡ Some (ended_1 completed)
      → WasPublished client n limits ts w
  pub reaches : (client : List ℕ) (n : ℕ) (p : WasPublished client n limits ts w) → ReachesEach client n limits ts w p

-- ---- after a drain

-- of all that was published, the copies for this client have ended: its receiver took each, or it has another cause
abbrev pub HasReceivedAll : List ℕ → Capacity → List Turn → World → Type 0
HasReceivedAll reader limits ts w =
    (client : List ℕ) (n : ℕ) (p : WasPublished client n limits ts w) (q r : Receiver)
    → receiver_named reader (run limits p.earlier w) ≡ Some q → receiver_named reader (run limits ts w) ≡ Some r
    → (s : HadSubscribed reader (run limits p.earlier w).broker p.acceptance)
    → HasEnded limits (p.turn ∷ p.later) (run limits p.earlier w) reader (direct_copy p.acceptance s.birth) r
