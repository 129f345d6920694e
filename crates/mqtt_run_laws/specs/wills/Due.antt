-- Which Will is stored, and when it is published: at its delay, or when its session ends, whichever is first (MQTT 5.0, 3.1.2.5, 3.1.3.2.2).
use Rattle.std.specs.Prelude.{◌≡◌, ◌≢◌, ◌⊎◌, ◌≤◌, ◌*◌, ⊤, ℕ, Bool, true, false, [], Option, Some}
use Rattle.std.specs.List.{AllByRecursion}
use Rattle.mqtt_packet.specs.declared.codec.packet.Packet.TheVariants.{Connect}
use Rattle.mqtt_packet.specs.declared.connect.connect.Connect.{Connect as Greeting}
use Rattle.mqtt_records.specs.declared.messages.message.Will.{Will}
use Rattle.mqtt_records.specs.declared.state.session.Session.{Session}
use Rattle.mqtt_rules.specs.step.Closing.{close_session, has_due_will, never, will_message}
use Rattle.mqtt_rules.specs.step.Connect.{will_of}
use Rattle.mqtt_rules.specs.step.Deeds.{Accept, At, Begin, Deed, FromWill, Message, Resume, after_all}
use Rattle.mqtt_rules.specs.step.State.{Broker, Env, later, session_at}
use Rattle.mqtt_rules.specs.step.Step.{Call, Input, Tick, deeds_of}
use Rattle.mqtt_world_laws.specs.acceptance.Entries.{Moment}
use Rattle.mqtt_world_laws.specs.causes.Endings.{Asked}
use Rattle.mqtt_world_laws.specs.unasked.Unasked.{moments_in}

-- ---- not earlier

-- since the session closed its Will Delay Interval has passed, or its Session Expiry Interval (in seconds, moments in milliseconds)
abbrev pub HasPassed : Session → Will → ℕ → Type 0
HasPassed s will now = (closed : ℕ) × (s.closed ≡ Some closed)
    × ((later closed (1000 * will.delay) ≤ now) ⊎ ((s.expiry ≢ never) × (later closed (1000 * s.expiry) ≤ now)))

-- its client's CONNECT with Clean Start is read, which ends the session (3.1.2.4)
pub record EndsByCleanStart (call : Option Call) (s : Session) : Type 0 where
  pub number : ℕ
  pub packet : Greeting
  pub read : call ≡ Some (Input number (Connect packet))
  pub clean : packet.clean_start ≡ true
  pub client : packet.client_identifier ≡ s.client

-- the message is that of a Will that stands, and the Will is due
pub record IsDueWill (call : Option Call) (m : Message) (b : Broker) : Type 0 where
  pub session : Session
  pub stands : session_at session.birth b.records ≡ Some session
  pub will : Will
  pub its : session.will ≡ Some will
  pub message : m ≡ will_message session.client will
  pub due : HasPassed session will b.now ⊎ EndsByCleanStart call session

-- ---- which

-- a CONNECT is read, and asks for this Will, or for none
pub record IsWillOfConnect (call : Option Call) (will : Option Will) : Type 0 where
  pub number : ℕ
  pub packet : Greeting
  pub read : call ≡ Some (Input number (Connect packet))
  pub is : will ≡ will_of packet

-- what is published as a Will is one that is due, and a session that begins or is resumed has the Will that its CONNECT asks for
abbrev pub HasItsGround : Option Call → Deed → Broker → Type 0
HasItsGround call (Accept number FromWill m) b = IsDueWill call m b
HasItsGround call (Begin row will) b = IsWillOfConnect call will
HasItsGround call (At who (Resume expiry will)) b = IsWillOfConnect call will
HasItsGround call d b = ⊤

-- so it is with each deed of a step
abbrev pub EachHasItsGround : Asked → Type 0
EachHasItsGround x = AllByRecursion (λ (m : Moment). HasItsGround x.call m.deed m.broker) (moments_in x)

-- ---- not later

-- where a turn of the clock finds nothing to do no Will is due
abbrev pub LeavesNoDueWill : Env → Broker → Type 0
LeavesNoDueWill env b = deeds_of env Tick b ≡ [] → AllByRecursion (λ (s : Session). has_due_will b.now s ≡ false) b.records.sessions

-- as a session closes with its line, and keeps its Will or not: behind that no Will of it is due
abbrev pub LeavesNoneAtClose : Env → Bool → Session → Broker → Type 0
LeavesNoneAtClose env keeps_will s b = (t : Session) →
    session_at s.birth (after_all (close_session env keeps_will s b) b).records ≡ Some t → has_due_will b.now t ≡ false
