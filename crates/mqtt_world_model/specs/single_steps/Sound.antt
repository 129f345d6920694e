-- Ends all of whose packets the broker takes, those under way and those still to come, whatever they read (MQTT 5.0, 1.5.4, 2.2.1,
-- 4.3, 4.4).
use Rattle.std.specs.Prelude.{◌≡◌, ◌≤◌, ◌<◌, ◌⊎◌, ⊤, ℕ, true, false, List, length}
use Rattle.std.specs.List.{AllByRecursion}
use Rattle.mqtt_base.specs.Codes.{success, identifier_not_found}
use Rattle.mqtt_base.specs.Values.{is_text}
use Rattle.mqtt_base.specs.declared.limits.TheConstants.{CLIENT_LIMIT}
use Rattle.mqtt_base.specs.declared.session.Qos.{Qos as Quality}
use Rattle.mqtt_base.specs.declared.session.Qos.TheVariants.{AtMostOnce, AtLeastOnce, ExactlyOnce}
use Rattle.mqtt_packet.specs.declared.codec.publish.Delivery.TheVariants as delivery
use Rattle.mqtt_flow.specs.outbound.Receiver.{connect, puback, pubcomp, pubrec}
use Rattle.mqtt_flow.specs.inbound.Publisher.{Fate, sent_1, ended_1, sent, released, ended, CONNECT, PUBLISH_1, PUBLISH_2, PUBREL}
use Rattle.mqtt_rules.specs.step.Contents.{IsTaken}
use Rattle.mqtt_world_model.specs.model.Ends.{Back, Content, Draft, Publisher, Receiver, Sent, answers, asks_for, plain, publish_with, shake, subscribe_with}
use Rattle.mqtt_world_model.specs.model.Lines.{Line}
use Rattle.mqtt_world_model.specs.model.World.{World, may_take}

-- this holds of each packet under way from the end, on its line and on the one that it gave up
pub record Carries {U : Type 0} (G : U → Type 0) (l : Line U) : Type 0 where
  pub up : AllByRecursion G l.up
  pub old : AllByRecursion G l.old

-- a client identifier is a text, and no longer than one may be
pub record IsName (client : List ℕ) : Type 0 where
  pub text : is_text client ≡ true
  pub short : length client ≤ CLIENT_LIMIT

-- a packet identifier has two bytes, and is not 0 (2.2.1)
abbrev pub IsIdentifier : ℕ → Type 0
IsIdentifier id = (1 ≤ id) × (id < 65536)

-- what a message of QoS 1 or 2 carries
abbrev pub IsCarried : Content → Type 0
IsCarried c = IsTaken (publish_with (delivery.AtLeastOnce false 1) c)

-- ---- a publisher

-- a handshake that is under way has its packet identifier
abbrev pub IsGoodFate : Fate → Type 0
IsGoodFate (sent_1 id) = IsIdentifier id
IsGoodFate (ended_1 by) = ⊤
IsGoodFate (sent id) = IsIdentifier id
IsGoodFate (released id) = IsIdentifier id
IsGoodFate (ended by) = ⊤

-- what it has sent, when so many messages have gone out
abbrev pub IsGoodSent : ℕ → Sent → Type 0
IsGoodSent k (shake (CONNECT clean)) = ⊤
IsGoodSent k (shake (PUBLISH_1 id n dup)) = IsIdentifier id × (n < k)
IsGoodSent k (shake (PUBLISH_2 id n dup)) = IsIdentifier id × (n < k)
IsGoodSent k (shake (PUBREL id)) = IsIdentifier id
IsGoodSent k (plain c) = IsTaken (publish_with delivery.AtMostOnce c)

abbrev pub IsTested : Quality → Content → Type 0
IsTested AtMostOnce c = IsTaken (publish_with delivery.AtMostOnce c)
IsTested AtLeastOnce c = IsCarried c
IsTested ExactlyOnce c = IsCarried c

-- what it has to send
abbrev pub IsGoodDraft : Draft → Type 0
IsGoodDraft d = IsTested d.qos d.content

-- what a publisher has sent and has to send are packets that the broker takes, with identifiers of two bytes
pub record IsSoundPublisher (p : Publisher) : Type 0 where
  pub name : IsName p.client
  pub fates : AllByRecursion IsGoodFate p.fates
  pub contents : AllByRecursion IsCarried p.contents
  pub same : length p.contents ≡ length p.fates
  pub unsent : AllByRecursion IsGoodDraft p.unsent
  pub line : Carries (IsGoodSent (length p.fates)) p.line

-- ---- a receiver

-- its answers tell that all is well, or that the broker's packet identifier isn't known
abbrev pub IsGoodBack : Back → Type 0
IsGoodBack (answers (connect clean)) = ⊤
IsGoodBack (answers (puback i code)) = code ≡ success
IsGoodBack (answers (pubrec i code)) = code ≡ success
IsGoodBack (answers (pubcomp i code)) = (code ≡ success) ⊎ (code ≡ identifier_not_found)
IsGoodBack (asks_for w) = IsTaken (subscribe_with w)

-- what a receiver has sent are packets that the broker takes, if its answers have identifiers
pub record IsSoundReceiver (r : Receiver) : Type 0 where
  pub name : IsName r.client
  pub takes : may_take r.window r.aliases ≡ true
  pub line : Carries IsGoodBack r.line

-- ---- all ends

-- every end has sent, and will send, what the broker takes
pub record AreSound (w : World) : Type 0 where
  pub publishers : AllByRecursion IsSoundPublisher w.publishers
  pub receivers : AllByRecursion IsSoundReceiver w.receivers
