-- Over a run: a copy that waited before its PUBLISH went out was called for as it entered its queue (MQTT 5.0, 3.3.4, 4.3).
use Rattle.std.specs.Prelude.{◌≡◌, ◌⊎◌, ℕ, ⊤, Bool, List, [], ◌∷◌, ◌++◌, flat_map, map}
use Rattle.std.specs.List.{AllByRecursion}
use Rattle.mqtt_base.specs.declared.session.Qos.TheVariants.{AtMostOnce}
use Rattle.mqtt_packet.specs.declared.codec.packet.Packet.TheVariants as packets
use Rattle.mqtt_packet.specs.declared.codec.publish.Publish.{Publish}
use Rattle.mqtt_records.specs.declared.messages.message.MessageCopy.{MessageCopy}
use Rattle.mqtt_records.specs.declared.state.session.Session.{Session}
use Rattle.mqtt_records.specs.messages.Queue.{CopyRow}
use Rattle.mqtt_rules.specs.declared.step.Capacity.{Capacity}
use Rattle.mqtt_rules.specs.step.Deeds.{At, Deed, Enter, Send, Whose}
use Rattle.mqtt_rules.specs.step.Laws.{IsAmong}
use Rattle.mqtt_rules.specs.step.Packets.{publish_of}
use Rattle.mqtt_rules.specs.step.State.{Broker}
use Rattle.mqtt_world_model.specs.model.Run.{Turn}
use Rattle.mqtt_world_model.specs.model.World.{World}
use Rattle.mqtt_world_laws.specs.acceptance.Entries.{Moment}
use Rattle.mqtt_world_laws.specs.causes.Endings.{Asked, asked_over}
use Rattle.mqtt_world_laws.specs.unasked.Asking.{WasCalledFor}
use Rattle.mqtt_world_laws.specs.unasked.Unasked.{IsInFlight, IsOnLine, SendsNothingUnasked, moments_in}

-- in one of these steps the copy entered the queue of the session of this birth, and that session called for it in that step
pub record HasEntered (xs : List Asked) (birth : ℕ) (copy : MessageCopy) : Type 0 where
  pub step : Asked
  pub among : IsAmong step xs
  pub moment : Moment
  pub done : IsAmong moment (moments_in step)
  pub who : Whose
  pub its : who.birth ≡ birth
  pub enters : moment.deed ≡ At who (Enter copy)
  pub called : WasCalledFor (moments_in step) birth copy

-- the copies that stand in queues, each with the birth of its session
abbrev pub queued_with : Session → List (ℕ × MessageCopy)
queued_with s = map (λ (e : CopyRow). (s.birth, e.copy)) s.queue

-- in all queues
abbrev pub queued_at : Broker → List (ℕ × MessageCopy)
queued_at b = flat_map queued_with b.records.sessions

-- A PUBLISH that goes out on a line, in the last of these steps: it is that of a copy for the session that is connected there. The copy
-- is in flight in that session's queue, and entered it as one that was called for, or stood there at the beginning; or it has QoS 0, and
-- was called for in the same step
pub record WasAskedOver (old : List (ℕ × MessageCopy)) (xs : List Asked) (ms : List Moment) (n : ℕ) (p : Publish) (b : Broker) : Type 0 where
  pub birth : ℕ
  pub line : IsOnLine n birth b
  pub copy : MessageCopy
  pub dup : Bool
  pub id : ℕ
  pub is : packets.Publish p ≡ publish_of b.now dup id copy
  pub asked : (IsInFlight birth copy id b × (HasEntered xs birth copy ⊎ IsAmong (birth, copy) old))
      ⊎ ((copy.qos ≡ AtMostOnce) × WasCalledFor ms birth copy)

-- so of each deed
abbrev pub IsAskedOver : List (ℕ × MessageCopy) → List Asked → List Moment → Deed → Broker → Type 0
IsAskedOver old xs ms (Send n (packets.Publish p)) b = WasAskedOver old xs ms n p b
IsAskedOver old xs ms d b = ⊤

-- and of each of these moments
abbrev pub AreAskedOver : List (ℕ × MessageCopy) → List Asked → List Moment → List Moment → Type 0
AreAskedOver old xs ms ks = AllByRecursion (λ (m : Moment). IsAskedOver old xs ms m.deed m.broker) ks

-- so it is in each of these steps, with those before it
abbrev pub AllAskedOver : List (ℕ × MessageCopy) → List Asked → List Asked → Type 0
AllAskedOver old before [] = ⊤
AllAskedOver old before (x ∷ xs) =
    (SendsNothingUnasked x × AreAskedOver old (before ++ x ∷ []) (moments_in x) (moments_in x))
    × AllAskedOver old (before ++ x ∷ []) xs

-- nobody is sent what he did not ask for, in a run; these copies waited at its beginning
abbrev pub NobodyIsSentUnasked : List (ℕ × MessageCopy) → Capacity → List Turn → World → Type 0
NobodyIsSentUnasked old limits ts w = AllAskedOver old [] (asked_over limits ts w)
