-- No more goes out at once than there are copies: for each copy of QoS 0 one PUBLISH at most (MQTT 5.0, 3.3.1.3, 3.3.4, 4.3.1, 4.8.2).
use Rattle.std.specs.Prelude.{◌≡◌, ℕ, false, cond, List, [], ◌∷◌, filter_map, flat_map, Option, Some, None}
use Rattle.mqtt_packet.specs.declared.codec.packet.Packet.{Packet}
use Rattle.mqtt_packet.specs.declared.codec.packet.Packet.TheVariants as packets
use Rattle.mqtt_records.specs.declared.state.session.Session.{Session}
use Rattle.mqtt_records.specs.declared.state.subscription.Subscription.{Subscription}
use Rattle.mqtt_rules.specs.step.Deeds.{Accept, At, Deed, Send, Subscribe}
use Rattle.mqtt_rules.specs.step.Packets.{publish_of}
use Rattle.mqtt_rules.specs.step.Routing.{CopyTo, accepted_copies, is_queued}
use Rattle.mqtt_rules.specs.step.State.{Broker, Env, session_at}
use Rattle.mqtt_rules.specs.step.Step.{Pump}
use Rattle.mqtt_rules.specs.step.Subscribe.{brought}
use Rattle.mqtt_world_laws.specs.acceptance.AtOnce.{IsPart}
use Rattle.mqtt_world_laws.specs.acceptance.Entries.{Moment, wish_in}
use Rattle.mqtt_world_laws.specs.causes.Endings.{Asked}
use Rattle.mqtt_world_laws.specs.unasked.Unasked.{moments_in}

-- the PUBLISH that a deed sends, if it does
abbrev pub publish_in : Deed → Option Packet
publish_in (Send n (packets.Publish p)) = Some (packets.Publish p)
publish_in d = None

-- that of a copy of QoS 0, at a moment; a copy of QoS 1 or 2 waits
abbrev pub light_of : ℕ → CopyTo → List Packet
light_of now d = cond (is_queued d) [] (publish_of now false 0 d.copy ∷ [])

-- those of the copies of a publication
abbrev pub light_if : ℕ → Option (List CopyTo) → List Packet
light_if now None = []
light_if now (Some ds) = flat_map (light_of now) ds

-- those of the retained messages that a subscription brings, by the number that it was just granted
abbrev pub light_for : Broker → Subscription → Option Session → List Packet
light_for b x None = []
light_for b x (Some s) = flat_map (light_of b.now) (brought b.now b.records.subscribes s (wish_in x) b.records.retained)

-- for a publication that is accepted, those of the copies of its routing; for a subscription that is granted, those of the retained
-- messages that it brings
abbrev pub light_by : Env → Deed → Broker → List Packet
light_by env (Accept number origin m) b = light_if b.now (accepted_copies env m b)
light_by env (At who (Subscribe x)) b = light_for b x (session_at who.birth b.records)
light_by env d b = []

-- by the deed of a moment
abbrev pub light_at : Moment → List Packet
light_at m = light_by m.env m.deed m.broker

-- In a step that is no turn of sending, the PUBLISHes that go out are part of these, in their order: no more go out than there are copies
pub record SendsEachOnce (x : Asked) : Type 0 where
  pub once : ((n : ℕ) → x.call ≡ Some (Pump n) → ⊥) → IsPart (filter_map publish_in x.step.deeds) (flat_map light_at (moments_in x))
