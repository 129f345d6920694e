-- A first byte says what its head says, and each head of a packet is one that there is.
use Rattle.std.proofs.Common.{◌≡◌, ℕ, Bool, true, false, eqb, List, [], ◌∷◌, Some, inl, inr, refl, sym, ap, ◌∙◌}
use Rattle.std.proofs.lemmas.Bool.{eqb-true}
use Rattle.mqtt_base.specs.declared.session.Qos.TheVariants as qos
use Rattle.mqtt_base.proofs.Steps.{chosen}
use Rattle.mqtt_packet.specs.declared.codec.head.Head.{Head}
use Rattle.mqtt_packet.specs.declared.codec.head.Head.TheVariants as heads
use Rattle.mqtt_packet.specs.declared.codec.packet.Packet.{Packet}
use Rattle.mqtt_packet.specs.declared.codec.packet.Packet.TheVariants.{Connect, Connack, Publish, Puback, Pubrec, Pubrel, Pubcomp, Subscribe, Suback, Unsubscribe, Unsuback, Pingreq, Pingresp, Disconnect, Auth}
use Rattle.mqtt_packet.specs.declared.codec.publish.Delivery.{Delivery}
use Rattle.mqtt_packet.specs.declared.codec.publish.Delivery.TheVariants.{AtMostOnce, AtLeastOnce, ExactlyOnce}
use Rattle.mqtt_packet.specs.codec.Heads.{first, all_heads, headed, head_of}
use Rattle.mqtt_packet.specs.codec.Publish.{delivery_head}
use Rattle.mqtt_packet.specs.codec.Packets.{head}

headed_is : (b : ℕ) (hs : List Head) (h : Head) → headed b hs ≡ Some h → first h ≡ b
headed_is b [] h e = absurd cc
headed_is b (g ∷ hs) h e =
    elim (chosen (eqb b (first g)) (Some g) (headed b hs) (Some h) e) [
      | inl t ↦
          let same : g ≡ h = cc t.1 in
          ap (λ (k : Head). first k) (sym same) ∙ sym (eqb-true b (first g) t.0)
      | inr t ↦ headed_is b hs h t.1
    ]

-- a first byte that has a meaning is the one of that meaning
pub head_is : (b : ℕ) (h : Head) → head_of b ≡ Some h → first h ≡ b
head_is b h e = headed_is b all_heads h e

-- a head that there is
abbrev pub IsHead : Head → Type 0
IsHead h = head_of (first h) ≡ Some h

-- a delivery has a first byte
pub delivery_is_head : (d : Delivery) (retain : Bool) → IsHead (delivery_head d retain)
delivery_is_head AtMostOnce true = refl
delivery_is_head AtMostOnce false = refl
delivery_is_head (AtLeastOnce true id) true = refl
delivery_is_head (AtLeastOnce true id) false = refl
delivery_is_head (AtLeastOnce false id) true = refl
delivery_is_head (AtLeastOnce false id) false = refl
delivery_is_head (ExactlyOnce true id) true = refl
delivery_is_head (ExactlyOnce true id) false = refl
delivery_is_head (ExactlyOnce false id) true = refl
delivery_is_head (ExactlyOnce false id) false = refl

-- so has each packet
pub is_head : (p : Packet) → IsHead (head p)
is_head (Connect c) = refl
is_head (Connack c) = refl
is_head (Publish p) = delivery_is_head p.delivery p.retain
is_head (Puback a) = refl
is_head (Pubrec a) = refl
is_head (Pubrel a) = refl
is_head (Pubcomp a) = refl
is_head (Subscribe s) = refl
is_head (Suback s) = refl
is_head (Unsubscribe u) = refl
is_head (Unsuback u) = refl
is_head Pingreq = refl
is_head Pingresp = refl
is_head (Disconnect n) = refl
is_head (Auth n) = refl

-- QoS 0 stands without DUP
pub without_dup : (dup retain : Bool) → IsHead (heads.Publish dup qos.AtMostOnce retain) → heads.Publish false qos.AtMostOnce retain ≡ heads.Publish dup qos.AtMostOnce retain
without_dup false retain h = refl
without_dup true true h = absurd cc
without_dup true false h = absurd cc
