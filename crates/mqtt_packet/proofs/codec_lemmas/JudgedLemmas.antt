-- A packet that is judged by its kind's laws is judged by the laws of packets.
use Rattle.std.proofs.Common.{◌≡◌, ℕ, Bool, true, false, cond, List, Result, Ok, Err, refl, sym, ap, ◌∙◌}
use Rattle.mqtt_base.specs.declared.kind.Kind.TheVariants as kinds
use Rattle.mqtt_base.specs.Reading.{◌>>=◌}
use Rattle.mqtt_props.specs.declared.place.Place.TheVariants as places
use Rattle.mqtt_packet.specs.declared.parts.fault.Fault.{Fault}
use Rattle.mqtt_packet.specs.declared.parts.fault.Fault.TheVariants.{Protocol}
use Rattle.mqtt_packet.specs.parts.Reading.{malformed}
use Rattle.mqtt_packet.specs.connect.Connect.{connect_at}
use Rattle.mqtt_packet.specs.subscribe.Subscribe.{subscribe_at}
use Rattle.mqtt_packet.specs.subscribe.Unsubscribe.{unsubscribe_at}
use Rattle.mqtt_packet.specs.declared.codec.head.Head.{Head}
use Rattle.mqtt_packet.specs.declared.codec.head.Head.TheVariants as heads
use Rattle.mqtt_packet.specs.declared.codec.packet.Packet.{Packet}
use Rattle.mqtt_packet.specs.declared.codec.packet.Packet.TheVariants.{Connect, Connack, Publish, Puback, Pubrec, Pubrel, Pubcomp, Subscribe, Suback, Unsubscribe, Unsuback, Pingreq, Pingresp, Disconnect, Auth}
use Rattle.mqtt_packet.specs.codec.Ack.{ack_at}
use Rattle.mqtt_packet.specs.codec.Connack.{connack_at}
use Rattle.mqtt_packet.specs.codec.Notice.{disconnect_at, auth_at}
use Rattle.mqtt_packet.specs.codec.Publish.{publish_at}
use Rattle.mqtt_packet.specs.codec.Suback.{suback_at}
use Rattle.mqtt_packet.specs.codec.Packets.{is_lawful}
use Rattle.mqtt_packet.specs.codec.Frames.{made_by, empty_at, body_at, version_at, judged, judged_at, lawful_at}

by_law : {A : Type 0} (make : A → Packet) (x : A) (b : Bool) → made_by make (cond b (Ok x) (Err Protocol)) ≡ cond b (Ok (make x)) (Err Protocol)
by_law {A} make x true = refl
by_law {A} make x false = refl

judged_made : {A : Type 0} (make : A → Packet) (read : Result A Fault) → made_by make (judged (λ x. is_lawful (make x)) read) ≡ judged is_lawful (made_by make read)
judged_made {A} make (Err f) = refl
judged_made {A} make (Ok x) = by_law make x (is_lawful (make x))

-- a packet without parts keeps the laws
ping_is : (p : Packet) (read : Result (Unit {0}) Fault) → is_lawful p ≡ true → made_by (λ u. p) (malformed read) ≡ judged is_lawful (made_by (λ u. p) read)
ping_is p (Ok u) e = rw e refl
ping_is p (Err f) e = refl

judged_is : (h : Head) (body : List ℕ) → judged_at h body ≡ judged is_lawful (body_at h body)
unfolding judged_at body_at
judged_is heads.Connect body = judged_made Connect (connect_at body)
judged_is heads.Connack body = judged_made Connack (connack_at body)
judged_is (heads.Publish dup q retain) body = judged_made Publish (publish_at dup q retain body)
judged_is heads.Puback body = judged_made Puback (ack_at kinds.Puback places.Puback body)
judged_is heads.Pubrec body = judged_made Pubrec (ack_at kinds.Pubrec places.Pubrec body)
judged_is heads.Pubrel body = judged_made Pubrel (ack_at kinds.Pubrel places.Pubrel body)
judged_is heads.Pubcomp body = judged_made Pubcomp (ack_at kinds.Pubcomp places.Pubcomp body)
judged_is heads.Subscribe body = judged_made Subscribe (subscribe_at body)
judged_is heads.Suback body = judged_made Suback (suback_at kinds.Suback places.Suback body)
judged_is heads.Unsubscribe body = judged_made Unsubscribe (unsubscribe_at body)
judged_is heads.Unsuback body = judged_made Unsuback (suback_at kinds.Unsuback places.Unsuback body)
judged_is heads.Pingreq body = ping_is Pingreq (empty_at body) refl
judged_is heads.Pingresp body = ping_is Pingresp (empty_at body) refl
judged_is heads.Disconnect body = judged_made Disconnect (disconnect_at body)
judged_is heads.Auth body = judged_made Auth (auth_at body)

-- if the version is no other
pub lawful_is : (h : Head) (body : List ℕ) (u : Unit {0}) → version_at h body ≡ Ok u → judged_at h body ≡ lawful_at h body
unfolding lawful_at
lawful_is h body u e = judged_is h body ∙ sym (ap (λ (said : Result (Unit {0}) Fault). said >>= λ v. judged is_lawful (body_at h body)) e)
