-- A body that is read is a body of its packet, and each body of a packet is read again.
use Rattle.std.proofs.Common.{◌≡◌, ℕ, false, List, [], ◌∷◌, Result, Ok, Err, refl, ap, subst}
use Rattle.mqtt_base.specs.declared.kind.Kind.TheVariants as kinds
use Rattle.mqtt_base.specs.declared.session.Qos.TheVariants as qos
use Rattle.mqtt_base.proofs.Steps.{IsBytes, ok_is}
use Rattle.mqtt_props.specs.declared.place.Place.TheVariants as places
use Rattle.mqtt_packet.specs.declared.parts.fault.Fault.{Fault}
use Rattle.mqtt_packet.specs.declared.codec.head.Head.{Head}
use Rattle.mqtt_packet.specs.declared.codec.head.Head.TheVariants as heads
use Rattle.mqtt_packet.specs.declared.codec.packet.Packet.{Packet}
use Rattle.mqtt_packet.specs.declared.codec.packet.Packet.TheVariants.{Connect, Connack, Publish, Puback, Pubrec, Pubrel, Pubcomp, Subscribe, Suback, Unsubscribe, Unsuback, Pingreq, Pingresp, Disconnect, Auth}
use Rattle.mqtt_packet.specs.declared.codec.publish.Delivery.{Delivery}
use Rattle.mqtt_packet.specs.declared.codec.publish.Delivery.TheVariants.{AtMostOnce, AtLeastOnce, ExactlyOnce}
use Rattle.mqtt_packet.specs.declared.codec.publish.Publish.{Publish as Published_packet}
use Rattle.mqtt_packet.specs.connect.Connect.{connect_at}
use Rattle.mqtt_packet.specs.codec.Connack.{connack_at}
use Rattle.mqtt_packet.specs.codec.Publish.{delivery_head, FitsPublish, publish_body, publish_at}
use Rattle.mqtt_packet.specs.codec.Ack.{ack_at}
use Rattle.mqtt_packet.specs.subscribe.Subscribe.{subscribe_at}
use Rattle.mqtt_packet.specs.codec.Suback.{suback_at}
use Rattle.mqtt_packet.specs.subscribe.Unsubscribe.{unsubscribe_at}
use Rattle.mqtt_packet.specs.codec.Notice.{disconnect_at, auth_at}
use Rattle.mqtt_packet.specs.codec.Packets.{head, Fits, IsBody}
use Rattle.mqtt_packet.specs.codec.Frames.{made_by, empty_at, body_at}
use Rattle.mqtt_packet.proofs.codec_lemmas.HeadLemmas.{IsHead}
use Rattle.mqtt_packet.proofs.connect_lemmas.ConnectLemmas.{connect_reads}
use Rattle.mqtt_packet.proofs.codec_lemmas.ConnackLemmas.{connack_reads}
use Rattle.mqtt_packet.proofs.codec_lemmas.PublishLemmas.{publish_takes, publish_again}
use Rattle.mqtt_packet.proofs.codec_lemmas.AckLemmas.{ack_reads}
use Rattle.mqtt_packet.proofs.subscribe_lemmas.SubscribeLemmas.{subscribe_reads}
use Rattle.mqtt_packet.proofs.codec_lemmas.SubackLemmas.{suback_reads}
use Rattle.mqtt_packet.proofs.subscribe_lemmas.UnsubscribeLemmas.{unsubscribe_reads}
use Rattle.mqtt_packet.proofs.codec_lemmas.NoticeLemmas.{disconnect_reads, auth_reads}

-- what a body of a packet gives, if its first byte says so
pub record Bodies (h : Head) (body : List ℕ) (p : Packet) : Type 0 where
  pub fits : Fits p
  pub is : IsBody p body
  pub head : IsHead h → head p ≡ h

made_ok : {A : Type 0} (make : A → Packet) (r : Result A Fault) (p : Packet) → made_by make r ≡ Ok p → (x : A) × (r ≡ Ok x) × (make x ≡ p)
made_ok {A} make (Ok x) p e = (x, refl, ok_is (make x) p e)
made_ok {A} make (Err f) p e = absurd cc

empty_ok : (body : List ℕ) (u : Unit {0}) → empty_at body ≡ Ok u → body ≡ []
unfolding empty_at
empty_ok [] u e = refl
empty_ok (b ∷ body) u e = absurd cc

-- a body that was read is one of its packet
pub body_takes : (h : Head) (body : List ℕ) (p : Packet) → IsBytes body → body_at h body ≡ Ok p → Bodies h body p
unfolding body_at
body_takes heads.Connect body p fits e =
    let m = made_ok Connect (connect_at body) p e in
    let t = connect_reads.takes body m.0 fits m.1 in
    subst (λ (y : Packet). Bodies heads.Connect body y) m.2 (record { fits = t.0; is = t.1; head = λ h. refl })
body_takes heads.Connack body p fits e =
    let m = made_ok Connack (connack_at body) p e in
    let t = connack_reads.takes body m.0 fits m.1 in
    subst (λ (y : Packet). Bodies heads.Connack body y) m.2 (record { fits = t.0; is = t.1; head = λ h. refl })
body_takes (heads.Publish dup q retain) body p fits e =
    let m = made_ok Publish (publish_at dup q retain body) p e in
    let t = publish_takes dup q retain body m.0 fits m.1 in
    subst (λ (y : Packet). Bodies (heads.Publish dup q retain) body y) m.2 (record { fits = t.fits; is = t.is; head = t.head })
body_takes heads.Puback body p fits e =
    let m = made_ok Puback (ack_at kinds.Puback places.Puback body) p e in
    let r = ack_reads kinds.Puback places.Puback in
    let t = r.takes body m.0 fits m.1 in
    subst (λ (y : Packet). Bodies heads.Puback body y) m.2 (record { fits = t.0; is = t.1; head = λ h. refl })
body_takes heads.Pubrec body p fits e =
    let m = made_ok Pubrec (ack_at kinds.Pubrec places.Pubrec body) p e in
    let r = ack_reads kinds.Pubrec places.Pubrec in
    let t = r.takes body m.0 fits m.1 in
    subst (λ (y : Packet). Bodies heads.Pubrec body y) m.2 (record { fits = t.0; is = t.1; head = λ h. refl })
body_takes heads.Pubrel body p fits e =
    let m = made_ok Pubrel (ack_at kinds.Pubrel places.Pubrel body) p e in
    let r = ack_reads kinds.Pubrel places.Pubrel in
    let t = r.takes body m.0 fits m.1 in
    subst (λ (y : Packet). Bodies heads.Pubrel body y) m.2 (record { fits = t.0; is = t.1; head = λ h. refl })
body_takes heads.Pubcomp body p fits e =
    let m = made_ok Pubcomp (ack_at kinds.Pubcomp places.Pubcomp body) p e in
    let r = ack_reads kinds.Pubcomp places.Pubcomp in
    let t = r.takes body m.0 fits m.1 in
    subst (λ (y : Packet). Bodies heads.Pubcomp body y) m.2 (record { fits = t.0; is = t.1; head = λ h. refl })
body_takes heads.Subscribe body p fits e =
    let m = made_ok Subscribe (subscribe_at body) p e in
    let t = subscribe_reads.takes body m.0 fits m.1 in
    subst (λ (y : Packet). Bodies heads.Subscribe body y) m.2 (record { fits = t.0; is = t.1; head = λ h. refl })
body_takes heads.Suback body p fits e =
    let m = made_ok Suback (suback_at kinds.Suback places.Suback body) p e in
    let r = suback_reads kinds.Suback places.Suback in
    let t = r.takes body m.0 fits m.1 in
    subst (λ (y : Packet). Bodies heads.Suback body y) m.2 (record { fits = t.0; is = t.1; head = λ h. refl })
body_takes heads.Unsubscribe body p fits e =
    let m = made_ok Unsubscribe (unsubscribe_at body) p e in
    let t = unsubscribe_reads.takes body m.0 fits m.1 in
    subst (λ (y : Packet). Bodies heads.Unsubscribe body y) m.2 (record { fits = t.0; is = t.1; head = λ h. refl })
body_takes heads.Unsuback body p fits e =
    let m = made_ok Unsuback (suback_at kinds.Unsuback places.Unsuback body) p e in
    let r = suback_reads kinds.Unsuback places.Unsuback in
    let t = r.takes body m.0 fits m.1 in
    subst (λ (y : Packet). Bodies heads.Unsuback body y) m.2 (record { fits = t.0; is = t.1; head = λ h. refl })
body_takes heads.Pingreq body p fits e =
    let m = made_ok (λ (u : Unit {0}). Pingreq) (empty_at body) p e in
    subst (λ (y : Packet). Bodies heads.Pingreq body y) m.2 (record { fits = tt; is = empty_ok body m.0 m.1; head = λ h. refl })
body_takes heads.Pingresp body p fits e =
    let m = made_ok (λ (u : Unit {0}). Pingresp) (empty_at body) p e in
    subst (λ (y : Packet). Bodies heads.Pingresp body y) m.2 (record { fits = tt; is = empty_ok body m.0 m.1; head = λ h. refl })
body_takes heads.Disconnect body p fits e =
    let m = made_ok Disconnect (disconnect_at body) p e in
    let t = disconnect_reads.takes body m.0 fits m.1 in
    subst (λ (y : Packet). Bodies heads.Disconnect body y) m.2 (record { fits = t.0; is = t.1; head = λ h. refl })
body_takes heads.Auth body p fits e =
    let m = made_ok Auth (auth_at body) p e in
    let t = auth_reads.takes body m.0 fits m.1 in
    subst (λ (y : Packet). Bodies heads.Auth body y) m.2 (record { fits = t.0; is = t.1; head = λ h. refl })

-- ---- again

published_again : (p : Published_packet) (body : List ℕ) (d : Delivery) → p.delivery ≡ d → FitsPublish p → body ≡ publish_body p → body_at (delivery_head d p.retain) body ≡ Ok (Publish p)
unfolding body_at
published_again p body AtMostOnce e fits is = ap (made_by Publish) (publish_again false qos.AtMostOnce p body fits is (ap (λ (d : Delivery). delivery_head d p.retain) e))
published_again p body (AtLeastOnce dup id) e fits is = ap (made_by Publish) (publish_again dup qos.AtLeastOnce p body fits is (ap (λ (d : Delivery). delivery_head d p.retain) e))
published_again p body (ExactlyOnce dup id) e fits is = ap (made_by Publish) (publish_again dup qos.ExactlyOnce p body fits is (ap (λ (d : Delivery). delivery_head d p.retain) e))

empty_again : (body : List ℕ) → body ≡ [] → empty_at body ≡ Ok tt
unfolding empty_at
empty_again body e = rw e refl

-- a body that was written is read back
pub body_again : (p : Packet) (body : List ℕ) → Fits p → IsBody p body → body_at (head p) body ≡ Ok p
unfolding body_at
body_again (Connect c) body fits is = ap (made_by Connect) (connect_reads.again c body fits is)
body_again (Connack c) body fits is = ap (made_by Connack) (connack_reads.again c body fits is)
body_again (Publish p) body fits is = published_again p body p.delivery refl fits is
body_again (Puback a) body fits is = let r = ack_reads kinds.Puback places.Puback in ap (made_by Puback) (r.again a body fits is)
body_again (Pubrec a) body fits is = let r = ack_reads kinds.Pubrec places.Pubrec in ap (made_by Pubrec) (r.again a body fits is)
body_again (Pubrel a) body fits is = let r = ack_reads kinds.Pubrel places.Pubrel in ap (made_by Pubrel) (r.again a body fits is)
body_again (Pubcomp a) body fits is = let r = ack_reads kinds.Pubcomp places.Pubcomp in ap (made_by Pubcomp) (r.again a body fits is)
body_again (Subscribe s) body fits is = ap (made_by Subscribe) (subscribe_reads.again s body fits is)
body_again (Suback s) body fits is = let r = suback_reads kinds.Suback places.Suback in ap (made_by Suback) (r.again s body fits is)
body_again (Unsubscribe u) body fits is = ap (made_by Unsubscribe) (unsubscribe_reads.again u body fits is)
body_again (Unsuback u) body fits is = let r = suback_reads kinds.Unsuback places.Unsuback in ap (made_by Unsuback) (r.again u body fits is)
body_again Pingreq body fits is = ap (made_by (λ (u : Unit {0}). Pingreq)) (empty_again body is)
body_again Pingresp body fits is = ap (made_by (λ (u : Unit {0}). Pingresp)) (empty_again body is)
body_again (Disconnect n) body fits is = ap (made_by Disconnect) (disconnect_reads.again n body fits is)
body_again (Auth n) body fits is = ap (made_by Auth) (auth_reads.again n body fits is)
