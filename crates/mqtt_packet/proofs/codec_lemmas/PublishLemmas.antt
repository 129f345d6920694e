-- A body of PUBLISH that is read was spelled so, and what is spelled is read.
use Rattle.std.proofs.Common.{◌≡◌, ℕ, ◌^◌, Bool, List, ◌++◌, Ok, refl, ap, subst, ◌∙◌}
use Rattle.std.specs.Int.{w16}
use Rattle.mqtt_base.specs.declared.session.Qos.{Qos}
use Rattle.mqtt_base.specs.declared.session.Qos.TheVariants as qos
use Rattle.mqtt_base.specs.Values.{blob}
use Rattle.mqtt_base.specs.Reading.{◌>>=◌, number_at, text_at}
use Rattle.mqtt_base.proofs.Steps.{IsBytes, bind_ok, ok_is, Takes}
use Rattle.mqtt_base.proofs.Fields.{wide16, number_takes, number_again, text_takes, text_again}
use Rattle.mqtt_props.specs.declared.place.Place.TheVariants as places
use Rattle.mqtt_props.specs.Properties.{block}
use Rattle.mqtt_props.specs.Laws.{layout_at}
use Rattle.mqtt_props.proofs.Blocks.{layout_takes, layout_again}
use Rattle.mqtt_packet.specs.declared.codec.head.Head.TheVariants as heads
use Rattle.mqtt_packet.specs.declared.codec.publish.Delivery.{Delivery}
use Rattle.mqtt_packet.specs.declared.codec.publish.Delivery.TheVariants.{AtMostOnce, AtLeastOnce, ExactlyOnce}
use Rattle.mqtt_packet.specs.declared.codec.publish.Publish.{Publish}
use Rattle.mqtt_packet.specs.parts.Reading.{malformed}
use Rattle.mqtt_packet.specs.codec.Publish.{delivery_head, identifier_field, FitsDelivery, FitsPublish, publish_body, delivery_at, publish_at}
use Rattle.mqtt_packet.proofs.parts_lemmas.Parts.{malformed_ok}
use Rattle.mqtt_packet.proofs.codec_lemmas.HeadLemmas.{IsHead, without_dup}

record Delivers (dup : Bool) (q : Qos) (bytes : List ℕ) (d : Delivery) (rest : List ℕ) : Type 0 where
  takes : Takes bytes (identifier_field d) rest
  fits : FitsDelivery d
  heads : (retain : Bool) → IsHead (heads.Publish dup q retain) → delivery_head d retain ≡ heads.Publish dup q retain

delivery_takes : (dup : Bool) (q : Qos) (bytes : List ℕ) (x : Delivery × List ℕ) → IsBytes bytes → delivery_at dup q bytes ≡ Ok x → Delivers dup q bytes x.0 x.1
unfolding delivery_at
delivery_takes dup qos.AtMostOnce bytes x fits e =
    subst (λ (y : Delivery × List ℕ). Delivers dup qos.AtMostOnce bytes y.0 y.1) (ok_is (AtMostOnce, bytes) x e)
    (record { takes = record { parts = refl; rest_fits = fits }; fits = tt; heads = λ retain h. without_dup dup retain h })
delivery_takes dup qos.AtLeastOnce bytes x fits e =
    let b = bind_ok (number_at w16 bytes) (λ n. Ok (AtLeastOnce dup n.0, n.1)) x e in
    let t = number_takes w16 (2 ^ 16) wide16 bytes b.0 fits b.1 in
    subst (λ (y : Delivery × List ℕ). Delivers dup qos.AtLeastOnce bytes y.0 y.1) (ok_is (AtLeastOnce dup b.0.0, b.0.1) x b.2)
    (record { takes = t.0; fits = t.1; heads = λ retain h. refl })
delivery_takes dup qos.ExactlyOnce bytes x fits e =
    let b = bind_ok (number_at w16 bytes) (λ n. Ok (ExactlyOnce dup n.0, n.1)) x e in
    let t = number_takes w16 (2 ^ 16) wide16 bytes b.0 fits b.1 in
    subst (λ (y : Delivery × List ℕ). Delivers dup qos.ExactlyOnce bytes y.0 y.1) (ok_is (ExactlyOnce dup b.0.0, b.0.1) x b.2)
    (record { takes = t.0; fits = t.1; heads = λ retain h. refl })

-- what a body gives, if its first byte says that it is a PUBLISH
pub record Published (dup : Bool) (q : Qos) (retain : Bool) (body : List ℕ) (p : Publish) : Type 0 where
  pub fits : FitsPublish p
  pub is : body ≡ publish_body p
  pub head : IsHead (heads.Publish dup q retain) → delivery_head p.delivery p.retain ≡ heads.Publish dup q retain

-- a PUBLISH that was read is spelled by its bytes
pub publish_takes : (dup : Bool) (q : Qos) (retain : Bool) (body : List ℕ) (p : Publish) → IsBytes body → publish_at dup q retain body ≡ Ok p → Published dup q retain body p
unfolding publish_at
publish_takes dup q retain body p fits e =
    let a = bind_ok (malformed (text_at body)) (λ topic. malformed (delivery_at dup q topic.1) >>= λ delivery. malformed (layout_at places.Publish delivery.1) >>= λ ps. Ok (record { delivery = delivery.0; retain = retain; topic = topic.0; properties = ps.0; payload = ps.1 })) p e in
    let b = bind_ok (malformed (delivery_at dup q a.0.1)) (λ delivery. malformed (layout_at places.Publish delivery.1) >>= λ ps. Ok (record { delivery = delivery.0; retain = retain; topic = a.0.0; properties = ps.0; payload = ps.1 })) p a.2 in
    let c = bind_ok (malformed (layout_at places.Publish b.0.1)) (λ ps. Ok (record { delivery = b.0.0; retain = retain; topic = a.0.0; properties = ps.0; payload = ps.1 })) p b.2 in
    let t0 = text_takes body a.0 fits (malformed_ok (text_at body) a.0 a.1) in
    let t1 = delivery_takes dup q a.0.1 b.0 t0.0.rest_fits (malformed_ok (delivery_at dup q a.0.1) b.0 b.1) in
    let t2 = layout_takes places.Publish b.0.1 c.0 t1.takes.rest_fits (malformed_ok (layout_at places.Publish b.0.1) c.0 c.1) in
    let made : Publish = record { delivery = b.0.0; retain = retain; topic = a.0.0; properties = c.0.0; payload = c.0.1 } in
    let parts : body ≡ blob a.0.0 ++ (identifier_field b.0.0 ++ (block c.0.0 ++ c.0.1)) = t0.0.parts ∙ ap (λ (w : List ℕ). blob a.0.0 ++ w) (t1.takes.parts ∙ ap (λ (w : List ℕ). identifier_field b.0.0 ++ w) t2.0.parts) in
    subst (λ (y : Publish). Published dup q retain body y) (ok_is made p c.2)
    (record { fits = (t1.fits, (t0.1, t0.2), (t2.1, t2.2)); is = parts; head = λ h. t1.heads retain h })

delivery_again : (dup : Bool) (q : Qos) (d : Delivery) (retain : Bool) (rest : List ℕ) → FitsDelivery d → delivery_head d retain ≡ heads.Publish dup q retain → delivery_at dup q (identifier_field d ++ rest) ≡ Ok (d, rest)
unfolding delivery_at
delivery_again dup qos.AtMostOnce AtMostOnce retain rest fits e = refl
delivery_again dup qos.AtLeastOnce (AtLeastOnce dup2 id) retain rest fits e =
    let same : dup2 ≡ dup = cc e in
    rw (number_again w16 (2 ^ 16) wide16 id rest fits, same) refl
delivery_again dup qos.ExactlyOnce (ExactlyOnce dup2 id) retain rest fits e =
    let same : dup2 ≡ dup = cc e in
    rw (number_again w16 (2 ^ 16) wide16 id rest fits, same) refl
delivery_again dup q d retain rest fits e = absurd cc

-- one that was written is read back
pub publish_again : (dup : Bool) (q : Qos) (p : Publish) (body : List ℕ) → FitsPublish p → body ≡ publish_body p → delivery_head p.delivery p.retain ≡ heads.Publish dup q p.retain → publish_at dup q p.retain body ≡ Ok p
unfolding publish_at
publish_again dup q p body fits is e =
    let after = identifier_field p.delivery ++ (block p.properties ++ p.payload) in
    rw (is, text_again p.topic after fits.1.0 fits.1.1, delivery_again dup q p.delivery p.retain (block p.properties ++ p.payload) fits.0 e, layout_again places.Publish p.properties p.payload fits.2.0 fits.2.1) refl
