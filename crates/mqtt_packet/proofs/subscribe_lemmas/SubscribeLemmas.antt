-- A body of SUBSCRIBE that is read was spelled so, and what is spelled is read.
use Rattle.std.proofs.Common.{◌≡◌, ℕ, ◌^◌, List, ◌++◌, length, Ok, refl, ap, subst, ◌∙◌}
use Rattle.std.specs.Int.{w16}
use Rattle.std.specs.List.{flat_map}
use Rattle.mqtt_base.specs.Values.{two_bytes}
use Rattle.mqtt_base.specs.Reading.{◌>>=◌, number_at}
use Rattle.mqtt_base.specs.Items.{items_at}
use Rattle.mqtt_base.proofs.Steps.{IsBytes, bind_ok, ok_is}
use Rattle.mqtt_base.proofs.Fields.{wide16, number_takes, number_again}
use Rattle.mqtt_base.proofs.Items.{items_take, items_at_again}
use Rattle.mqtt_props.specs.declared.place.Place.TheVariants as places
use Rattle.mqtt_props.specs.Properties.{block}
use Rattle.mqtt_props.specs.Laws.{layout_at}
use Rattle.mqtt_props.proofs.Blocks.{layout_takes, layout_again}
use Rattle.mqtt_packet.specs.declared.parts.fault.Fault.TheVariants.{Malformed}
use Rattle.mqtt_packet.specs.declared.subscribe.subscribe.Subscribe.{Subscribe}
use Rattle.mqtt_packet.specs.parts.Reading.{malformed}
use Rattle.mqtt_packet.specs.subscribe.Subscriptions.{subscription, IsSubscription, subscription_at}
use Rattle.mqtt_packet.specs.subscribe.Subscribe.{FitsSubscribe, subscribe_body, subscribe_at}
use Rattle.mqtt_packet.proofs.parts_lemmas.Parts.{malformed_ok}
use Rattle.mqtt_packet.proofs.parts_lemmas.Readers.{IsReader}
use Rattle.mqtt_packet.proofs.subscribe_lemmas.SubscriptionLemmas.{subscription_reads}

subscribe_takes : (body : List ℕ) (s : Subscribe) → IsBytes body → subscribe_at body ≡ Ok s → FitsSubscribe s × (body ≡ subscribe_body s)
unfolding subscribe_at items_at
subscribe_takes body s fits e =
    let a = bind_ok (malformed (number_at w16 body)) (λ id. malformed (layout_at places.Subscribe id.1) >>= λ ps. items_at Malformed subscription_at ps.1 >>= λ fs. Ok (record { identifier = id.0; properties = ps.0; subscriptions = fs })) s e in
    let b = bind_ok (malformed (layout_at places.Subscribe a.0.1)) (λ ps. items_at Malformed subscription_at ps.1 >>= λ fs. Ok (record { identifier = a.0.0; properties = ps.0; subscriptions = fs })) s a.2 in
    let c = bind_ok (items_at Malformed subscription_at b.0.1) (λ fs. Ok (record { identifier = a.0.0; properties = b.0.0; subscriptions = fs })) s b.2 in
    let t0 = number_takes w16 (2 ^ 16) wide16 body a.0 fits (malformed_ok (number_at w16 body) a.0 a.1) in
    let t1 = layout_takes places.Subscribe a.0.1 b.0 t0.0.rest_fits (malformed_ok (layout_at places.Subscribe a.0.1) b.0 b.1) in
    let t2 = items_take Malformed subscription_at subscription IsSubscription subscription_reads (length b.0.1) b.0.1 c.0 t1.0.rest_fits c.1 in
    let made : Subscribe = record { identifier = a.0.0; properties = b.0.0; subscriptions = c.0 } in
    let parts : body ≡ two_bytes a.0.0 ++ (block b.0.0 ++ flat_map subscription c.0) = t0.0.parts ∙ ap (λ (w : List ℕ). two_bytes a.0.0 ++ w) (t1.0.parts ∙ ap (λ (w : List ℕ). block b.0.0 ++ w) t2.0) in
    subst (λ (y : Subscribe). FitsSubscribe y × (body ≡ subscribe_body y)) (ok_is made s c.2) ((t0.1, (t1.1, t1.2), t2.1), parts)

subscribe_again : (s : Subscribe) (body : List ℕ) → FitsSubscribe s → body ≡ subscribe_body s → subscribe_at body ≡ Ok s
unfolding subscribe_at
subscribe_again s body fits is =
    rw (
      is,
      number_again w16 (2 ^ 16) wide16 s.identifier (block s.properties ++ flat_map subscription s.subscriptions) fits.0,
      layout_again places.Subscribe s.properties (flat_map subscription s.subscriptions) fits.1.0 fits.1.1,
      items_at_again Malformed subscription_at subscription IsSubscription subscription_reads s.subscriptions fits.2,
    ) refl

-- a SUBSCRIBE is read as it is written
pub subscribe_reads : IsReader subscribe_at FitsSubscribe (λ s body. body ≡ subscribe_body s)
subscribe_reads = record { takes = subscribe_takes; again = subscribe_again }
