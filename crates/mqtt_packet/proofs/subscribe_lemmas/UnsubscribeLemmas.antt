-- A body of UNSUBSCRIBE that is read was spelled so, and what is spelled is read.
use Rattle.std.proofs.Common.{◌≡◌, ℕ, ◌^◌, List, ◌++◌, length, Ok, refl, ap, subst, ◌∙◌}
use Rattle.std.specs.Int.{w16}
use Rattle.std.specs.List.{flat_map}
use Rattle.mqtt_base.specs.Values.{two_bytes, blob, FitsText}
use Rattle.mqtt_base.specs.Reading.{◌>>=◌, number_at}
use Rattle.mqtt_base.specs.Items.{items_at}
use Rattle.mqtt_base.proofs.Steps.{IsBytes, bind_ok, ok_is}
use Rattle.mqtt_base.proofs.Fields.{wide16, number_takes, number_again}
use Rattle.mqtt_base.proofs.Items.{items_take, items_at_again}
use Rattle.mqtt_props.specs.declared.place.Place.TheVariants as places
use Rattle.mqtt_props.specs.Properties.{block}
use Rattle.mqtt_props.specs.Laws.{layout_at}
use Rattle.mqtt_props.proofs.Blocks.{layout_takes, layout_again}
use Rattle.mqtt_packet.specs.declared.parts.fault.Fault.TheVariants.{Malformed}
use Rattle.mqtt_packet.specs.declared.subscribe.unsubscribe.Unsubscribe.{Unsubscribe}
use Rattle.mqtt_packet.specs.parts.Reading.{malformed}
use Rattle.mqtt_packet.specs.subscribe.Filters.{filter_at}
use Rattle.mqtt_packet.specs.subscribe.Unsubscribe.{FitsUnsubscribe, unsubscribe_body, unsubscribe_at}
use Rattle.mqtt_packet.proofs.parts_lemmas.Parts.{malformed_ok}
use Rattle.mqtt_packet.proofs.parts_lemmas.Readers.{IsReader}
use Rattle.mqtt_packet.proofs.subscribe_lemmas.FilterLemmas.{filter_reads}

unsubscribe_takes : (body : List ℕ) (s : Unsubscribe) → IsBytes body → unsubscribe_at body ≡ Ok s → FitsUnsubscribe s × (body ≡ unsubscribe_body s)
unfolding unsubscribe_at items_at
unsubscribe_takes body s fits e =
    let a = bind_ok (malformed (number_at w16 body)) (λ id. malformed (layout_at places.Unsubscribe id.1) >>= λ ps. items_at Malformed filter_at ps.1 >>= λ fs. Ok (record { identifier = id.0; properties = ps.0; filters = fs })) s e in
    let b = bind_ok (malformed (layout_at places.Unsubscribe a.0.1)) (λ ps. items_at Malformed filter_at ps.1 >>= λ fs. Ok (record { identifier = a.0.0; properties = ps.0; filters = fs })) s a.2 in
    let c = bind_ok (items_at Malformed filter_at b.0.1) (λ fs. Ok (record { identifier = a.0.0; properties = b.0.0; filters = fs })) s b.2 in
    let t0 = number_takes w16 (2 ^ 16) wide16 body a.0 fits (malformed_ok (number_at w16 body) a.0 a.1) in
    let t1 = layout_takes places.Unsubscribe a.0.1 b.0 t0.0.rest_fits (malformed_ok (layout_at places.Unsubscribe a.0.1) b.0 b.1) in
    let t2 = items_take Malformed filter_at blob FitsText filter_reads (length b.0.1) b.0.1 c.0 t1.0.rest_fits c.1 in
    let made : Unsubscribe = record { identifier = a.0.0; properties = b.0.0; filters = c.0 } in
    let parts : body ≡ two_bytes a.0.0 ++ (block b.0.0 ++ flat_map blob c.0) = t0.0.parts ∙ ap (λ (w : List ℕ). two_bytes a.0.0 ++ w) (t1.0.parts ∙ ap (λ (w : List ℕ). block b.0.0 ++ w) t2.0) in
    subst (λ (y : Unsubscribe). FitsUnsubscribe y × (body ≡ unsubscribe_body y)) (ok_is made s c.2) ((t0.1, (t1.1, t1.2), t2.1), parts)

unsubscribe_again : (s : Unsubscribe) (body : List ℕ) → FitsUnsubscribe s → body ≡ unsubscribe_body s → unsubscribe_at body ≡ Ok s
unfolding unsubscribe_at
unsubscribe_again s body fits is =
    rw (
      is,
      number_again w16 (2 ^ 16) wide16 s.identifier (block s.properties ++ flat_map blob s.filters) fits.0,
      layout_again places.Unsubscribe s.properties (flat_map blob s.filters) fits.1.0 fits.1.1,
      items_at_again Malformed filter_at blob FitsText filter_reads s.filters fits.2,
    ) refl

-- an UNSUBSCRIBE is read as it is written
pub unsubscribe_reads : IsReader unsubscribe_at FitsUnsubscribe (λ s body. body ≡ unsubscribe_body s)
unsubscribe_reads = record { takes = unsubscribe_takes; again = unsubscribe_again }
