-- A body of PUBACK, PUBREC, PUBREL or PUBCOMP that is read was spelled so, and what is spelled is read.
use Rattle.std.proofs.Common.{◌≡◌, ℕ, ◌^◌, cond, List, Ok, Err, refl, subst}
use Rattle.std.specs.Int.{w16}
use Rattle.mqtt_base.specs.declared.kind.Kind.{Kind}
use Rattle.mqtt_base.specs.Reading.{◌>>=◌, number_at}
use Rattle.mqtt_base.specs.Reasons.{is_code}
use Rattle.mqtt_base.proofs.Steps.{IsBytes, bind_ok, when_ok, ok_is}
use Rattle.mqtt_base.proofs.Fields.{wide16, number_takes, number_again}
use Rattle.mqtt_props.specs.declared.place.Place.{Place}
use Rattle.mqtt_packet.specs.declared.codec.ack.Ack.{Ack}
use Rattle.mqtt_packet.specs.declared.parts.fault.Fault.TheVariants.{Malformed}
use Rattle.mqtt_packet.specs.parts.Reading.{malformed}
use Rattle.mqtt_packet.specs.codec.Tails.{tail_at}
use Rattle.mqtt_packet.specs.codec.Ack.{FitsAck, IsAckBody, ack_at}
use Rattle.mqtt_packet.proofs.parts_lemmas.Parts.{malformed_ok}
use Rattle.mqtt_packet.proofs.parts_lemmas.Readers.{IsReader}
use Rattle.mqtt_packet.proofs.codec_lemmas.TailLemmas.{tail_takes, tail_again}

ack_takes : (kind : Kind) (place : Place) (body : List ℕ) (a : Ack) → IsBytes body → ack_at kind place body ≡ Ok a → FitsAck kind place a × IsAckBody a body
unfolding ack_at
ack_takes kind place body a fits e =
    let n = bind_ok (malformed (number_at w16 body)) (λ id. tail_at place id.1 >>= λ t. cond (is_code kind t.0) (Ok (record { identifier = id.0; reason = record { 0 = t.0 }; properties = t.1 })) (Err Malformed)) a e in
    let m = bind_ok (tail_at place n.0.1) (λ t. cond (is_code kind t.0) (Ok (record { identifier = n.0.0; reason = record { 0 = t.0 }; properties = t.1 })) (Err Malformed)) a n.2 in
    let made : Ack = record { identifier = n.0.0; reason = record { 0 = m.0.0 }; properties = m.0.1 } in
    let g = when_ok (is_code kind m.0.0) Malformed (Ok made) a m.2 in
    let t0 = number_takes w16 (2 ^ 16) wide16 body n.0 fits (malformed_ok (number_at w16 body) n.0 n.1) in
    let t1 = tail_takes place n.0.1 m.0 t0.0.rest_fits m.1 in
    subst (λ (y : Ack). FitsAck kind place y × IsAckBody y body) (ok_is made a g.1) ((t0.1, g.0, t1.1), (n.0.1, t0.0.parts, t1.0))

ack_again : (kind : Kind) (place : Place) (a : Ack) (body : List ℕ) → FitsAck kind place a → IsAckBody a body → ack_at kind place body ≡ Ok a
unfolding ack_at
ack_again kind place a body fits (rest, is, t) =
    rw (is, number_again w16 (2 ^ 16) wide16 a.identifier rest fits.0, tail_again place a.reason.0 a.properties rest fits.2 t, fits.1) refl

-- PUBACK, PUBREC, PUBREL and PUBCOMP are read as they are written
pub ack_reads : (kind : Kind) (place : Place) → IsReader (ack_at kind place) (FitsAck kind place) IsAckBody
ack_reads kind place = record { takes = ack_takes kind place; again = ack_again kind place }
