-- A body of SUBACK or UNSUBACK that is read was spelled so, and what is spelled is read.
use Rattle.std.proofs.Common.{◌≡◌, ℕ, ◌^◌, cond, List, ◌++◌, Ok, Err, refl, ap, subst, ◌∙◌}
use Rattle.std.specs.Int.{w16}
use Rattle.mqtt_base.specs.declared.kind.Kind.{Kind}
use Rattle.mqtt_base.specs.Values.{two_bytes}
use Rattle.mqtt_base.specs.Reading.{◌>>=◌, number_at}
use Rattle.mqtt_base.proofs.Steps.{IsBytes, bind_ok, when_ok, ok_is}
use Rattle.mqtt_base.proofs.Fields.{wide16, number_takes, number_again}
use Rattle.mqtt_props.specs.declared.place.Place.{Place}
use Rattle.mqtt_props.specs.Properties.{block}
use Rattle.mqtt_props.specs.Laws.{layout_at}
use Rattle.mqtt_props.proofs.Blocks.{layout_takes, layout_again}
use Rattle.mqtt_packet.specs.declared.parts.fault.Fault.TheVariants.{Malformed}
use Rattle.mqtt_packet.specs.declared.codec.suback.Suback.{Suback}
use Rattle.mqtt_packet.specs.parts.Reading.{malformed}
use Rattle.mqtt_packet.specs.codec.Suback.{are_codes, FitsSuback, suback_body, suback_at}
use Rattle.mqtt_packet.proofs.parts_lemmas.Parts.{malformed_ok}
use Rattle.mqtt_packet.proofs.parts_lemmas.Readers.{IsReader}

suback_takes : (kind : Kind) (place : Place) (body : List ℕ) (s : Suback) → IsBytes body → suback_at kind place body ≡ Ok s → FitsSuback kind place s × (body ≡ suback_body s)
unfolding suback_at
suback_takes kind place body s fits e =
    let a = bind_ok (malformed (number_at w16 body)) (λ id. malformed (layout_at place id.1) >>= λ ps. cond (are_codes kind ps.1) (Ok (record { identifier = id.0; properties = ps.0; codes = ps.1 })) (Err Malformed)) s e in
    let b = bind_ok (malformed (layout_at place a.0.1)) (λ ps. cond (are_codes kind ps.1) (Ok (record { identifier = a.0.0; properties = ps.0; codes = ps.1 })) (Err Malformed)) s a.2 in
    let made : Suback = record { identifier = a.0.0; properties = b.0.0; codes = b.0.1 } in
    let g = when_ok (are_codes kind b.0.1) Malformed (Ok made) s b.2 in
    let t0 = number_takes w16 (2 ^ 16) wide16 body a.0 fits (malformed_ok (number_at w16 body) a.0 a.1) in
    let t1 = layout_takes place a.0.1 b.0 t0.0.rest_fits (malformed_ok (layout_at place a.0.1) b.0 b.1) in
    let parts : body ≡ two_bytes a.0.0 ++ (block b.0.0 ++ b.0.1) = t0.0.parts ∙ ap (λ (w : List ℕ). two_bytes a.0.0 ++ w) t1.0.parts in
    subst (λ (y : Suback). FitsSuback kind place y × (body ≡ suback_body y)) (ok_is made s g.1) ((t0.1, (t1.1, t1.2), g.0), parts)

suback_again : (kind : Kind) (place : Place) (s : Suback) (body : List ℕ) → FitsSuback kind place s → body ≡ suback_body s → suback_at kind place body ≡ Ok s
unfolding suback_at
suback_again kind place s body fits is =
    rw (is, number_again w16 (2 ^ 16) wide16 s.identifier (block s.properties ++ s.codes) fits.0, layout_again place s.properties s.codes fits.1.0 fits.1.1, fits.2) refl

-- a SUBACK or UNSUBACK is read as it is written
pub suback_reads : (kind : Kind) (place : Place) → IsReader (suback_at kind place) (FitsSuback kind place) (λ s body. body ≡ suback_body s)
suback_reads kind place = record { takes = suback_takes kind place; again = suback_again kind place }
