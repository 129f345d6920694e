-- A body of CONNACK that is read was spelled so, and what is spelled is read.
use Rattle.std.proofs.Common.{◌≡◌, ℕ, zero, suc, Bool, true, false, ◌&&◌, cond, eqb, List, ◌∷◌, length, Some, Ok, Err, refl, ap, subst, ◌∙◌}
use Rattle.mqtt_base.specs.declared.kind.Kind.TheVariants as kinds
use Rattle.mqtt_base.specs.Reading.{◌>>=◌, u8_at}
use Rattle.mqtt_base.specs.Reasons.{is_code}
use Rattle.mqtt_base.proofs.Steps.{IsBytes, bind_ok, when_ok, ok_is}
use Rattle.mqtt_base.proofs.Fields.{byte_takes}
use Rattle.mqtt_props.specs.declared.place.Place.TheVariants as places
use Rattle.mqtt_props.specs.Properties.{block}
use Rattle.mqtt_props.specs.Laws.{layout_at}
use Rattle.mqtt_packet.specs.declared.codec.connack.Connack.{Connack}
use Rattle.mqtt_packet.specs.declared.parts.fault.Fault.TheVariants.{Malformed}
use Rattle.mqtt_packet.specs.parts.Bits.{bit}
use Rattle.mqtt_packet.specs.parts.Reading.{malformed, known}
use Rattle.mqtt_packet.specs.codec.Connack.{FitsConnack, connack_body, session_present_of, connack_at}
use Rattle.mqtt_packet.proofs.parts_lemmas.Parts.{malformed_ok, known_ok, both_true}
use Rattle.mqtt_packet.proofs.parts_lemmas.Readers.{IsReader}
use Rattle.mqtt_packet.proofs.codec_lemmas.TailLemmas.{block_ends, block_again_end}

flag_is : (n : ℕ) (b : Bool) → session_present_of n ≡ Some b → n ≡ bit b
flag_is zero false e = refl
flag_is zero true e = absurd cc
flag_is (suc zero) true e = refl
flag_is (suc zero) false e = absurd cc
flag_is (suc (suc n)) b e = absurd cc

flag_again : (b : Bool) → session_present_of (bit b) ≡ Some b
flag_again true = refl
flag_again false = refl

connack_takes : (body : List ℕ) (c : Connack) → IsBytes body → connack_at body ≡ Ok c → FitsConnack c × (body ≡ connack_body c)
unfolding connack_at
connack_takes body c fits e =
    let f = bind_ok (malformed (u8_at body)) (λ f. known (session_present_of f.0) >>= λ present. malformed (u8_at f.1) >>= λ code. malformed (layout_at places.Connack code.1) >>= λ ps. cond (eqb (length ps.1) 0 && is_code kinds.Connack code.0) (Ok (record { session_present = present; reason = record { 0 = code.0 }; properties = ps.0 })) (Err Malformed)) c e in
    let p = bind_ok (known (session_present_of f.0.0)) (λ present. malformed (u8_at f.0.1) >>= λ code. malformed (layout_at places.Connack code.1) >>= λ ps. cond (eqb (length ps.1) 0 && is_code kinds.Connack code.0) (Ok (record { session_present = present; reason = record { 0 = code.0 }; properties = ps.0 })) (Err Malformed)) c f.2 in
    let r = bind_ok (malformed (u8_at f.0.1)) (λ code. malformed (layout_at places.Connack code.1) >>= λ ps. cond (eqb (length ps.1) 0 && is_code kinds.Connack code.0) (Ok (record { session_present = p.0; reason = record { 0 = code.0 }; properties = ps.0 })) (Err Malformed)) c p.2 in
    let l = bind_ok (malformed (layout_at places.Connack r.0.1)) (λ ps. cond (eqb (length ps.1) 0 && is_code kinds.Connack r.0.0) (Ok (record { session_present = p.0; reason = record { 0 = r.0.0 }; properties = ps.0 })) (Err Malformed)) c r.2 in
    let made : Connack = record { session_present = p.0; reason = record { 0 = r.0.0 }; properties = l.0.0 } in
    let g = when_ok (eqb (length l.0.1) 0 && is_code kinds.Connack r.0.0) Malformed (Ok made) c l.2 in
    let both = both_true (eqb (length l.0.1) 0) (is_code kinds.Connack r.0.0) g.0 in
    let t0 = byte_takes body f.0 fits (malformed_ok (u8_at body) f.0 f.1) in
    let t1 = byte_takes f.0.1 r.0 t0.0.rest_fits (malformed_ok (u8_at f.0.1) r.0 r.1) in
    let t2 = block_ends places.Connack r.0.1 l.0 t1.0.rest_fits (malformed_ok (layout_at places.Connack r.0.1) l.0 l.1) both.0 in
    let flag : f.0.0 ≡ bit p.0 = flag_is f.0.0 p.0 (known_ok (session_present_of f.0.0) p.0 p.1) in
    let is : body ≡ bit p.0 ∷ (r.0.0 ∷ block l.0.0) = t0.0.parts ∙ ap (λ (w : List ℕ). f.0.0 ∷ w) (t1.0.parts ∙ ap (λ (w : List ℕ). r.0.0 ∷ w) t2.0) ∙ ap (λ (n : ℕ). n ∷ (r.0.0 ∷ block l.0.0)) flag in
    subst (λ (y : Connack). FitsConnack y × (body ≡ connack_body y)) (ok_is made c g.1) ((both.1, t2.1), is)

connack_again : (c : Connack) (body : List ℕ) → FitsConnack c → body ≡ connack_body c → connack_at body ≡ Ok c
unfolding connack_at
connack_again c body fits is = rw (is, flag_again c.session_present, block_again_end places.Connack c.properties (block c.properties) fits.1 refl, fits.0) refl

-- a CONNACK is read as it is written
pub connack_reads : IsReader connack_at FitsConnack (λ c body. body ≡ connack_body c)
connack_reads = record { takes = connack_takes; again = connack_again }
