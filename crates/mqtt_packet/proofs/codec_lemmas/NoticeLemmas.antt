-- A body of DISCONNECT or AUTH that is read was spelled so, and what is spelled is read.
use Rattle.std.proofs.Common.{◌≡◌, ℕ, zero, suc, ◌+◌, ◌≤◌, false, ◌&&◌, cond, eqb, List, [], ◌∷◌, length, Ok, Err, refl, sym, ap, subst, ◌∙◌, arith}
use Rattle.mqtt_base.specs.declared.kind.Kind.TheVariants as kinds
use Rattle.mqtt_base.specs.Reasons.{is_code}
use Rattle.mqtt_base.proofs.Steps.{IsBytes, IsBytes-rest, bind_ok, when_ok, ok_is}
use Rattle.mqtt_props.specs.declared.place.Place.TheVariants as places
use Rattle.mqtt_props.specs.Properties.{Prop, block}
use Rattle.mqtt_props.specs.Laws.{layout_at}
use Rattle.mqtt_packet.specs.declared.codec.notice.Notice.{Notice}
use Rattle.mqtt_packet.specs.declared.parts.fault.Fault.TheVariants.{Malformed}
use Rattle.mqtt_packet.specs.parts.Reading.{malformed}
use Rattle.mqtt_packet.specs.codec.Tails.{IsTail, tail_at}
use Rattle.mqtt_packet.specs.codec.Notice.{FitsNotice, disconnect_at, IsAuthBody, auth_body_of, auth_body, auth_at}
use Rattle.mqtt_packet.proofs.parts_lemmas.Parts.{malformed_ok, both_true}
use Rattle.mqtt_packet.proofs.parts_lemmas.Readers.{IsReader}
use Rattle.mqtt_packet.proofs.codec_lemmas.TailLemmas.{tail_takes, tail_again, block_ends, block_again_end}

disconnect_takes : (body : List ℕ) (n : Notice) → IsBytes body → disconnect_at body ≡ Ok n → FitsNotice kinds.Disconnect places.Disconnect n × IsTail n.reason.0 n.properties body
unfolding disconnect_at
disconnect_takes body n fits e =
    let m = bind_ok (tail_at places.Disconnect body) (λ t. cond (is_code kinds.Disconnect t.0) (Ok (record { reason = record { 0 = t.0 }; properties = t.1 })) (Err Malformed)) n e in
    let made : Notice = record { reason = record { 0 = m.0.0 }; properties = m.0.1 } in
    let g = when_ok (is_code kinds.Disconnect m.0.0) Malformed (Ok made) n m.2 in
    let t = tail_takes places.Disconnect body m.0 fits m.1 in
    subst (λ (y : Notice). FitsNotice kinds.Disconnect places.Disconnect y × IsTail y.reason.0 y.properties body) (ok_is made n g.1) ((g.0, t.1), t.0)

disconnect_again : (n : Notice) (body : List ℕ) → FitsNotice kinds.Disconnect places.Disconnect n → IsTail n.reason.0 n.properties body → disconnect_at body ≡ Ok n
unfolding disconnect_at
disconnect_again n body fits is = rw (tail_again places.Disconnect n.reason.0 n.properties body fits.1 is, fits.0) refl

-- a DISCONNECT is read as it is written
pub disconnect_reads : IsReader disconnect_at (FitsNotice kinds.Disconnect places.Disconnect) (λ n body. IsTail n.reason.0 n.properties body)
disconnect_reads = record { takes = disconnect_takes; again = disconnect_again }

-- ---- AUTH

auth_takes : (body : List ℕ) (n : Notice) → IsBytes body → auth_at body ≡ Ok n → FitsNotice kinds.Auth places.Auth n × IsAuthBody n body
unfolding auth_at
auth_takes [] n fits e =
    let made : Notice = record { reason = record { 0 = 0 }; properties = [] } in
    subst (λ (y : Notice). FitsNotice kinds.Auth places.Auth y × IsAuthBody y []) (ok_is made n e) ((refl, (record { each = tt; short = omega arith }, refl)), (refl, refl))
auth_takes (c ∷ rest) n fits e =
    let l = bind_ok (malformed (layout_at places.Auth rest)) (λ ps. cond (eqb (length ps.1) 0 && is_code kinds.Auth c) (Ok (record { reason = record { 0 = c }; properties = ps.0 })) (Err Malformed)) n e in
    let made : Notice = record { reason = record { 0 = c }; properties = l.0.0 } in
    let g = when_ok (eqb (length l.0.1) 0 && is_code kinds.Auth c) Malformed (Ok made) n l.2 in
    let both = both_true (eqb (length l.0.1) 0) (is_code kinds.Auth c) g.0 in
    let t = block_ends places.Auth rest l.0 (IsBytes-rest c rest fits) (malformed_ok (layout_at places.Auth rest) l.0 l.1) both.0 in
    subst (λ (y : Notice). FitsNotice kinds.Auth places.Auth y × IsAuthBody y (c ∷ rest)) (ok_is made n g.1) ((both.1, t.1), (refl, t.0))

auth_again : (n : Notice) (body : List ℕ) → FitsNotice kinds.Auth places.Auth n → IsAuthBody n body → auth_at body ≡ Ok n
unfolding auth_at
auth_again n [] fits is =
    let made : ℕ → List Prop → Notice = λ code ps. record { reason = record { 0 = code }; properties = ps } in
    sym (ap (λ (code : ℕ). Ok (made code n.properties)) is.0 ∙ ap (λ (ps : List Prop). Ok (made 0 ps)) is.1)
auth_again n (c ∷ rest) fits is = rw (block_again_end places.Auth n.properties rest fits.1 is.1, is.0, fits.0) refl

-- an AUTH is read as it is written
pub auth_reads : IsReader auth_at (FitsNotice kinds.Auth places.Auth) IsAuthBody
auth_reads = record { takes = auth_takes; again = auth_again }

-- the shortest is a body of AUTH, and none is shorter
pub auth_is_body : (n : Notice) (code : ℕ) (ps : List Prop) → n.reason.0 ≡ code → n.properties ≡ ps → IsAuthBody n (auth_body_of code ps)
auth_is_body n zero [] a b = (a, b)
auth_is_body n (suc c) [] a b =
    let t : eqb (suc c) 0 ≡ false = grind arith in
    rw t (sym a, ap block (sym b))
auth_is_body n code (p ∷ ps) a b = (sym a, ap block (sym b))

auth_at_most : (code : ℕ) (ps : List Prop) → length (auth_body_of code ps) ≤ 1 + length (block ps)
auth_at_most zero [] = omega arith
auth_at_most (suc c) [] =
    let t : eqb (suc c) 0 ≡ false = grind arith in
    rw t (omega arith)
auth_at_most code (p ∷ ps) = omega arith

-- the writer's AUTH is the shortest
pub auth_is_least : (n : Notice) (body : List ℕ) → IsAuthBody n body → length (auth_body n) ≤ length body
auth_is_least n [] is = omega (arith, ap length (ap (auth_body_of n.reason.0) is.1 ∙ ap (λ (k : ℕ). auth_body_of k []) is.0))
auth_is_least n (c ∷ rest) is = omega (arith, auth_at_most n.reason.0 n.properties, ap length is.1)
