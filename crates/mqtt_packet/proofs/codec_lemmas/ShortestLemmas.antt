-- The shortest spelling is a spelling, and none is shorter.
use Rattle.std.proofs.Common.{◌≡◌, ℕ, ◌≤◌, List, length, Result, Ok, Err, IfOk, refl, sym, ap, subst, arith}
use Rattle.std.proofs.lemmas.List.{length-append}
use Rattle.mqtt_base.specs.Values.{varint, two_bytes}
use Rattle.mqtt_base.proofs.Varints.{varint_sizes}
use Rattle.mqtt_packet.specs.declared.codec.ack.Ack.{Ack}
use Rattle.mqtt_packet.specs.declared.codec.packet.Packet.{Packet}
use Rattle.mqtt_packet.specs.declared.codec.packet.Packet.TheVariants.{Connect, Connack, Publish, Puback, Pubrec, Pubrel, Pubcomp, Subscribe, Suback, Unsubscribe, Unsuback, Pingreq, Pingresp, Disconnect, Auth}
use Rattle.mqtt_packet.specs.codec.Tails.{tail}
use Rattle.mqtt_packet.specs.codec.Ack.{IsAckBody, ack_body}
use Rattle.mqtt_packet.specs.codec.Packets.{head, IsBody, framed, HasLayout, Spells, shortest_body, shortest_of, HasSpelling, IsShortest}
use Rattle.mqtt_packet.proofs.codec_lemmas.TailLemmas.{tail_is_tail, tail_is_least}
use Rattle.mqtt_packet.proofs.codec_lemmas.NoticeLemmas.{auth_is_body, auth_is_least}

ack_is_body : (a : Ack) → IsAckBody a (ack_body a)
ack_is_body a = (tail a.reason.0 a.properties, refl, tail_is_tail a.reason.0 a.properties)

shortest_is_body : (p : Packet) → IsBody p (shortest_body p)
shortest_is_body (Connect c) = refl
shortest_is_body (Connack c) = refl
shortest_is_body (Publish p) = refl
shortest_is_body (Puback a) = ack_is_body a
shortest_is_body (Pubrec a) = ack_is_body a
shortest_is_body (Pubrel a) = ack_is_body a
shortest_is_body (Pubcomp a) = ack_is_body a
shortest_is_body (Subscribe s) = refl
shortest_is_body (Suback s) = refl
shortest_is_body (Unsubscribe u) = refl
shortest_is_body (Unsuback u) = refl
shortest_is_body Pingreq = refl
shortest_is_body Pingresp = refl
shortest_is_body (Disconnect n) = tail_is_tail n.reason.0 n.properties
shortest_is_body (Auth n) = auth_is_body n n.reason.0 n.properties refl refl

ack_is_least : (a : Ack) (body : List ℕ) → IsAckBody a body → length (ack_body a) ≤ length body
ack_is_least a body (rest, is, t) =
    omega (arith, tail_is_least a.reason.0 a.properties rest t, ap length is, length-append (two_bytes a.identifier) rest, length-append (two_bytes a.identifier) (tail a.reason.0 a.properties))

same_size : (made body : List ℕ) → body ≡ made → length made ≤ length body
same_size made body e = omega (arith, ap length e)

shortest_is_least : (p : Packet) (body : List ℕ) → IsBody p body → length (shortest_body p) ≤ length body
shortest_is_least (Connect c) body is = same_size _ body is
shortest_is_least (Connack c) body is = same_size _ body is
shortest_is_least (Publish p) body is = same_size _ body is
shortest_is_least (Puback a) body is = ack_is_least a body is
shortest_is_least (Pubrec a) body is = ack_is_least a body is
shortest_is_least (Pubrel a) body is = ack_is_least a body is
shortest_is_least (Pubcomp a) body is = ack_is_least a body is
shortest_is_least (Subscribe s) body is = same_size _ body is
shortest_is_least (Suback s) body is = same_size _ body is
shortest_is_least (Unsubscribe u) body is = same_size _ body is
shortest_is_least (Unsuback u) body is = same_size _ body is
shortest_is_least Pingreq body is = omega arith
shortest_is_least Pingresp body is = omega arith
shortest_is_least (Disconnect n) body is = tail_is_least n.reason.0 n.properties body is
shortest_is_least (Auth n) body is = auth_is_least n body is

framed_size : (p : Packet) (small body : List ℕ) → length small ≤ length body → length (framed (head p) small) ≤ length (framed (head p) body)
framed_size p small body le =
    omega (arith, varint_sizes (length small) (length body) le, length-append (varint (length small)) small, length-append (varint (length body)) body)

least : (p : Packet) (other : List ℕ) → HasLayout p other → length (shortest_of p) ≤ length other
least p other (fits, (body, is, lt, e)) = omega (arith, ap length e, framed_size p (shortest_body p) body (shortest_is_least p body is))

-- a packet with a spelling has a shortest one
pub shortest_is : (p : Packet) → HasSpelling p → IsShortest p (shortest_of p)
shortest_is p h = (
  ((h.0, (shortest_body p, shortest_is_body p, h.1, refl)), h.2),
  λ other s. least p other s.0,
)

-- and that is what the writer writes
pub shortest_found : {X E : Type 0} (items : X → List ℕ) (p : Packet) (r : Result X E) → HasSpelling p → IfOk r (λ x. items x ≡ shortest_of p) → IfOk r (λ x. IsShortest p (items x))
shortest_found {X} {E} items p (Ok x) h e = subst (λ (b : List ℕ). IsShortest p b) (sym e) (shortest_is p h)
shortest_found {X} {E} items p (Err d) h e = tt

-- what has one spelling has a shortest one, no longer than that
pub spelled_has : (p : Packet) (bytes : List ℕ) → Spells p bytes → HasSpelling p × (length (shortest_of p) ≤ length bytes)
spelled_has p bytes ((fits, (body, is, lt, e)), lawful) =
    let shorter = shortest_is_least p body is in
    ((fits, omega (arith, shorter, lt), lawful), least p bytes (fits, (body, is, lt, e)))
