-- A spelling at the front of the bytes is the packet that they begin with.
use Rattle.std.proofs.Common.{◌≡◌, ◌≢◌, ℕ, ◌+◌, ◌-◌, ◌^◌, ◌<◌, ◌≤◌, Bool, true, false, cond, ltb, List, [], ◌∷◌, ◌++◌, length, take, drop, Option, None, Some, Result, Ok, Err, IfOk, IfSome, refl, sym, ap, subst, ◌∙◌, append_assoc, arith, length-append}
use Rattle.std.proofs.lemmas.Bool.{ltb-false, le-ltb}
use Rattle.std.proofs.lemmas.List.{take_at, drop_at, length-take-le}
use Rattle.mqtt_base.specs.declared.fault.ReadFault.{ReadFault}
use Rattle.mqtt_base.specs.declared.fault.ReadFault.TheVariants.{Short, Overlong, BadText}
use Rattle.mqtt_base.specs.Values.{varint, blob}
use Rattle.mqtt_base.specs.Reading.{varint_at}
use Rattle.mqtt_base.proofs.Steps.{IsBytes, IsBytes-take}
use Rattle.mqtt_base.proofs.Varints.{varint_rereads}
use Rattle.mqtt_packet.specs.declared.parts.fault.Fault.{Fault}
use Rattle.mqtt_packet.specs.declared.parts.fault.Fault.TheVariants.{TooLarge}
use Rattle.mqtt_base.specs.declared.limits.TheConstants.{PACKET_LIMIT}
use Rattle.mqtt_packet.specs.declared.codec.head.Head.{Head}
use Rattle.mqtt_packet.specs.declared.codec.packet.Packet.{Packet}
use Rattle.mqtt_packet.specs.declared.codec.packet.Packet.TheVariants as packets
use Rattle.mqtt_packet.specs.declared.codec.publish.Publish.{Publish}
use Rattle.mqtt_packet.specs.codec.Publish.{identifier_field}
use Rattle.mqtt_props.specs.Properties.{block}
use Rattle.mqtt_packet.specs.codec.Heads.{first, head_of}
use Rattle.mqtt_packet.specs.codec.Packets.{head, framed, HasLayout, Refusal, Spells}
use Rattle.mqtt_packet.specs.codec.Frames.{packet_at}
use Rattle.mqtt_packet.specs.stream.Front.{size_by, size_behind, size_at, with_size, first_by, first_of, GivesFirst, EndsWithPayload}
use Rattle.mqtt_packet.specs.stream.Stream.{place_after, IsCut, IsStream, short_at, AreSpelled, joined_bytes, items_from, end_from}
use Rattle.mqtt_packet.proofs.codec_lemmas.HeadLemmas.{IsHead, is_head}
use Rattle.mqtt_packet.proofs.codec_lemmas.FrameLemmas.{packet_takes, packet_again, packet_refused}
use Rattle.mqtt_packet.proofs.stream_lemmas.Fronts.{found_size, found_packet, first_within}
use Rattle.mqtt_packet.proofs.stream_lemmas.Cuts.{fault_stays}

framed_size : (h : Head) (body : List ℕ) → length (framed h body) ≡ 1 + length (varint (length body)) + length body
framed_size h body = omega (arith, length-append (varint (length body)) body)

size_whole : (h : Head) (body more : List ℕ) → IsHead h → length body < 2 ^ 28 → length (framed h body) ≤ PACKET_LIMIT
    → size_at (framed h body ++ more) ≡ Ok (Some (length (framed h body)))
unfolding size_at
size_whole h body more is lt small =
    let v = varint (length body) in
    let read : varint_at ((v ++ body) ++ more) ≡ Ok (length body, body ++ more) = ap varint_at (append_assoc v body more) ∙ varint_rereads (length body) (body ++ more) lt in
    let size = framed_size h body in
    let taken : length ((v ++ body) ++ more) - length (body ++ more) ≡ length v = omega (arith, length-append (v ++ body) more, length-append v body, length-append body more) in
    let below : 1 + length v + length body ≤ PACKET_LIMIT = omega (arith, size, small) in
    let here : length body ≤ length (body ++ more) = omega (arith, length-append body more) in
    rw (is, read, taken, le-ltb PACKET_LIMIT (1 + length v + length body) below, le-ltb (length (body ++ more)) (length body) here, size) refl

framed_whole : (p : Packet) (body more : List ℕ) → length body < 2 ^ 28 → length (framed (head p) body) ≤ PACKET_LIMIT → packet_at (framed (head p) body) ≡ Ok p
    → first_of (framed (head p) body ++ more) ≡ Ok (Some (p, length (framed (head p) body)))
unfolding first_of
framed_whole p body more lt small read =
    let bytes = framed (head p) body in
    rw (size_whole (head p) body more (is_head p) lt small, take_at bytes more (length bytes) refl, read) refl

-- bytes that spell a packet begin with it, whatever is behind them
pub first_whole : (p : Packet) (bytes more : List ℕ) → Spells p bytes → length bytes ≤ PACKET_LIMIT → first_of (bytes ++ more) ≡ Ok (Some (p, length bytes))
first_whole p bytes more s small =
    let body = s.0.1.0 in
    let lt = s.0.1.2 in
    let frame = s.0.1.3 in
    let small2 : length (framed (head p) body) ≤ PACKET_LIMIT = omega (arith, small, ap length frame) in
    let read : packet_at (framed (head p) body) ≡ Ok p = ap packet_at (sym frame) ∙ packet_again bytes p s in
    subst (λ (bs : List ℕ). first_of (bs ++ more) ≡ Ok (Some (p, length bs))) (sym frame) (framed_whole p body more lt small2 read)

-- ---- and nothing else is

below_by : (large few : Bool) (size n : ℕ) → ltb PACKET_LIMIT size ≡ large → cond large (Err TooLarge) (cond few (Ok None) (Ok (Some size))) ≡ Ok (Some n) → n ≤ PACKET_LIMIT
below_by true few size n t e = absurd cc
below_by false true size n t e = absurd cc
below_by false false size n t e =
    let same : size ≡ n = cc e in
    let below : size ≤ PACKET_LIMIT = ltb-false PACKET_LIMIT size t in
    omega arith

size_by_below : (count n : ℕ) (r : Result (ℕ × List ℕ) ReadFault) → size_by count r ≡ Ok (Some n) → n ≤ PACKET_LIMIT
size_by_below count n (Err Short) e = absurd cc
size_by_below count n (Err Overlong) e = absurd cc
size_by_below count n (Err BadText) e = absurd cc
size_by_below count n (Ok x) e = below_by (ltb PACKET_LIMIT (1 + (count - length x.1) + x.0)) (ltb (length x.1) x.0) (1 + (count - length x.1) + x.0) n refl e

behind_below : (h : Option Head) (bytes : List ℕ) (n : ℕ) → size_behind h bytes ≡ Ok (Some n) → n ≤ PACKET_LIMIT
behind_below None bytes n e = absurd cc
behind_below (Some h) bytes n e = size_by_below (length bytes) n (varint_at bytes) e

size_below : (bytes : List ℕ) (n : ℕ) → size_at bytes ≡ Ok (Some n) → n ≤ PACKET_LIMIT
unfolding size_at
size_below [] n e = absurd cc
size_below (b ∷ bytes) n e = behind_below (head_of b) bytes n e

sized_spells : (bytes : List ℕ) (p : Packet) (n m : ℕ) (r : Result Packet Fault) → IsBytes bytes → size_at bytes ≡ Ok (Some m) → packet_at (take m bytes) ≡ r → with_size m r ≡ Ok (Some (p, n))
    → Spells p (take n bytes) × (n ≤ PACKET_LIMIT)
sized_spells bytes p n m (Err f) fits s read e = absurd cc
sized_spells bytes p n m (Ok q) fits s read e =
    let same : m ≡ n = ap found_size e in
    let packet : q ≡ p = ap (found_packet p) e in
    let spells : Spells q (take m bytes) = packet_takes (take m bytes) q (IsBytes-take m bytes fits) read in
    subst (λ (k : ℕ). Spells p (take k bytes) × (k ≤ PACKET_LIMIT)) same (subst (λ (x : Packet). Spells x (take m bytes)) packet spells, size_below bytes m s)

first_by_spells : (bytes : List ℕ) (p : Packet) (n : ℕ) (r : Result (Option ℕ) Fault) → IsBytes bytes → size_at bytes ≡ r → first_by bytes r ≡ Ok (Some (p, n))
    → Spells p (take n bytes) × (n ≤ PACKET_LIMIT)
first_by_spells bytes p n (Err f) fits s e = absurd cc
first_by_spells bytes p n (Ok None) fits s e = absurd cc
first_by_spells bytes p n (Ok (Some m)) fits s e = sized_spells bytes p n m (packet_at (take m bytes)) fits s refl e

-- a first packet is spelled by its bytes
pub first_spells : (bytes : List ℕ) (p : Packet) (n : ℕ) → IsBytes bytes → first_of bytes ≡ Ok (Some (p, n)) → Spells p (take n bytes) × (n ≤ PACKET_LIMIT)
unfolding first_of
first_spells bytes p n fits e = first_by_spells bytes p n (size_at bytes) fits refl e

-- ---- the payload stands at the end

end_of : (bytes front back : List ℕ) → bytes ≡ front ++ back → (length back ≤ length bytes) × (back ≡ drop (length bytes - length back) bytes)
end_of bytes front back e =
    let len : length bytes - length back ≡ length front = omega (arith, ap length e, length-append front back) in
    (omega (arith, ap length e, length-append front back), sym (ap (drop (length bytes - length back)) e ∙ ap (λ (k : ℕ). drop k (front ++ back)) len ∙ drop_at front back (length front) refl))

publish_end : (p : Publish) (bytes : List ℕ) → HasLayout (packets.Publish p) bytes → (length p.payload ≤ length bytes) × (p.payload ≡ drop (length bytes - length p.payload) bytes)
publish_end p bytes (fits, (body, is, lt, e)) =
    let top = first (head (packets.Publish p)) in
    let v = varint (length body) in
    let fields = blob p.topic ++ (identifier_field p.delivery ++ block p.properties) in
    let split : body ≡ fields ++ p.payload =
    is
    ∙ ap (λ (b : List ℕ). blob p.topic ++ b) (sym (append_assoc (identifier_field p.delivery) (block p.properties) p.payload))
    ∙ sym (append_assoc (blob p.topic) (identifier_field p.delivery ++ block p.properties) p.payload) in
    let parts : bytes ≡ (top ∷ (v ++ fields)) ++ p.payload =
    e ∙ ap (λ (b : List ℕ). top ∷ (v ++ b)) split ∙ ap (λ (b : List ℕ). top ∷ b) (sym (append_assoc v fields p.payload)) in
    end_of bytes (top ∷ (v ++ fields)) p.payload parts

-- and ends with its payload
pub first_ends : (bytes : List ℕ) (p : Packet) (n : ℕ) → IsBytes bytes → first_of bytes ≡ Ok (Some (p, n)) → EndsWithPayload p n bytes
first_ends bytes (packets.Publish p) n fits e =
    let s = first_spells bytes (packets.Publish p) n fits e in
    let within = first_within bytes (packets.Publish p) n e in
    let len : length (take n bytes) ≡ n = length-take-le n bytes within.0 in
    let ends = publish_end p (take n bytes) s.0.0 in
    (omega (arith, ends.0, len), ends.1 ∙ ap (λ (k : ℕ). drop (k - length p.payload) (take n bytes)) len)
first_ends bytes (packets.Connect c) n fits e = tt
first_ends bytes (packets.Connack c) n fits e = tt
first_ends bytes (packets.Puback a) n fits e = tt
first_ends bytes (packets.Pubrec a) n fits e = tt
first_ends bytes (packets.Pubrel a) n fits e = tt
first_ends bytes (packets.Pubcomp a) n fits e = tt
first_ends bytes (packets.Subscribe s) n fits e = tt
first_ends bytes (packets.Suback s) n fits e = tt
first_ends bytes (packets.Unsubscribe u) n fits e = tt
first_ends bytes (packets.Unsuback u) n fits e = tt
first_ends bytes packets.Pingreq n fits e = tt
first_ends bytes packets.Pingresp n fits e = tt
first_ends bytes (packets.Disconnect m) n fits e = tt
first_ends bytes (packets.Auth m) n fits e = tt

-- so does the one that is found
pub found_ends : {X : Type 0} (view : X → Packet) (bytes : List ℕ) (r : Result (Option (X × ℕ)) Fault) → IsBytes bytes → GivesFirst view r (first_of bytes)
    → IfOk r (λ found. IfSome found (λ x. EndsWithPayload (view x.0) x.1 bytes))
found_ends {X} view bytes (Ok None) fits given = tt
found_ends {X} view bytes (Ok (Some x)) fits given = first_ends bytes (view x.0) x.1 fits given
found_ends {X} view bytes (Err f) fits given = tt

-- if a fault stands, no stream that goes on so begins with a packet
pub fault_final : (bytes later spelling more : List ℕ) (f : Fault) (p : Packet) → first_of bytes ≡ Err f → Spells p spelling → length spelling ≤ PACKET_LIMIT
    → bytes ++ later ≢ spelling ++ more
fault_final bytes later spelling more f p e s small = λ same.
    let clash = sym (fault_stays bytes later f e) ∙ ap first_of same ∙ first_whole p spelling more s small in
    cc clash

-- ---- packets one after the other

joined_from : (place : ℕ) (packets : List (Packet × List ℕ)) → AreSpelled packets → IsCut place (joined_bytes packets) (items_from place packets) (end_from place packets) []
joined_from place [] s = (refl, refl)
joined_from place (x ∷ xs) s =
    let next = place_after place (length x.1) in
    let rest : drop (length x.1) (x.1 ++ joined_bytes xs) ≡ joined_bytes xs = drop_at x.1 (joined_bytes xs) (length x.1) refl in
    (refl, first_whole x.0 x.1 (joined_bytes xs) s.0 s.1, rw rest (joined_from next xs s.2))

first_none : first_of [] ≡ Ok None
unfolding first_of size_at
first_none = refl

-- packets one behind the other are a stream of them
pub joined_stream : (packets : List (Packet × List ℕ)) → AreSpelled packets → IsStream (joined_bytes packets) (items_from 0 packets) (short_at (end_from 0 packets) [])
joined_stream packets s = (end_from 0 packets, [], joined_from 0 packets s, (refl, refl, first_none))

-- ---- a whole frame that spells no packet

refused_sized : (bytes : List ℕ) (n : ℕ) (fault : Fault) (read : Result Packet Fault) → packet_at (take n bytes) ≡ read → with_size n read ≡ Err fault → packet_at (take n bytes) ≡ Err fault
refused_sized bytes n fault (Ok p) is e = absurd cc
refused_sized bytes n fault (Err f) is e = cc

refused_at : (bytes : List ℕ) (n : ℕ) (fault : Fault) → size_at bytes ≡ Ok (Some n) → first_of bytes ≡ Err fault → packet_at (take n bytes) ≡ Err fault
unfolding first_of
refused_at bytes n fault sized e = refused_sized bytes n fault (packet_at (take n bytes)) refl (sym (ap (first_by bytes) sized) ∙ e)

-- it is refused for the reason that is due
pub refused_whole : (bytes : List ℕ) (n : ℕ) (fault : Fault) → IsBytes bytes → size_at bytes ≡ Ok (Some n) → first_of bytes ≡ Err fault → Refusal fault (take n bytes)
refused_whole bytes n fault are sized e =
    let given : Result Packet Fault = Err fault in
    packet_refused (λ p. p) (take n bytes) given (IsBytes-take n bytes are) (refused_at bytes n fault sized e)
