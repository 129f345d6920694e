-- A frame that is read spells the packet, each spelling is read again, and a refusal is due.
use Rattle.std.proofs.Common.{◌≡◌, ℕ, ◌^◌, ◌<◌, Bool, true, false, cond, eqb, List, [], ◌∷◌, ◌++◌, length, Result, Ok, Err, IfOk, IfErr, inl, inr, refl, sym, ap, subst, ◌∙◌, arith}
use Rattle.std.proofs.lemmas.Bool.{eqb-true}
use Rattle.mqtt_base.specs.declared.fault.ReadFault.{ReadFault}
use Rattle.mqtt_base.specs.Values.{varint, blob, FitsText}
use Rattle.mqtt_base.specs.Reading.{◌>>=◌, varint_at, text_at, u8_at}
use Rattle.mqtt_base.proofs.Steps.{IsBytes, IsBytes-rest, bind_ok, when_ok, chosen, ok_is}
use Rattle.mqtt_base.proofs.Fields.{text_takes, text_again, byte_takes}
use Rattle.mqtt_base.proofs.Varints.{varint_reads, varint_rereads}
use Rattle.mqtt_packet.specs.declared.parts.fault.Fault.{Fault}
use Rattle.mqtt_packet.specs.declared.parts.fault.Fault.TheVariants.{Malformed, Protocol, Version}
use Rattle.mqtt_packet.specs.declared.codec.head.Head.{Head}
use Rattle.mqtt_packet.specs.declared.codec.head.Head.TheVariants as heads
use Rattle.mqtt_packet.specs.declared.codec.packet.Packet.{Packet}
use Rattle.mqtt_packet.specs.codec.Heads.{first, head_of}
use Rattle.mqtt_packet.specs.parts.Reading.{Gives, malformed, known}
use Rattle.mqtt_packet.specs.declared.codec.packet.Packet.TheVariants.{Connect, Connack, Publish, Puback, Pubrec, Pubrel, Pubcomp, Subscribe, Suback, Unsubscribe, Unsuback, Pingreq, Pingresp, Disconnect, Auth}
use Rattle.mqtt_packet.specs.declared.codec.publish.Delivery.{Delivery}
use Rattle.mqtt_packet.specs.declared.codec.publish.Delivery.TheVariants.{AtMostOnce, AtLeastOnce, ExactlyOnce}
use Rattle.mqtt_packet.specs.connect.ConnectFlags.{flags_byte}
use Rattle.mqtt_packet.specs.connect.Connect.{is_version_5, mqtt, flags_of_connect, connect_fields}
use Rattle.mqtt_packet.specs.codec.Publish.{delivery_head}
use Rattle.mqtt_packet.specs.codec.Packets.{head, Fits, IsBody, framed, HasLayout, is_lawful, Spells, IsOtherVersion, Refusal}
use Rattle.mqtt_packet.specs.codec.Frames.{sized_at, frame_at, body_at, versioned_at, version_by, version_at, lawful_at, packet_at}
use Rattle.mqtt_packet.proofs.parts_lemmas.Parts.{malformed_ok, known_ok}
use Rattle.mqtt_packet.proofs.codec_lemmas.HeadLemmas.{head_is, IsHead, is_head}
use Rattle.mqtt_packet.proofs.connect_lemmas.ConnectLemmas.{mqtt_is_text}
use Rattle.mqtt_packet.proofs.codec_lemmas.BodyLemmas.{body_takes, body_again}

-- ---- frames

record Frames (bytes : List ℕ) (h : Head) (body : List ℕ) : Type 0 where
  is : bytes ≡ framed h body
  small : length body < 2 ^ 28
  head : IsHead h
  fits : IsBytes body

frame_takes : (bytes : List ℕ) (x : Head × List ℕ) → IsBytes bytes → frame_at bytes ≡ Ok x → Frames bytes x.0 x.1
unfolding frame_at
frame_takes [] x fits e = absurd cc
frame_takes (b ∷ bytes) x fits e =
    let a = bind_ok (known (head_of b)) (λ h. sized_at bytes >>= λ body. Ok (h, body)) x e in
    let d = bind_ok (sized_at bytes) (λ body. Ok (a.0, body)) x a.2 in
    let c = bind_ok (malformed (varint_at bytes)) (λ n. cond (eqb (length n.1) n.0) (Ok n.1) (Err Malformed)) d.0 d.1 in
    let n = c.0 in
    let g = when_ok (eqb (length n.1) n.0) Malformed (Ok n.1) d.0 c.2 in
    let made : (a.0, n.1) ≡ x = ap (λ (w : List ℕ). (a.0, w)) (ok_is n.1 d.0 g.1) ∙ ok_is (a.0, d.0) x d.2 in
    let is : first a.0 ≡ b = head_is b a.0 (known_ok (head_of b) a.0 a.1) in
    let len : length n.1 ≡ n.0 = eqb-true _ _ g.0 in
    let t = varint_reads bytes n (IsBytes-rest b bytes fits) (malformed_ok (varint_at bytes) n c.1) in
    let parts : (b ∷ bytes) ≡ framed a.0 n.1 = ap (λ (w : List ℕ). b ∷ w) t.0.parts ∙ ap (λ (i : ℕ). i ∷ (varint n.0 ++ n.1)) (sym is) ∙ ap (λ (k : ℕ). first a.0 ∷ (varint k ++ n.1)) (sym len) in
    subst (λ (y : Head × List ℕ). Frames (b ∷ bytes) y.0 y.1) made
    (record { is = parts; small = omega (arith, len, t.1); head = ap head_of is ∙ known_ok (head_of b) a.0 a.1; fits = t.0.rest_fits })

same_length : (n : ℕ) → eqb n n ≡ true
same_length n = grind arith

frame_again : (h : Head) (body : List ℕ) → IsHead h → length body < 2 ^ 28 → frame_at (framed h body) ≡ Ok (h, body)
unfolding frame_at
frame_again h body is lt = rw (is, varint_rereads (length body) body lt, same_length (length body)) refl

layout_frame : (bytes : List ℕ) (p : Packet) → HasLayout p bytes → (body : List ℕ) × (frame_at bytes ≡ Ok (head p, body)) × IsBody p body
layout_frame bytes p (fits, (body, is, lt, e)) = (body, ap frame_at e ∙ frame_again (head p) body (is_head p) lt, is)

-- the packet of a frame has a layout
layout_takes : (bytes : List ℕ) (h : Head) (body : List ℕ) (p : Packet) → Frames bytes h body → body_at h body ≡ Ok p → HasLayout p bytes
layout_takes bytes h body p f e =
    let b = body_takes h body p f.fits e in
    (b.fits, (body, b.is, f.small, f.is ∙ ap (λ (g : Head). framed g body) (sym (b.head f.head))))

-- each layout is read again
layout_again : (bytes : List ℕ) (h : Head) (body : List ℕ) (p : Packet) → frame_at bytes ≡ Ok (h, body) → HasLayout p bytes → body_at h body ≡ Ok p
layout_again bytes h body p e layout =
    let f = layout_frame bytes p layout in
    let same : (head p, f.0) ≡ (h, body) = ok_is (head p, f.0) (h, body) (sym f.1 ∙ e) in
    subst (λ (x : Head × List ℕ). body_at x.0 x.1 ≡ Ok p) same (body_again p f.0 layout.0 f.2)

-- no bytes spell two packets
pub one_packet : (bytes : List ℕ) (p q : Packet) → HasLayout p bytes → HasLayout q bytes → p ≡ q
one_packet bytes p q s t =
    let f = layout_frame bytes p s in
    ok_is p q (sym (body_again p f.0 s.0 f.2) ∙ layout_again bytes (head p) f.0 q f.1 t)

-- ---- versions

-- a CONNECT's body that begins with another name or version
abbrev BeginsOther : List ℕ → Type 0
BeginsOther body = (protocol : List ℕ) × (version : ℕ) × (rest : List ℕ) × FitsText protocol × (is_version_5 protocol version ≡ false) × (body ≡ blob protocol ++ version ∷ rest)

versioned_takes : (body : List ℕ) → IsBytes body → versioned_at body ≡ Ok false → BeginsOther body
unfolding versioned_at
versioned_takes body fits e =
    let p = bind_ok (text_at body) (λ protocol. u8_at protocol.1 >>= λ version. Ok (is_version_5 protocol.0 version.0)) false e in
    let v = bind_ok (u8_at p.0.1) (λ version. Ok (is_version_5 p.0.0 version.0)) false p.2 in
    let t0 = text_takes body p.0 fits p.1 in
    let t1 = byte_takes p.0.1 v.0 t0.0.rest_fits v.1 in
    (p.0.0, v.0.0, v.0.1, (t0.1, t0.2), ok_is (is_version_5 p.0.0 v.0.0) false v.2, t0.0.parts ∙ ap (λ (w : List ℕ). blob p.0.0 ++ w) t1.0.parts)

versioned_again : (protocol : List ℕ) (version : ℕ) (rest : List ℕ) → FitsText protocol → is_version_5 protocol version ≡ false → versioned_at (blob protocol ++ version ∷ rest) ≡ Ok false
unfolding versioned_at
versioned_again protocol version rest fits other = rw (text_again protocol (version ∷ rest) fits.0 fits.1, other) refl

-- a frame of another version is told so
other_version : (bytes : List ℕ) (h : Head) (body : List ℕ) → frame_at bytes ≡ Ok (h, body) → IsOtherVersion bytes → version_at h body ≡ Err Version
other_version bytes h body e (protocol, version, rest, fits, other, small, is) =
    let start = blob protocol ++ version ∷ rest in
    let read : frame_at bytes ≡ Ok (heads.Connect, start) = ap frame_at is ∙ frame_again heads.Connect start refl small in
    let same : (heads.Connect, start) ≡ (h, body) = ok_is (heads.Connect, start) (h, body) (sym read ∙ e) in
    subst (λ (x : Head × List ℕ). version_at x.0 x.1 ≡ Err Version) same (ap version_by (versioned_again protocol version rest fits other))

version_by_err : (r : Result Bool ReadFault) (f : Fault) → version_by r ≡ Err f → (r ≡ Ok false) × (Version ≡ f)
version_by_err (Ok true) f e = absurd cc
version_by_err (Ok false) f e = (refl, cc)
version_by_err (Err d) f e = absurd cc

version_err : (h : Head) (body : List ℕ) (f : Fault) → version_at h body ≡ Err f → (h ≡ heads.Connect) × (versioned_at body ≡ Ok false) × (Version ≡ f)
version_err heads.Connect body f e =
    let v = version_by_err (versioned_at body) f e in
    (refl, v.0, v.1)
version_err heads.Connack body f e = absurd cc
version_err (heads.Publish dup q retain) body f e = absurd cc
version_err heads.Puback body f e = absurd cc
version_err heads.Pubrec body f e = absurd cc
version_err heads.Pubrel body f e = absurd cc
version_err heads.Pubcomp body f e = absurd cc
version_err heads.Subscribe body f e = absurd cc
version_err heads.Suback body f e = absurd cc
version_err heads.Unsubscribe body f e = absurd cc
version_err heads.Unsuback body f e = absurd cc
version_err heads.Pingreq body f e = absurd cc
version_err heads.Pingresp body f e = absurd cc
version_err heads.Disconnect body f e = absurd cc
version_err heads.Auth body f e = absurd cc

version_refused : (bytes : List ℕ) (h : Head) (body : List ℕ) (f : Fault) → Frames bytes h body → version_at h body ≡ Err f → Refusal f bytes
version_refused bytes h body f frame e =
    let v = version_err h body f e in
    let o = versioned_takes body frame.fits v.1 in
    let small : length (blob o.0 ++ o.1 ∷ o.2) < 2 ^ 28 = subst (λ (w : List ℕ). length w < 2 ^ 28) o.5 frame.small in
    let is : bytes ≡ framed heads.Connect (blob o.0 ++ o.1 ∷ o.2) = frame.is ∙ ap (λ (g : Head). framed g body) v.0 ∙ ap (framed heads.Connect) o.5 in
    subst (λ (g : Fault). Refusal g bytes) v.2 (o.0, o.1, o.2, o.3, o.4, small, is)

-- ---- packets

-- a packet that was read is spelled by its bytes
pub packet_takes : (bytes : List ℕ) (p : Packet) → IsBytes bytes → packet_at bytes ≡ Ok p → Spells p bytes
unfolding packet_at lawful_at
packet_takes bytes p fits e =
    let f = bind_ok (malformed (frame_at bytes)) (λ f. lawful_at f.0 f.1) p e in
    let h = f.0.0 in
    let body = f.0.1 in
    let u = bind_ok (version_at h body) (λ u. malformed (body_at h body) >>= λ q. cond (is_lawful q) (Ok q) (Err Protocol)) p f.2 in
    let a = bind_ok (malformed (body_at h body)) (λ q. cond (is_lawful q) (Ok q) (Err Protocol)) p u.2 in
    let g = when_ok (is_lawful a.0) Protocol (Ok a.0) p a.2 in
    let frame = frame_takes bytes f.0 fits (malformed_ok (frame_at bytes) f.0 f.1) in
    subst (λ (q : Packet). Spells q bytes) (ok_is a.0 p g.1) (layout_takes bytes h body a.0 frame (malformed_ok (body_at h body) a.0 a.1), g.0)

delivery_version : (d : Delivery) (retain : Bool) (body : List ℕ) → version_at (delivery_head d retain) body ≡ Ok tt
delivery_version AtMostOnce retain body = refl
delivery_version (AtLeastOnce dup id) retain body = refl
delivery_version (ExactlyOnce dup id) retain body = refl

-- the body of a packet begins with its version
version_again : (p : Packet) (body : List ℕ) → Fits p → IsBody p body → version_at (head p) body ≡ Ok tt
unfolding versioned_at
version_again (Connect c) body fits is =
    let rest = flags_byte (flags_of_connect c) ∷ connect_fields c in
    rw (is, text_again mqtt (5 ∷ rest) (omega arith) mqtt_is_text) refl
version_again (Connack c) body fits is = refl
version_again (Publish p) body fits is = delivery_version p.delivery p.retain body
version_again (Puback a) body fits is = refl
version_again (Pubrec a) body fits is = refl
version_again (Pubrel a) body fits is = refl
version_again (Pubcomp a) body fits is = refl
version_again (Subscribe s) body fits is = refl
version_again (Suback s) body fits is = refl
version_again (Unsubscribe u) body fits is = refl
version_again (Unsuback u) body fits is = refl
version_again Pingreq body fits is = refl
version_again Pingresp body fits is = refl
version_again (Disconnect n) body fits is = refl
version_again (Auth n) body fits is = refl

-- bytes that spell a packet are read as it
pub packet_again : (bytes : List ℕ) (p : Packet) → Spells p bytes → packet_at bytes ≡ Ok p
unfolding packet_at lawful_at
packet_again bytes p s =
    let f = layout_frame bytes p s.0 in
    rw (f.1, version_again p f.0 s.0.0 f.2, body_again p f.0 s.0.0 f.2, s.1) refl

-- ---- refusals

body_refused : (bytes : List ℕ) (h : Head) (body : List ℕ) (f : Fault) (read : Result Packet Fault) → Frames bytes h body → frame_at bytes ≡ Ok (h, body) → version_at h body ≡ Ok tt → body_at h body ≡ read
    → (malformed read >>= λ p. cond (is_lawful p) (Ok p) (Err Protocol)) ≡ Err f → Refusal f bytes
body_refused bytes h body f (Ok p) frame e v b r =
    elim (chosen (is_lawful p) (Ok p) (Err Protocol) (Err f) r) [
      | inl t ↦ absurd (cc t.1)
      | inr t ↦
          let same : Protocol ≡ f = cc t.1 in
          subst (λ (g : Fault). Refusal g bytes) same (p, layout_takes bytes h body p frame b, t.0)
    ]
body_refused bytes h body f (Err g) frame e v b r =
    let same : Malformed ≡ f = cc r in
    subst (λ (k : Fault). Refusal k bytes) same (
      λ p layout. let bad = sym b ∙ layout_again bytes h body p e layout in absurd (cc bad),
      λ other. let bad = sym v ∙ other_version bytes h body e other in absurd (cc bad),
    )

version_refusal : (bytes : List ℕ) (h : Head) (body : List ℕ) (f : Fault) (said : Result (Unit {0}) Fault) → Frames bytes h body → frame_at bytes ≡ Ok (h, body) → version_at h body ≡ said
    → (said >>= λ u. malformed (body_at h body) >>= λ p. cond (is_lawful p) (Ok p) (Err Protocol)) ≡ Err f → Refusal f bytes
version_refusal bytes h body f (Ok u) frame e v r = body_refused bytes h body f (body_at h body) frame e v refl r
version_refusal bytes h body f (Err g) frame e v r =
    let same : g ≡ f = cc r in
    subst (λ (k : Fault). Refusal k bytes) same (version_refused bytes h body g frame v)

frame_refused : (bytes : List ℕ) (f : Fault) (read : Result (Head × List ℕ) Fault) → IsBytes bytes → frame_at bytes ≡ read → (malformed read >>= λ x. lawful_at x.0 x.1) ≡ Err f → Refusal f bytes
unfolding lawful_at
frame_refused bytes f (Ok x) fits e r = version_refusal bytes x.0 x.1 f (version_at x.0 x.1) (frame_takes bytes x fits e) e refl r
frame_refused bytes f (Err g) fits e r =
    let same : Malformed ≡ f = cc r in
    subst (λ (k : Fault). Refusal k bytes) same (
      λ p layout.
          let l = layout_frame bytes p layout in
          let bad = sym e ∙ l.1 in
          absurd (cc bad),
      λ other.
          let start = blob other.0 ++ other.1 ∷ other.2 in
          let bad = sym e ∙ (ap frame_at other.6 ∙ frame_again heads.Connect start refl other.5) in
          absurd (cc bad),
    )

-- ---- what a function found

-- what the reader finds is spelled by the bytes
pub packet_found : {X : Type 0} (view : X → Packet) (bytes : List ℕ) (r : Result X Fault) → IsBytes bytes → Gives view r (packet_at bytes) → IfOk r (λ x. Spells (view x) bytes)
packet_found {X} view bytes (Ok x) fits given = packet_takes bytes (view x) fits given
packet_found {X} view bytes (Err f) fits given = tt

-- and nothing else is
pub packet_only : {X : Type 0} (view : X → Packet) (bytes : List ℕ) (r : Result X Fault) → Gives view r (packet_at bytes) → (p : Packet) → Spells p bytes → Gives view r (Ok p)
packet_only {X} view bytes r given p s = subst (λ (read : Result Packet Fault). Gives view r read) (packet_again bytes p s) given

-- what it refuses is refused for what the standard says
pub packet_refused : {X : Type 0} (view : X → Packet) (bytes : List ℕ) (r : Result X Fault) → IsBytes bytes → Gives view r (packet_at bytes) → IfErr r (λ f. Refusal f bytes)
unfolding packet_at
packet_refused {X} view bytes (Ok x) fits given = tt
packet_refused {X} view bytes (Err f) fits given = frame_refused bytes f (frame_at bytes) fits refl given
