-- Each packet that the broker writes has a spelling, by what it is made of (MQTT 5.0, 3.2 to 3.14).
use Rattle.std.proofs.Common.{◌≡◌, ℕ, ◌+◌, ◌*◌, ◌≤◌, ◌<◌, ◌^◌, Bool, true, false, not, ◌&&◌, ◌||◌, List, [], ◌∷◌, ◌++◌, length, map, eqb, refl, sym, subst, arith, inl, inr}
use Rattle.std.specs.Int.Digits.{digits_of}
use Rattle.std.specs.Prelude.{⊤, ◌==◌, codes, decimal, nat_lt}
use Rattle.std.specs.Str.{IsAscii}
use Rattle.std.specs.List.{list_any}
use Rattle.std.proofs.lemmas.Bool.{cases_Bool, lt-ltb}
use Rattle.std.proofs.lemmas.Fmt.{decimal-digits_of, length-decimal-le, IsAscii-decimal}
use Rattle.std.proofs.lemmas.List.{length-append}
use Rattle.std.proofs.lemmas.Str.{IsAscii-append, IsUtf8-from_ascii}
use Rattle.std.proofs.lemmas.Str.Ascii.{IsAscii-cons, IsAscii-nil}
use Rattle.mqtt_base.specs.Codes.{success}
use Rattle.mqtt_base.specs.Reasons.{is_code}
use Rattle.mqtt_base.specs.Values.{varint, blob, two_bytes, FitsText}
use Rattle.mqtt_base.specs.declared.kind.Kind.{Kind}
use Rattle.mqtt_base.specs.declared.kind.Kind.TheVariants as kinds
use Rattle.mqtt_base.specs.declared.limits.TheConstants.{LAST_NUMBER, ROW_LIMIT}
use Rattle.mqtt_base.specs.declared.session.Qos.{Qos}
use Rattle.mqtt_base.specs.declared.session.Qos.TheVariants as qos
use Rattle.mqtt_base.proofs.Texts.{is_text-utf8}
use Rattle.mqtt_base.proofs.Varints.{varint_sizes}
use Rattle.mqtt_packet.specs.codec.Ack.{FitsAck, ack_body, lawful_ack}
use Rattle.mqtt_packet.specs.codec.Packets.{HasSpelling}
use Rattle.mqtt_packet.specs.codec.Publish.{identifier_field, lawful_identifier, FitsDelivery}
use Rattle.mqtt_packet.specs.codec.Suback.{FitsSuback, suback_body, lawful_suback, are_codes}
use Rattle.mqtt_packet.specs.codec.Tails.{tail}
use Rattle.mqtt_records.specs.declared.messages.message.MessageCopy.{MessageCopy}
use Rattle.mqtt_records.specs.messages.PassedOn.{property}
use Rattle.mqtt_props.specs.Laws.{has, is_lawful}
use Rattle.mqtt_props.specs.Properties.{Text, Prop, FitsBlock, block, prop, props}
use Rattle.mqtt_props.specs.declared.place.Place.{Place}
use Rattle.mqtt_props.specs.declared.place.Place.TheVariants as places
use Rattle.mqtt_props.specs.declared.table.PropName.TheVariants.{AssignedClientIdentifier, TopicAlias}
use Rattle.mqtt_records.specs.state.Session.{auto}
use Rattle.mqtt_records.proofs.lists_lemmas.OrderLemmas.{apart}
use Rattle.mqtt_topic.specs.names.Names.{IsTopicName}
use Rattle.mqtt_rules.specs.step.Connect.{connack_properties}
use Rattle.mqtt_rules.specs.step.Contents.{IsCopiedOf, of_rows}
use Rattle.mqtt_rules.specs.step.Packets.{connack, puback, pubrec, pubrel, pubcomp, suback, unsuback, disconnect, delivery_by, properties_sent, publish_of, seconds_waited, reason}
use Rattle.mqtt_rules.proofs.step_lemmas.contents.SentContents.{longest, sent_size, sent_fits, sent_may, sent_lawful}
use Rattle.mqtt_rules.specs.spelling.Sending.{IsPacketIdentifier}

-- ---- parts

both : (x y : Bool) → x ≡ true → y ≡ true → (x && y) ≡ true
both true true p q = refl
both true false p q = q
both false y p q = p

no_properties : FitsBlock []
no_properties = record { each = tt; short = omega arith }

positive : (id : ℕ) → IsPacketIdentifier id → nat_lt 0 id ≡ true
positive id h = lt-ltb 0 id h.some

tail_short : (code : ℕ) → length (tail code []) ≤ 1
tail_short code = elim (cases_Bool (code == success)) [
  | inl none ↦ rw none (omega arith)
  | inr some ↦ rw some (omega arith)
]

-- ---- acknowledgements

ack_spelled : (kind : Kind) (place : Place) (id code : ℕ) → IsPacketIdentifier id → is_code kind code ≡ true
    → FitsAck kind place (record { identifier = id; reason = reason code; properties = [] })
    × (length (ack_body (record { identifier = id; reason = reason code; properties = [] })) < 2 ^ 28)
    × (lawful_ack place (record { identifier = id; reason = reason code; properties = [] }) ≡ true)
ack_spelled kind place id code q is =
    let whole = length-append (two_bytes id) (tail code []) in
    let few = tail_short code in
    ((q.fits, is, (no_properties, refl)), omega (arith, whole, few), positive id q)

-- a PUBACK has a spelling
pub puback_spelled : (id code : ℕ) → IsPacketIdentifier id → is_code kinds.Puback code ≡ true → HasSpelling (puback id code)
puback_spelled id code q is = ack_spelled kinds.Puback places.Puback id code q is

-- a PUBREC
pub pubrec_spelled : (id code : ℕ) → IsPacketIdentifier id → is_code kinds.Pubrec code ≡ true → HasSpelling (pubrec id code)
pubrec_spelled id code q is = ack_spelled kinds.Pubrec places.Pubrec id code q is

-- a PUBREL
pub pubrel_spelled : (id code : ℕ) → IsPacketIdentifier id → is_code kinds.Pubrel code ≡ true → HasSpelling (pubrel id code)
pubrel_spelled id code q is = ack_spelled kinds.Pubrel places.Pubrel id code q is

-- a PUBCOMP
pub pubcomp_spelled : (id code : ℕ) → IsPacketIdentifier id → is_code kinds.Pubcomp code ≡ true → HasSpelling (pubcomp id code)
pubcomp_spelled id code q is = ack_spelled kinds.Pubcomp places.Pubcomp id code q is

-- ---- SUBACK and UNSUBACK

block_empty : length (block []) ≡ 1
unfolding varint
block_empty = refl

codes_spelled : (kind : Kind) (place : Place) (id : ℕ) (codes : List ℕ) → IsPacketIdentifier id → are_codes kind codes ≡ true → not (length codes == 0) ≡ true → length codes < 2 ^ 27
    → FitsSuback kind place (record { identifier = id; properties = []; codes = codes })
    × (length (suback_body (record { identifier = id; properties = []; codes = codes })) < 2 ^ 28)
    × (lawful_suback place (record { identifier = id; properties = []; codes = codes }) ≡ true)
codes_spelled kind place id codes q are some few =
    let rest = length-append (block []) codes in
    let whole = length-append (two_bytes id) (block [] ++ codes) in
    let none = block_empty in
    ((q.fits, (no_properties, refl), are), omega (arith, whole, rest, none, few), both (nat_lt 0 id) (not (length codes == 0)) (positive id q) some)

-- a SUBACK
pub suback_spelled : (id : ℕ) (codes : List ℕ) → IsPacketIdentifier id → are_codes kinds.Suback codes ≡ true → not (length codes == 0) ≡ true → length codes < 2 ^ 27 → HasSpelling (suback id codes)
suback_spelled id codes q are some few = codes_spelled kinds.Suback places.Suback id codes q are some few

-- an UNSUBACK
pub unsuback_spelled : (id : ℕ) (codes : List ℕ) → IsPacketIdentifier id → are_codes kinds.Unsuback codes ≡ true → not (length codes == 0) ≡ true → length codes < 2 ^ 27 → HasSpelling (unsuback id codes)
unsuback_spelled id codes q are some few = codes_spelled kinds.Unsuback places.Unsuback id codes q are some few

-- ---- DISCONNECT and CONNACK

-- a DISCONNECT
pub disconnect_spelled : (code : ℕ) → is_code kinds.Disconnect code ≡ true → HasSpelling (disconnect code)
disconnect_spelled code is = let few = tail_short code in ((is, (no_properties, refl)), omega (arith, few), refl)

block_length : (ps : List Prop) (n : ℕ) → length (props ps) ≤ n → n < 2 ^ 28 → length (block ps) ≤ 4 + n
block_length ps n le below =
    let parts = length-append (varint (length (props ps))) (props ps) in
    let four = varint_sizes (length (props ps)) 268435455 (omega (arith, le, below)) in
    let top = longest in
    omega (arith, parts, four, top, le)

-- and a CONNACK that refuses
pub refusal_spelled : (code : ℕ) → is_code kinds.Connack code ≡ true → HasSpelling (connack false code [])
refusal_spelled code is =
    let few = block_length [] 0 (omega arith) (omega arith) in
    ((is, (no_properties, refl)), omega (arith, few), both true (code == success || true) refl (or_true (code == success)))
  where
    or_true : (x : Bool) → (x || true) ≡ true
    or_true true = refl
    or_true false = refl

-- what is granted
pub granted_spelled : (present : Bool) → HasSpelling (connack present success (connack_properties false []))
granted_spelled present =
    let few = block_length (connack_properties false []) 11 (omega arith) (omega arith) in
    ((refl, (record { each = (record { kind = refl; fits = omega arith }, (record { kind = refl; fits = omega arith }, (record { kind = refl; fits = omega arith }, tt))); short = omega arith }, refl)), omega (arith, few), refl)

no_zero_digits : (ds : List ℕ) → list_any (λ b. eqb b 0) (map (λ d. 48 + d) ds) ≡ false
no_zero_digits [] = refl
no_zero_digits (d ∷ ds) = let other : eqb (48 + d) 0 ≡ false = apart (48 + d) 0 (λ same. omega (arith, same)) in rw other (no_zero_digits ds)

front_ascii : IsAscii auto
front_ascii = IsAscii-cons 97 (codes "uto-") (omega arith) (IsAscii-cons 117 (codes "to-") (omega arith) (IsAscii-cons 116 (codes "o-") (omega arith) (IsAscii-cons 111 (codes "-") (omega arith) (IsAscii-cons 45 [] (omega arith) IsAscii-nil))))

-- a client identifier that the broker assigns is a text
name_text : (n : ℕ) → 1 ≤ n → n ≤ LAST_NUMBER → (length (auto ++ decimal n) ≤ 25) × FitsText (auto ++ decimal n)
name_text n some le =
    let few = length-decimal-le 20 n (omega arith) (omega (arith, le)) (omega (arith, le)) in
    let whole = length-append auto (decimal n) in
    let front : length auto ≡ 5 = refl in
    let digits = decimal-digits_of n (omega (arith, some)) (omega (arith, le)) in
    let ascii = IsAscii-append auto (decimal n) front_ascii (IsAscii-decimal n (omega (arith, le))) in
    let none : list_any (λ b. eqb b 0) (auto ++ decimal n) ≡ false = subst (λ (ds : List ℕ). list_any (λ b. eqb b 0) (auto ++ ds) ≡ false) (sym digits) (no_zero_digits (digits_of 10 n)) in
    (omega (arith, few, whole, front), (omega (arith, few, whole, front), is_text-utf8 (auto ++ decimal n) none (IsUtf8-from_ascii (auto ++ decimal n) ascii)))

-- what is granted to a client whose identifier is assigned
pub assigned_spelled : (n : ℕ) → 1 ≤ n → n ≤ LAST_NUMBER → HasSpelling (connack false success (connack_properties true (auto ++ decimal n)))
assigned_spelled n some le =
    let client = auto ++ decimal n in
    let named = name_text n some le in
    let few = named.0 in
    let first = property AssignedClientIdentifier (Text client) in
    let sum = length-append (prop first) (props (connack_properties false [])) in
    let own = length-append (two_bytes (length client)) client in
    let short : length (props (connack_properties true client)) ≤ 100 = omega (arith, sum, own, few) in
    let size = block_length (connack_properties true client) 100 short (omega arith) in (
      (refl, (record { each = (record { kind = refl; fits = named.1 }, (record { kind = refl; fits = omega arith }, (record { kind = refl; fits = omega arith }, (record { kind = refl; fits = omega arith }, tt)))); short = omega (arith, short) }, refl)),
      omega (arith, size),
      refl,
    )

-- ---- PUBLISH

-- at QoS 0 it has no identifier
abbrev pub IsIdentifierAt : Qos → ℕ → Type 0
IsIdentifierAt qos.AtMostOnce id = ⊤
IsIdentifierAt qos.AtLeastOnce id = IsPacketIdentifier id
IsIdentifierAt qos.ExactlyOnce id = IsPacketIdentifier id

-- a packet identifier may stand in a PUBLISH of QoS 1 or 2
pub identifier_at : (q : Qos) (id : ℕ) → IsPacketIdentifier id → IsIdentifierAt q id
identifier_at qos.AtMostOnce id h = tt
identifier_at qos.AtLeastOnce id h = h
identifier_at qos.ExactlyOnce id h = h

delivery_fits : (q : Qos) (dup : Bool) (id : ℕ) → IsIdentifierAt q id → FitsDelivery (delivery_by q dup id) × (lawful_identifier (delivery_by q dup id) ≡ true) × (length (identifier_field (delivery_by q dup id)) ≤ 2)
delivery_fits qos.AtMostOnce dup id h = (tt, refl, omega arith)
delivery_fits qos.AtLeastOnce dup id h = (h.fits, positive id h, omega arith)
delivery_fits qos.ExactlyOnce dup id h = (h.fits, positive id h, omega arith)

some_topic : (topic : List ℕ) (x : Bool) → IsTopicName topic → (nat_lt 0 (length topic) || x) ≡ true
some_topic [] x h = absurd (h.some refl)
some_topic (c ∷ cs) x h = let some : nat_lt 0 (length (c ∷ cs)) ≡ true = lt-ltb 0 (length (c ∷ cs)) (omega arith) in rw some refl

-- a copy's PUBLISH has a spelling
pub publish_spelled : (now : ℕ) (dup : Bool) (id : ℕ) (copy : MessageCopy) → IsCopiedOf of_rows copy → IsIdentifierAt copy.qos id → HasSpelling (publish_of now dup id copy)
publish_spelled now dup id copy h q =
    let waited = seconds_waited now copy.content in
    let ps = copy.content.properties in
    let topic = copy.content.topic in
    let payload = copy.content.payload in
    let d = delivery_by copy.qos dup id in
    let own = delivery_fits copy.qos dup id q in
    let parts = length-append (varint (length (props ps))) (props ps) in
    let bytes = h.content.short in
    let short : length (props ps) + length payload ≤ ROW_LIMIT = omega (arith, parts, bytes) in
    let sent = sent_size of_rows waited copy.identifiers ps h.identifiers h.content.fits in
    let size = block_length (properties_sent now copy) (length (props ps) + 5 * ROW_LIMIT) sent (omega (arith, short)) in
    let long = h.content.named.fits.0 in
    let field = own.2 in
    let first = length-append (blob topic) (identifier_field d ++ (block (properties_sent now copy) ++ payload)) in
    let named = length-append (two_bytes (length topic)) topic in
    let second = length-append (identifier_field d) (block (properties_sent now copy) ++ payload) in
    let third = length-append (block (properties_sent now copy)) payload in
    let may = sent_may of_rows waited copy.identifiers ps h.identifiers h.content.may in
    let lawful = sent_lawful of_rows waited copy.identifiers ps h.identifiers h.content.may h.content.lawful in (
      (own.0, h.content.named.fits, (sent_fits of_rows waited copy.identifiers ps h.identifiers h.content.fits (omega (arith, short)), may)),
      omega (arith, first, named, second, third, field, long, size, short),
      both (is_lawful places.Publish (properties_sent now copy)) (lawful_identifier d && (nat_lt 0 (length topic) || has TopicAlias (properties_sent now copy))) lawful
          (both (lawful_identifier d) (nat_lt 0 (length topic) || has TopicAlias (properties_sent now copy)) own.1 (some_topic topic (has TopicAlias (properties_sent now copy)) h.content.named.name)),
    )
