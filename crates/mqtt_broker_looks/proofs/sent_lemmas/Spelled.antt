-- The size of a copy's PUBLISH, and its spelling by parts (MQTT 5.0, 2.1, 3.3).
use Rattle.std.proofs.Common.{◌≡◌, ℕ, ◌+◌, ◌<◌, ◌^◌, Bool, true, false, cond, List, [], ◌∷◌, ◌++◌, length, map, Option, Some, None, Result, Ok, Err, OnOk, refl, sym, ap, subst, ◌∙◌, append_assoc, arith}
use Rattle.std.specs.Prelude.{◌↔◌, IfSome, IsTrue, MatchOption, OnSome, is_some, nat_lt}
use Rattle.std.proofs.lemmas.Bool.{lt-ltb, ltb-true}
use Rattle.std.proofs.lemmas.List.{length-append}
use Rattle.std.proofs.lemmas.List.Concat.{flat_map-cons}
use Rattle.std.proofs.lemmas.Grind.{flat_map-append}
use Rattle.mqtt_base.specs.declared.session.Qos.{Qos}
use Rattle.mqtt_base.specs.declared.session.Qos.TheVariants.{AtMostOnce, AtLeastOnce, ExactlyOnce}
use Rattle.mqtt_base.specs.Values.{varint, blob, two_bytes}
use Rattle.mqtt_base.proofs.Varints.{size_fourth, varint_sizes}
use Rattle.std.specs.List.{AllByRecursion}
use Rattle.mqtt_props.specs.declared.table.PropName.TheVariants.{AssignedClientIdentifier, TopicAlias, UserProperty}
use Rattle.mqtt_props.specs.Properties.{FitsBlock, Prop, IsProp, Text, U16, prop, block, props}
use Rattle.mqtt_props.specs.Edits.{only, without}
use Rattle.mqtt_topic.specs.declared.sending.form.Form.{Form}
use Rattle.mqtt_topic.specs.declared.sending.form.Form.TheVariants.{Plain}
use Rattle.mqtt_topic.specs.declared.sending.sizes.OtherBytes.{OtherBytes}
use Rattle.mqtt_topic.specs.sending.Told.{alias_in, topic_in}
use Rattle.mqtt_topic.specs.sending.Sizes as sizes
use Rattle.mqtt_topic.specs.sending.Sizes.{alias_size}
use Rattle.mqtt_records.specs.messages.PassedOn.{aged, identified, property, sent_after}
use Rattle.mqtt_packet.specs.codec.Publish.{identifier_field, delivery_head}
use Rattle.mqtt_packet.specs.codec.Heads.{first}
use Rattle.mqtt_packet.specs.declared.codec.packet.Packet.TheVariants as packets
use Rattle.mqtt_packet.specs.codec.Packets.{shortest_of}
use Rattle.mqtt_records.specs.declared.messages.message.MessageCopy.{MessageCopy}
use Rattle.mqtt_records.specs.messages.Queue.{IsSpelled, first_sent, publish_size}
use Rattle.mqtt_records.proofs.messages_lemmas.SentSizes.{own-each}
use Rattle.mqtt_rules.specs.step.Forms.{form_remaining, form_size, in_form, other_bytes, published_of, with_alias}
use Rattle.mqtt_rules.specs.step.Packets.{delivery_by, properties_sent, seconds_waited, size_of, suback, unsuback}
use Rattle.mqtt_rules.specs.step.Connect.{connack_properties}
use Rattle.mqtt_rules.proofs.step_lemmas.contents.CopySizes.{props_sent, sent_size}
use Rattle.mqtt_rules.proofs.step_lemmas.forms.FormBlocks.{alias_between}
use Rattle.mqtt_rules.proofs.step_lemmas.forms.FormSizes.{copy_body, copy_in_form, plain_remaining, props_in_form}
use Rattle.mqtt_broker_looks.specs.declared.sent.copies.Lengths.{Lengths}
use Rattle.mqtt_broker_looks.specs.sent.Frames.{alias_alone, identifier_bytes, IsSizeIn, IsSizeOf, IsSpelledIn, Measures, sent_body, frame}

-- ---- the body

field_is : (qos : Qos) (dup : Bool) (id : ℕ) → identifier_field (delivery_by qos dup id) ≡ identifier_bytes qos id
field_is AtMostOnce dup id = refl
field_is AtLeastOnce dup id = refl
field_is ExactlyOnce dup id = refl

-- a copy's PUBLISH in a form is spelled by its head and body
pub spelled_by : (now id : ℕ) (dup : Bool) (form : Form) (copy : MessageCopy) → shortest_of (packets.Publish (in_form form (published_of now dup id copy))) ≡ frame (first (delivery_head (delivery_by copy.qos dup id) copy.retain)) (sent_body now id form copy)
spelled_by now id dup form copy =
    let rest = block (with_alias (alias_in form) (properties_sent now copy)) ++ copy.content.payload in
    let head = first (delivery_head (delivery_by copy.qos dup id) copy.retain) in
    ap (λ (f : List ℕ). frame head (blob (topic_in form copy.content.topic) ++ (f ++ rest))) (field_is copy.qos dup id)

-- its body is as long as its Remaining Length says
pub body-length : (now id : ℕ) (dup : Bool) (form : Form) (copy : MessageCopy) → length (sent_body now id form copy) ≡ form_remaining form copy
body-length now id dup form copy =
    let rest = block (with_alias (alias_in form) (properties_sent now copy)) ++ copy.content.payload in
    ap (λ (f : List ℕ). length (blob (topic_in form copy.content.topic) ++ (f ++ rest))) (sym (field_is copy.qos dup id))
    ∙ copy_body form copy now id dup

-- a frame is its first byte, its length and its body
pub frame-length : (head : ℕ) (body : List ℕ) → length (frame head body) ≡ 1 + length (varint (length body)) + length body
frame-length head body = let sum = length-append (varint (length body)) body in omega (arith, sum)

-- a copy has the size of its PUBLISH
pub size_stays : (copy : MessageCopy) → IsSizeOf copy (publish_size copy)
size_stays copy now id dup = sym (sent_size now dup id copy)

-- what is told of a copy's size in a form is exact
pub record TellsSize (form : Form) (copy : MessageCopy) (o : Option ℕ) : Type 0 where
  pub exact : MatchOption o (¬ IsSpelledIn form copy) (IsSizeIn form copy)
  pub spelled : OnSome o (IsSpelledIn form copy)
  pub bound : IfSome o (λ size. size < 2 ^ 28 + 5)

size_by : (form : Form) (copy : MessageCopy) → FitsBlock (first_sent copy) → (t : Bool) → nat_lt (form_remaining form copy) (2 ^ 28) ≡ t
    → TellsSize form copy (cond t (Some (form_size form copy)) None)
size_by form copy fits true is =
    let short = ltb-true (form_remaining form copy) (2 ^ 28) is in
    let few = varint_sizes (form_remaining form copy) (2 ^ 28) (omega (arith, short)) in
    let four = size_fourth (2 ^ 28) (omega arith) in
    record {
      exact = λ now id dup. sym (copy_in_form form copy now id dup);
      spelled = record { properties = fits; short = short };
      bound = omega (arith, short, few, four);
    }
size_by form copy fits false is = record {
  exact = λ spelled. let no : true ≡ false = sym (lt-ltb (form_remaining form copy) (2 ^ 28) spelled.short) ∙ is in absurd cc;
  spelled = tt;
  bound = tt;
}

-- so it is by the topic and the other bytes, if the properties are a block
pub tells_size : (form : Form) (copy : MessageCopy) (topic : List ℕ) (other : OtherBytes) (o : Option ℕ) → topic ≡ copy.content.topic → other ≡ other_bytes copy
    → FitsBlock (first_sent copy) → o ≡ sizes.size_in form topic other → TellsSize form copy o
tells_size form copy topic other o topic_is other_is fits is =
    subst (TellsSize form copy)
    (sym (is ∙ (ap (λ (t : List ℕ). sizes.size_in form t other) topic_is ∙ ap (sizes.size_in form copy.content.topic) other_is)))
    (size_by form copy fits (nat_lt (form_remaining form copy) (2 ^ 28)) refl)

-- what was written is the copy's PUBLISH in that form
pub publish_spelled : (now id : ℕ) (dup : Bool) (form : Form) (copy : MessageCopy) (head len : ℕ) (bytes : List ℕ) → head ≡ first (delivery_head (delivery_by copy.qos dup id) copy.retain) → len ≡ form_remaining form copy → bytes ≡ (head ∷ varint len) ++ sent_body now id form copy → bytes ≡ shortest_of (packets.Publish (in_form form (published_of now dup id copy)))
publish_spelled now id dup form copy head len bytes first_is len_is is =
    let long : length (sent_body now id form copy) ≡ len = body-length now id dup form copy ∙ sym len_is in
    is ∙ ap (λ (h : ℕ). (h ∷ varint len) ++ sent_body now id form copy) first_is
    ∙ ap (λ (n : ℕ). (first (delivery_head (delivery_by copy.qos dup id) copy.retain) ∷ varint n) ++ sent_body now id form copy) (sym long)
    ∙ sym (spelled_by now id dup form copy)

-- a copy whose PUBLISH has a spelling has one in the plain form
pub spelled_plain : (copy : MessageCopy) → IsSpelled copy → IsSpelledIn Plain copy
spelled_plain copy spelled =
    let same = plain_remaining copy in
    let short = spelled.short in
    record { properties = spelled.properties; short = omega (arith, same, short) }

-- and the other way
pub plain_spelled : (copy : MessageCopy) → IsSpelledIn Plain copy → IsSpelled copy
plain_spelled copy spelled =
    let same = plain_remaining copy in
    let short = spelled.short in
    record { properties = spelled.properties; short = omega (arith, same, short) }

-- lengths in the plain form tell it
pub told_plain : (is : Bool) (o : Option Lengths) (copy : MessageCopy) → is ≡ is_some o → MatchOption o (¬ IsSpelledIn Plain copy) (Measures Plain copy) → IsTrue is ↔ IsSpelled copy
told_plain is None copy same none = (λ t. absurd cc, λ spelled. absurd (none (spelled_plain copy spelled)))
told_plain is (Some lengths) copy same measured = (λ t. plain_spelled copy measured.spelled, λ spelled. same)

-- ---- the properties

-- the identifiers of a copy with a spelling have one
pub own_spelled : (form : Form) (copy : MessageCopy) (ids : List ℕ) → ids ≡ copy.identifiers → IsSpelledIn form copy → AllByRecursion IsProp (map identified ids)
own_spelled form copy ids same spelled =
    subst (λ (xs : List ℕ). AllByRecursion IsProp (map identified xs)) (sym same)
    (own-each copy.identifiers copy.content.properties spelled.properties.each)

-- four parts, with the alias between the identifiers and the User Properties, are the block's pairs
pub sent_written : (alias : Option ℕ) (waited : ℕ) (ids : List ℕ) (ps : List Prop) (old a b c new : List ℕ) → a ≡ old ++ props (map (aged waited) (without UserProperty ps)) → b ≡ a ++ props (map identified ids) → c ≡ b ++ props (alias_alone alias) → new ≡ c ++ props (only UserProperty ps) → new ≡ old ++ props (with_alias alias (sent_after waited ids ps))
sent_written alias waited ids ps old a b c new a_is b_is c_is is =
    let aging = map (aged waited) (without UserProperty ps) in
    let own = map identified ids in
    let user = only UserProperty ps in
    let first : new ≡ ((old ++ props aging) ++ props own) ++ props (alias_alone alias) ++ props user = is ∙ rw (c_is, b_is, a_is) refl in
    let second : ((old ++ props aging) ++ props own) ++ props (alias_alone alias) ++ props user ≡ old ++ (props aging ++ (props own ++ (props (alias_alone alias) ++ props user))) = simp append_assoc in
    first ∙ second ∙ ap (λ (xs : List ℕ). old ++ xs) (by alias)
  where
    joined : (xs ys zs : List Prop) → props xs ++ (props ys ++ props zs) ≡ props (xs ++ ys ++ zs)
    joined xs ys zs = rw (flat_map-append prop (xs ++ ys) zs, flat_map-append prop xs ys) (sym (append_assoc (props xs) (props ys) (props zs)))

    by : (alias : Option ℕ) → props (map (aged waited) (without UserProperty ps)) ++ (props (map identified ids) ++ (props (alias_alone alias) ++ props (only UserProperty ps))) ≡ props (with_alias alias (sent_after waited ids ps))
    by None = joined (map (aged waited) (without UserProperty ps)) (map identified ids) (only UserProperty ps)
    by (Some n) =
        let user = only UserProperty ps in
        let behind = property TopicAlias (U16 n) in
        ap (λ (xs : List ℕ). props (map (aged waited) (without UserProperty ps)) ++ (props (map identified ids) ++ xs)) (sym (flat_map-append prop (behind ∷ []) user))
        ∙ joined (map (aged waited) (without UserProperty ps)) (map identified ids) (behind ∷ user)
        ∙ ap props (sym (alias_between n waited ids ps))

-- what was written is the block of what is sent in a form
pub block_written : (now pairs waited : ℕ) (ids : List ℕ) (ps : List Prop) (form : Form) (alias : Option ℕ) (copy : MessageCopy) (old mid new : List ℕ) → pairs ≡ length (props (first_sent copy)) + alias_size form → waited ≡ seconds_waited now copy.content → ids ≡ copy.identifiers → ps ≡ copy.content.properties → alias ≡ alias_in form → mid ≡ old ++ varint pairs → new ≡ mid ++ props (with_alias alias (sent_after waited ids ps)) → new ≡ old ++ block (with_alias (alias_in form) (properties_sent now copy))
block_written now pairs waited ids ps form alias copy old mid new few wait same own form_is first is =
    let all = with_alias (alias_in form) (properties_sent now copy) in
    let sent = props_sent (seconds_waited now copy.content) copy.identifiers copy.content.properties in
    let more = props_in_form form (properties_sent now copy) in
    let long : pairs ≡ length (props all) = omega (arith, few, sent, more) in
    is ∙ rw (first, wait, same, own, form_is) (append_assoc old (varint pairs) (props all) ∙ ap (λ (n : ℕ). old ++ (varint n ++ props all)) long)

-- what follows behind an Ok follows behind this one
pub on_ok : {T E A B : Type 0} (r : Result T E) → (A → B) → OnOk r A → OnOk r B
on_ok (Ok x) f h = f h
on_ok (Err e) f h = tt

-- ---- SUBACK and UNSUBACK

empty_block : block [] ≡ 0 ∷ []
unfolding varint
empty_block = refl

codes-length : (head id : ℕ) (codes : List ℕ) → length (frame head (two_bytes id ++ (block [] ++ codes))) ≡ 1 + length (varint (3 + length codes)) + (3 + length codes)
codes-length head id codes =
    let same = ap (λ (b : List ℕ). length (frame head (two_bytes id ++ (b ++ codes)))) empty_block in
    let few : length (two_bytes id ++ 0 ∷ codes) ≡ 3 + length codes = omega arith in
    same ∙ frame-length head (two_bytes id ++ 0 ∷ codes) ∙ rw few refl

-- a SUBACK's size is made of its codes
pub suback-size : (n len id : ℕ) (codes : List ℕ) → length codes ≡ n → len ≡ length (varint (3 + n)) → 1 + len + (3 + n) ≡ size_of (suback id codes)
suback-size n len id codes few size = rw (size, ← few) (sym (codes-length 0x90 id codes))

-- so is an UNSUBACK's
pub unsuback-size : (n len id : ℕ) (codes : List ℕ) → length codes ≡ n → len ≡ length (varint (3 + n)) → 1 + len + (3 + n) ≡ size_of (unsuback id codes)
unsuback-size n len id codes few size = rw (size, ← few) (sym (codes-length 0xb0 id codes))

-- ---- CONNACK

assigned_is : (client : List ℕ) → props (connack_properties true client) ≡ (0x12 ∷ blob client) ++ props (connack_properties false [])
assigned_is client = flat_map-cons prop (property AssignedClientIdentifier (Text client)) (connack_properties false [])

-- what was written is the CONNACK of an assigned name
pub named_written : (client old a b c d e new : List ℕ) (pairs : ℕ) → pairs ≡ length (props (connack_properties true client)) → a ≡ old ++ 0 ∷ [] → b ≡ a ++ 0 ∷ [] → c ≡ b ++ varint pairs → d ≡ c ++ 0x12 ∷ [] → e ≡ d ++ blob client → new ≡ e ++ props (connack_properties false []) → new ≡ old ++ 0 ∷ 0 ∷ block (connack_properties true client)
named_written client old a b c d e new pairs few a_is b_is c_is d_is e_is is =
    let granted = props (connack_properties false []) in
    let first : new ≡ (((((old ++ 0 ∷ []) ++ 0 ∷ []) ++ varint pairs) ++ 0x12 ∷ []) ++ blob client) ++ granted = is ∙ rw (e_is, d_is, c_is, b_is, a_is) refl in
    let second : (((((old ++ 0 ∷ []) ++ 0 ∷ []) ++ varint pairs) ++ 0x12 ∷ []) ++ blob client) ++ granted ≡ old ++ 0 ∷ 0 ∷ (varint pairs ++ ((0x12 ∷ blob client) ++ granted)) = simp append_assoc in
    first ∙ second
    ∙ ap (λ (n : ℕ). old ++ 0 ∷ 0 ∷ (varint n ++ ((0x12 ∷ blob client) ++ granted))) few
    ∙ ap (λ (xs : List ℕ). old ++ 0 ∷ 0 ∷ (varint (length (props (connack_properties true client))) ++ xs)) (sym (assigned_is client))
