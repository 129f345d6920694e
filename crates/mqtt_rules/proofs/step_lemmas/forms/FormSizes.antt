-- How many bytes a PUBLISH has in a form: the same as by its topic and its other bytes, and at each moment.
use Rattle.std.proofs.Common.{◌≡◌, ℕ, ◌+◌, Bool, true, false, ◌&&◌, cond, List, [], ◌∷◌, ◌++◌, length, Option, Some, None, refl, ap, ◌∙◌, arith, inl, inr}
use Rattle.std.specs.Prelude.{nat_le}
use Rattle.std.proofs.lemmas.Bool.{cases_Bool}
use Rattle.std.proofs.lemmas.List.{length-append}
use Rattle.std.proofs.lemmas.List.Concat.{flat_map-cons}
use Rattle.mqtt_base.specs.Values.{varint, blob, two_bytes}
use Rattle.mqtt_props.specs.declared.table.PropName.TheVariants.{TopicAlias, UserProperty}
use Rattle.mqtt_props.specs.Properties.{Prop, U16, prop, props, block}
use Rattle.mqtt_props.specs.Laws.{is_named}
use Rattle.mqtt_props.specs.Edits.{only, without}
use Rattle.mqtt_topic.specs.declared.sending.form.Form.{Form}
use Rattle.mqtt_topic.specs.declared.sending.form.Form.TheVariants.{Plain, Named, Short}
use Rattle.mqtt_topic.specs.declared.sending.sizes.OtherBytes.{OtherBytes}
use Rattle.mqtt_topic.specs.sending.Told.{ToldTopics, forms, topic_in, alias_in}
use Rattle.mqtt_topic.specs.sending.Sizes.{alias_size, is_at_most, is_spelled, remaining_in, whole_size}
use Rattle.mqtt_topic.specs.sending.Sizes as sizes
use Rattle.mqtt_packet.specs.declared.codec.publish.Publish.{Publish}
use Rattle.mqtt_packet.specs.declared.codec.packet.Packet.TheVariants as packets
use Rattle.mqtt_packet.specs.codec.Publish.{publish_body, identifier_field}
use Rattle.mqtt_records.specs.declared.messages.message.MessageCopy.{MessageCopy}
use Rattle.mqtt_records.specs.messages.PassedOn.{property}
use Rattle.mqtt_records.specs.messages.Queue.{first_sent, publish_size, remaining}
use Rattle.mqtt_rules.specs.step.Packets.{delivery_by, seconds_waited, size_of}
use Rattle.mqtt_rules.specs.step.Forms.{first_within, form_for, form_remaining, form_size, in_form, is_within, other_bytes, other_of, published_of, with_alias}
use Rattle.mqtt_rules.proofs.step_lemmas.contents.PassedContents.{props_append}
use Rattle.mqtt_rules.proofs.step_lemmas.contents.CopySizes.{identifier_length, props_sent}

-- ---- properties

props_cons : (p : Prop) (ps : List Prop) → length (props (p ∷ ps)) ≡ length (prop p) + length (props ps)
props_cons p ps = ap length (flat_map-cons prop p ps) ∙ length-append (prop p) (props ps)

-- User Properties and others are the whole
parted : (ps : List Prop) → length (props (without UserProperty ps)) + length (props (only UserProperty ps)) ≡ length (props ps)
parted [] = refl
parted (p ∷ ps) = elim (cases_Bool (is_named UserProperty p)) [
  | inl named ↦
      let here = props_cons p (only UserProperty ps) in
      let all = props_cons p ps in
      let rest = parted ps in
      rw named (omega (arith, here, all, rest))
  | inr other ↦
      let here = props_cons p (without UserProperty ps) in
      let all = props_cons p ps in
      let rest = parted ps in
      rw other (omega (arith, here, all, rest))
]

-- an alias takes three bytes
one_more : (alias : ℕ) (ps : List Prop) → length (props (with_alias (Some alias) ps)) ≡ length (props ps) + 3
one_more alias ps =
    let behind = property TopicAlias (U16 alias) ∷ only UserProperty ps in
    let whole = props_append (without UserProperty ps) behind in
    let first = props_cons (property TopicAlias (U16 alias)) (only UserProperty ps) in
    let parts = parted ps in
    let three : length (prop (property TopicAlias (U16 alias))) ≡ 3 = refl in
    omega (arith, whole, first, parts, three)

-- the properties in a form have the bytes of the alias more
pub props_in_form : (form : Form) (ps : List Prop) → length (props (with_alias (alias_in form) ps)) ≡ length (props ps) + alias_size form
props_in_form Plain ps = omega arith
props_in_form (Named alias) ps = one_more alias ps
props_in_form (Short alias) ps = one_more alias ps

-- ---- the packet

-- its Remaining Length is that of its topic and its other bytes
pub body_in_form : (form : Form) (p : Publish) → length (publish_body (in_form form p)) ≡ remaining_in form p.topic (other_of p)
body_in_form form p =
    let topic = topic_in form p.topic in
    let field = identifier_field p.delivery in
    let ps = with_alias (alias_in form) p.properties in
    let few = props_in_form form p.properties in
    let first = length-append (blob topic) (field ++ (block ps ++ p.payload)) in
    let named = length-append (two_bytes (length topic)) topic in
    let second = length-append field (block ps ++ p.payload) in
    let third = length-append (block ps) p.payload in
    let whole = length-append (varint (length (props ps))) (props ps) in
    let head : length (varint (length (props ps))) ≡ length (varint (length (props p.properties) + alias_size form)) = ap (λ (n : ℕ). length (varint n)) few in
    omega (arith, few, first, named, second, third, whole, head)

-- so is its size
pub size_in_form : (form : Form) (p : Publish) → size_of (packets.Publish (in_form form p)) ≡ whole_size (remaining_in form p.topic (other_of p))
size_in_form form p =
    let body = publish_body (in_form form p) in
    let is = body_in_form form p in
    let whole = length-append (varint (length body)) body in
    let head : length (varint (length body)) ≡ length (varint (remaining_in form p.topic (other_of p))) = ap (λ (n : ℕ). length (varint n)) is in
    omega (arith, is, whole, head)

-- ---- which form

-- a form is within by its bytes as it is by the packet
pub within_by_sizes : (largest : ℕ) (p : Publish) (form : Form) → is_within largest p form ≡ sizes.is_within largest p.topic (other_of p) form
within_by_sizes largest p form =
    let remaining = remaining_in form p.topic (other_of p) in
    ap (λ (n : ℕ). is_spelled n && nat_le (size_of (packets.Publish (in_form form p))) largest) (body_in_form form p)
    ∙ ap (λ (n : ℕ). is_spelled remaining && nat_le n largest) (size_in_form form p)
    ∙ by (is_spelled remaining) (whole_size remaining)
  where
    by : (t : Bool) (size : ℕ) → (t && nat_le size largest) ≡ is_at_most largest (cond t (Some size) None)
    by true size = refl
    by false size = refl

-- the first form within a size is found by the sizes of the forms alone
pub first_by_sizes : (largest : ℕ) (p : Publish) (fs : List Form) → first_within largest p fs ≡ sizes.first_within largest p.topic (other_of p) fs
first_by_sizes largest p [] = refl
first_by_sizes largest p (f ∷ fs) =
    ap (λ (t : Bool). cond t (Some f) (first_within largest p fs)) (within_by_sizes largest p f)
    ∙ ap (λ (o : Option Form). cond (sizes.is_within largest p.topic (other_of p) f) (Some f) o) (first_by_sizes largest p fs)

-- the form is found by topic and other bytes
pub form_by_sizes : (largest : ℕ) (told : ToldTopics) (p : Publish) → form_for largest told p ≡ sizes.form_for largest told p.topic (other_of p)
form_by_sizes largest told p = first_by_sizes largest p (forms told p.topic)

-- ---- a copy

-- the other bytes are as many at each moment, with DUP or without, under each identifier
pub others_stay : (now : ℕ) (dup : Bool) (id : ℕ) (copy : MessageCopy) → other_of (published_of now dup id copy) ≡ other_bytes copy
others_stay now dup id copy =
    let payload = length copy.content.payload in
    ap (λ (n : ℕ). let o : OtherBytes = record { properties = n; rest = length (identifier_field (delivery_by copy.qos dup id)) + payload } in o)
    (props_sent (seconds_waited now copy.content) copy.identifiers copy.content.properties)
    ∙ ap (λ (n : ℕ). let o : OtherBytes = record { properties = length (props (first_sent copy)); rest = n + payload } in o)
    (identifier_length copy.qos dup id)

-- so are those of its body, in each form
pub copy_body : (form : Form) (copy : MessageCopy) (now id : ℕ) (dup : Bool) → length (publish_body (in_form form (published_of now dup id copy))) ≡ form_remaining form copy
copy_body form copy now id dup =
    body_in_form form (published_of now dup id copy)
    ∙ ap (remaining_in form copy.content.topic) (others_stay now dup id copy)

-- and all bytes
pub copy_in_form : (form : Form) (copy : MessageCopy) (now id : ℕ) (dup : Bool) → size_of (packets.Publish (in_form form (published_of now dup id copy))) ≡ form_size form copy
copy_in_form form copy now id dup =
    size_in_form form (published_of now dup id copy)
    ∙ ap (λ (o : OtherBytes). whole_size (remaining_in form copy.content.topic o)) (others_stay now dup id copy)

-- in the plain form its Remaining Length is the copy's
pub plain_remaining : (copy : MessageCopy) → form_remaining Plain copy ≡ remaining copy
plain_remaining copy =
    let pairs = length (props (first_sent copy)) in
    let none : pairs + 0 ≡ pairs = omega arith in
    let head : length (varint (pairs + 0)) ≡ length (varint pairs) = ap (λ (n : ℕ). length (varint n)) none in
    let whole = length-append (varint pairs) (props (first_sent copy)) in
    omega (arith, none, head, whole)

-- and its bytes are those that are kept with the copy
pub plain_copy : (copy : MessageCopy) → form_size Plain copy ≡ publish_size copy
plain_copy copy = ap whole_size (plain_remaining copy)

-- the form of a copy is found by its topic and its other bytes
pub copy_by_sizes : (largest : ℕ) (told : ToldTopics) (copy : MessageCopy) (now id : ℕ) (dup : Bool) → form_for largest told (published_of now dup id copy) ≡ sizes.form_for largest told copy.content.topic (other_bytes copy)
copy_by_sizes largest told copy now id dup =
    form_by_sizes largest told (published_of now dup id copy)
    ∙ ap (sizes.form_for largest told copy.content.topic) (others_stay now dup id copy)
