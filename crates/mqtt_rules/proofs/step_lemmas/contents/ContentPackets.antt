-- What a packet that the broker takes holds: the message of a PUBLISH, and the Will of a CONNECT.
use Rattle.std.proofs.Common.{◌≡◌, ap, ◌∙◌, ◌≢◌, ℕ, ◌+◌, ◌≤◌, Bool, true, false, cond, not, ◌&&◌, List, [], ◌∷◌, ◌++◌, length, Option, Some, None, nat_eq, refl, sym, subst, arith, inl, inr}
use Rattle.std.specs.Prelude.{option_map, nat_lt, is_none}
use Rattle.std.specs.List.{AllByRecursion, starts_with}
use Rattle.std.proofs.lemmas.Bool.{cases_Bool}
use Rattle.std.proofs.lemmas.List.{length-append}
use Rattle.mqtt_base.specs.Codes.{bad_authentication_method, packet_too_large, client_identifier_not_valid, topic_name_invalid}
use Rattle.mqtt_base.specs.Values.{FitsText, blob, two_bytes, varint}
use Rattle.mqtt_base.specs.declared.limits.TheConstants.{CLIENT_LIMIT, PACKET_LIMIT}
use Rattle.mqtt_props.specs.declared.place.Place.{Place}
use Rattle.mqtt_props.specs.declared.place.Place.TheVariants as places
use Rattle.mqtt_props.specs.declared.table.PropName.TheVariants.{AuthenticationMethod, SubscriptionIdentifier, TopicAlias}
use Rattle.mqtt_props.specs.Properties.{Prop, block}
use Rattle.mqtt_props.specs.Laws.{has}
use Rattle.mqtt_packet.specs.declared.connect.connect.Connect.{Connect as Greeting}
use Rattle.mqtt_packet.specs.declared.connect.connect.Will.{Will as WillAsked}
use Rattle.mqtt_packet.specs.declared.codec.publish.Publish.{Publish as Publication}
use Rattle.mqtt_packet.specs.declared.codec.packet.Packet.TheVariants as packets
use Rattle.mqtt_packet.specs.declared.subscribe.subscribe.Subscribe.{Subscribe as Asking}
use Rattle.mqtt_props.specs.declared.table.PropName.{PropName}
use Rattle.mqtt_props.specs.declared.value.ValueKind.TheVariants as kinds
use Rattle.mqtt_props.specs.Table.{property_row}
use Rattle.mqtt_props.specs.Properties.{Value, Byte, U16, U32, VarInt, Text, Binary, Pair, IsProp, FitsValue, kind_of}
use Rattle.mqtt_props.specs.Laws.{is_named, is_lawful_value, none_repeats, values_are_lawful, has_method_for_data}
use Rattle.mqtt_keep.specs.lawful.Lawful.{IsIdentifier}
use Rattle.std.specs.List.{list_all}
use Rattle.std.proofs.lemmas.Bool.{ltb-true}
use Rattle.mqtt_records.specs.messages.PassedOn.{number_in, number_at, passed_on}
use Rattle.mqtt_packet.specs.parts.Fields.{optional, FitsOptional}
use Rattle.mqtt_packet.specs.connect.ConnectFlags.{flags_byte}
use Rattle.mqtt_packet.specs.connect.Connect.{FitsWill, will_field, connect_body, connect_fields, flags_of_connect, mqtt, lawful_will}
use Rattle.mqtt_packet.specs.codec.Publish.{identifier_field, publish_body}
use Rattle.mqtt_packet.specs.parts.Blocks.{keeps_laws}
use Rattle.mqtt_topic.specs.names.Names.{has_wildcard, is_empty, is_topic_name, IsTopicName}
use Rattle.mqtt_topic.specs.names.Aliases.{AliasTable, Resolves, topic_of}
use Rattle.mqtt_records.specs.declared.state.records.Records.{Records}
use Rattle.mqtt_rules.specs.step.State.{session_named}
use Rattle.mqtt_rules.specs.step.Connect.{refusal, largest_of, least_packet_size, has_bad_topic, will_kept, will_of}
use Rattle.mqtt_rules.specs.step.Inbound.{Means, meaning, resolved}
use Rattle.mqtt_rules.specs.step.Contents.{IsTaken, IsTopic, IsContentOf, IsWilledOf, Sizes, AreSizes}
use Rattle.mqtt_rules.proofs.step_lemmas.acts.Meanings.{resolved_only, identified_only}
use Rattle.mqtt_rules.proofs.step_lemmas.contents.PassedContents.{two, name_is, passed_may, passed_lawful, passed_fits, passed_short, block_within}
use Rattle.mqtt_records.specs.state.Session.{auto}

-- ---- what is passed on

-- what a PUBLISH passes on is a content that copies may have
pub published : (sizes : Sizes) (place : Place) (topic : List ℕ) (ps : List Prop) (payload : List ℕ) → IsContentOf sizes place topic ps payload → IsContentOf sizes places.Publish topic (passed_on ps) payload
published sizes place topic ps payload h =
    let less = block_within (passed_on ps) ps (passed_short ps) in
    let short = h.short in
    record {
      named = h.named;
      fits = passed_fits ps h.fits;
      may = passed_may ps;
      lawful = passed_lawful place ps h.lawful;
      short = omega (arith, less, short);
    }

-- ---- topics

not_false : (t : Bool) → not t ≡ true → t ≡ false
not_false true h = absurd cc
not_false false h = refl

not_true : (t : Bool) → not t ≡ false → t ≡ true
not_true true h = refl
not_true false h = absurd cc

some_text : (text : List ℕ) → not (is_empty text) ≡ true → text ≢ []
some_text [] h = absurd cc
some_text (c ∷ cs) h = λ e. absurd cc

topic_name : (text : List ℕ) → is_topic_name text ≡ true → IsTopicName text
topic_name text h =
    let parts = two (not (is_empty text)) (not (has_wildcard text)) h in
    record { some = some_text text parts.0; plain = not_false (has_wildcard text) parts.1 }

known_topic : (alias : ℕ) (name : List ℕ) (ts : List (ℕ × List ℕ)) → AllByRecursion (λ e. IsTopic e.1) ts → topic_of alias ts ≡ Some name → IsTopic name
known_topic alias name [] h e = absurd cc
known_topic alias name (t ∷ ts) h e = elim (cases_Bool (nat_eq alias t.0)) [
  | inl here ↦
      let first : Some t.1 ≡ Some name = rw here at e in
      let same : t.1 ≡ name = cc in
      subst IsTopic same h.0
  | inr other ↦ known_topic alias name ts h.1 (rw other at e)
]

resolved_topic : (table : AliasTable) (topic : List ℕ) (alias : Option ℕ) (name : List ℕ) → FitsText topic → AllByRecursion (λ e. IsTopic e.1) table.topics → Resolves table topic alias name → IsTopic name
resolved_topic table topic None name fits h r = subst IsTopic (sym r.0) (record { name = r.1; fits = fits })
resolved_topic table [] (Some alias) name fits h r = known_topic alias name table.topics h r.1
resolved_topic table (c ∷ cs) (Some alias) name fits h r = subst IsTopic (sym r.1) (record { name = r.2; fits = fits })

-- ---- PUBLISH

publish_short : (p : Publication) → IsTaken (packets.Publish p) → length (block p.properties) + length p.payload ≤ PACKET_LIMIT
publish_short p taken =
    let body = publish_body p in
    let rest = block p.properties ++ p.payload in
    let short = taken.short in
    let framing = length-append (varint (length body)) body in
    let first = length-append (blob p.topic) (identifier_field p.delivery ++ rest) in
    let second = length-append (identifier_field p.delivery) rest in
    let third = length-append (block p.properties) p.payload in
    omega (arith, short, framing, first, second, third)

-- a PUBLISH that was taken and has a meaning gives a lawful content
pub sent_content : (sizes : Sizes) → AreSizes sizes → (p : Publication) (table : AliasTable) (topic : List ℕ) → IsTaken (packets.Publish p) → AllByRecursion (λ e. IsTopic e.1) table.topics → meaning p table ≡ Means topic
    → IsContentOf sizes places.Publish topic (passed_on p.properties) p.payload
sent_content sizes are p table topic taken h is =
    let fits = taken.spelled.0 in
    let lawful = two (keeps_laws places.Publish p.properties) _ taken.spelled.2 in
    let alias = number_at TopicAlias p.properties in
    let found = resolved_only table p.topic alias topic (identified_only (has SubscriptionIdentifier p.properties) (resolved table p.topic alias) topic is) in
    let size = publish_short p taken in
    let most = are.bytes.0 in
    published sizes places.Publish topic p.properties p.payload (record {
      named = resolved_topic table p.topic alias topic fits.1 h found;
      fits = fits.2.0;
      may = fits.2.1;
      lawful = lawful.0;
      short = omega (arith, size, most);
    })

-- ---- CONNECT

fifth_fails : (p q r t u : Bool) (k l m n o : ℕ) → cond p (Some k) (cond q (Some l) (cond r (Some m) (cond t (Some n) (cond u (Some o) None)))) ≡ None → u ≡ false
fifth_fails true q r t u k l m n o e = absurd cc
fifth_fails false true r t u k l m n o e = absurd cc
fifth_fails false false true t u k l m n o e = absurd cc
fifth_fails false false false true u k l m n o e = absurd cc
fifth_fails false false false false true k l m n o e = absurd cc
fifth_fails false false false false false k l m n o e = refl

good_topic : (c : Greeting) (r : Records) → refusal c r ≡ None → has_bad_topic c.will ≡ false
good_topic c r e =
    fifth_fails (has AuthenticationMethod c.properties) (nat_lt (largest_of c) least_packet_size) (nat_lt CLIENT_LIMIT (length c.client_identifier))
    (starts_with nat_eq c.client_identifier auto && is_none (session_named c.client_identifier r)) (has_bad_topic c.will)
    bad_authentication_method packet_too_large client_identifier_not_valid client_identifier_not_valid topic_name_invalid e

will_short : (c : Greeting) → IsTaken (packets.Connect c) → length (optional will_field c.will) ≤ PACKET_LIMIT
will_short c taken =
    let body = connect_body c in
    let short = taken.short in
    let will = optional will_field c.will in
    let last = optional blob c.user_name ++ optional blob c.password in
    let framing = length-append (varint (length body)) body in
    let first = length-append (blob mqtt) (5 ∷ (flags_byte (flags_of_connect c) ∷ connect_fields c)) in
    let second = length-append (two_bytes c.keep_alive) (block c.properties ++ (blob c.client_identifier ++ (will ++ last))) in
    let third = length-append (block c.properties) (blob c.client_identifier ++ (will ++ last)) in
    let fourth = length-append (blob c.client_identifier) (will ++ last) in
    let fifth = length-append will last in
    omega (arith, short, framing, first, second, third, fourth, fifth)

will_content : (sizes : Sizes) → AreSizes sizes → (w : Option WillAsked) → has_bad_topic w ≡ false → FitsOptional FitsWill w → lawful_will w ≡ true → length (optional will_field w) ≤ PACKET_LIMIT → IsWilledOf sizes (option_map will_kept w)
will_content sizes are None good fits lawful short = tt
will_content sizes are (Some w) good fits lawful short =
    let most = are.bytes.0 in
    let first = length-append (block w.properties) (blob w.topic ++ blob w.payload) in
    let second = length-append (blob w.topic) (blob w.payload) in
    let third = length-append (two_bytes (length w.payload)) w.payload in
    record {
      named = record { name = topic_name w.topic (not_true (is_topic_name w.topic) good); fits = fits.1 };
      fits = fits.0.0;
      may = fits.0.1;
      lawful = lawful;
      short = omega (arith, short, first, second, third, most);
    }

-- a CONNECT that was taken and is not refused gives a lawful Will
pub asked_content : (sizes : Sizes) → AreSizes sizes → (c : Greeting) (r : Records) → IsTaken (packets.Connect c) → refusal c r ≡ None → IsWilledOf sizes (will_of c)
asked_content sizes are c r taken e =
    let lawful = two (keeps_laws places.Connect c.properties) (lawful_will c.will) taken.spelled.2 in
    will_content sizes are c.will (good_topic c r e) taken.spelled.0.3 lawful.1 (will_short c taken)

-- ---- SUBSCRIBE

-- the number of a Subscription Identifier that keeps its laws
number_lawful : (v : Value) → kind_of v ≡ kinds.VarInt → FitsValue v → is_lawful_value SubscriptionIdentifier v ≡ true → IsIdentifier (Some (number_in v))
number_lawful (VarInt n) kind fits lawful = (ltb-true 0 n lawful, fits)
number_lawful (Byte n) kind fits lawful = absurd cc
number_lawful (U16 n) kind fits lawful = absurd cc
number_lawful (U32 n) kind fits lawful = absurd cc
number_lawful (Text t) kind fits lawful = absurd cc
number_lawful (Binary b) kind fits lawful = absurd cc
number_lawful (Pair k t) kind fits lawful = absurd cc

number_found : (ps : List Prop) → AllByRecursion IsProp ps → list_all (λ p. is_lawful_value p.name p.value) ps ≡ true → IsIdentifier (number_at SubscriptionIdentifier ps)
number_found [] each values = tt
number_found (p ∷ ps) each values =
    let parts = two (is_lawful_value p.name p.value) (list_all (λ p. is_lawful_value p.name p.value) ps) values in
    elim (cases_Bool (is_named SubscriptionIdentifier p)) [
      | inl named ↦
          let is = name_is SubscriptionIdentifier p named in
          rw named (number_lawful p.value (each.0.kind ∙ ap (λ (n : PropName). (property_row n).kind) is) each.0.fits (ap (λ (n : PropName). is_lawful_value n p.value) (sym is) ∙ parts.0))
      | inr other ↦ rw other (number_found ps each.1 parts.1)
    ]

-- a SUBSCRIBE that was taken has a Subscription Identifier in range, if any
pub asked_identifier : (p : Asking) → IsTaken (packets.Subscribe p) → IsIdentifier (number_at SubscriptionIdentifier p.properties)
asked_identifier p taken =
    let laws = two (none_repeats places.Subscribe p.properties) (values_are_lawful p.properties) (two (keeps_laws places.Subscribe p.properties) _ taken.spelled.2).0 in
    let each = two (list_all (λ q. is_lawful_value q.name q.value) p.properties) (has_method_for_data p.properties) laws.1 in
    number_found p.properties taken.spelled.0.1.0.each each.0
