-- Lawful records have lawful contents, as short as a store's rows.
use Rattle.std.proofs.Common.{◌≡◌, ℕ, ◌≤◌, true, Bool, List, [], ◌∷◌, ◌++◌, length, map, arith, refl}
use Rattle.std.specs.Prelude.{Option, Some, None}
use Rattle.std.specs.List.{AllByRecursion, list_all}
use Rattle.std.proofs.lemmas.Bool.{ltb-true}
use Rattle.std.proofs.lemmas.List.{length-append}
use Rattle.mqtt_base.specs.Values.{varint}
use Rattle.mqtt_props.specs.declared.place.Place.{Place}
use Rattle.mqtt_props.specs.declared.place.Place.TheVariants as places
use Rattle.mqtt_props.specs.declared.table.PropName.TheVariants.{UserProperty}
use Rattle.mqtt_props.specs.Properties.{Prop, IsProp, prop, props}
use Rattle.mqtt_props.specs.Laws.{is_lawful_value, has_method_for_data, none_repeats, values_are_lawful}
use Rattle.mqtt_props.specs.Edits.{only, without}
use Rattle.mqtt_records.specs.messages.PassedOn.{aged, identified}
use Rattle.mqtt_records.specs.messages.Queue.{CopyRow, first_sent}
use Rattle.mqtt_records.specs.declared.messages.message.MessageCopy.{MessageCopy}
use Rattle.mqtt_records.specs.declared.messages.message.RetainedMessage.{RetainedMessage}
use Rattle.mqtt_records.specs.declared.messages.message.Will.{Will}
use Rattle.mqtt_records.specs.declared.state.records.Records.{Records}
use Rattle.mqtt_records.specs.declared.state.session.Session.{Session}
use Rattle.mqtt_keep.specs.declared.lawful.rows.Last.{Last}
use Rattle.mqtt_keep.specs.lawful.Lawful.{HasLawfulWill, IsIdentifier, IsLawful, IsLawfulCopy, IsLawfulRetained, IsLawfulSession, IsMessage, IsSubscription, last_of}
use Rattle.mqtt_rules.specs.step.Contents.{AreIdentifiers, HasContents, HasLawfulContents, IsAskedFor, IsContent, IsCopied, IsPublished, IsWilled}
use Rattle.mqtt_rules.proofs.step_lemmas.numbers.Copies.{each_more}
use Rattle.mqtt_rules.proofs.step_lemmas.contents.PassedContents.{two, props_append, block_within}
use Rattle.mqtt_rules.proofs.step_lemmas.contents.SentContents.{sent_more}

-- ---- messages

message_content : (place : Place) (topic : List ℕ) (ps : List Prop) (payload : List ℕ) → IsMessage place topic ps payload → IsContent place topic ps payload
message_content place topic ps payload h =
    let short = h.short in
    record {
      named = record { name = h.topic; fits = h.text };
      fits = h.spelled;
      may = h.may;
      lawful = h.lawful;
      short = omega (arith, short);
    }

will_content : (will : Option Will) → HasLawfulWill will → IsWilled will
will_content None h = tt
will_content (Some will) h = message_content places.Will will.topic will.properties will.payload h

retained_content : (last : Last) (k : RetainedMessage) → IsLawfulRetained last k → IsPublished k.content
retained_content last k h = message_content places.Publish k.content.topic k.content.properties k.content.payload h.message

-- ---- Subscription Identifiers, among the properties that are sent

each_first : {X : Type 0} (P : X → Type 0) (xs ys : List X) → AllByRecursion P (xs ++ ys) → AllByRecursion P xs
each_first P [] ys h = tt
each_first P (x ∷ xs) ys h = (h.0, each_first P xs ys h.1)

each_last : {X : Type 0} (P : X → Type 0) (xs ys : List X) → AllByRecursion P (xs ++ ys) → AllByRecursion P ys
each_last P [] ys h = h
each_last P (x ∷ xs) ys h = each_last P xs ys h.1

all_first : {X : Type 0} (test : X → Bool) (xs ys : List X) → list_all test (xs ++ ys) ≡ true → list_all test xs ≡ true
all_first test [] ys h = refl
all_first test (x ∷ xs) ys h =
    let parts = two (test x) (list_all test (xs ++ ys)) h in
    let rest = all_first test xs ys parts.1 in
    let first = parts.0 in
    rw (first, rest) refl

all_last : {X : Type 0} (test : X → Bool) (xs ys : List X) → list_all test (xs ++ ys) ≡ true → list_all test ys ≡ true
all_last test [] ys h = h
all_last test (x ∷ xs) ys h = all_last test xs ys (two (test x) (list_all test (xs ++ ys)) h).1

abbrev has_lawful_value : Prop → Bool
has_lawful_value p = is_lawful_value p.name p.value

identifiers_lawful : (ns : List ℕ) → AllByRecursion IsProp (map identified ns) → list_all has_lawful_value (map identified ns) ≡ true → AllByRecursion (λ n. IsIdentifier (Some n)) ns
identifiers_lawful [] each all = tt
identifiers_lawful (n ∷ ns) each all =
    let parts = two (has_lawful_value (identified n)) (list_all has_lawful_value (map identified ns)) all in
    ((ltb-true 0 n parts.0, each.0.fits), identifiers_lawful ns each.1 parts.1)

identifiers_few : (ns : List ℕ) → length ns ≤ length (props (map identified ns))
identifiers_few [] = omega arith
identifiers_few (n ∷ ns) =
    let rest = identifiers_few ns in
    let whole = length-append (prop (identified n)) (props (map identified ns)) in
    omega (arith, rest, whole)

identifiers_of : (copy : MessageCopy) → IsMessage places.Publish copy.content.topic (first_sent copy) copy.content.payload → AreIdentifiers copy.identifiers
identifiers_of copy h =
    let before = map (aged 0) (without UserProperty copy.content.properties) in
    let ids = map identified copy.identifiers in
    let users = only UserProperty copy.content.properties in
    let laws = two (none_repeats places.Publish (first_sent copy)) (values_are_lawful (first_sent copy)) h.lawful in
    let values = two (list_all has_lawful_value (first_sent copy)) (has_method_for_data (first_sent copy)) laws.1 in
    let each = each_last IsProp before ids (each_first IsProp (before ++ ids) users h.spelled.each) in
    let all = all_last has_lawful_value before ids (all_first has_lawful_value (before ++ ids) users values.0) in
    let few = identifiers_few copy.identifiers in
    let first = props_append (before ++ ids) users in
    let second = props_append before ids in
    let whole = length-append (varint (length (props (first_sent copy)))) (props (first_sent copy)) in
    let short = h.short in
    record { each = identifiers_lawful copy.identifiers each all; few = omega (arith, few, first, second, whole, short) }

copy_content : (last : Last) (birth : ℕ) (e : CopyRow) → IsLawfulCopy last birth e → IsCopied e.copy
copy_content last birth e h =
    let sent = h.message in
    let passed = h.passed in
    let long = sent.short in
    let ps = e.copy.content.properties in
    let more = block_within ps (first_sent e.copy) (sent_more 0 e.copy.identifiers ps passed.spelled) in
    record {
      content = record {
        named = record { name = sent.topic; fits = sent.text };
        fits = passed.spelled;
        may = passed.may;
        lawful = passed.lawful;
        short = omega (arith, long, more);
      };
      identifiers = identifiers_of e.copy sent;
    }

-- ---- sessions

subscription_asked : (subscribes : ℕ) (x : _) → IsSubscription subscribes x → IsAskedFor x
subscription_asked subscribes x h = record { filter = h.filter; identifier = h.identifier }

session_contents : (last : Last) (s : Session) → IsLawfulSession last s → HasContents s
session_contents last s h = record {
  will = will_content s.will h.will;
  subscriptions = each_more (IsSubscription last.subscribes) IsAskedFor (subscription_asked last.subscribes) s.subscriptions h.subscriptions.each;
  table = record { ascending = h.subscriptions.table.ascending; within = h.subscriptions.table.within };
  queue = each_more (IsLawfulCopy last s.birth) (λ e. IsCopied e.copy) (copy_content last s.birth) s.queue h.queue.each;
}

-- what a store may hold has lawful contents
pub lawful_contents : (r : Records) → IsLawful r → HasLawfulContents r
lawful_contents r h =
    let last = last_of r in
    record {
      sessions = each_more (IsLawfulSession last) HasContents (session_contents last) r.sessions h.sessions.each;
      retained = each_more (IsLawfulRetained last) (λ k. IsPublished k.content) (retained_content last) r.retained h.retained.each;
    }
