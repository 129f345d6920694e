-- A row says one thing; what it says with its message too, if the messages are known.
use Rattle.std.proofs.Common.{◌≡◌, ℕ, ◌<◌, ◌^◌, List, [], ◌∷◌, ◌++◌, refl, sym, ap, subst, ◌∙◌}
use Rattle.std.specs.Prelude.{Some, Result, Ok, Err}
use Rattle.std.specs.List.{AllByRecursion}
use Rattle.sqlite_value.specs.declared.value.Value.{Value}
use Rattle.sqlite_value.specs.Order.{Row}
use Rattle.mqtt_base.specs.Values.{varint}
use Rattle.mqtt_base.specs.Reading.{varint_at}
use Rattle.mqtt_base.specs.declared.fault.ReadFault.{ReadFault}
use Rattle.mqtt_base.proofs.Varints.{varint_rereads}
use Rattle.mqtt_props.specs.Properties.{Prop}
use Rattle.mqtt_records.specs.declared.messages.message.Content.{Content}
use Rattle.mqtt_records.specs.declared.messages.message.MessageCopy.{MessageCopy}
use Rattle.mqtt_records.specs.declared.messages.message.RetainedMessage.{RetainedMessage}
use Rattle.mqtt_records.specs.messages.Queue.{CopyRow}
use Rattle.mqtt_records.specs.lists.Order.{row_at}
use Rattle.mqtt_records.specs.state.Contents.{StoredMessage, stored_message, retained_message}
use Rattle.mqtt_store_rows.specs.values.Values.{IsIdentifier}
use Rattle.mqtt_store_rows.specs.values.Ones.{one_number, one_text, one_blob, one_flag, one_qos, one_passed, one_id, one_phase, same_content, same_message, same_copy, same_retained}
use Rattle.mqtt_store_rows.specs.rows.Rows.{SaysMessage, pairs, ArePairs, SaysIdentifiers}
use Rattle.mqtt_store_rows.specs.rows.Joins.{publication_of, Stands, SaysSent, SaysCopy, SaysRetained}

-- ---- message

abbrev pub message_with : ℕ → List ℕ → List Prop → List ℕ → StoredMessage
message_with publication topic properties payload = record { publication = publication; topic = topic; properties = properties; payload = payload }

pub same_stored : (a b : ℕ) (c d : List ℕ) (e f : List Prop) (g h : List ℕ) → a ≡ b → c ≡ d → e ≡ f → g ≡ h → message_with a c e g ≡ message_with b d f h
same_stored a b c d e f g h p q r s = rw (p, q, r, s) refl

pub one_message : (x y : StoredMessage) (row : Row) → SaysMessage x row → SaysMessage y row → x ≡ y
one_message x y row h k =
    same_stored _ _ _ _ _ _ _ _ (one_number _ _ _ h.publication k.publication) (one_text _ _ _ h.topic k.topic) (one_passed _ _ _ h.properties k.properties)
    (one_blob _ _ _ h.payload k.payload)

-- ---- Subscription Identifiers

abbrev number_read : Result (ℕ × List ℕ) ReadFault → ℕ
number_read (Ok x) = x.0
number_read (Err fault) = 0

abbrev rest_read : Result (ℕ × List ℕ) ReadFault → List ℕ
rest_read (Ok x) = x.1
rest_read (Err fault) = []

-- an identifier, and the pairs behind it, are one thing
pub one_front : (m n : ℕ) (xs ys : List ℕ) → m < 2 ^ 28 → n < 2 ^ 28 → varint m ++ xs ≡ varint n ++ ys → (m ≡ n) × (xs ≡ ys)
one_front m n xs ys less low is =
    let both : Ok (m, xs) ≡ Ok (n, ys) = sym (varint_rereads m xs less) ∙ (ap varint_at is ∙ varint_rereads n ys low) in
    (ap number_read both, ap rest_read both)

pub one_pairs : (ids others bytes : List ℕ) → ArePairs ids bytes → ArePairs others bytes → ids ≡ others
one_pairs ids others bytes h k = go ids others h.range k.range (sym h.spelled ∙ k.spelled)
  where
    go : (ids others : List ℕ) → AllByRecursion (λ n. IsIdentifier (Some n)) ids → AllByRecursion (λ n. IsIdentifier (Some n)) others → pairs ids ≡ pairs others → ids ≡ others
    go [] [] h k is = refl
    go [] (n ∷ others) h k is = absurd cc
    go (m ∷ ids) [] h k is = absurd cc
    go (m ∷ ids) (n ∷ others) h k is =
        let tails : varint m ++ pairs ids ≡ varint n ++ pairs others = cc in
        let both = one_front m n (pairs ids) (pairs others) h.0.1 k.0.1 tails in
        ap (λ (l : ℕ). l ∷ ids) both.0 ∙ ap (λ (l : List ℕ). n ∷ l) (go ids others h.1 k.1 both.1)

pub one_identifiers : (ids others : List ℕ) (v : Value) → SaysIdentifiers ids v → SaysIdentifiers others v → ids ≡ others
one_identifiers ids others v h k = one_pairs ids others h.bytes h.are (subst (ArePairs others) (one_blob v _ _ k.holds h.holds) k.are)

-- ---- copies and retained messages with their messages

-- messages that stand under one number are one
one_stands : (messages : List StoredMessage) (m n : StoredMessage) → m.publication ≡ n.publication → Stands messages m → Stands messages n → m ≡ n
one_stands messages m n same h k =
    let both : Some m ≡ Some n = sym h ∙ (ap (λ (l : ℕ). row_at publication_of l messages) same ∙ k) in
    cc

content_is : (x y : Content) (m n : StoredMessage) → m ≡ n → x.topic ≡ m.topic → x.properties ≡ m.properties → x.payload ≡ m.payload
    → y.topic ≡ n.topic → y.properties ≡ n.properties → y.payload ≡ n.payload → x.arrived ≡ y.arrived → x ≡ y
content_is x y m n is topic properties payload topic' properties' payload' arrived =
    same_content x.topic y.topic x.properties y.properties x.payload y.payload x.arrived y.arrived (topic ∙ (ap (λ (m : StoredMessage). m.topic) is ∙ sym topic'))
    (properties ∙ (ap (λ (m : StoredMessage). m.properties) is ∙ sym properties')) (payload ∙ (ap (λ (m : StoredMessage). m.payload) is ∙ sym payload')) arrived

pub one_sent : (messages : List StoredMessage) (x y : MessageCopy) (row : Row) → SaysSent messages x row → SaysSent messages y row → x ≡ y
one_sent messages x y row h k =
    let a = h.own in
    let b = k.own in
    let number : x.id.publication ≡ y.id.publication = one_number _ _ _ a.id.publication b.id.publication in
    let message : stored_message x.id.publication x.content ≡ stored_message y.id.publication y.content = one_stands messages (stored_message x.id.publication x.content) (stored_message y.id.publication y.content) number h.message k.message in
    let content : x.content ≡ y.content = content_is x.content y.content (stored_message x.id.publication x.content) (stored_message y.id.publication y.content) message refl refl refl refl refl refl (one_number _ _ _ a.arrived b.arrived) in
    same_message x.id y.id x.qos y.qos x.retain y.retain x.identifiers y.identifiers x.content y.content
    (one_id _ _ row a.id b.id) (one_qos _ _ _ a.qos b.qos) (one_flag _ _ _ a.retain b.retain) (one_identifiers _ _ _ a.identifiers b.identifiers) content

pub one_copy : (messages : List StoredMessage) (x y : CopyRow) (row : Row) → SaysCopy messages x row → SaysCopy messages y row → x ≡ y
one_copy messages x y row h k =
    let a = h.own in
    let b = k.own in
    same_copy x.place y.place x.phase y.phase x.copy y.copy (one_number _ _ _ a.place b.place) (one_phase _ _ _ _ _ _ _ a.phase b.phase)
    (one_sent messages x.copy y.copy row (record { own = a.own; message = h.message }) (record { own = b.own; message = k.message }))

pub one_retained : (messages : List StoredMessage) (x y : RetainedMessage) (row : Row) → SaysRetained messages x row → SaysRetained messages y row → x ≡ y
one_retained messages x y row h k =
    let a = h.own in
    let b = k.own in
    let number : x.publication ≡ y.publication = one_number _ _ _ a.publication b.publication in
    let message : retained_message x ≡ retained_message y = one_stands messages (retained_message x) (retained_message y) number h.message k.message in
    let content : x.content ≡ y.content = content_is x.content y.content (retained_message x) (retained_message y) message refl refl refl refl refl refl (one_number _ _ _ a.arrived b.arrived) in
    same_retained x.place y.place x.sender y.sender x.publication y.publication x.qos y.qos x.content y.content
    (one_number _ _ _ a.place b.place) (one_text _ _ _ a.sender b.sender) number (one_qos _ _ _ a.qos b.qos) content
