-- Items of schema 2 whose rows show the same are the same, if what they refer to is.
use Rattle.std.proofs.Common.{◌≡◌, ℕ, List, [], ◌∷◌, ◌++◌, map, refl, sym, ap, ◌∙◌}
use Rattle.std.specs.List.{AllByRecursion}
use Rattle.mqtt_base.proofs.Steps.{ok_is}
use Rattle.mqtt_props.specs.declared.table.PropName.TheVariants.{UserProperty}
use Rattle.mqtt_props.specs.Properties.{Prop, IsProp, FitsBlock, block}
use Rattle.mqtt_props.specs.Edits.{only, without}
use Rattle.mqtt_props.specs.Reading.{props_at}
use Rattle.mqtt_props.proofs.Blocks.{props_again}
use Rattle.mqtt_records.specs.declared.messages.message.MessageCopy.{MessageCopy}
use Rattle.mqtt_records.specs.declared.messages.message.RetainedMessage.{RetainedMessage}
use Rattle.mqtt_records.specs.messages.PassedOn.{number_in, aged, identified}
use Rattle.mqtt_records.specs.messages.Queue.{CopyRow, first_sent}
use Rattle.mqtt_records.specs.state.Contents.{StoredMessage, copy_message, retained_message}
use Rattle.mqtt_store_database.specs.item_laws.Items.{cause_number, cause_text, cause_n, phase_number, packet_identifier, release_order}
use Rattle.mqtt_store_database.proofs.found_lemmas.both.Sent.{block_one}
use Rattle.mqtt_store_database.proofs.found_lemmas.both.Same.{IsOwn, at, pair_is, same_number, same_text, same_blob, same_flag, same_optional, same_service, same_cause, same_phase, same_content, same_id, same_message, same_queued, same_retained}
use Rattle.mqtt_store_rows.specs.rows.Rows.{pairs}
use Rattle.mqtt_store_rows.specs.rows.Ones.{same_stored}
use Rattle.mqtt_store_database.proofs.found_lemmas.Lines.{message_line, queued_line, kept_line}

-- ---- messages

-- messages with the same line are the same, if their properties have a spelling
pub message_same : (m n : StoredMessage) → FitsBlock m.properties → FitsBlock n.properties → message_line m ≡ message_line n → m ≡ n
message_same m n fits suits e =
    same_stored m.publication n.publication m.topic n.topic m.properties n.properties m.payload n.payload
    (same_number m.publication n.publication (at 0 _ _ e)) (same_text m.topic n.topic (at 1 _ _ e))
    (block_one m.properties n.properties fits suits (same_blob (block m.properties) (block n.properties) (at 2 _ _ e))) (same_blob m.payload n.payload (at 3 _ _ e))

-- ---- Subscription Identifiers

all_front : (ps qs : List Prop) → AllByRecursion IsProp (ps ++ qs) → AllByRecursion IsProp ps
all_front [] qs all = tt
all_front (p ∷ ps) qs all = (all.0, all_front ps qs all.1)

all_behind : (ps qs : List Prop) → AllByRecursion IsProp (ps ++ qs) → AllByRecursion IsProp qs
all_behind [] qs all = all
all_behind (p ∷ ps) qs all = all_behind ps qs all.1

-- the identifiers of what has a spelling as it is sent have one themselves
identifiers_fit : (copy : MessageCopy) → FitsBlock (first_sent copy) → AllByRecursion IsProp (map identified copy.identifiers)
identifiers_fit copy fits =
    let ps = copy.content.properties in
    let front = all_front (map (aged 0) (without UserProperty ps) ++ map identified copy.identifiers) (only UserProperty ps) fits.each in
    all_behind (map (aged 0) (without UserProperty ps)) (map identified copy.identifiers) front

numbers_back : (ids : List ℕ) → map (λ (p : Prop). number_in p.value) (map identified ids) ≡ ids
numbers_back [] = refl
numbers_back (n ∷ ids) = ap (λ (ns : List ℕ). n ∷ ns) (numbers_back ids)

-- identifiers with the same pairs are the same
same_identifiers : (c d : MessageCopy) → FitsBlock (first_sent c) → FitsBlock (first_sent d) → pairs c.identifiers ≡ pairs d.identifiers → c.identifiers ≡ d.identifiers
same_identifiers c d fits suits e =
    let mine = props_again (map identified c.identifiers) (identifiers_fit c fits) in
    let theirs = props_again (map identified d.identifiers) (identifiers_fit d suits) in
    let same : map identified c.identifiers ≡ map identified d.identifiers = ok_is (map identified c.identifiers) (map identified d.identifiers) (sym mine ∙ (ap props_at e ∙ theirs)) in
    sym (numbers_back c.identifiers) ∙ (ap (map (λ (p : Prop). number_in p.value)) same ∙ numbers_back d.identifiers)

-- ---- copies

same_copy : (x y : ℕ × CopyRow) → IsOwn x → IsOwn y → copy_message x.1 ≡ copy_message y.1 → queued_line x ≡ queued_line y → x.1.copy ≡ y.1.copy
same_copy x y fits suits says e =
    let c = x.1.copy in
    let d = y.1.copy in
    let birth = same_number x.0 y.0 (at 0 _ _ e) in
    let cause = same_cause c.id.cause d.id.cause (same_number (cause_number c.id.cause) (cause_number d.id.cause) (at 3 _ _ e))
    (same_text (cause_text c.id.cause) (cause_text d.id.cause) (at 4 _ _ e)) (same_number (cause_n c.id.cause) (cause_n d.id.cause) (at 5 _ _ e)) in
    same_message c.id d.id c.qos d.qos c.retain d.retain c.identifiers d.identifiers c.content d.content
    (same_id c.id.publication d.id.publication c.id.birth d.id.birth c.id.cause d.id.cause (same_number c.id.publication d.id.publication (at 2 _ _ e)) (fits.0 ∙ (birth ∙ sym suits.0)) cause)
    (same_service c.qos d.qos (at 9 _ _ e)) (same_flag c.retain d.retain (at 10 _ _ e))
    (same_identifiers c d fits.1.sent suits.1.sent (same_blob (pairs c.identifiers) (pairs d.identifiers) (at 11 _ _ e)))
    (same_content c.content.topic d.content.topic c.content.properties d.content.properties c.content.payload d.content.payload c.content.arrived d.content.arrived
    (ap (λ (m : StoredMessage). m.topic) says) (ap (λ (m : StoredMessage). m.properties) says) (ap (λ (m : StoredMessage). m.payload) says) (same_number c.content.arrived d.content.arrived (at 12 _ _ e)))

-- copies with the same line that say the same message are the same, if each is in its own session's queue and rows can say it
pub queued_same : (x y : ℕ × CopyRow) → IsOwn x → IsOwn y → copy_message x.1 ≡ copy_message y.1 → queued_line x ≡ queued_line y → x ≡ y
queued_same x y fits suits says e =
    let a = x.1 in
    let b = y.1 in
    let phase = same_phase a.phase b.phase (same_number (phase_number a.phase) (phase_number b.phase) (at 7 _ _ e))
    (same_optional (packet_identifier a.phase) (packet_identifier b.phase) (at 6 _ _ e)) (same_optional (release_order a.phase) (release_order b.phase) (at 8 _ _ e)) in
    pair_is x.0 y.0 a b (same_number x.0 y.0 (at 0 _ _ e))
    (same_queued a.place b.place a.phase b.phase a.copy b.copy (same_number a.place b.place (at 1 _ _ e)) phase (same_copy x y fits suits says e))

-- ---- retained messages

-- retained messages with the same line that say the same message are the same
pub kept_same : (m n : RetainedMessage) → retained_message m ≡ retained_message n → kept_line m ≡ kept_line n → m ≡ n
kept_same m n says e =
    let c = m.content in
    let d = n.content in
    same_retained m.place n.place m.sender n.sender m.publication n.publication m.qos n.qos c d
    (same_number m.place n.place (at 0 _ _ e)) (same_text m.sender n.sender (at 2 _ _ e)) (same_number m.publication n.publication (at 3 _ _ e)) (same_service m.qos n.qos (at 4 _ _ e))
    (same_content c.topic d.topic c.properties d.properties c.payload d.payload c.arrived d.arrived
    (ap (λ (l : StoredMessage). l.topic) says) (ap (λ (l : StoredMessage). l.properties) says) (ap (λ (l : StoredMessage). l.payload) says) (same_number c.arrived d.arrived (at 5 _ _ e)))
