-- Items whose rows show the same are the same.
use Rattle.std.proofs.Common.{◌≡◌, ℕ, pos, Bool, true, false, List, refl, sym, ap, ◌∙◌, arith}
use Rattle.std.specs.Prelude.{Option, Some, None}
use Rattle.sqlite_value.specs.declared.value.Value.TheVariants.{Int, Text, Blob}
use Rattle.sqlite_value.specs.Order.{Row, column}
use Rattle.mqtt_base.specs.Service.{qos_number}
use Rattle.mqtt_base.specs.declared.session.Cause.{Cause}
use Rattle.mqtt_base.specs.declared.session.Cause.TheVariants.{Direct, Share, Retained}
use Rattle.mqtt_base.specs.declared.session.CopyId.{CopyId}
use Rattle.mqtt_base.specs.declared.session.Phase.{Phase}
use Rattle.mqtt_base.specs.declared.session.Phase.TheVariants.{Waiting, Sent, Released, Oversize}
use Rattle.mqtt_base.specs.declared.session.Qos.{Qos}
use Rattle.mqtt_base.specs.declared.session.RetainHandling.{RetainHandling}
use Rattle.mqtt_base.specs.declared.session.SubscriptionOptions.{SubscriptionOptions}
use Rattle.mqtt_props.specs.Properties.{Prop, FitsBlock, block}
use Rattle.mqtt_props.specs.declared.table.PropName.TheVariants.{SubscriptionIdentifier}
use Rattle.mqtt_props.specs.Edits.{without}
use Rattle.mqtt_records.specs.declared.messages.message.Content.{Content}
use Rattle.mqtt_records.specs.declared.messages.message.MessageCopy.{MessageCopy}
use Rattle.mqtt_records.specs.declared.messages.message.RetainedMessage.{RetainedMessage}
use Rattle.mqtt_records.specs.declared.messages.message.Will.{Will}
use Rattle.mqtt_records.specs.messages.Queue.{CopyRow, first_sent}
use Rattle.mqtt_records.specs.declared.state.session.Columns.{Columns}
use Rattle.mqtt_records.specs.declared.state.subscription.Subscription.{Subscription}
use Rattle.mqtt_store_rows.specs.values.Values.{handling_number, or_zero}
use Rattle.mqtt_store_rows.specs.values.Blocks.{identifiers_in}
use Rattle.mqtt_store_rows.specs.values.Ones.{one_number, one_text, one_blob, same_handling, same_qos}
use Rattle.mqtt_store_tables.specs.statements.Columns.{flag}
use Rattle.mqtt_store_tables.specs.statements.Copy.{number_or_null}
use Rattle.mqtt_store_database.specs.item_laws.Items.{cause_number, cause_text, cause_n, phase_number, packet_identifier, release_order}
use Rattle.mqtt_store_database.specs.item_laws.Written.{IsSayableCopy, IsSayableSubscription}
use Rattle.mqtt_store_database.proofs.found_lemmas.both.Sent.{block_one, sent_tells}
use Rattle.mqtt_store_database.proofs.found_lemmas.both.Lines.{number_line, session_line, will_line, subscription_line, open_line, copy_line, retained_line}

-- ---- one column

-- a column has one number
pub same_number : (m n : ℕ) → Int (pos m) ≡ Int (pos n) → m ≡ n
same_number m n e = one_number (Int (pos m)) m n refl e

-- a column has one text
pub same_text : (s t : List ℕ) → Text s ≡ Text t → s ≡ t
same_text s t e = one_text (Text s) s t refl e

-- a column has one blob
pub same_blob : (s t : List ℕ) → Blob s ≡ Blob t → s ≡ t
same_blob s t e = one_blob (Blob s) s t refl e

-- a column has one flag
pub same_flag : (a b : Bool) → flag a ≡ flag b → a ≡ b
same_flag true true e = refl
same_flag true false e = let n : 1 ≡ 0 = same_number 1 0 e in absurd (omega (arith, n))
same_flag false true e = let n : 0 ≡ 1 = same_number 0 1 e in absurd (omega (arith, n))
same_flag false false e = refl

-- a column has one number, or none
pub same_optional : (o p : Option ℕ) → number_or_null o ≡ number_or_null p → o ≡ p
same_optional None None e = refl
same_optional None (Some n) e = absurd cc
same_optional (Some n) None e = absurd cc
same_optional (Some n) (Some m) e = ap Some (same_number n m e)

-- a column has one QoS
pub same_service : (a b : Qos) → Int (pos (qos_number a)) ≡ Int (pos (qos_number b)) → a ≡ b
same_service a b e = same_qos a b (same_number (qos_number a) (qos_number b) e)

same_identifier : (o p : Option ℕ) → (o ≡ Some 0 → ⊥) → (p ≡ Some 0 → ⊥) → or_zero o ≡ or_zero p → o ≡ p
same_identifier None None a b h = refl
same_identifier None (Some n) a b h = absurd (b (ap Some (sym h)))
same_identifier (Some n) None a b h = absurd (a (ap Some h))
same_identifier (Some n) (Some m) a b h = ap Some h

-- what is of a session is the same if both are
pub pair_is : {X : Type 0} (m n : ℕ) (x y : X) → m ≡ n → x ≡ y → ◌≡◌ {A = ℕ × X} (m, x) (n, y)
pair_is m n x y p q = ap (λ (k : ℕ). (k, x)) p ∙ ap (λ z. (n, z)) q

-- the values of one place
pub at : (n : ℕ) (r s : Row) → r ≡ s → column r n ≡ column s n
at n r s e = ap (λ (l : Row). column l n) e

-- ---- numbers

-- numbers with the same line are the same
pub number_same : (x y : List ℕ × ℕ) → number_line x ≡ number_line y → x ≡ y
number_same x y e = ap (λ (t : List ℕ). (t, x.1)) (same_text x.0 y.0 (at 0 _ _ e)) ∙ ap (λ (n : ℕ). (y.0, n)) (same_number x.1 y.1 (at 1 _ _ e))

-- ---- sessions' own rows

abbrev columns : ℕ → List ℕ → ℕ → Option ℕ → Columns
columns birth client expiry closed = record { birth = birth; client = client; expiry = expiry; closed = closed }

same_columns : (a b : ℕ) (c d : List ℕ) (e f : ℕ) (g h : Option ℕ) → a ≡ b → c ≡ d → e ≡ f → g ≡ h → columns a c e g ≡ columns b d f h
same_columns a b c d e f g h p q r s = rw (p, q, r, s) refl

-- sessions' own rows with the same line are the same
pub session_same : (c d : Columns) → session_line c ≡ session_line d → c ≡ d
session_same c d e =
    same_columns c.birth d.birth c.client d.client c.expiry d.expiry c.closed d.closed
    (same_number c.birth d.birth (at 0 _ _ e)) (same_text c.client d.client (at 1 _ _ e)) (same_number c.expiry d.expiry (at 2 _ _ e)) (same_optional c.closed d.closed (at 3 _ _ e))

-- ---- Wills

abbrev will : ℕ → Qos → Bool → List ℕ → List Prop → List ℕ → Will
will delay qos retain topic properties payload =
    record { delay = delay; qos = qos; retain = retain; topic = topic; properties = properties; payload = payload }

same_will : (a b : ℕ) (c d : Qos) (e f : Bool) (g h : List ℕ) (i j : List Prop) (k l : List ℕ) → a ≡ b → c ≡ d → e ≡ f → g ≡ h → i ≡ j → k ≡ l → will a c e g i k ≡ will b d f h j l
same_will a b c d e f g h i j k l p q r s t u = rw (p, q, r, s, t, u) refl

-- Wills with the same line are the same, if their properties have a spelling
pub will_same : (x y : ℕ × Will) → FitsBlock x.1.properties → FitsBlock y.1.properties → will_line x ≡ will_line y → x ≡ y
will_same x y fits suits e =
    let v = x.1 in
    let w = y.1 in
    pair_is x.0 y.0 v w (same_number x.0 y.0 (at 0 _ _ e))
    (same_will v.delay w.delay v.qos w.qos v.retain w.retain v.topic w.topic v.properties w.properties v.payload w.payload
    (same_number v.delay w.delay (at 1 _ _ e)) (same_service v.qos w.qos (at 3 _ _ e)) (same_flag v.retain w.retain (at 4 _ _ e)) (same_text v.topic w.topic (at 2 _ _ e))
    (block_one v.properties w.properties fits suits (same_blob (block v.properties) (block w.properties) (at 5 _ _ e))) (same_blob v.payload w.payload (at 6 _ _ e)))

-- ---- subscriptions

abbrev options : Qos → Bool → Bool → RetainHandling → SubscriptionOptions
options qos no_local retain handling = record { qos = qos; no_local = no_local; retain_as_published = retain; retain_handling = handling }

same_options : (a b : Qos) (c d e f : Bool) (g h : RetainHandling) → a ≡ b → c ≡ d → e ≡ f → g ≡ h → options a c e g ≡ options b d f h
same_options a b c d e f g h p q r s = rw (p, q, r, s) refl

abbrev subscription : List ℕ → ℕ → SubscriptionOptions → Option ℕ → Subscription
subscription text place options identifier = record { filter = text; place = place; options = options; identifier = identifier }

same_subscription : (a b : List ℕ) (c d : ℕ) (e f : SubscriptionOptions) (g h : Option ℕ) → a ≡ b → c ≡ d → e ≡ f → g ≡ h → subscription a c e g ≡ subscription b d f h
same_subscription a b c d e f g h p q r s = rw (p, q, r, s) refl

-- subscriptions with the same line are the same, if rows can say them
pub subscription_same : (x y : ℕ × Subscription) → IsSayableSubscription x.1 → IsSayableSubscription y.1 → subscription_line x ≡ subscription_line y → x ≡ y
subscription_same x y fits suits e =
    let s = x.1 in
    let t = y.1 in
    let o = s.options in
    let p = t.options in
    let same : o ≡ p = same_options o.qos p.qos o.no_local p.no_local o.retain_as_published p.retain_as_published o.retain_handling p.retain_handling
    (same_service o.qos p.qos (at 3 _ _ e)) (same_flag o.no_local p.no_local (at 4 _ _ e)) (same_flag o.retain_as_published p.retain_as_published (at 5 _ _ e))
    (same_handling o.retain_handling p.retain_handling (same_number (handling_number o.retain_handling) (handling_number p.retain_handling) (at 6 _ _ e))) in
    pair_is x.0 y.0 s t (same_number x.0 y.0 (at 0 _ _ e))
    (same_subscription s.filter t.filter s.place t.place o p s.identifier t.identifier (same_text s.filter t.filter (at 1 _ _ e)) (same_number s.place t.place (at 2 _ _ e)) same
    (same_identifier s.identifier t.identifier fits suits (same_number (or_zero s.identifier) (or_zero t.identifier) (at 7 _ _ e))))

-- ---- open identifiers

-- open identifiers with the same line are the same
pub open_same : (x y : ℕ × ℕ) → open_line x ≡ open_line y → x ≡ y
open_same x y e = pair_is x.0 y.0 x.1 y.1 (same_number x.0 y.0 (at 0 _ _ e)) (same_number x.1 y.1 (at 1 _ _ e))

-- ---- copies

-- a cause is told by its three columns
pub same_cause : (x y : Cause) → cause_number x ≡ cause_number y → cause_text x ≡ cause_text y → cause_n x ≡ cause_n y → x ≡ y
same_cause Direct Direct h t n = refl
same_cause Direct (Share g) h t n = absurd (omega (arith, h))
same_cause Direct (Retained m) h t n = absurd (omega (arith, h))
same_cause (Share g) Direct h t n = absurd (omega (arith, h))
same_cause (Share g) (Share f) h t n = ap Share t
same_cause (Share g) (Retained m) h t n = absurd (omega (arith, h))
same_cause (Retained m) Direct h t n = absurd (omega (arith, h))
same_cause (Retained m) (Share g) h t n = absurd (omega (arith, h))
same_cause (Retained m) (Retained l) h t n = ap Retained n

in_some : (m n : ℕ) → Some m ≡ Some n → m ≡ n
in_some m n e = cc

-- a phase is told by its three columns
pub same_phase : (x y : Phase) → phase_number x ≡ phase_number y → packet_identifier x ≡ packet_identifier y → release_order x ≡ release_order y → x ≡ y
same_phase Waiting Waiting h p r = refl
same_phase Waiting (Sent id) h p r = absurd (omega (arith, h))
same_phase Waiting (Released id order) h p r = absurd (omega (arith, h))
same_phase Waiting (Oversize id order) h p r = absurd (omega (arith, h))
same_phase (Sent id) Waiting h p r = absurd (omega (arith, h))
same_phase (Sent id) (Sent other) h p r = ap Sent (in_some id other p)
same_phase (Sent id) (Released other order) h p r = absurd (omega (arith, h))
same_phase (Sent id) (Oversize other order) h p r = absurd (omega (arith, h))
same_phase (Released id order) Waiting h p r = absurd (omega (arith, h))
same_phase (Released id order) (Sent other) h p r = absurd (omega (arith, h))
same_phase (Released id order) (Released other last) h p r = ap (λ (n : ℕ). Released n order) (in_some id other p) ∙ ap (λ (n : ℕ). Released other n) (in_some order last r)
same_phase (Released id order) (Oversize other last) h p r = absurd (omega (arith, h))
same_phase (Oversize id order) Waiting h p r = absurd (omega (arith, h))
same_phase (Oversize id order) (Sent other) h p r = absurd (omega (arith, h))
same_phase (Oversize id order) (Released other last) h p r = absurd (omega (arith, h))
same_phase (Oversize id order) (Oversize other last) h p r = ap (λ (n : ℕ). Oversize n order) (in_some id other p) ∙ ap (λ (n : ℕ). Oversize other n) (in_some order last r)

abbrev content : List ℕ → List Prop → List ℕ → ℕ → Content
content topic properties payload arrived = record { topic = topic; properties = properties; payload = payload; arrived = arrived }

-- a content is its parts
pub same_content : (a b : List ℕ) (c d : List Prop) (e f : List ℕ) (g h : ℕ) → a ≡ b → c ≡ d → e ≡ f → g ≡ h → content a c e g ≡ content b d f h
same_content a b c d e f g h p q r s = rw (p, q, r, s) refl

abbrev id_of : ℕ → ℕ → Cause → CopyId
id_of publication birth cause = record { publication = publication; birth = birth; cause = cause }

-- what a copy is told by is its parts
pub same_id : (a b c d : ℕ) (e f : Cause) → a ≡ b → c ≡ d → e ≡ f → id_of a c e ≡ id_of b d f
same_id a b c d e f p q r = rw (p, q, r) refl

abbrev message : CopyId → Qos → Bool → List ℕ → Content → MessageCopy
message id qos retain identifiers content = record { id = id; qos = qos; retain = retain; identifiers = identifiers; content = content }

-- a copy is its parts
pub same_message : (a b : CopyId) (c d : Qos) (e f : Bool) (g h : List ℕ) (i j : Content) → a ≡ b → c ≡ d → e ≡ f → g ≡ h → i ≡ j → message a c e g i ≡ message b d f h j
same_message a b c d e f g h i j p q r s t = rw (p, q, r, s, t) refl

abbrev queued : ℕ → Phase → MessageCopy → CopyRow
queued place phase copy = record { place = place; phase = phase; copy = copy }

-- a copy in a queue is its parts
pub same_queued : (a b : ℕ) (c d : Phase) (e f : MessageCopy) → a ≡ b → c ≡ d → e ≡ f → queued a c e ≡ queued b d f
same_queued a b c d e f p q r = rw (p, q, r) refl

-- what was passed on, and the Subscription Identifiers
same_sent : (c d : MessageCopy) → IsSayableCopy c → IsSayableCopy d → first_sent c ≡ first_sent d → (c.content.properties ≡ d.content.properties) × (c.identifiers ≡ d.identifiers)
same_sent c d fits suits e =
    let mine = sent_tells 0 c.identifiers c.content.properties fits.passed fits.spelled.each in
    let theirs = sent_tells 0 d.identifiers d.content.properties suits.passed suits.spelled.each in
    (sym mine.0 ∙ (ap (without SubscriptionIdentifier) e ∙ theirs.0), sym mine.1 ∙ (ap identifiers_in e ∙ theirs.1))

-- a copy is of the session in whose queue it stands
abbrev pub IsOwn : ℕ × CopyRow → Type 0
IsOwn x = (x.1.copy.id.birth ≡ x.0) × IsSayableCopy x.1.copy

same_copy : (x y : ℕ × CopyRow) → IsOwn x → IsOwn y → copy_line x ≡ copy_line y → x.1.copy ≡ y.1.copy
same_copy x y fits suits e =
    let c = x.1.copy in
    let d = y.1.copy in
    let birth = same_number x.0 y.0 (at 0 _ _ e) in
    let sent = same_sent c d fits.1 suits.1 (block_one (first_sent c) (first_sent d) fits.1.sent suits.1.sent (same_blob (block (first_sent c)) (block (first_sent d)) (at 12 _ _ e))) in
    let cause = same_cause c.id.cause d.id.cause (same_number (cause_number c.id.cause) (cause_number d.id.cause) (at 3 _ _ e))
    (same_text (cause_text c.id.cause) (cause_text d.id.cause) (at 4 _ _ e)) (same_number (cause_n c.id.cause) (cause_n d.id.cause) (at 5 _ _ e)) in
    same_message c.id d.id c.qos d.qos c.retain d.retain c.identifiers d.identifiers c.content d.content
    (same_id c.id.publication d.id.publication c.id.birth d.id.birth c.id.cause d.id.cause (same_number c.id.publication d.id.publication (at 2 _ _ e)) (fits.0 ∙ (birth ∙ sym suits.0)) cause)
    (same_service c.qos d.qos (at 10 _ _ e)) (same_flag c.retain d.retain (at 11 _ _ e)) sent.1
    (same_content c.content.topic d.content.topic c.content.properties d.content.properties c.content.payload d.content.payload c.content.arrived d.content.arrived
    (same_text c.content.topic d.content.topic (at 9 _ _ e)) sent.0 (same_blob c.content.payload d.content.payload (at 13 _ _ e)) (same_number c.content.arrived d.content.arrived (at 14 _ _ e)))

-- copies with the same line are the same, if each is in its own session's queue and rows can say it
pub copy_same : (x y : ℕ × CopyRow) → IsOwn x → IsOwn y → copy_line x ≡ copy_line y → x ≡ y
copy_same x y fits suits e =
    let a = x.1 in
    let b = y.1 in
    let phase = same_phase a.phase b.phase (same_number (phase_number a.phase) (phase_number b.phase) (at 7 _ _ e))
    (same_optional (packet_identifier a.phase) (packet_identifier b.phase) (at 6 _ _ e)) (same_optional (release_order a.phase) (release_order b.phase) (at 8 _ _ e)) in
    pair_is x.0 y.0 a b (same_number x.0 y.0 (at 0 _ _ e))
    (same_queued a.place b.place a.phase b.phase a.copy b.copy (same_number a.place b.place (at 1 _ _ e)) phase (same_copy x y fits suits e))

-- ---- retained messages

abbrev retained : ℕ → List ℕ → ℕ → Qos → Content → RetainedMessage
retained place sender publication qos content = record { place = place; sender = sender; publication = publication; qos = qos; content = content }

-- a retained message is its parts
pub same_retained : (a b : ℕ) (c d : List ℕ) (e f : ℕ) (g h : Qos) (i j : Content) → a ≡ b → c ≡ d → e ≡ f → g ≡ h → i ≡ j → retained a c e g i ≡ retained b d f h j
same_retained a b c d e f g h i j p q r s t = rw (p, q, r, s, t) refl

-- retained messages with the same line are the same, if their properties have a spelling
pub retained_same : (m n : RetainedMessage) → FitsBlock m.content.properties → FitsBlock n.content.properties → retained_line m ≡ retained_line n → m ≡ n
retained_same m n fits suits e =
    let c = m.content in
    let d = n.content in
    same_retained m.place n.place m.sender n.sender m.publication n.publication m.qos n.qos c d
    (same_number m.place n.place (at 0 _ _ e)) (same_text m.sender n.sender (at 2 _ _ e)) (same_number m.publication n.publication (at 3 _ _ e)) (same_service m.qos n.qos (at 4 _ _ e))
    (same_content c.topic d.topic c.properties d.properties c.payload d.payload c.arrived d.arrived (same_text c.topic d.topic (at 1 _ _ e))
    (block_one c.properties d.properties fits suits (same_blob (block c.properties) (block d.properties) (at 5 _ _ e))) (same_blob c.payload d.payload (at 6 _ _ e)) (same_number c.arrived d.arrived (at 7 _ _ e)))
