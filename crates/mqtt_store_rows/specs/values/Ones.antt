-- A row says one thing.
use Rattle.std.proofs.Common.{◌≡◌, ℕ, zero, pos, Bool, true, false, List, [], ◌∷◌, refl, sym, ap, ◌∙◌, arith}
use Rattle.std.specs.Prelude.{Option, Some, None, Result, Ok, Err}
use Rattle.sqlite_value.specs.declared.value.Value.{Value}
use Rattle.sqlite_value.specs.declared.value.Value.TheVariants.{Null, Int, Text, Blob}
use Rattle.sqlite_value.specs.Order.{Row}
use Rattle.mqtt_base.specs.Service.{qos_number}
use Rattle.mqtt_base.specs.declared.session.Cause.{Cause}
use Rattle.mqtt_base.specs.declared.session.Cause.TheVariants.{Direct, Share, Retained}
use Rattle.mqtt_base.specs.declared.session.CopyId.{CopyId}
use Rattle.mqtt_base.specs.declared.session.Phase.{Phase}
use Rattle.mqtt_base.specs.declared.session.Phase.TheVariants.{Waiting, Sent, Released, Oversize}
use Rattle.mqtt_base.specs.declared.session.Qos.{Qos}
use Rattle.mqtt_base.specs.declared.session.Qos.TheVariants.{AtMostOnce, AtLeastOnce, ExactlyOnce}
use Rattle.mqtt_base.specs.declared.session.RetainHandling.{RetainHandling}
use Rattle.mqtt_base.specs.declared.session.RetainHandling.TheVariants.{SendAlways, SendIfNew, DoNotSend}
use Rattle.mqtt_base.specs.declared.session.SubscriptionOptions.{SubscriptionOptions}
use Rattle.mqtt_props.specs.declared.fault.PropFault.{PropFault}
use Rattle.mqtt_props.specs.declared.place.Place.{Place}
use Rattle.mqtt_props.specs.declared.table.PropName.TheVariants.{SubscriptionIdentifier}
use Rattle.mqtt_props.specs.Properties.{Prop}
use Rattle.mqtt_props.specs.Edits.{without}
use Rattle.mqtt_props.specs.Laws.{lawful_at}
use Rattle.mqtt_props.proofs.Judged.{lawful_again}
use Rattle.mqtt_records.specs.declared.messages.message.Content.{Content}
use Rattle.mqtt_records.specs.declared.messages.message.MessageCopy.{MessageCopy}
use Rattle.mqtt_records.specs.declared.messages.message.RetainedMessage.{RetainedMessage}
use Rattle.mqtt_records.specs.declared.messages.message.Will.{Will}
use Rattle.mqtt_records.specs.messages.Queue.{CopyRow}
use Rattle.mqtt_records.specs.declared.state.session.Columns.{Columns}
use Rattle.mqtt_records.specs.declared.state.subscription.Subscription.{Subscription}
use Rattle.mqtt_store_rows.specs.declared.values.meta.Counters.{Counters}
use Rattle.mqtt_store_rows.specs.values.Values.{number, number_or_null, flag, handling_number, or_zero, IsIdentifier}
use Rattle.mqtt_store_rows.specs.values.Blocks.{IsBlockOf, identifiers_in, SaysPassed, SaysSent}
use Rattle.mqtt_store_rows.specs.values.Rows.{SaysNumbers, SaysSession, SaysOpen, SaysOptions, SaysSubscription, SaysCause, SaysId, SaysPhase, SaysSentContent, SaysMessage, SaysCopy, SaysWill}

-- ---- values

abbrev number_in : Value → ℕ
number_in (Int (pos n)) = n
number_in _ = zero

abbrev text_in : Value → List ℕ
text_in (Text t) = t
text_in _ = []

abbrev blob_in : Value → List ℕ
blob_in (Blob b) = b
blob_in _ = []

pub one_number : (v : Value) (m n : ℕ) → v ≡ number m → v ≡ number n → m ≡ n
one_number v m n h k = ap number_in (sym h ∙ k)

pub one_text : (v : Value) (s t : List ℕ) → v ≡ Text s → v ≡ Text t → s ≡ t
one_text v s t h k = ap text_in (sym h ∙ k)

pub one_blob : (v : Value) (s t : List ℕ) → v ≡ Blob s → v ≡ Blob t → s ≡ t
one_blob v s t h k = ap blob_in (sym h ∙ k)

pub one_flag : (v : Value) (a b : Bool) → v ≡ flag a → v ≡ flag b → a ≡ b
one_flag v true true h k = refl
one_flag v true false h k = let e : 1 ≡ 0 = one_number v 1 0 h k in absurd (omega (arith, e))
one_flag v false true h k = let e : 0 ≡ 1 = one_number v 0 1 h k in absurd (omega (arith, e))
one_flag v false false h k = refl

pub same_qos : (a b : Qos) → qos_number a ≡ qos_number b → a ≡ b
same_qos AtMostOnce AtMostOnce h = refl
same_qos AtMostOnce AtLeastOnce h = absurd (omega (arith, h))
same_qos AtMostOnce ExactlyOnce h = absurd (omega (arith, h))
same_qos AtLeastOnce AtMostOnce h = absurd (omega (arith, h))
same_qos AtLeastOnce AtLeastOnce h = refl
same_qos AtLeastOnce ExactlyOnce h = absurd (omega (arith, h))
same_qos ExactlyOnce AtMostOnce h = absurd (omega (arith, h))
same_qos ExactlyOnce AtLeastOnce h = absurd (omega (arith, h))
same_qos ExactlyOnce ExactlyOnce h = refl

pub one_qos : (v : Value) (a b : Qos) → v ≡ number (qos_number a) → v ≡ number (qos_number b) → a ≡ b
one_qos v a b h k = same_qos a b (one_number v (qos_number a) (qos_number b) h k)

-- ---- meta

abbrev pub counters_of : ℕ → ℕ → ℕ → ℕ → ℕ → Counters
counters_of births publications subscribes autos moment =
    record { births = births; publications = publications; subscribes = subscribes; autos = autos; moment = moment }

pub same_counters : (a b c d e f g h i j : ℕ) → a ≡ b → c ≡ d → e ≡ f → g ≡ h → i ≡ j → counters_of a c e g i ≡ counters_of b d f h j
same_counters a b c d e f g h i j p q r s t = rw (p, q, r, s, t) refl

same_numbers : (schema : ℕ) (x y : Counters) (autos births moment publications named subscribes : Row) → SaysNumbers schema x (autos ∷ births ∷ moment ∷ publications ∷ named ∷ subscribes ∷ []) → SaysNumbers schema y (autos ∷ births ∷ moment ∷ publications ∷ named ∷ subscribes ∷ []) → x ≡ y
same_numbers schema x y autos births moment publications named subscribes h k =
    same_counters x.births y.births x.publications y.publications x.subscribes y.subscribes x.autos y.autos x.moment y.moment
    (one_number _ _ _ h.1.value k.1.value) (one_number _ _ _ h.3.value k.3.value) (one_number _ _ _ h.5.value k.5.value)
    (one_number _ _ _ h.0.value k.0.value) (one_number _ _ _ h.2.value k.2.value)

pub one_numbers : (schema : ℕ) (x y : Counters) (rows : List Row) → SaysNumbers schema x rows → SaysNumbers schema y rows → x ≡ y
one_numbers schema x y [] h k = absurd h
one_numbers schema x y (a ∷ []) h k = absurd h
one_numbers schema x y (a ∷ b ∷ []) h k = absurd h
one_numbers schema x y (a ∷ b ∷ c ∷ []) h k = absurd h
one_numbers schema x y (a ∷ b ∷ c ∷ d ∷ []) h k = absurd h
one_numbers schema x y (a ∷ b ∷ c ∷ d ∷ e ∷ []) h k = absurd h
one_numbers schema x y (a ∷ b ∷ c ∷ d ∷ e ∷ f ∷ []) h k = same_numbers schema x y a b c d e f h k
one_numbers schema x y (a ∷ b ∷ c ∷ d ∷ e ∷ f ∷ g ∷ rows) h k = absurd h

-- ---- session

one_moment : (v : Value) (o p : Option ℕ) → v ≡ number_or_null o → v ≡ number_or_null p → o ≡ p
one_moment v None None h k = refl
one_moment v None (Some n) h k = let e : Null ≡ number n = sym h ∙ k in absurd cc
one_moment v (Some n) None h k = let e : Null ≡ number n = sym k ∙ h in absurd cc
one_moment v (Some n) (Some m) h k = ap Some (one_number v n m h k)

abbrev columns_of : ℕ → List ℕ → ℕ → Option ℕ → Columns
columns_of birth client expiry closed = record { birth = birth; client = client; expiry = expiry; closed = closed }

same_columns : (a b : ℕ) (c d : List ℕ) (e f : ℕ) (g h : Option ℕ) → a ≡ b → c ≡ d → e ≡ f → g ≡ h → columns_of a c e g ≡ columns_of b d f h
same_columns a b c d e f g h p q r s = rw (p, q, r, s) refl

pub one_columns : (x y : Columns) (row : Row) → SaysSession x row → SaysSession y row → x ≡ y
one_columns x y row h k =
    same_columns _ _ _ _ _ _ _ _ (one_number _ _ _ h.birth k.birth) (one_text _ _ _ h.client k.client) (one_number _ _ _ h.expiry k.expiry)
    (one_moment _ _ _ h.closed k.closed)

-- ---- inbound

pub one_open : (x y : ℕ) (row : Row) → SaysOpen x row → SaysOpen y row → x ≡ y
one_open x y row h k = one_number _ x y h.identifier k.identifier

-- ---- sub

pub same_handling : (a b : RetainHandling) → handling_number a ≡ handling_number b → a ≡ b
same_handling SendAlways SendAlways h = refl
same_handling SendAlways SendIfNew h = absurd (omega (arith, h))
same_handling SendAlways DoNotSend h = absurd (omega (arith, h))
same_handling SendIfNew SendAlways h = absurd (omega (arith, h))
same_handling SendIfNew SendIfNew h = refl
same_handling SendIfNew DoNotSend h = absurd (omega (arith, h))
same_handling DoNotSend SendAlways h = absurd (omega (arith, h))
same_handling DoNotSend SendIfNew h = absurd (omega (arith, h))
same_handling DoNotSend DoNotSend h = refl

same_identifier : (o p : Option ℕ) → or_zero o ≡ or_zero p → IsIdentifier o → IsIdentifier p → o ≡ p
same_identifier None None h a b = refl
same_identifier None (Some n) h a b = let more = b.0 in absurd (omega (arith, h, more))
same_identifier (Some n) None h a b = let more = a.0 in absurd (omega (arith, h, more))
same_identifier (Some n) (Some m) h a b = ap Some h

abbrev options_of : Qos → Bool → Bool → RetainHandling → SubscriptionOptions
options_of qos no_local retain handling = record { qos = qos; no_local = no_local; retain_as_published = retain; retain_handling = handling }

same_options : (a b : Qos) (c d e f : Bool) (g h : RetainHandling) → a ≡ b → c ≡ d → e ≡ f → g ≡ h → options_of a c e g ≡ options_of b d f h
same_options a b c d e f g h p q r s = rw (p, q, r, s) refl

one_options : (x y : SubscriptionOptions) (row : Row) → SaysOptions x row → SaysOptions y row → x ≡ y
one_options x y row h k =
    same_options _ _ _ _ _ _ _ _ (one_qos _ _ _ h.qos k.qos) (one_flag _ _ _ h.no_local k.no_local) (one_flag _ _ _ h.retain k.retain)
    (same_handling _ _ (one_number _ _ _ h.handling k.handling))

abbrev subscription_of : List ℕ → ℕ → SubscriptionOptions → Option ℕ → Subscription
subscription_of text place options identifier = record { filter = text; place = place; options = options; identifier = identifier }

same_subscription : (a b : List ℕ) (c d : ℕ) (e f : SubscriptionOptions) (g h : Option ℕ) → a ≡ b → c ≡ d → e ≡ f → g ≡ h → subscription_of a c e g ≡ subscription_of b d f h
same_subscription a b c d e f g h p q r s = rw (p, q, r, s) refl

pub one_subscription : (x y : Subscription) (row : Row) → SaysSubscription x row → SaysSubscription y row → x ≡ y
one_subscription x y row h k =
    same_subscription _ _ _ _ _ _ _ _ (one_text _ _ _ h.text k.text) (one_number _ _ _ h.place k.place) (one_options _ _ row h.options k.options)
    (same_identifier _ _ (one_number _ _ _ h.identifier k.identifier) h.identifier_range k.identifier_range)

-- ---- blocks

abbrev list_in : Result (List Prop × List ℕ) PropFault → List Prop
list_in (Ok x) = x.0
list_in (Err fault) = []

pub one_block : (place : Place) (ps qs : List Prop) (v : Value) → IsBlockOf place ps v → IsBlockOf place qs v → ps ≡ qs
one_block place ps qs v h k =
    let same : h.bytes ≡ k.bytes = one_blob v _ _ h.holds k.holds in
    let first : lawful_at place h.bytes ≡ Ok (ps, []) = lawful_again place ps [] h.bytes h.is h.lawful in
    let second : lawful_at place k.bytes ≡ Ok (qs, []) = lawful_again place qs [] k.bytes k.is k.lawful in
    ap list_in (sym first ∙ (ap (lawful_at place) same ∙ second))

pub one_passed : (ps qs : List Prop) (v : Value) → SaysPassed ps v → SaysPassed qs v → ps ≡ qs
one_passed ps qs v h k = one_block _ ps qs v h.block k.block

one_sent : (ps qs : List Prop) (ids others : List ℕ) (v : Value) → SaysSent ps ids v → SaysSent qs others v → (ps ≡ qs) × (ids ≡ others)
one_sent ps qs ids others v h k =
    let same : h.all ≡ k.all = one_block _ _ _ v h.block k.block in
    (sym h.passed ∙ (ap (without SubscriptionIdentifier) same ∙ k.passed), sym h.identifiers ∙ (ap identifiers_in same ∙ k.identifiers))

-- ---- will

abbrev will_of : ℕ → Qos → Bool → List ℕ → List Prop → List ℕ → Will
will_of delay qos retain topic properties payload =
    record { delay = delay; qos = qos; retain = retain; topic = topic; properties = properties; payload = payload }

same_will : (a b : ℕ) (c d : Qos) (e f : Bool) (g h : List ℕ) (i j : List Prop) (k l : List ℕ) → a ≡ b → c ≡ d → e ≡ f → g ≡ h → i ≡ j → k ≡ l → will_of a c e g i k ≡ will_of b d f h j l
same_will a b c d e f g h i j k l p q r s t u = rw (p, q, r, s, t, u) refl

pub one_will : (x y : Will) (row : Row) → SaysWill x row → SaysWill y row → x ≡ y
one_will x y row h k =
    same_will _ _ _ _ _ _ _ _ _ _ _ _ (one_number _ _ _ h.delay k.delay) (one_qos _ _ _ h.qos k.qos) (one_flag _ _ _ h.retain k.retain)
    (one_text _ _ _ h.topic k.topic) (one_block _ _ _ _ h.properties k.properties) (one_blob _ _ _ h.payload k.payload)

-- ---- retained

abbrev pub content_of : List ℕ → List Prop → List ℕ → ℕ → Content
content_of topic properties payload arrived = record { topic = topic; properties = properties; payload = payload; arrived = arrived }

pub same_content : (a b : List ℕ) (c d : List Prop) (e f : List ℕ) (g h : ℕ) → a ≡ b → c ≡ d → e ≡ f → g ≡ h → content_of a c e g ≡ content_of b d f h
same_content a b c d e f g h p q r s = rw (p, q, r, s) refl

abbrev pub retained_of : ℕ → List ℕ → ℕ → Qos → Content → RetainedMessage
retained_of place sender publication qos content = record { place = place; sender = sender; publication = publication; qos = qos; content = content }

pub same_retained : (a b : ℕ) (c d : List ℕ) (e f : ℕ) (g h : Qos) (i j : Content) → a ≡ b → c ≡ d → e ≡ f → g ≡ h → i ≡ j → retained_of a c e g i ≡ retained_of b d f h j
same_retained a b c d e f g h i j p q r s t = rw (p, q, r, s, t) refl

-- ---- copy

one_cause : (x y : Cause) (cause text n : Value) → SaysCause x cause text n → SaysCause y cause text n → x ≡ y
one_cause Direct Direct cause text n h k = refl
one_cause Direct (Share g) cause text n h k = let e : 0 ≡ 1 = one_number cause 0 1 h.0 k.0 in absurd (omega (arith, e))
one_cause Direct (Retained m) cause text n h k = let e : 0 ≡ 2 = one_number cause 0 2 h.0 k.0 in absurd (omega (arith, e))
one_cause (Share g) Direct cause text n h k = let e : 1 ≡ 0 = one_number cause 1 0 h.0 k.0 in absurd (omega (arith, e))
one_cause (Share g) (Share f) cause text n h k = ap Share (one_text text g f h.1 k.1)
one_cause (Share g) (Retained m) cause text n h k = let e : 1 ≡ 2 = one_number cause 1 2 h.0 k.0 in absurd (omega (arith, e))
one_cause (Retained m) Direct cause text n h k = let e : 2 ≡ 0 = one_number cause 2 0 h.0 k.0 in absurd (omega (arith, e))
one_cause (Retained m) (Share g) cause text n h k = let e : 2 ≡ 1 = one_number cause 2 1 h.0 k.0 in absurd (omega (arith, e))
one_cause (Retained m) (Retained l) cause text n h k = ap Retained (one_number n m l h.2 k.2)

abbrev id_of : ℕ → ℕ → Cause → CopyId
id_of publication birth cause = record { publication = publication; birth = birth; cause = cause }

same_id : (a b c d : ℕ) (e f : Cause) → a ≡ b → c ≡ d → e ≡ f → id_of a c e ≡ id_of b d f
same_id a b c d e f p q r = rw (p, q, r) refl

pub one_id : (x y : CopyId) (row : Row) → SaysId x row → SaysId y row → x ≡ y
one_id x y row h k =
    same_id _ _ _ _ _ _ (one_number _ _ _ h.publication k.publication) (one_number _ _ _ h.birth k.birth) (one_cause _ _ _ _ _ h.cause k.cause)

-- the number of a phase
abbrev phase_number : Phase → ℕ
phase_number Waiting = 0
phase_number (Sent id) = 1
phase_number (Released id order) = 2
phase_number (Oversize id order) = 3

phase_column : (qos : Qos) (x : Phase) (pid phase rel : Value) → SaysPhase qos x pid phase rel → phase ≡ number (phase_number x)
phase_column qos Waiting pid phase rel h = h.1
phase_column qos (Sent id) pid phase rel h = h.1
phase_column qos (Released id order) pid phase rel h = h.1
phase_column qos (Oversize id order) pid phase rel h = h.1

pub one_phase : (q r : Qos) (x y : Phase) (pid phase rel : Value) → SaysPhase q x pid phase rel → SaysPhase r y pid phase rel → x ≡ y
one_phase q r x y pid phase rel h k = go x y h k (one_number phase (phase_number x) (phase_number y) (phase_column q x pid phase rel h) (phase_column r y pid phase rel k))
  where
    go : (x y : Phase) → SaysPhase q x pid phase rel → SaysPhase r y pid phase rel → phase_number x ≡ phase_number y → x ≡ y
    go Waiting Waiting h k e = refl
    go Waiting (Sent id) h k e = absurd (omega (arith, e))
    go Waiting (Released id order) h k e = absurd (omega (arith, e))
    go Waiting (Oversize id order) h k e = absurd (omega (arith, e))
    go (Sent id) Waiting h k e = absurd (omega (arith, e))
    go (Sent id) (Sent other) h k e = ap Sent (one_number pid id other h.0 k.0)
    go (Sent id) (Released other order) h k e = absurd (omega (arith, e))
    go (Sent id) (Oversize other order) h k e = absurd (omega (arith, e))
    go (Released id order) Waiting h k e = absurd (omega (arith, e))
    go (Released id order) (Sent other) h k e = absurd (omega (arith, e))
    go (Released id order) (Released other last) h k e =
        ap (λ (n : ℕ). Released n order) (one_number pid id other h.0 k.0) ∙ ap (λ (n : ℕ). Released other n) (one_number rel order last h.2 k.2)
    go (Released id order) (Oversize other last) h k e = absurd (omega (arith, e))
    go (Oversize id order) Waiting h k e = absurd (omega (arith, e))
    go (Oversize id order) (Sent other) h k e = absurd (omega (arith, e))
    go (Oversize id order) (Released other last) h k e = absurd (omega (arith, e))
    go (Oversize id order) (Oversize other last) h k e =
        ap (λ (n : ℕ). Oversize n order) (one_number pid id other h.0 k.0) ∙ ap (λ (n : ℕ). Oversize other n) (one_number rel order last h.2 k.2)

pub one_sent_content : (x y : Content) (ids others : List ℕ) (row : Row) → SaysSentContent x ids row → SaysSentContent y others row → (x ≡ y) × (ids ≡ others)
one_sent_content x y ids others row h k =
    let both = one_sent _ _ _ _ _ h.properties k.properties in
    (same_content _ _ _ _ _ _ _ _ (one_text _ _ _ h.topic k.topic) both.0 (one_blob _ _ _ h.payload k.payload) (one_number _ _ _ h.arrived k.arrived), both.1)

abbrev pub message_of : CopyId → Qos → Bool → List ℕ → Content → MessageCopy
message_of id qos retain identifiers content = record { id = id; qos = qos; retain = retain; identifiers = identifiers; content = content }

pub same_message : (a b : CopyId) (c d : Qos) (e f : Bool) (g h : List ℕ) (i j : Content) → a ≡ b → c ≡ d → e ≡ f → g ≡ h → i ≡ j → message_of a c e g i ≡ message_of b d f h j
same_message a b c d e f g h i j p q r s t = rw (p, q, r, s, t) refl

pub one_message : (x y : MessageCopy) (row : Row) → SaysMessage x row → SaysMessage y row → x ≡ y
one_message x y row h k =
    let both = one_sent_content _ _ _ _ row h.content k.content in
    same_message _ _ _ _ _ _ _ _ _ _ (one_id _ _ row h.id k.id) (one_qos _ _ _ h.qos k.qos) (one_flag _ _ _ h.retain k.retain) both.1 both.0

abbrev pub copy_of : ℕ → Phase → MessageCopy → CopyRow
copy_of place phase copy = record { place = place; phase = phase; copy = copy }

pub same_copy : (a b : ℕ) (c d : Phase) (e f : MessageCopy) → a ≡ b → c ≡ d → e ≡ f → copy_of a c e ≡ copy_of b d f
same_copy a b c d e f p q r = rw (p, q, r) refl

pub one_copy : (x y : CopyRow) (row : Row) → SaysCopy x row → SaysCopy y row → x ≡ y
one_copy x y row h k =
    same_copy _ _ _ _ _ _ (one_number _ _ _ h.place k.place) (one_phase _ _ _ _ _ _ _ h.phase k.phase) (one_message _ _ row h.message k.message)
