-- Rows that are listed with the bytes of a shorter form: by them a pump is the rules' (MQTT 5.0, 3.1.2.11.4, 3.3.2.3.4).
use Rattle.std.proofs.Common.{◌≡◌, ℕ, ◌<◌, ◌≤◌, ◌^◌, Bool, true, false, cond, List, [], ◌∷◌, ◌++◌, map, nat_eq, refl, ap, sym, ◌∙◌, append-nil, arith, Option, Some, None}
use Rattle.std.specs.Prelude.{nat_lt}
use Rattle.std.specs.List.{AllByRecursion}
use Rattle.std.proofs.lemmas.Bool.{le-ltb, lt-ltb}
use Rattle.mqtt_base.proofs.Varints.{size_fourth, varint_sizes}
use Rattle.mqtt_flow.specs.declared.outbound.entry.Way.{Way}
use Rattle.mqtt_flow.specs.outbound.Outbound.{pump}
use Rattle.mqtt_records.specs.declared.messages.message.MessageCopy.{MessageCopy}
use Rattle.mqtt_records.specs.messages.Queue.{CopyRow, IsSpelled}
use Rattle.mqtt_records.specs.lists.Order.{IsAbove, IsAscending}
use Rattle.mqtt_records.proofs.lists_lemmas.OrderLemmas.{apart}
use Rattle.mqtt_records.specs.declared.state.session.Session.{Session}
use Rattle.mqtt_records.specs.state.Session.{copy_place}
use Rattle.mqtt_topic.specs.declared.sending.form.Form.{Form}
use Rattle.mqtt_topic.specs.declared.sending.form.Form.TheVariants.{Plain}
use Rattle.mqtt_topic.specs.sending.Told.{ToldTopics, none_told}
use Rattle.mqtt_rules.specs.step.Fitting.{fitted, fitted_size, form_of, is_due, pump_turns, size_at, sized, told_behind}
use Rattle.mqtt_rules.specs.step.Forms.{form_remaining, form_size, is_within, published_of}
use Rattle.mqtt_rules.specs.step.Outbound.{way_of}
use Rattle.mqtt_rules.specs.step.State.{Line, Broker, told_on}
use Rattle.mqtt_rules.proofs.step_lemmas.forms.FormSizes.{copy_in_form, plain_remaining}
use Rattle.mqtt_rules.proofs.step_lemmas.flight.SizedRows.{own_size}
use Rattle.mqtt_broker_looks.specs.sent.Frames.{IsSizeIn, IsSizeOf}
use Rattle.mqtt_rules.proofs.fitting_lemmas.Decided.{first_size_is, other_place}
use Rattle.mqtt_rules.proofs.fitting_lemmas.SamePumps.{AreAlike, pumps_same}
use Rattle.mqtt_rules.proofs.fitting_lemmas.WholeCopies.{form_is_small}
use Rattle.mqtt_broker_queue.specs.queues.Fitting.{fitting, listed}
use Rattle.mqtt_broker_queue.proofs.queues_lemmas.Forms.{IsWithinIf, form_is_within, within_small}

-- ---- at a row

-- what is listed of a row is passed over by others
skip : (largest : ℕ) (o : Option Form) (x e : CopyRow) (rest : List (ℕ × ℕ)) → nat_eq x.place e.place ≡ false → size_at (listed largest o x ++ rest) e ≡ size_at rest e
skip largest None x e rest differ = refl
skip largest (Some form) x e rest differ = by (nat_lt largest (form_size Plain x.copy))
  where
    by : (t : Bool) → size_at (cond t ((x.place, form_size form x.copy) ∷ []) [] ++ rest) e ≡ size_at rest e
    by true = ap (λ b. cond b (form_size form x.copy) (size_at rest e)) differ
    by false = refl

-- of a row below others nothing is listed
none_below : (l : Line) (now : ℕ) (told : ToldTopics) (e : CopyRow) (xs : List CopyRow) → IsAbove copy_place e.place xs → size_at (fitting l now told xs) e ≡ own_size e
none_below l now told e [] up = refl
none_below l now told e (x ∷ xs) up =
    let form = form_of l.largest told x.copy in
    let behind = told_behind (is_due now l.went x) form x.copy.content.topic told in
    let more = up.0 in
    skip l.largest form x e (fitting l now behind xs) (apart x.place e.place (λ same. omega (arith, same, more)))
    ∙ none_below l now behind e xs up.1

-- a row itself is found too large as it is by its form
at_row : (largest : ℕ) (o : Option Form) (x : CopyRow) (rest : List (ℕ × ℕ)) → size_at rest x ≡ own_size x → IsWithinIf largest x.copy o
    → nat_lt largest (size_at (listed largest o x ++ rest) x) ≡ nat_lt largest (fitted_size o x.copy)
at_row largest None x rest own within = ap (nat_lt largest) (own ∙ copy_in_form Plain x.copy x.copy.content.arrived 1 false)
at_row largest (Some form) x rest own within = by (nat_lt largest (form_size Plain x.copy)) refl
  where
    by : (t : Bool) → nat_lt largest (form_size Plain x.copy) ≡ t
        → nat_lt largest (size_at (cond t ((x.place, form_size form x.copy) ∷ []) [] ++ rest) x) ≡ nat_lt largest (form_size form x.copy)
    by true large = ap (nat_lt largest) (first_size_is x (form_size form x.copy) rest)
    by false small =
        ap (nat_lt largest) (own ∙ copy_in_form Plain x.copy x.copy.content.arrived 1 false)
        ∙ (small ∙ sym (within_small largest form x.copy within))

-- a row that is within with its whole topic is not listed
pub listed_not : (largest size : ℕ) (o : Option Form) (e : CopyRow) (xs : List (ℕ × ℕ)) → size ≤ largest → IsSizeOf e.copy size → xs ≡ xs ++ listed largest o e
listed_not largest size None e xs less is = sym (append-nil xs)
listed_not largest size (Some form) e xs less is =
    let same = is e.copy.content.arrived 1 false ∙ copy_in_form Plain e.copy e.copy.content.arrived 1 false in
    let small = le-ltb largest (form_size Plain e.copy) (omega (arith, less, same)) in
    sym (append-nil xs) ∙ ap (λ b. xs ++ cond b ((e.place, form_size form e.copy) ∷ []) []) (sym small)

-- one that is not is listed with the bytes of its form
pub listed_at : (largest size bytes : ℕ) (form : Form) (e : CopyRow) → largest < size → IsSizeOf e.copy size → IsSizeIn form e.copy bytes
    → (e.place, bytes) ∷ [] ≡ listed largest (Some form) e
listed_at largest size bytes form e more is in_form_is =
    let same = is e.copy.content.arrived 1 false ∙ copy_in_form Plain e.copy e.copy.content.arrived 1 false in
    let large = lt-ltb largest (form_size Plain e.copy) (omega (arith, more, same)) in
    ap (λ n. (e.place, n) ∷ []) (in_form_is e.copy.content.arrived 1 false ∙ copy_in_form form e.copy e.copy.content.arrived 1 false)
    ∙ ap (λ b. cond b ((e.place, form_size form e.copy) ∷ []) []) (sym large)

-- ---- all rows

alike : (l : Line) (now : ℕ) (told : ToldTopics) (q : List CopyRow) → IsAscending copy_place q → AreAlike (way_of l now) (size_at (fitting l now told q)) (size_at (fitted l now told q)) q
alike l now told [] up = tt
alike l now told (x ∷ xs) up = (
  at_row l.largest form x (fitting l now behind xs) (none_below l now behind x xs up.0) (form_is_within l.largest told x.copy)
      ∙ ap (nat_lt l.largest) (sym (first_size_is x (fitted_size form x.copy) (fitted l now behind xs))),
  later xs up.0 (alike l now behind xs up.1),
)
  where
    form : Option Form
    form = form_of l.largest told x.copy

    behind : ToldTopics
    behind = told_behind (is_due now l.went x) form x.copy.content.topic told

    later : (es : List CopyRow) → IsAbove copy_place x.place es → AreAlike (way_of l now) (size_at (fitting l now behind xs)) (size_at (fitted l now behind xs)) es
        → AreAlike (way_of l now) (size_at (fitting l now told (x ∷ xs))) (size_at (fitted l now told (x ∷ xs))) es
    later [] above h = tt
    later (e ∷ es) above h =
        let differ = other_place x.place e.place above.0 in (
          ap (nat_lt l.largest) (skip l.largest form x e (fitting l now behind xs) differ)
              ∙ (h.0 ∙ sym (ap (λ b. nat_lt l.largest (cond b (fitted_size form x.copy) (size_at (fitted l now behind xs) e))) differ)),
          later es above.1 h.1,
        )

-- a pump by what is listed is the rules'
pump_fits : (l : Line) (b : Broker) (s : Session) → IsAscending copy_place s.queue
    → pump (way_of l b.now) (map (sized (size_at (fitting l b.now (told_on l.number b.tellings) s.queue)) l.went) s.queue) ≡ pump_turns l b s
pump_fits l b s up =
    let told = told_on l.number b.tellings in
    pumps_same (way_of l b.now) (size_at (fitting l b.now told s.queue)) (size_at (fitted l b.now told s.queue)) l.went s.queue (alike l b.now told s.queue up)

-- so is one that was looked up for a session that is connected on a line, by rows, way and sizes that are those
pub pumped : (l : Line) (b : Broker) (s : Session) (way : Way) (went : List ℕ) (sizes : List (ℕ × ℕ)) (rows : List CopyRow) → way ≡ way_of l b.now → went ≡ l.went
    → sizes ≡ fitting l b.now (told_on l.number b.tellings) rows → rows ≡ s.queue → IsAscending copy_place s.queue
    → pump way (map (sized (size_at sizes) went) rows) ≡ pump_turns l b s
pumped l b s way went sizes rows way_is went_is sizes_are rows_are up =
    ap (λ w. pump w (map (sized (size_at sizes) went) rows)) way_is
    ∙ (ap (λ places. pump (way_of l b.now) (map (sized (size_at sizes) places) rows)) went_is
    ∙ (ap (λ bytes. pump (way_of l b.now) (map (sized (size_at bytes) l.went) rows)) sizes_are
    ∙ (ap (λ q. pump (way_of l b.now) (map (sized (size_at (fitting l b.now (told_on l.number b.tellings) q)) l.went) q)) rows_are
    ∙ pump_fits l b s up)))

-- ---- nothing is listed

still_untold : (due t : Bool) (topic : List ℕ) → told_behind due (cond t (Some Plain) None) topic (none_told 0) ≡ none_told 0
still_untold false t topic = refl
still_untold true true topic = refl
still_untold true false topic = refl

plain_alone : (largest : ℕ) (e : CopyRow) (t : Bool) → is_within largest (published_of e.copy.content.arrived false 1 e.copy) Plain ≡ t → listed largest (cond t (Some Plain) None) e ≡ []
plain_alone largest e true within = ap (λ b. cond b ((e.place, form_size Plain e.copy) ∷ []) []) (form_is_small largest e.copy Plain within)
plain_alone largest e false out = refl

-- to a client that takes no aliases
pub none_untold : (l : Line) (now : ℕ) (es : List CopyRow) → fitting l now (none_told 0) es ≡ []
none_untold l now [] = refl
none_untold l now (e ∷ es) =
    let within = is_within l.largest (published_of e.copy.content.arrived false 1 e.copy) Plain in
    let behind = told_behind (is_due now l.went e) (form_of l.largest (none_told 0) e.copy) e.copy.content.topic (none_told 0) in
    ap (λ (sizes : List (ℕ × ℕ)). sizes ++ fitting l now behind es) (plain_alone l.largest e within refl)
    ∙ (ap (λ told. fitting l now told es) (still_untold (is_due now l.went e) within e.copy.content.topic)
    ∙ none_untold l now es)

-- a PUBLISH that has a spelling has no more bytes than a packet may have
fits_all : (copy : MessageCopy) → IsSpelled copy → form_size Plain copy ≤ 268435460
fits_all copy spelled =
    let short = spelled.short in
    let same = plain_remaining copy in
    let few = varint_sizes (form_remaining Plain copy) (2 ^ 28) (omega (arith, short, same)) in
    let four = size_fourth (2 ^ 28) (omega arith) in
    omega (arith, short, same, few, four)

-- to a client that takes each packet
pub none_large : (l : Line) (now : ℕ) (told : ToldTopics) (es : List CopyRow) → 268435460 ≤ l.largest → AllByRecursion (λ e. IsSpelled e.copy) es → fitting l now told es ≡ []
none_large l now told [] most spelled = refl
none_large l now told (e ∷ es) most spelled =
    let form = form_of l.largest told e.copy in
    let behind = told_behind (is_due now l.went e) form e.copy.content.topic told in
    ap (λ (sizes : List (ℕ × ℕ)). sizes ++ fitting l now behind es) (one form)
    ∙ none_large l now behind es most spelled.1
  where
    small : nat_lt l.largest (form_size Plain e.copy) ≡ false
    small = let few = fits_all e.copy spelled.0 in le-ltb l.largest (form_size Plain e.copy) (omega (arith, few, most))

    one : (o : Option Form) → listed l.largest o e ≡ []
    one None = refl
    one (Some form) = ap (λ b. cond b ((e.place, form_size form e.copy) ∷ []) []) small
