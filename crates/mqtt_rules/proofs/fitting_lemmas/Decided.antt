-- A pump sends what has a form that is within, and what it finds too large has none.
use Rattle.std.proofs.Common.{◌≡◌, ℕ, zero, suc, ◌<◌, ◌^◌, Bool, true, false, ◌&&◌, List, [], ◌∷◌, map, Option, Some, None, refl, ap, ◌∙◌, sym, subst, arith}
use Rattle.std.specs.Prelude.{cond, is_none, is_some, length, nat_eq, nat_le, nat_lt}
use Rattle.std.specs.List.{AllByRecursion}
use Rattle.std.proofs.lemmas.Bool.{leb-false, lt-ltb}
use Rattle.std.proofs.lemmas.Cmp.{nat_eq_equiv}
use Rattle.mqtt_base.specs.declared.session.Qos.{Qos}
use Rattle.mqtt_base.specs.declared.session.Qos.TheVariants.{AtMostOnce, AtLeastOnce, ExactlyOnce}
use Rattle.mqtt_base.specs.declared.session.Phase.{Phase}
use Rattle.mqtt_base.specs.declared.session.Phase.TheVariants.{Waiting, Sent, Released, Oversize}
use Rattle.mqtt_base.specs.declared.session.Ending.TheVariants.{Expired, TooLarge}
use Rattle.mqtt_flow.specs.inbound.Identifiers.{free_identifier}
use Rattle.mqtt_flow.specs.declared.outbound.entry.Turn.{Turn}
use Rattle.mqtt_flow.specs.declared.outbound.entry.Turn.TheVariants as turns
use Rattle.mqtt_flow.specs.outbound.Pacing.{Pacing}
use Rattle.mqtt_flow.specs.outbound.Outbound.{Verdict, pass, end, outgrow, send, resend, first_time, too_large, once_more, is_late, verdict, verdict_by, in_room, step_on, step_by, paced, then_on, pump_from, pace}
use Rattle.mqtt_topic.specs.declared.sending.form.Form.{Form}
use Rattle.mqtt_topic.specs.declared.sending.form.Form.TheVariants.{Plain, Named, Short}
use Rattle.mqtt_topic.specs.sending.Told.{ToldTopics, after_send, forms_by, alias_of, next_alias}
use Rattle.mqtt_topic.specs.sending.Sizes.{is_spelled}
use Rattle.mqtt_packet.specs.declared.codec.publish.Publish.{Publish}
use Rattle.mqtt_packet.specs.declared.codec.packet.Packet.TheVariants as packets
use Rattle.mqtt_packet.specs.codec.Publish.{publish_body}
use Rattle.mqtt_records.specs.declared.messages.message.MessageCopy.{MessageCopy}
use Rattle.mqtt_records.specs.messages.Queue.{CopyRow, IsSpelled}
use Rattle.mqtt_records.specs.declared.state.session.Session.{Session}
use Rattle.mqtt_records.specs.state.Session.{copy_place}
use Rattle.mqtt_records.specs.lists.Order.{row_at, IsAbove, IsAscending}
use Rattle.mqtt_rules.specs.step.Fitting.{due_by, fitted, fitted_size, form_of, is_due, pump_turns, size_at, sized, told_behind}
use Rattle.mqtt_rules.specs.step.Forms.{first_within, form_size, in_form, is_within, published_of}
use Rattle.mqtt_rules.specs.step.Outbound.{way_of}
use Rattle.mqtt_rules.specs.step.Packets.{size_of}
use Rattle.mqtt_rules.specs.step.State.{Line, Broker, entry_on, queued_copy, told_on}
use Rattle.mqtt_records.proofs.lists_lemmas.OrderLemmas.{apart}
use Rattle.mqtt_rules.proofs.step_lemmas.flight.FlightRows.{all_found}
use Rattle.mqtt_rules.proofs.step_lemmas.forms.FormSizes.{copy_body, copy_in_form, plain_remaining}
use Rattle.mqtt_rules.specs.fitting.Fitting.{AreDecided, AreSpelled, FitsTurn, ForRow, told_after, told_row}
use Rattle.mqtt_rules.proofs.fitting_lemmas.WholeCopies.{form_is_small}

-- ---- what has no form is large by its whole topic

abbrev of_copy : MessageCopy → Publish
of_copy copy = published_of copy.content.arrived false 1 copy

-- a copy that has a spelling has one with its whole topic
pub plain_is_spelled : (copy : MessageCopy) → IsSpelled copy → is_spelled (length (publish_body (in_form Plain (of_copy copy)))) ≡ true
plain_is_spelled copy h =
    let short = h.short in
    let same = copy_body Plain copy copy.content.arrived 1 false in
    let whole = plain_remaining copy in
    let n = length (publish_body (in_form Plain (of_copy copy))) in
    lt-ltb n (2 ^ 28) (omega (arith, short, same, whole))

-- if plain is not within no more than its size keeps it
plain_is_large : (largest : ℕ) (copy : MessageCopy) → IsSpelled copy → is_within largest (of_copy copy) Plain ≡ false → nat_lt largest (form_size Plain copy) ≡ true
plain_is_large largest copy h out =
    let size = size_of (packets.Publish (in_form Plain (of_copy copy))) in
    let large = subst (λ b. (b && nat_le size largest) ≡ false) (plain_is_spelled copy h) out in
    let less = leb-false size largest large in
    let same = copy_in_form Plain copy copy.content.arrived 1 false in
    lt-ltb largest (form_size Plain copy) (omega (arith, less, same))

-- of forms whose last is plain none is within, so plain is not
abbrev PlainIsOut : ℕ → Publish → Option Form → Type 0
PlainIsOut largest p None = is_within largest p Plain ≡ false
PlainIsOut largest p (Some form) = is_within largest p form ≡ true

by_form : (largest : ℕ) (p : Publish) (form : Form) (b : Bool) (o : Option Form) → is_within largest p form ≡ b → PlainIsOut largest p o → PlainIsOut largest p (cond b (Some form) o)
by_form largest p form true o eq h = eq
by_form largest p form false o eq h = h

by_plain : (largest : ℕ) (p : Publish) (b : Bool) → is_within largest p Plain ≡ b → PlainIsOut largest p (cond b (Some Plain) None)
by_plain largest p true eq = eq
by_plain largest p false eq = eq

first_is : (largest : ℕ) (p : Publish) (alias next : Option ℕ) → PlainIsOut largest p (first_within largest p (forms_by alias next))
first_is largest p (Some alias) next = by_form largest p (Short alias) (is_within largest p (Short alias)) (first_within largest p (Plain ∷ [])) refl (by_plain largest p (is_within largest p Plain) refl)
first_is largest p None (Some next) = by_form largest p (Named next) (is_within largest p (Named next)) (first_within largest p (Plain ∷ [])) refl (by_plain largest p (is_within largest p Plain) refl)
first_is largest p None None = by_plain largest p (is_within largest p Plain) refl

large_by : (largest : ℕ) (copy : MessageCopy) → IsSpelled copy → (o : Option Form) → PlainIsOut largest (of_copy copy) o → nat_lt largest (fitted_size o copy) ≡ is_none o
large_by largest copy h None out = plain_is_large largest copy h out
large_by largest copy h (Some form) within = form_is_small largest copy form within

-- so a row is large by its fitted size if it has no form, and only then
pub large_if_none : (largest : ℕ) (told : ToldTopics) (copy : MessageCopy) → IsSpelled copy → nat_lt largest (fitted_size (form_of largest told copy) copy) ≡ is_none (form_of largest told copy)
large_if_none largest told copy h =
    large_by largest copy h (form_of largest told copy) (first_is largest (of_copy copy) (alias_of copy.content.topic told) (next_alias told))

-- ---- verdicts

abbrev verdict_of : Phase → Bool → Bool → Qos → Bool → Verdict
verdict_of Waiting late here qos large = first_time late large
verdict_of (Sent i) late here qos large = once_more here large qos i
verdict_of (Released i order) late here qos large = pass
verdict_of (Oversize i order) late here qos large = pass

verdict_is : (l : Line) (now : ℕ) (f : CopyRow → ℕ) (e : CopyRow) → verdict (way_of l now) (sized f l.went e) ≡ verdict_of e.phase (is_late now (queued_copy e.copy)) (entry_on l.went e).here e.copy.qos (nat_lt l.largest (f e))
verdict_is l now f e = by e.phase
  where
    by : (phase : Phase) → verdict_by (way_of l now) (sized f l.went e).copy (sized f l.went e).here phase ≡ verdict_of phase (is_late now (queued_copy e.copy)) (entry_on l.went e).here e.copy.qos (nat_lt l.largest (f e))
    by Waiting = refl
    by (Sent i) = refl
    by (Released i order) = refl
    by (Oversize i order) = refl

-- ---- at a row

module _ (largest : ℕ) (s : Session) where
  -- each of the turns that come
  abbrev AllDecided : ToldTopics → (Pacing → List Turn) → Type 0
  AllDecided told rest = (p : Pacing) → AreDecided largest s told (rest p)

  taken : (t : Turn) (phase : Phase) (p : Pacing) (told behind : ToldTopics) (rest : Pacing → List Turn) → FitsTurn largest s told t → told_after largest s t told ≡ behind → AllDecided behind rest
      → AreDecided largest s told (t ∷ rest (paced t phase p))
  taken t phase p told behind rest fits same h = (fits, subst (λ x. AreDecided largest s x (rest (paced t phase p))) (sym same) (h (paced t phase p)))

  roomy : (k : ℕ) (t : Turn) (phase : Phase) (p : Pacing) (told behind : ToldTopics) (rest : Pacing → List Turn) → FitsTurn largest s told t → told_after largest s t told ≡ behind → AllDecided behind rest
      → AreDecided largest s told (then_on (in_room k t) phase p rest)
  roomy zero t phase p told behind rest fits same h = tt
  roomy (suc k) t phase p told behind rest fits same h = taken t phase p told behind rest fits same h

  -- what is found at the row's place is the row
  abbrev has_form : ToldTopics → Option CopyRow → Bool
  has_form told None = true
  has_form told (Some e) = is_some (form_of largest told e.copy)

  found_form : (told : ToldTopics) (e : CopyRow) (b : Bool) → row_at copy_place e.place s.queue ≡ Some e → is_some (form_of largest told e.copy) ≡ b → ForRow e.place s (λ x. is_some (form_of largest told x.copy) ≡ b)
  found_form told e b row is x there = ap (has_form told) (sym there ∙ row) ∙ is

  told_found : (told : ToldTopics) (e : CopyRow) (o : Option Form) → row_at copy_place e.place s.queue ≡ Some e → form_of largest told e.copy ≡ o → told_row largest (row_at copy_place e.place s.queue) told ≡ after_send o e.copy.content.topic told
  told_found told e o row form = ap (λ r. told_row largest r told) row ∙ ap (λ f. after_send f e.copy.content.topic told) form

  module _ (told : ToldTopics) (e : CopyRow) (p : Pacing) (rest : Pacing → List Turn) (row : row_at copy_place e.place s.queue ≡ Some e) where
    -- it goes out in a form
    sends : (form : Form) (phase : Phase) → form_of largest told e.copy ≡ Some form → AllDecided (after_send (Some form) e.copy.content.topic told) rest
        → AreDecided largest s told (then_on (step_on send e.place p) phase p rest)
    sends form phase is h =
        roomy p.room (turns.Send e.place (free_identifier p.used)) phase p told (after_send (Some form) e.copy.content.topic told) rest
        (found_form told e true row (ap is_some is)) (told_found told e (Some form) row is) h

    resends : (form : Form) (i : ℕ) (phase : Phase) → form_of largest told e.copy ≡ Some form → AllDecided (after_send (Some form) e.copy.content.topic told) rest
        → AreDecided largest s told (then_on (step_on (resend i) e.place p) phase p rest)
    resends form i phase is h =
        roomy p.room (turns.Resend e.place i) phase p told (after_send (Some form) e.copy.content.topic told) rest
        (found_form told e true row (ap is_some is)) (told_found told e (Some form) row is) h

    -- it has none
    ends_large : (phase : Phase) → form_of largest told e.copy ≡ None → AllDecided told rest → AreDecided largest s told (then_on (step_on (end TooLarge) e.place p) phase p rest)
    ends_large phase is h = taken (turns.Leave e.place TooLarge) phase p told told rest (found_form told e false row (ap is_some is)) refl h

    outgrows : (i : ℕ) (phase : Phase) → form_of largest told e.copy ≡ None → AllDecided told rest → AreDecided largest s told (then_on (step_on (outgrow i) e.place p) phase p rest)
    outgrows i phase is h = taken (turns.Outgrow e.place i p.order) phase p told told rest (found_form told e false row (ap is_some is)) refl h

    too_large_by : (qos : Qos) (i : ℕ) (phase : Phase) → form_of largest told e.copy ≡ None → AllDecided told rest → AreDecided largest s told (then_on (step_on (too_large qos i) e.place p) phase p rest)
    too_large_by AtMostOnce i phase is h = ends_large phase is h
    too_large_by AtLeastOnce i phase is h = ends_large phase is h
    too_large_by ExactlyOnce i phase is h = outgrows i phase is h

    first : (o : Option Form) (late here : Bool) (phase : Phase) → form_of largest told e.copy ≡ o → AllDecided (told_behind (due_by late here Waiting) o e.copy.content.topic told) rest
        → AreDecided largest s told (then_on (step_on (first_time late (is_none o)) e.place p) phase p rest)
    first o true here phase is h = taken (turns.Leave e.place Expired) phase p told told rest tt refl h
    first None false here phase is h = ends_large phase is h
    first (Some form) false here phase is h = sends form phase is h

    again : (o : Option Form) (late here : Bool) (qos : Qos) (i : ℕ) (phase : Phase) → form_of largest told e.copy ≡ o → AllDecided (told_behind (due_by late here (Sent i)) o e.copy.content.topic told) rest
        → AreDecided largest s told (then_on (step_on (once_more here (is_none o) qos i) e.place p) phase p rest)
    again o late true qos i phase is h = h p
    again None late false qos i phase is h = too_large_by qos i phase is h
    again (Some form) late false qos i phase is h = resends form i phase is h

    at_row : (o : Option Form) (phase : Phase) (late here : Bool) (qos : Qos) → form_of largest told e.copy ≡ o → AllDecided (told_behind (due_by late here phase) o e.copy.content.topic told) rest
        → AreDecided largest s told (then_on (step_on (verdict_of phase late here qos (is_none o)) e.place p) phase p rest)
    at_row o Waiting late here qos is h = first o late here Waiting is h
    at_row o (Sent i) late here qos is h = again o late here qos i (Sent i) is h
    at_row o (Released i order) late here qos is h = h p
    at_row o (Oversize i order) late here qos is h = h p

    with_left : (left : ℕ) (o : Option Form) (phase : Phase) (late here : Bool) (qos : Qos) → form_of largest told e.copy ≡ o → AllDecided (told_behind (due_by late here phase) o e.copy.content.topic told) rest
        → AreDecided largest s told (then_on (step_by left (verdict_of phase late here qos (is_none o)) e.place p) phase p rest)
    with_left zero o phase late here qos is h = tt
    with_left (suc k) o phase late here qos is h = at_row o phase late here qos is h

-- ---- the rows

same_place : (n : ℕ) → nat_eq n n ≡ true
same_place n = nat_eq_equiv.refl n

-- of two places in order one is not the other
pub other_place : (m n : ℕ) → m < n → nat_eq m n ≡ false
other_place m n less = apart m n (λ same. omega (arith, same, less))

-- the size at a row that stands first, and at one behind it
pub first_size_is : (e : CopyRow) (size : ℕ) (rest : List (ℕ × ℕ)) → size_at ((e.place, size) ∷ rest) e ≡ size
first_size_is e size rest = ap (λ b. cond b size (size_at rest e)) (same_place e.place)

sizes_behind : (e : CopyRow) (size : ℕ) (rest : List (ℕ × ℕ)) (f : CopyRow → ℕ) (es : List CopyRow) → IsAbove copy_place e.place es → AllByRecursion (λ x. f x ≡ size_at ((e.place, size) ∷ rest) x) es → AllByRecursion (λ x. f x ≡ size_at rest x) es
sizes_behind e size rest f [] up h = tt
sizes_behind e size rest f (x ∷ xs) up h = (
  h.0 ∙ ap (λ b. cond b size (size_at rest x)) (other_place e.place x.place up.0),
  sizes_behind e size rest f xs up.1 h.1,
)

walk : (l : Line) (now : ℕ) (s : Session) (f : CopyRow → ℕ) (es : List CopyRow) (told : ToldTopics) → IsAscending copy_place es → AllByRecursion (λ e. row_at copy_place e.place s.queue ≡ Some e) es → AreSpelled es
    → AllByRecursion (λ e. f e ≡ size_at (fitted l now told es) e) es → (p : Pacing) → AreDecided l.largest s told (pump_from (way_of l now) (map (sized f l.went) es) p)
walk l now s f [] told up rows spelled sizes p = tt
walk l now s f (e ∷ es) told up rows spelled sizes p =
    let o = form_of l.largest told e.copy in
    let topic = e.copy.content.topic in
    let behind = told_behind (is_due now l.went e) o topic told in
    let x = sized f l.went e in
    let late = is_late now (queued_copy e.copy) in
    let rest = pump_from (way_of l now) (map (sized f l.went) es) in
    let size = sizes.0 ∙ first_size_is e (fitted_size o e.copy) (fitted l now behind es) in
    let large = ap (λ n. nat_lt l.largest n) size ∙ large_if_none l.largest told e.copy spelled.0 in
    let is = verdict_is l now f e ∙ ap (verdict_of e.phase late x.here e.copy.qos) large in
    let all = walk l now s f es behind up.1 rows.1 spelled.1 (sizes_behind e (fitted_size o e.copy) (fitted l now behind es) f es up.0 sizes.1) in
    subst (λ v. AreDecided l.largest s told (then_on (step_by p.left v e.place p) e.phase p rest)) (sym is)
    (with_left l.largest s told e p rest rows.0 p.left o e.phase late x.here e.copy.qos refl all)

all_same : (f : CopyRow → ℕ) (es : List CopyRow) → AllByRecursion (λ e. f e ≡ f e) es
all_same f [] = tt
all_same f (e ∷ es) = (refl, all_same f es)

-- each turn of a pump is what the forms of its copy ask for
pub decided : (l : Line) (b : Broker) (s : Session) → IsAscending copy_place s.queue → AreSpelled s.queue → AreDecided l.largest s (told_on l.number b.tellings) (pump_turns l b s)
decided l b s up spelled =
    let told = told_on l.number b.tellings in
    let f = size_at (fitted l b.now told s.queue) in
    walk l b.now s f s.queue told up (all_found copy_place s.queue up) spelled (all_same f s.queue) (pace (way_of l b.now) (map (sized f l.went) s.queue))
