-- To a client that takes no alias and was told none each copy goes out with its whole topic, and is too large by it alone.
use Rattle.std.proofs.Common.{◌≡◌, ℕ, Bool, true, false, ◌&&◌, List, [], ◌∷◌, Option, Some, None, refl, ap, ◌∙◌, sym, subst}
use Rattle.std.specs.Prelude.{cond, is_some, nat_le, nat_lt}
use Rattle.std.specs.List.{AllByRecursion}
use Rattle.mqtt_flow.specs.outbound.Outbound.{pump}
use Rattle.mqtt_topic.specs.declared.sending.form.Form.{Form}
use Rattle.mqtt_topic.specs.declared.sending.form.Form.TheVariants.{Plain}
use Rattle.mqtt_topic.specs.sending.Told.{none_told}
use Rattle.mqtt_packet.specs.declared.codec.packet.Packet.TheVariants as packets
use Rattle.mqtt_records.specs.declared.messages.message.MessageCopy.{MessageCopy}
use Rattle.mqtt_records.specs.messages.Queue.{CopyRow, IsSpelled}
use Rattle.mqtt_records.specs.declared.state.session.Session.{Session}
use Rattle.mqtt_records.specs.state.Session.{copy_place}
use Rattle.mqtt_records.specs.lists.Order.{IsAbove, IsAscending}
use Rattle.mqtt_rules.specs.step.Deeds.{Send, offer}
use Rattle.mqtt_rules.specs.step.Fitting.{fitted, fitted_size, form_of, is_due, offer_copy, pump_turns, size_at, told_behind}
use Rattle.mqtt_rules.specs.step.Forms.{form_size, in_form, is_within, published_of}
use Rattle.mqtt_rules.specs.step.Outbound.{way_of}
use Rattle.mqtt_rules.specs.step.Packets.{publish_of, size_of}
use Rattle.mqtt_rules.specs.step.State.{Line, Broker, queue_on, told_on}
use Rattle.mqtt_rules.proofs.step_lemmas.forms.FormSizes.{copy_in_form}
use Rattle.mqtt_rules.proofs.fitting_lemmas.Decided.{first_size_is, other_place, plain_is_spelled}
use Rattle.mqtt_rules.proofs.fitting_lemmas.SamePumps.{AreAlike, pumps_same}
use Rattle.mqtt_rules.proofs.fitting_lemmas.WholeCopies.{own_size}

-- ---- sizes

-- with a form or without, the size is that of the whole topic
plain_size : (largest : ℕ) (copy : MessageCopy) → fitted_size (form_of largest (none_told 0) copy) copy ≡ form_size Plain copy
plain_size largest copy = by (is_within largest (published_of copy.content.arrived false 1 copy) Plain)
  where
    by : (t : Bool) → fitted_size (cond t (Some Plain) None) copy ≡ form_size Plain copy
    by true = refl
    by false = refl

-- and nothing is told by it
still_untold : (due : Bool) (largest : ℕ) (copy : MessageCopy) → told_behind due (form_of largest (none_told 0) copy) copy.content.topic (none_told 0) ≡ none_told 0
still_untold due largest copy = by due (is_within largest (published_of copy.content.arrived false 1 copy) Plain)
  where
    by : (due t : Bool) → told_behind due (cond t (Some Plain) None) copy.content.topic (none_told 0) ≡ none_told 0
    by false t = refl
    by true true = refl
    by true false = refl

abbrev IsOwn : List (ℕ × ℕ) → CopyRow → Type 0
IsOwn sizes e = size_at sizes e ≡ own_size e

behind : (e : CopyRow) (size : ℕ) (rest : List (ℕ × ℕ)) (es : List CopyRow) → IsAbove copy_place e.place es → AllByRecursion (IsOwn rest) es → AllByRecursion (IsOwn ((e.place, size) ∷ rest)) es
behind e size rest [] up h = tt
behind e size rest (x ∷ xs) up h = (
  ap (λ b. cond b size (size_at rest x)) (other_place e.place x.place up.0) ∙ h.0,
  behind e size rest xs up.1 h.1,
)

own_sizes : (l : Line) (now : ℕ) (es : List CopyRow) → IsAscending copy_place es → AllByRecursion (IsOwn (fitted l now (none_told 0) es)) es
own_sizes l now [] up = tt
own_sizes l now (e ∷ es) up =
    let form = form_of l.largest (none_told 0) e.copy in
    let size = fitted_size form e.copy in
    let told = told_behind (is_due now l.went e) form e.copy.content.topic (none_told 0) in
    let own = copy_in_form Plain e.copy e.copy.content.arrived 1 false in
    let more = subst (λ x. AllByRecursion (IsOwn (fitted l now x es)) es) (sym (still_untold (is_due now l.went e) l.largest e.copy)) (own_sizes l now es up.1) in (
      first_size_is e size (fitted l now told es) ∙ plain_size l.largest e.copy ∙ sym own,
      behind e size (fitted l now told es) es up.0 more,
    )

-- ---- pumps

alike : (l : Line) (now : ℕ) (sizes : List (ℕ × ℕ)) (es : List CopyRow) → AllByRecursion (IsOwn sizes) es → AreAlike (way_of l now) (size_at sizes) own_size es
alike l now sizes [] h = tt
alike l now sizes (e ∷ es) h = (ap (λ n. nat_lt l.largest n) h.0, alike l now sizes es h.1)

-- a pump to who was told nothing, and may be told nothing, goes by whole topics
pub plain_pumps : (l : Line) (b : Broker) (s : Session) → told_on l.number b.tellings ≡ none_told 0 → IsAscending copy_place s.queue → pump_turns l b s ≡ pump (way_of l b.now) (queue_on l.went s)
plain_pumps l b s untold up =
    let told = told_on l.number b.tellings in
    let own = subst (λ x. AllByRecursion (IsOwn (fitted l b.now x s.queue)) s.queue) (sym untold) (own_sizes l b.now s.queue up) in
    pumps_same (way_of l b.now) (size_at (fitted l b.now told s.queue)) own_size l.went s.queue (alike l b.now (fitted l b.now told s.queue) s.queue own)

-- ---- a copy of QoS 0

has_plain : (largest : ℕ) (copy : MessageCopy) → is_some (form_of largest (none_told 0) copy) ≡ is_within largest (published_of copy.content.arrived false 1 copy) Plain
has_plain largest copy = by (is_within largest (published_of copy.content.arrived false 1 copy) Plain)
  where
    by : (t : Bool) → is_some (cond {A = Option Form} t (Some Plain) None) ≡ t
    by true = refl
    by false = refl

-- at each moment and under each identifier it has as many bytes
is_plain : (largest now : ℕ) (copy : MessageCopy) → IsSpelled copy → is_within largest (published_of copy.content.arrived false 1 copy) Plain ≡ nat_le (size_of (publish_of now false 0 copy)) largest
is_plain largest now copy h =
    let size = size_of (packets.Publish (in_form Plain (published_of copy.content.arrived false 1 copy))) in
    ap (λ t. t && nat_le size largest) (plain_is_spelled copy h)
    ∙ ap (λ n. nat_le n largest) (copy_in_form Plain copy copy.content.arrived 1 false ∙ sym (copy_in_form Plain copy now 0 false))

-- and so goes a copy of QoS 0
pub plain_offers : (l : Line) (copy : MessageCopy) (b : Broker) → told_on l.number b.tellings ≡ none_told 0 → IsSpelled copy → offer_copy (Some l) copy b ≡ offer (Some l) (publish_of b.now false 0 copy)
plain_offers l copy b untold h =
    let packet = publish_of b.now false 0 copy in
    ap (λ told. cond (is_some (form_of l.largest told copy)) (Send l.number packet ∷ []) []) untold
    ∙ ap (λ t. cond t (Send l.number packet ∷ []) []) (has_plain l.largest copy ∙ is_plain l.largest b.now copy h)
