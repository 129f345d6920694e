-- A copy of QoS 0 that is within with its whole topic goes out.
use Rattle.std.proofs.Common.{◌≡◌, ℕ, true, false, [], ◌∷◌, Option, Some, None, refl, ap, ◌∙◌, sym, subst}
use Rattle.std.specs.Prelude.{cond, is_some, length, nat_le}
use Rattle.mqtt_topic.proofs.names_lemmas.MatchLemmas.{and_right}
use Rattle.mqtt_topic.specs.declared.sending.form.Form.{Form}
use Rattle.mqtt_topic.specs.declared.sending.form.Form.TheVariants.{Plain}
use Rattle.mqtt_topic.specs.sending.Sizes.{is_spelled}
use Rattle.mqtt_packet.specs.declared.codec.packet.Packet.TheVariants as packets
use Rattle.mqtt_packet.specs.codec.Publish.{publish_body}
use Rattle.mqtt_records.specs.declared.messages.message.MessageCopy.{MessageCopy}
use Rattle.mqtt_rules.specs.step.Deeds.{Send, offer}
use Rattle.mqtt_rules.specs.step.Fitting.{form_of, offer_copy}
use Rattle.mqtt_rules.specs.step.Forms.{in_form, published_of}
use Rattle.mqtt_rules.specs.step.Packets.{publish_of, size_of}
use Rattle.mqtt_rules.specs.step.State.{Broker, Line, told_on}
use Rattle.mqtt_rules.proofs.step_lemmas.forms.FormSizes.{copy_in_form}
use Rattle.mqtt_rules.specs.fitting.Fitting.{IsWithinWhole}
use Rattle.mqtt_rules.proofs.fitting_lemmas.WholeCopies.{IsFound, form_found}

is_sent : (largest : ℕ) (copy : MessageCopy) (o : Option Form) → IsFound largest (published_of copy.content.arrived false 1 copy) o → is_some o ≡ true
is_sent largest copy None h = elim h [ ]
is_sent largest copy (Some form) h = refl

-- at each moment and under each identifier it has as many bytes
whole_size : (largest : ℕ) (copy : MessageCopy) (now : ℕ) → IsWithinWhole largest copy → nat_le (size_of (publish_of now false 0 copy)) largest ≡ true
whole_size largest copy now whole =
    let p = published_of copy.content.arrived false 1 copy in
    let small = and_right (is_spelled (length (publish_body (in_form Plain p)))) (nat_le (size_of (packets.Publish (in_form Plain p))) largest) whole in
    subst (λ n. nat_le n largest ≡ true) (copy_in_form Plain copy copy.content.arrived 1 false ∙ sym (copy_in_form Plain copy now 0 false)) small

-- a copy that is within with its whole topic is offered as a packet of that size
pub offered : (l : Line) (copy : MessageCopy) (b : Broker) → IsWithinWhole l.largest copy → offer_copy (Some l) copy b ≡ offer (Some l) (publish_of b.now false 0 copy)
offered l copy b whole =
    let packet = publish_of b.now false 0 copy in
    let told = told_on l.number b.tellings in
    ap (λ t. cond t (Send l.number packet ∷ []) [])
    (is_sent l.largest copy (form_of l.largest told copy) (form_found l.largest told copy whole) ∙ sym (whole_size l.largest copy b.now whole))
