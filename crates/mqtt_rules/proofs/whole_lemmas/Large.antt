-- A copy that is large by the bytes that it goes by has no form that is within, and is large with its whole topic (MQTT 5.0, 3.1.2.11.4).
use Rattle.std.proofs.Common.{◌≡◌, ℕ, ◌≤◌, ◌<◌, Bool, true, false, cond, List, [], ◌∷◌, length, Option, Some, None, nat_le, nat_lt, refl, subst, arith}
use Rattle.std.proofs.lemmas.Bool.{leb-true, ltb-true}
use Rattle.mqtt_packet.specs.codec.Publish.{publish_body}
use Rattle.mqtt_packet.specs.declared.codec.packet.Packet.TheVariants as packets
use Rattle.mqtt_packet.specs.declared.codec.publish.Publish.{Publish}
use Rattle.mqtt_records.specs.declared.messages.message.MessageCopy.{MessageCopy}
use Rattle.mqtt_topic.proofs.names_lemmas.MatchLemmas.{and_right}
use Rattle.mqtt_topic.specs.sending.Sizes.{is_spelled}
use Rattle.mqtt_topic.specs.sending.Told.{ToldTopics, forms}
use Rattle.mqtt_topic.specs.declared.sending.form.Form.{Form}
use Rattle.mqtt_topic.specs.declared.sending.form.Form.TheVariants.{Plain}
use Rattle.mqtt_rules.specs.step.Fitting.{fitted_size, form_of}
use Rattle.mqtt_rules.specs.step.Forms.{first_within, form_size, in_form, is_within, published_of}
use Rattle.mqtt_rules.specs.step.Packets.{size_of}
use Rattle.mqtt_rules.specs.step.State.{queued_copy}
use Rattle.mqtt_rules.proofs.step_lemmas.forms.FormSizes.{copy_in_form}

-- the first form that is within is within
first_is : (largest : ℕ) (p : Publish) (fs : List Form) (form : Form) → first_within largest p fs ≡ Some form → is_within largest p form ≡ true
first_is largest p [] form is = absurd cc
first_is largest p (f ∷ fs) form is = by (is_within largest p f) refl is (λ e. first_is largest p fs form e)
  where
    by : (t : Bool) → is_within largest p f ≡ t → cond t (Some f) (first_within largest p fs) ≡ Some form → (first_within largest p fs ≡ Some form → is_within largest p form ≡ true) → is_within largest p form ≡ true
    by true within e more = let same : f ≡ form = cc in subst (λ (x : Form). is_within largest p x ≡ true) same within
    by false within e more = more e

-- in such a form a copy isn't large
form_is_small : (largest : ℕ) (copy : MessageCopy) (form : Form) → is_within largest (published_of copy.content.arrived false 1 copy) form ≡ true → form_size form copy ≤ largest
form_is_small largest copy form within =
    let p = published_of copy.content.arrived false 1 copy in
    let size = size_of (packets.Publish (in_form form p)) in
    let small = leb-true size largest (and_right (is_spelled (length (publish_body (in_form form p)))) (nat_le size largest) within) in
    subst (λ (n : ℕ). n ≤ largest) (copy_in_form form copy copy.content.arrived 1 false) small

-- none of its forms is within what a client takes that was told this, nor is the PUBLISH with its whole topic
pub record IsLarge (largest : ℕ) (told : ToldTopics) (copy : MessageCopy) : Type 0 where
  pub formless : form_of largest told copy ≡ None
  pub whole : largest < (queued_copy copy).size

-- so it is if a copy is large by the bytes that it goes by
pub is_large : (largest : ℕ) (told : ToldTopics) (copy : MessageCopy) → nat_lt largest (fitted_size (form_of largest told copy) copy) ≡ true → IsLarge largest told copy
is_large largest told copy = by (form_of largest told copy) refl
  where
    by : (o : Option Form) → form_of largest told copy ≡ o → nat_lt largest (fitted_size o copy) ≡ true → IsLarge largest told copy
    by None is big =
        let less = ltb-true largest (form_size Plain copy) big in
        let same = copy_in_form Plain copy copy.content.arrived 1 false in
        record { formless = is; whole = omega (arith, less, same) }
    by (Some form) is big =
        let less = ltb-true largest (form_size form copy) big in
        let small = form_is_small largest copy form (first_is largest (published_of copy.content.arrived false 1 copy) (forms told copy.content.topic) form is) in
        absurd (omega (arith, less, small))
