-- Alike copies go out in the same forms, which have as many bytes (MQTT 5.0, 3.3.2.3.4).
use Rattle.std.proofs.Common.{◌≡◌, ℕ, Bool, false, List, Option, Some, None, ap₂, sym, ◌∙◌}
use Rattle.mqtt_topic.specs.declared.sending.form.Form.{Form}
use Rattle.mqtt_topic.specs.declared.sending.form.Form.TheVariants.{Plain}
use Rattle.mqtt_topic.specs.declared.sending.sizes.OtherBytes.{OtherBytes}
use Rattle.mqtt_topic.specs.sending.Told.{ToldTopics}
use Rattle.mqtt_topic.specs.sending.Sizes as sizes
use Rattle.mqtt_records.specs.declared.messages.message.MessageCopy.{MessageCopy}
use Rattle.mqtt_rules.specs.step.Fitting.{fitted_size, form_of}
use Rattle.mqtt_rules.specs.step.Forms.{form_for, form_size, other_bytes, published_of}
use Rattle.mqtt_rules.proofs.step_lemmas.forms.FormSizes.{copy_by_sizes}
use Rattle.mqtt_rules.specs.alike.Alike.{AlikeCopies}

-- to a client that was told the same both go out in one form, or neither does
pub form_same : (largest : ℕ) (told : ToldTopics) (now id : ℕ) (dup : Bool) (x y : MessageCopy) → AlikeCopies x y
    → form_for largest told (published_of now dup id x) ≡ form_for largest told (published_of now dup id y)
form_same largest told now id dup x y h =
    copy_by_sizes largest told x now id dup
    ∙ ap₂ (sizes.form_for largest told) h.topic h.others
    ∙ sym (copy_by_sizes largest told y now id dup)

-- so it is of a waiting copy
pub form_of_same : (largest : ℕ) (told : ToldTopics) (x y : MessageCopy) → AlikeCopies x y → form_of largest told x ≡ form_of largest told y
form_of_same largest told x y h =
    copy_by_sizes largest told x x.content.arrived 1 false
    ∙ ap₂ (sizes.form_for largest told) h.topic h.others
    ∙ sym (copy_by_sizes largest told y y.content.arrived 1 false)

-- a form has as many bytes of both
pub form_bytes_same : (form : Form) (x y : MessageCopy) → x.content.topic ≡ y.content.topic → other_bytes x ≡ other_bytes y → form_size form x ≡ form_size form y
form_bytes_same form x y topic others = ap₂ (λ (name : List ℕ) (other : OtherBytes). sizes.whole_size (sizes.remaining_in form name other)) topic others

-- so a pump finds both too large, or neither
pub fitted_size_same : (o : Option Form) (x y : MessageCopy) → AlikeCopies x y → fitted_size o x ≡ fitted_size o y
fitted_size_same None x y h = form_bytes_same Plain x y h.topic h.others
fitted_size_same (Some form) x y h = form_bytes_same form x y h.topic h.others
