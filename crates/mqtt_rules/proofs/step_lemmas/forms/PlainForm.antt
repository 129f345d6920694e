-- To a client that is told nothing a PUBLISH goes out with its whole topic (MQTT 5.0, 3.3.2.3.4).
use Rattle.std.proofs.Common.{◌≡◌, Bool, true, false, cond, Some, None, refl}
use Rattle.std.specs.Prelude.{unwrap_or}
use Rattle.mqtt_packet.specs.declared.codec.publish.Publish.{Publish}
use Rattle.mqtt_topic.specs.declared.sending.form.Form.TheVariants.{Plain}
use Rattle.mqtt_topic.specs.sending.Told.{none_told}
use Rattle.mqtt_rules.specs.step.Forms.{form_for, is_within}
use Rattle.mqtt_rules.specs.step.State.{Line}

-- to a client that takes no alias a PUBLISH goes out plain
pub plain_form : (l : Line) (p : Publish) → unwrap_or (form_for l.largest (none_told 0) p) Plain ≡ Plain
plain_form l p = by (is_within l.largest p Plain)
  where
    by : (t : Bool) → unwrap_or (cond t (Some Plain) None) Plain ≡ Plain
    by true = refl
    by false = refl
