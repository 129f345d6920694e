use Rattle.mqtt_cli.proofs.viewer_lemmas.Added.{added_field, on_ok}
use Rattle.mqtt_cli.proofs.viewer.property_text.push_will_message.Goals as goal

pub returns : goal.returns
returns c =
    on_ok c.push_properties.result _ _
    (λ last. added_field _ _ _ _ _ _ _ _ c.in_ok-push_text.ensures c.in_ok-push_field.ensures last) c.push_properties.ensures
