use Rattle.std.proofs.Common.{◌≡◌, ◌∙◌, ◌++◌, ℕ, List, append_assoc, codes, subst}
use Rattle.std.specs.Fmt.{decimal}
use Rattle.mqtt_base.specs.Service.{qos_number}
use Rattle.mqtt_cli.proofs.viewer_lemmas.Added.{added, on_ok}
use Rattle.mqtt_cli.proofs.viewer.property_text.push_will.Goals as goal

pub returns : goal.returns
returns c =
    let old : List ℕ = c.args.text.now.items in
    let number : List ℕ = decimal (qos_number c.args.will.now.qos) in
    let field : c.push_field.new.text.items ≡ (old ++ codes " will.qos=") ++ number =
    subst (λ (n : ℕ). c.push_field.new.text.items ≡ (old ++ codes " will.qos=") ++ decimal n) c.qos_number.ensures c.in_ok-push_field.ensures in
    let qos : c.push_field.new.text.items ≡ old ++ (codes " will.qos=" ++ number) = field ∙ append_assoc old (codes " will.qos=") number in
    on_ok c.push_will_message.result _ _
    (λ last. added old (codes " will.qos=" ++ number) _ _ _ _ _ qos c.in_ok-push_will_retain.ensures last) c.push_will_message.ensures
