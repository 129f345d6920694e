use Rattle.std.proofs.Common.{ℕ, List, [], ◌∷◌, ◌++◌, ap, ◌∙◌}
use Rattle.mqtt_base.specs.Values.{blob}
use Rattle.mqtt_broker_looks.proofs.sent_lemmas.Spelled.{named_written, on_ok}
use Rattle.mqtt_broker_looks.proofs.sent.connack.named_push.Goals as goal

pub returns : goal.returns
returns c =
    let identifier = c.in_ok-push-3.ensures.items ∙ ap (λ (n : ℕ). c.varint_push.new.out.items ++ n ∷ []) c.id.ensures.exact in
    let text = c.in_ok-blob_push.ensures.ok ∙ ap (λ (t : List ℕ). c.push-3.new.self.items ++ blob t) c.as_bytes.ensures.value in
    on_ok c.granted_push.result
    (λ is. named_written c.args.client.now c.args.out.now.items c.push.new.self.items c.push-2.new.self.items c.varint_push.new.out.items c.push-3.new.self.items c.blob_push.new.out.items c.granted_push.new.out.items c.args.pairs c.requires.pairs c.in_ok-push.ensures.items c.in_ok-push-2.ensures.items c.in_ok-varint_push.ensures.ok identifier text is)
    c.granted_push.ensures
