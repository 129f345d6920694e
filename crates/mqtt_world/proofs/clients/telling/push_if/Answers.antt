use Rattle.std.proofs.Common.{◌≡◌, ℕ, List, ap, sym, ◌∙◌}
use Rattle.std.proofs.lemmas.Bool.{eq-eqb, ne_eqb}
use Rattle.mqtt_world.proofs.clients_lemmas.Told.{one_read, other_read}
use Rattle.mqtt_world.proofs.clients.telling.push_if.Goals as goal

pub returns-then-at-number : goal.returns-then-at-number
returns-then-at-number g c = λ x meant spelled is reads.
    let n = c.args.number in
    let at : c.args.output.now.0 ≡ x.0 = ap (λ (o : ℕ × List ℕ). o.0) is in
    one_read c.push_bytes.result n c.args.engine.now.broker x meant c.args.line.now c.push_bytes.new.line
    (eq-eqb x.0 n (sym at ∙ c.if-at-number.true)) spelled reads
    (λ m its read. c.push_bytes.ensures x.1 m its (c.deref.ensures ∙ ap (λ (o : ℕ × List ℕ). o.1) is) read)

pub returns : goal.returns
returns g c = λ x meant spelled is reads.
    let at : c.args.output.now.0 ≡ x.0 = ap (λ (o : ℕ × List ℕ). o.0) is in
    other_read c.args.number c.args.engine.now.broker x meant c.args.line.now
    (ne_eqb x.0 c.args.number (λ same. c.if-at-number.false (at ∙ same))) reads
