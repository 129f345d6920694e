use Rattle.std.proofs.Common.{◌≡◌, rules, ℕ, List, Option, Some, [], ◌∷◌, ◌++◌, sym, ap, subst, ◌∙◌}
use Rattle.mqtt_rules.specs.step.Step.{nothing_told}
use Rattle.mqtt_broker.specs.engine.Framers.{HeldLine, begun}
use Rattle.mqtt_broker_step.specs.Doing.{next_line}
use Rattle.mqtt_broker.specs.engine.Serving.{IsOfLines, with_linked}
use Rattle.mqtt_broker.proofs.engine_lemmas.Linking.{linked_row, of_lines_link}
use Rattle.mqtt_broker.proofs.engine.engine.Engine.link.Goals as goal

pub invariant_of-self : goal.invariant_of-self
invariant_of-self g c =
    let inner = c.self.inside.inner in
    let held = c.self.inside.framers in
    let next : next_line inner.limits inner.broker ≡ Some c.in-Some.line = sym c.link.ensures.line ∙ c.in-Some.is in
    let after = of_lines_link inner.limits inner.broker c.args.moment nothing_told c.link.new.self.broker held c.link.ensures.step c.self.invariant in
    subst (λ (hs : List HeldLine). IsOfLines hs c.link.new.self.broker) (sym (c.begin.ensures ∙ linked_row inner.limits c.in-Some.line inner.broker held next c.self.invariant))
    (subst (λ (o : Option ℕ). IsOfLines (with_linked o held) c.link.new.self.broker) next after)

pub returns-in-Some-clause-held : goal.returns-in-Some-clause-held
returns-in-Some-clause-held g c =
    let inner = c.self.inside.inner in
    let held = c.self.inside.framers in
    let same : c.args.self.now.held ≡ held = search rules in
    let next : next_line inner.limits inner.broker ≡ Some c.in-Some.line = sym c.link.ensures.line ∙ c.in-Some.is in
    c.begin.ensures ∙ linked_row inner.limits c.in-Some.line inner.broker held next c.self.invariant ∙ ap (λ (hs : List HeldLine). hs ++ begun c.in-Some.line ∷ []) (sym same)
