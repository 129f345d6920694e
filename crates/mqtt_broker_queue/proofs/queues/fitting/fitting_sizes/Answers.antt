use Rattle.std.proofs.Common.{◌≡◌, ◌≤◌, rules, ap, sym, subst, ◌∙◌}
use Rattle.mqtt_topic.specs.sending.Told.{none_told}
use Rattle.mqtt_rules.specs.step.State.{told_on}
use Rattle.mqtt_broker_queue.specs.queues.Fitting.{fitting}
use Rattle.mqtt_broker_queue.proofs.queues_lemmas.Listed.{none_large, none_untold}
use Rattle.mqtt_broker_queue.proofs.queues.fitting.fitting_sizes.Goals as goal

pub returns-then-not-takes_aliases-clause-sizes : goal.returns-then-not-takes_aliases-clause-sizes
returns-then-not-takes_aliases-clause-sizes c =
    let l = c.args.state.now in
    let b = c.args.step.now.broker in
    let rows = c.args.rows.now in
    let untold : told_on c.number.result b.tellings ≡ none_told 0 = search rules in
    c.new.ensures.items
    ∙ (sym (none_untold l c.args.now rows)
    ∙ (ap (λ told. fitting l c.args.now told rows) (sym untold)
    ∙ ap (λ n. fitting l c.args.now (told_on n b.tellings) rows) c.number.ensures))

pub returns-then-largest-ge-LARGEST_PACKET-clause-sizes :
    goal.returns-then-largest-ge-LARGEST_PACKET-clause-sizes
returns-then-largest-ge-LARGEST_PACKET-clause-sizes c =
    let l = c.args.state.now in
    let b = c.args.step.now.broker in
    c.new-then-largest-ge-LARGEST_PACKET.ensures.items
    ∙ sym (none_large l c.args.now (told_on l.number b.tellings) c.args.rows.now
    (subst (λ n. 268435460 ≤ n) c.largest.ensures c.if-largest-ge-LARGEST_PACKET.true) c.show_spelled.ensures)
