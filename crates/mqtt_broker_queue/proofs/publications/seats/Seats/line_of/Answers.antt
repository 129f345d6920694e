use Rattle.std.proofs.Common.{List, ap, drop, ◌∙◌}
use Rattle.std.specs.Prelude.{find}
use Rattle.mqtt_rules.specs.step.State.{Line, is_of}
use Rattle.mqtt_broker_queue.proofs.publications_lemmas.Seated.{found_behind, found_number}
use Rattle.mqtt_broker_queue.proofs.publications.seats.Seats.line_of.Goals as goal

pub returns-clause-line : goal.returns-clause-line
returns-clause-line c =
    let lines = c.args.step.now.broker.lines in
    c.line_from.ensures
    ∙ (ap (λ (ls : List Line). find (λ (l : Line). is_of l.session c.args.birth) (drop c.seat.result ls)) c.lines.ensures.lines
    ∙ found_behind (λ (l : Line). is_of l.session c.args.birth) c.seat.result lines (c.seat.ensures lines c.requires))

pub returns-clause-own : goal.returns-clause-own
returns-clause-own c = λ l found.
    found_number (λ (k : Line). is_of k.session c.args.birth) l c.args.step.now.broker.lines c.lines.ensures.order found
