use Rattle.std.proofs.Common.{refl, ap, sym, ◌∙◌}
use Rattle.mqtt_records.specs.lists.Order.{has_row}
use Rattle.mqtt_records.specs.state.Session.{number_of, with_open, without_open}
use Rattle.mqtt_broker_step.proofs.Backs.{session_back, opened_back, opened_same, closed_back, closed_same, open_found, open_none}
use Rattle.mqtt_broker_step.proofs.handshakes.identifier_back.Goals as goal

pub returns-then-has-clause-opened : goal.returns-then-has-clause-opened
returns-then-has-clause-opened c = λ r found.
    let s = c.args.session.now in
    let there = ap (λ k. has_row number_of k s.inbound) (sym c.from.ensures) ∙ (sym c.has.ensures ∙ c.if-has.true) in
    session_back (with_open c.args.identifier) (with_open c.args.identifier) s r (λ x. refl)
    (opened_same c.args.identifier s c.has_tables.ensures (open_found c.args.identifier s.inbound there)) found

pub returns-then-has-clause-closed : goal.returns-then-has-clause-closed
returns-then-has-clause-closed c = λ r found.
    let s = c.args.session.now in
    let there = ap (λ k. has_row number_of k s.inbound) (sym c.from.ensures) ∙ (sym c.has.ensures ∙ c.if-has.true) in
    session_back (without_open c.args.identifier) (with_open c.args.identifier) s r (λ x. refl)
    (closed_back c.args.identifier s c.has_tables.ensures (open_found c.args.identifier s.inbound there)) found

pub returns-else-has-clause-opened : goal.returns-else-has-clause-opened
returns-else-has-clause-opened c = λ r found.
    let s = c.args.session.now in
    let there = ap (λ k. has_row number_of k s.inbound) (sym c.from.ensures) ∙ (sym c.has.ensures ∙ c.if-has.false) in
    session_back (with_open c.args.identifier) (without_open c.args.identifier) s r (λ x. refl)
    (opened_back c.args.identifier s c.has_tables.ensures (open_none c.args.identifier s.inbound there)) found

pub returns-else-has-clause-closed : goal.returns-else-has-clause-closed
returns-else-has-clause-closed c = λ r found.
    let s = c.args.session.now in
    let there = ap (λ k. has_row number_of k s.inbound) (sym c.from.ensures) ∙ (sym c.has.ensures ∙ c.if-has.false) in
    session_back (without_open c.args.identifier) (without_open c.args.identifier) s r (λ x. refl)
    (closed_same c.args.identifier s (open_none c.args.identifier s.inbound there)) found
