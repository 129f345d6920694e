use Rattle.std.proofs.Common.{◌≡◌, refl, ap, sym, ◌∙◌}
use Rattle.mqtt_records.specs.messages.Queue.{CopyRow}
use Rattle.mqtt_records.specs.state.Session.{with_phase}
use Rattle.mqtt_broker_step.proofs.Backs.{session_back, marked_back, marked_same}
use Rattle.mqtt_broker_step.proofs.handshakes.marked_back.Goals as goal

pub returns : goal.returns
returns c = λ r found.
    let s = c.args.session.now in
    let row = c.in-Some.row.now in
    let phase : c.phase.result ≡ row.phase = c.phase.ensures ∙ ap (λ (x : CopyRow). x.phase) c.get-2.ensures in
    session_back (with_phase c.args.place c.args.phase) (with_phase c.args.place c.phase.result) s r (λ x. refl)
    (ap (λ p. with_phase c.args.place p (with_phase c.args.place c.args.phase s)) phase ∙ marked_back c.args.place c.args.phase row s (sym c.in-Some.ensures)) found

pub returns-in_default : goal.returns-in_default
returns-in_default c = λ r found.
    session_back (with_phase c.args.place c.args.phase) (with_phase c.args.place c.args.phase) c.args.session.now r (λ x. refl)
    (marked_same c.args.place c.args.phase c.args.session.now (sym c.in_default.ensures)) found
