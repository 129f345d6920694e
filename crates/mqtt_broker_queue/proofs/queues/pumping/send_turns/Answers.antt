use Rattle.std.proofs.Common.{◌≡◌, rules, nat_eq, length, ap, sym, ◌∙◌}
use Rattle.std.specs.Prelude.{count_by, filter_map}
use Rattle.mqtt_rules.specs.step.Step.{publish_out}
use Rattle.mqtt_broker_step.specs.Lines.{line_number}
use Rattle.mqtt_broker_step.specs.Stepping.{IsLeft}
use Rattle.mqtt_broker_step.proofs.Inverse.{row_key}
use Rattle.mqtt_broker_step.proofs.Sendings.{line_found}
use Rattle.mqtt_broker_step.proofs.Then.{same_act, same_left}
use Rattle.mqtt_broker_queue.specs.queues.Turning.{is_sending, takes_turns, pumps}
use Rattle.mqtt_broker_queue.proofs.queues_lemmas.Pumped.{pumps_is, taken_of}
use Rattle.mqtt_broker_queue.proofs.queues_lemmas.SendingAhead.{pump_rises, pump_sends, turns_are}
use Rattle.mqtt_broker_queue.proofs.queues.pumping.send_turns.Goals as goal

pub take_turns-requires : goal.take_turns-requires
take_turns-requires c =
    let b = c.args.step.now.broker in
    let l = c.in-Some.state.now in
    let x = c.in-Some-session-2.session.now in
    let birth = c.in-Some-session.birth in
    let found = sym c.in-Some-session-2.ensures in
    pump_rises l b x c.as_slice-rows.ensures.order c.args.turns.items (c.requires ∙ turns_are c.args.line b l birth x (sym c.in-Some.ensures) (sym c.in-Some-session.ensures) found) birth found

pub returns-clause-ok : goal.returns-clause-ok
returns-clause-ok c =
    let b = c.args.step.now.broker in
    let l = c.in-Some.state.now in
    let x = c.in-Some-session-2.session.now in
    let birth = c.in-Some-session.birth in
    let ts = c.args.turns.items in
    let there = sym c.in-Some.ensures in
    let on = sym c.in-Some-session.ensures in
    let found = sym c.in-Some-session-2.ensures in
    same_act (takes_turns c.args.line birth ts) (pumps c.args.line) c.args.step.now c.take_turns.new.step
    (pumps_is c.args.line birth ts l x b (sym (line_found c.args.line b.lines) ∙ there) (row_key line_number c.args.line b.lines l there) on found
    (c.requires ∙ turns_are c.args.line b l birth x there on found)) c.in_ok-take_turns.ensures.ok

pub returns-in_err-take_turns-clause-left : goal.returns-in_err-take_turns-clause-left
returns-in_err-take_turns-clause-left c =
    let b = c.args.step.now.broker in
    let l = c.in-Some.state.now in
    let x = c.in-Some-session-2.session.now in
    let birth = c.in-Some-session.birth in
    let ts = c.args.turns.items in
    let there = sym c.in-Some.ensures in
    let on = sym c.in-Some-session.ensures in
    let found = sym c.in-Some-session-2.ensures in
    let left : IsLeft (pumps c.args.line) c.in_err-take_turns.field-0.0 c.args.step.now c.take_turns.new.step =
    same_left (takes_turns c.args.line birth ts) (pumps c.args.line) c.in_err-take_turns.field-0.0 c.args.step.now c.take_turns.new.step
    (pumps_is c.args.line birth ts l x b (sym (line_found c.args.line b.lines) ∙ there) (row_key line_number c.args.line b.lines l there) on found
    (c.requires ∙ turns_are c.args.line b l birth x there on found)) c.in_err-take_turns.ensures.left in
    search (rules, left)

pub returns-clause-again : goal.returns-clause-again
returns-clause-again c =
    let b = c.args.step.now.broker in
    let l = c.in-Some.state.now in
    let x = c.in-Some-session-2.session.now in
    let birth = c.in-Some-session.birth in
    let ts = c.args.turns.items in
    let there = sym c.in-Some.ensures in
    let on = sym c.in-Some-session.ensures in
    let found = sym c.in-Some-session-2.ensures in
    let are = c.requires ∙ turns_are c.args.line b l birth x there on found in
    let act = pumps_is c.args.line birth ts l x b (sym (line_found c.args.line b.lines) ∙ there) (row_key line_number c.args.line b.lines l there) on found are in
    let sent : count_by is_sending ts ≡ length (filter_map publish_out (pumps c.args.line b)) =
    sym (pump_sends l b x c.as_slice-rows.ensures.order ts are b.now c.args.line)
    ∙ ap (λ ds. length (filter_map publish_out ds)) (sym (taken_of c.args.line birth ts x b found) ∙ act) in
    let counted = c.sendings.ensures ∙ (ap (λ rows. count_by is_sending rows) c.deref.ensures.value ∙ sent) in
    ap (λ n. nat_eq n c.from.result) counted ∙ ap (nat_eq (length (filter_map publish_out (pumps c.args.line b)))) c.from.ensures
