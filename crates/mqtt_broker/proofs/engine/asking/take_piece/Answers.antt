use Rattle.std.proofs.Common.{◌≡◌, ◌≤◌, Bool, length, rules, sym, ap, subst, ◌∙◌}
use Rattle.std.specs.Prelude.{Some, Err, Ok}
use Rattle.mqtt_records.specs.lists.Order.{row_at}
use Rattle.mqtt_rules.specs.step.Piece.{fed, first_call, without_first}
use Rattle.mqtt_broker_step.specs.declared.call.EngineError.TheVariants.{Memory}
use Rattle.mqtt_broker.specs.declared.stored.outcome.Outcome.{Outcome}
use Rattle.mqtt_broker.specs.engine.Asking.{CalledIf}
use Rattle.mqtt_broker.specs.engine.Framers.{HeldLine, given_back, line_of}
use Rattle.mqtt_broker.specs.engine.Serving.{without_closed}
use Rattle.mqtt_broker.proofs.engine_lemmas.Framings.{back, left_by}
use Rattle.mqtt_broker.proofs.engine_lemmas.HeldBytes.{framing_found}
use Rattle.mqtt_broker.proofs.engine_lemmas.Lent.{changed_on}
use Rattle.mqtt_broker.proofs.engine_lemmas.Pieced.{back_fits, memory_refuses, piece_done, piece_refused, taken_fits}
use Rattle.mqtt_broker.proofs.engine.asking.take_piece.Goals as goal

pub give_back-requires : goal.give_back-requires
give_back-requires g c =
    subst (λ (h : HeldLine). c.in-Ok.taken ≤ length h.framing.held) (sym (c.in-Err.ensures.err ∙ c.in-Ok.ensures.ok))
    (back_fits c.args.piece.now c.in-Some.held.framing c.in-Ok.taken c.in-Ok.ensures.taken)

pub returns-in_default-feed : goal.returns-in_default-feed
returns-in_default-feed g c =
    let found : row_at line_of c.args.line c.args.framers.now ≡ Some c.in-Some.held = search rules in
    let both =
    piece_refused g.K.Keep c.args.moment c.args.line c.args.piece.now c.args.engine.now c.args.engine.now c.args.framers.now c.lend.new.self c.put_back.new.self c.in-Some.held.framing c.feed.new.self.framing
    c.requires.lines c.requires.linked c.requires.running c.requires.stored
    (framing_found c.args.line c.in-Some.held c.args.framers.now found) c.lend.ensures.rest c.put_back.ensures
    Memory (memory_refuses g.K.Keep c.args.moment c.args.engine.now c.requires.running c.requires.stored
    (first_call c.args.line (fed c.args.piece.now c.in-Some.held.framing).held))
    (ap (λ (h : HeldLine). h.framing) c.in_default-feed.ensures.err) in
    record { called = both.0; within = tt; lines = both.1 }

pub returns-in-Ok-ask : goal.returns-in-Ok-ask
returns-in-Ok-ask g c =
    let told = c.in-Ok-ask.outcome in
    let out : Outcome = record told { taken = c.in-Ok.taken; again = c.is_whole.result } in
    let found : row_at line_of c.args.line c.args.framers.now ≡ Some c.in-Some.held = search rules in
    let left_as : c.end_all.new.framers ≡ without_closed told.closed.items c.put_back-in-Ok-ask.new.self =
    left_by _ told.closed.items c.put_back-in-Ok-ask.new.self c.end_all.new.framers c.end_all.ensures c.deref.ensures.value in
    let both =
    piece_done g.K.Keep c.args.moment c.args.line c.args.piece.now c.args.engine.now c.ask.new.engine c.args.framers.now c.lend.new.self c.put_back-in-Ok-ask.new.self c.in-Some.held.framing c.ask.new.held.framing
    c.requires.lines c.requires.linked c.requires.running c.requires.stored
    (framing_found c.args.line c.in-Some.held c.args.framers.now found) c.lend.ensures.rest c.put_back-in-Ok-ask.ensures
    told out c.end_all.new.framers c.in-Ok.taken
    (subst (λ (h : HeldLine). CalledIf g.K.Keep c.args.moment (first_call c.args.line h.framing.held) c.args.engine.now (Ok told) c.ask.new.engine) c.in-Ok.ensures.ok c.in-Ok-ask.ensures.called)
    c.in-Ok.ensures.taken
    (changed_on (fed c.args.piece.now) without_first c.in-Some.held c.feed.new.self c.ask.new.held c.in-Ok.ensures.ok c.in-Ok-ask.ensures.ok)
    left_as
    (ap (λ (b : Bool). let o : Outcome = record told { taken = c.in-Ok.taken; again = b } in o) c.is_whole.ensures) in
    record { called = both.0; within = taken_fits c.args.piece.now c.in-Some.held.framing c.in-Ok.taken c.in-Ok.ensures.taken; lines = both.1 }

pub returns-in-Err : goal.returns-in-Err
returns-in-Err g c =
    let found : row_at line_of c.args.line c.args.framers.now ≡ Some c.in-Some.held = search rules in
    let its = c.in-Some.held.framing in
    let same : c.give_back.new.self.framing ≡ given_back c.in-Ok.taken (fed c.args.piece.now its) =
    changed_on (fed c.args.piece.now) (given_back c.in-Ok.taken) c.in-Some.held c.ask.new.held c.give_back.new.self (c.in-Err.ensures.err ∙ c.in-Ok.ensures.ok) c.give_back.ensures in
    let both =
    piece_refused g.K.Keep c.args.moment c.args.line c.args.piece.now c.args.engine.now c.ask.new.engine c.args.framers.now c.lend.new.self c.put_back-in-Err.new.self its c.give_back.new.self.framing
    c.requires.lines c.requires.linked c.requires.running c.requires.stored
    (framing_found c.args.line c.in-Some.held c.args.framers.now found) c.lend.ensures.rest c.put_back-in-Err.ensures
    c.in-Err.error
    (subst (λ (h : HeldLine). CalledIf g.K.Keep c.args.moment (first_call c.args.line h.framing.held) c.args.engine.now (Err c.in-Err.error) c.ask.new.engine) c.in-Ok.ensures.ok c.in-Err.ensures.called)
    (same ∙ ap (λ n. given_back n (fed c.args.piece.now its)) c.in-Ok.ensures.taken ∙ back c.args.piece.now its) in
    record { called = both.0; within = tt; lines = both.1 }
