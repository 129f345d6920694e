use Rattle.std.proofs.Common.{◌≡◌, List, length, drop, arith, ap, sym, subst, ◌∙◌}
use Rattle.mqtt_records.specs.state.Records.{changed_all}
use Rattle.mqtt_records.specs.declared.state.change.Change.{Change}
use Rattle.mqtt_rules.specs.step.Routing.{subscribers}
use Rattle.mqtt_broker_step.proofs.Doing.{on_ok, if_err}
use Rattle.mqtt_broker_queue.specs.subscribers.Following.{CanAllBeFollowed, CanGoAlongAll}
use Rattle.mqtt_broker_queue.specs.subscribers.Indexing.{Serves}
use Rattle.mqtt_broker_queue.proofs.subscribers_lemmas.Puts.{can_go_along_all}
use Rattle.mqtt_broker.proofs.stored_lemmas.Closed.{follow_refused, ok_of, rows_followed, rows_grow, settle_added, still_indexed, still_serves}
use Rattle.mqtt_broker.proofs.stored.closing.settle_next.Goals as goal

pub follow-requires-clause-from : goal.follow-requires-clause-from
follow-requires-clause-from c =
    let k = c.args.birth in
    let s = c.args.step.now in
    let s1 = c.settle.new.step in
    let grow = rows_grow k s s1 (settle_added k s s1 c.in_ok-settle.ensures.ok) in
    let before : length c.rows-from.result.now ≡ length s.rows = ap length c.rows-from.ensures.rows in
    let after : length c.rows.result.now ≡ length s1.rows = ap length c.rows.ensures.rows in
    omega (arith, grow, before, after)

pub follow-requires-clause-may : goal.follow-requires-clause-may
follow-requires-clause-may c =
    let k = c.args.birth in
    let s = c.args.step.now in
    let s1 = c.settle.new.step in
    let rows : drop (length c.rows-from.result.now) c.rows.result.now ≡ drop (length s.rows) s1.rows =
    ap (λ n. drop n c.rows.result.now) (ap length c.rows-from.ensures.rows) ∙ ap (drop (length s.rows)) c.rows.ensures.rows in
    subst (λ (xs : List Change). CanGoAlongAll xs c.settle.new.router.sessions) (sym rows)
    (can_go_along_all (drop (length s.rows) s1.rows) s.broker.records c.settle.new.router.sessions c.requires.indexed (rows_followed k s s1 (settle_added k s s1 c.in_ok-settle.ensures.ok))
    (c.settle.ensures.serves (subscribers s.broker.records) c.requires.serves))

pub returns-clause-ok : goal.returns-clause-ok
returns-clause-ok c = ok_of c.follow.result c.in_ok-settle.ensures.ok

pub returns-clause-left : goal.returns-clause-left
returns-clause-left c =
    if_err c.follow.result
    (λ fault. follow_refused c.args.birth c.args.step.now c.settle.new.step c.in_ok-settle.ensures.ok fault) c.follow.ensures.fault

pub returns-clause-serves : goal.returns-clause-serves
returns-clause-serves c =
    let k = c.args.birth in
    let s = c.args.step.now in
    let s1 = c.settle.new.step in
    let added = settle_added k s s1 c.in_ok-settle.ensures.ok in
    let rows : drop (length c.rows-from.result.now) c.rows.result.now ≡ drop (length s.rows) s1.rows =
    ap (λ n. drop n c.rows.result.now) (ap length c.rows-from.ensures.rows) ∙ ap (drop (length s.rows)) c.rows.ensures.rows in
    on_ok c.follow.result
    (λ served. still_serves k s s1 added c.follow.new.index.sessions
    (subst (λ (xs : List Change). Serves c.follow.new.index.sessions (subscribers (changed_all xs s.broker.records))) rows served))
    (c.follow.ensures.serves s.broker.records c.requires.indexed
    (subst (λ (xs : List Change). CanAllBeFollowed xs s.broker.records) (sym rows) (rows_followed k s s1 added))
    (c.settle.ensures.serves (subscribers s.broker.records) c.requires.serves))

pub returns-clause-indexed : goal.returns-clause-indexed
returns-clause-indexed c =
    let k = c.args.birth in
    let s = c.args.step.now in
    let s1 = c.settle.new.step in
    ok_of c.follow.result (still_indexed k s s1 (settle_added k s s1 c.in_ok-settle.ensures.ok) c.requires.indexed)
