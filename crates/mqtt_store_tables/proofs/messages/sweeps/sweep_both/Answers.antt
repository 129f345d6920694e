use Rattle.std.proofs.Common.{◌≡◌, option_to_list, rules}
use Rattle.std.proofs.lemmas.Result.{on_ok_weaker}
use Rattle.sqlite.specs.Held.{state}
use Rattle.mqtt_store_tables.proofs.messages_lemmas.Inside.{clean_before}
use Rattle.mqtt_store_tables.proofs.messages_lemmas.Sweeping.{sweeps_then, sweeps_twice}
use Rattle.mqtt_store_tables.proofs.messages.sweeps.sweep_both.Goals as goal

pub returns-then-eq-clause-swept : goal.returns-then-eq-clause-swept
returns-then-eq-clause-swept g c making clean whole =
    let same : c.args.other ≡ c.args.one = search rules in
    let did = c.in_ok-sweep_found.ensures.swept making clean whole in
    (sweeps_twice making c.args.one c.args.other (state g.S.Store c.args.tx.now.conn.now).now.trees (state g.S.Store c.sweep_found.new.tx.conn.now).now.trees same did.0, did.1)

pub returns-clause-swept : goal.returns-clause-swept
returns-clause-swept g c making clean whole =
    let old = state g.S.Store c.args.tx.now.conn.now in
    let mid = state g.S.Store c.sweep_found.new.tx.conn.now in
    let new = state g.S.Store c.sweep_found-2.new.tx.conn.now in
    let first = c.in_ok-sweep_found.ensures.swept making (clean_before mid new c.sweep_found-2.ensures.inside clean) whole in
    let last = c.sweep_found-2.ensures.swept making clean first.1 in
    (on_ok_weaker c.sweep_found-2.result (sweeps_then making (option_to_list c.args.one) (option_to_list c.args.other) old.now.trees mid.now.trees new.now.trees first.0) last.0, last.1)
