-- A copy that has room enters a queue below its limit.
use Rattle.std.proofs.Common.{◌≡◌, ◌<◌, ◌∙◌, true, length, subst}
use Rattle.std.specs.Prelude.{OnOk, IfOk, IfErr, Result, Ok, Err}
use Rattle.std.proofs.lemmas.List.{map-id}
use Rattle.mqtt_flow.specs.outbound.Outbound.{KeptOut, has_room, way_made, way_open}
use Rattle.mqtt_flow.proofs.outbound_lemmas.outbound.Room.{below_limit}
use Rattle.mqtt_flow.proofs.outbound.outflow.Outflow.look_enter.Goals as goal

on_ok : {T E P Q : Type 0} (r : Result T E) → (P → Q) → OnOk r P → OnOk r Q
on_ok (Ok x) f h = f h
on_ok (Err e) f h = tt

pub returns-clause-below : goal.returns-clause-below
returns-clause-below c =
    let limits = c.args.limits in
    let since = c.args.since in
    let queue = c.args.self.now.queue in
    let same = map-id c.entries.result.now ∙ c.entries.ensures.value in
    on_ok {P = has_room limits since queue ≡ true} {Q = length (way_open limits since queue) < limits.queue} c.look_enter.result
    (λ room. below_limit limits since queue room c.entries.ensures.lawful.ascends)
    (subst (λ q. OnOk c.look_enter.result (has_room limits since q ≡ true)) same (c.look_enter.ensures.only (record {})))

pub returns-clause-only : goal.returns-clause-only
returns-clause-only c =
    subst (λ q. OnOk c.look_enter.result (has_room c.args.limits c.args.since q ≡ true)) (map-id c.entries.result.now ∙ c.entries.ensures.value) (c.look_enter.ensures.only (record {}))

pub returns-clause-turns : goal.returns-clause-turns
returns-clause-turns c =
    subst (λ q. IfOk c.look_enter.result (λ turns. turns.items ≡ way_made c.args.limits c.args.since q)) (map-id c.entries.result.now ∙ c.entries.ensures.value) (c.look_enter.ensures.turns (record {}))

pub returns-clause-fault : goal.returns-clause-fault
returns-clause-fault c =
    subst (λ q. IfErr c.look_enter.result (KeptOut (has_room c.args.limits c.args.since q))) (map-id c.entries.result.now ∙ c.entries.ensures.value) (c.look_enter.ensures.fault (record {}))
