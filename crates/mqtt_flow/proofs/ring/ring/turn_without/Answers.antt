use Rattle.std.proofs.Common.{◌≡◌, ◌+◌, ◌<◌, suc, length, sym, arith}
use Rattle.mqtt_flow.proofs.ring_lemmas.RingLemmas.{keeps_entry, takes_entry, turned_some}
use Rattle.mqtt_flow.proofs.ring.ring.turn_without.Goals as goal
use Rattle.mqtt_flow.proofs.ring.ring.turn_without.Goals.{in-Some+then-entry-place+in-Some-1, in-Some+then-entry-place+in-None-1, in-Some+else-entry-place, in_default}

pub loop-turn-preserved : goal.loop-turn-preserved
loop-turn-preserved g c =
    let place = c.args.place in
    let es = c.args.ring.now.items in
    let n = c.args.ring.now.capacity in
    let i = c.loop-turn._turn in
    let ring = c.loop-turn.ring in
    let popped = c.pop_front.new.self in
    let after = c.match-pop_front.ring in
    let turned = c.loop-turn.invariant.0 in
    let full = c.loop-turn.invariant.1 in
    let taken = c.pop_front.ensures.items in
    let within : i < length es = omega (arith, c.loop-turn-test.true, c.len-turn-end.ensures.len) in
    let step : i + 1 ≡ suc i = omega arith in
    elim c.match-pop_front.branch [
      | in-Some+then-entry-place+in-Some-1 w ↦
          keeps_entry place i (i + 1) es w.in-Some.entry n ring popped w.push_back.new.self after step within c.requires turned full
          w.in-Some.ensures.value w.if-entry-place.true taken w.push_back.ensures.items w.ring-is
      | in-Some+then-entry-place+in-None-1 w ↦
          keeps_entry place i (i + 1) es w.in-Some.entry n ring popped w.push_back.new.self after step within c.requires turned full
          w.in-Some.ensures.value w.if-entry-place.true taken w.push_back.ensures.items w.ring-is
      | in-Some+else-entry-place w ↦
          takes_entry place i (i + 1) es w.in-Some.entry n ring popped after step within turned full
          w.in-Some.ensures.value w.if-entry-place.false taken w.ring-is
      | in_default w ↦ absurd (turned_some place i es ring.items within turned (sym w.in_default.ensures.value))
    ]
