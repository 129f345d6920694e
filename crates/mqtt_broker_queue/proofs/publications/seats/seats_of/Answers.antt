use Rattle.std.proofs.Common.{◌≡◌, ◌-◌, suc, length, rules, arith}
use Rattle.mqtt_broker_queue.proofs.publications_lemmas.Seated.{seats_more}
use Rattle.mqtt_broker_queue.proofs.publications.seats.seats_of.Goals as goal

pub loop-at-preserved : goal.loop-at-preserved
loop-at-preserved c =
    let at = c.loop-at.at - 1 in
    let is : c.loop-at.at ≡ suc at = omega (arith, c.loop-at-test.true) in
    let many : length c.take_seat.new.seats ≡ 1024 = search (rules, c.take_seat.array_long) in (
      seats_more at c.loop-at.at c.index-lines-at.result c.args.lines.now c.loop-at.seats c.take_seat.new.seats c.session.result is c.loop-at.invariant.2 c.index-lines-at.is c.session.ensures
          c.take_seat.ensures c.loop-at.invariant.1 c.loop-at.invariant.0,
      many,
      omega (arith, c.loop-at.invariant.2),
    )
