-- What a look tells.
use Rattle.std.proofs.Common.{map, take, subst, sym}
use Rattle.mqtt_flow.specs.outbound.Stillness.{AllStill}
use Rattle.mqtt_flow.proofs.outbound_lemmas.outbound.Stillness.{front_is_still}
use Rattle.mqtt_flow.proofs.outbound.known.know.Goals as goal

pub returns : goal.returns
returns g c =
    let queue = map (g.V.QueueView.entry c.args.view.now) c.args.rows.now in
    record {
      at_front = subst (λ n. AllStill (take n queue)) (sym c.front_still.ensures) (front_is_still queue);
      window_is = c.in_window.ensures.exact;
      order_is = c.greatest_order.ensures c.args.view.now;
    }
