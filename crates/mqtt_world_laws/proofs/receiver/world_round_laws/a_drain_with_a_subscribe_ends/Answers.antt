-- What is read before the SUBSCRIBE and behind it is about copies; after it the drain is one of more copies.
use Rattle.std.proofs.Common.{◌++◌, arith}
use Rattle.mqtt_world_laws.proofs.receiver_lemmas.drains.WorldRounds.{drain_over_later, drain_within_later, first_round, first_round_of, subscribe_is_drained}
use Rattle.mqtt_world_laws.proofs.receiver.world_round_laws.a_drain_with_a_subscribe_ends.Goals as goal

pub returns : goal.returns
returns c = record {
  first = first_round;
  is_within = λ largest window ids birth ns limits choice client most r w room may.
      let x = first_round largest window ids birth ns limits choice client r w may in
      drain_within_later largest window (ids ++ x.more) birth ns limits choice client most x.receiver w room x.differ x.may;
  is_over = λ largest window ids birth ns limits choice client most r w room may enough.
      let x = first_round largest window ids birth ns limits choice client r w may in
      drain_over_later largest window (ids ++ x.more) birth ns limits choice client most x.receiver w room x.differ x.may enough;
  causes = first_round_of;
  is_drained = subscribe_is_drained;
  is_enough = λ largest window ids birth ns limits choice client r w room may.
      let x = first_round largest window ids birth ns limits choice client r w may in
      let few = x.few in (
        x,
        λ most. let within = drain_within_later largest window (ids ++ x.more) birth ns limits choice client most x.receiver w room x.differ x.may in omega (arith, few, within),
        λ most enough. drain_over_later largest window (ids ++ x.more) birth ns limits choice client most x.receiver w room x.differ x.may (omega (arith, few, enough)),
      );
}
