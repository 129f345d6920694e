use Rattle.std.proofs.Common.{◌≡◌, ◌<◌, ◌≤◌, length, not, arith, rules}
use Rattle.std.proofs.lemmas.Fn.{filter_same}
use Rattle.mqtt_serve.specs.turns.Wires.{Wire, is_closed}
use Rattle.mqtt_serve.proofs.turns_lemmas.Noted.{all_noted, none_noted, one_noted, read_there}
use Rattle.mqtt_serve.proofs.turns.connections.Connections.remove_closed.Goals as goal

pub loop-place-init : goal.loop-place-init
loop-place-init g c =
    let all = c.retain.new.self.ok.0 in
    let before = c.self.inside.all.ok.0 in
    let bound = c.retain.ensures.bound in
    let as_many = c.self.invariant.0.as_many.0 in
    let as_many_too = c.self.invariant.0.as_many.1 in
    let count = c.len-count.ensures in
    let numbers = c.truncate.ensures.len in
    let awake = c.truncate-2.ensures.len in
    let first = c.self.inside.numbers.ok.0 in
    let second = c.self.inside.awake.ok.0 in
    let one = c.truncate.new.self.ok.0 in
    let two = c.truncate-2.new.self.ok.0 in
    let many : length c.truncate.new.self.items ≡ length c.retain.new.self.items = omega (arith, all, before, bound, as_many, count, numbers, first, one) in
    let many_too : length c.truncate-2.new.self.items ≡ length c.retain.new.self.items = omega (arith, all, before, bound, as_many_too, count, awake, second, two) in
    record {
      left = rw (← c.self.view_is) (filter_same _ (λ (w : Wire). not (is_closed w.fate)) _ (λ x b h r. search rules) _ _ c.retain.ensures.filtered);
      noted = none_noted _ _ _ many many_too;
      counted = omega (arith, all, count);
      room = search rules;
      room_too = search rules;
      room_still = search rules;
    }

pub invariant_of-self : goal.invariant_of-self
invariant_of-self g c =
    let counted = c.loop-place.invariant.counted in
    let over = c.loop-place-test.false in
    let all : length c.loop-place.self-inside.all.items ≤ c.loop-place.place = omega (arith, counted, over) in (
      all_noted c.loop-place.place _ _ _ all c.loop-place.invariant.noted,
      c.loop-place.invariant.room,
      c.loop-place.invariant.room_too,
      c.loop-place.invariant.room_still,
    )

pub index-requires : goal.index-requires
index-requires g c =
    let counted = c.loop-place.invariant.counted in
    let less = c.loop-place-test.true in
    let ok = c.loop-place.self-inside.all.ok.0 in
    omega (arith, counted, less, ok)

pub index_mut-requires : goal.index_mut-requires
index_mut-requires g c =
    let counted = c.loop-place.invariant.counted in
    let less = c.loop-place-test.true in
    let many = c.loop-place.invariant.noted.as_many.0 in
    let ok = c.loop-place.self-inside.numbers.ok.0 in
    omega (arith, counted, less, many, ok)

pub index_mut-requires-in-loop-place : goal.index_mut-requires-in-loop-place
index_mut-requires-in-loop-place g c =
    let counted = c.loop-place.invariant.counted in
    let less = c.loop-place-test.true in
    let many = c.loop-place.invariant.noted.as_many.1 in
    let ok = c.loop-place.self-inside.awake.ok.0 in
    omega (arith, counted, less, many, ok)

pub loop-place-preserved : goal.loop-place-preserved
loop-place-preserved g c =
    let counted = c.loop-place.invariant.counted in
    let test = c.loop-place-test.true in
    let less : c.loop-place.place < length c.loop-place.self-inside.all.items = omega (arith, counted, test) in
    record {
      left = c.loop-place.invariant.left;
      noted = one_noted _ _ _ _ _ c.index.result.now (read_there _ _ _ less c.index.ensures) c.number.ensures c.loop-place.invariant.noted;
      counted = counted;
      room = c.loop-place.invariant.room;
      room_too = search rules;
      room_still = search rules;
    }
