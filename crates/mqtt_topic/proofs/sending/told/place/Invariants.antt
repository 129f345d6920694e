use Rattle.std.proofs.Common.{◌≡◌, suc, drop}
use Rattle.mqtt_topic.specs.sending.Told.{place_from}
use Rattle.mqtt_topic.proofs.sending.told.place.Given as goal

-- the place is that among what is left
abbrev pub invariant-loop-told : goal.invariant-loop-told
invariant-loop-told l = record {
  counted : l.alias ≡ l.told-index;
  rest : place_from (suc l.told-index) l.topic (drop l.told-index l.topics) ≡ place_from 1 l.topic l.topics;
}
