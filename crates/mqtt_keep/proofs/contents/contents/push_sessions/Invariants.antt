-- What was added and what the queues of the rest say is all.
use Rattle.std.proofs.Common.{◌≡◌, ◌++◌, flat_map, map, length}
use Rattle.mqtt_records.specs.state.Contents.{copy_message}
use Rattle.mqtt_keep.specs.contents.Listed.{said}
use Rattle.mqtt_keep.proofs.contents.contents.push_sessions.Given as goal

abbrev pub invariant-loop-session : goal.invariant-loop-session
invariant-loop-session l =
    map said l.messages.items ++ flat_map (λ s. map copy_message s.queue) l.rest
    ≡ map said l.fn.messages.items ++ flat_map (λ s. map copy_message s.queue) l.sessions

abbrev pub decreases-loop-session : goal.decreases-loop-session
decreases-loop-session l = length l.rest
