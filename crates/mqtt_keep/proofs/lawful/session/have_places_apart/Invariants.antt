-- The places that were added and those of the rest are all.
use Rattle.std.proofs.Common.{◌≡◌, ◌++◌, flat_map, map, length}
use Rattle.mqtt_records.specs.state.Session.{place_of}
use Rattle.mqtt_keep.proofs.lawful.session.have_places_apart.Given as goal

abbrev pub invariant-loop-session : goal.invariant-loop-session
invariant-loop-session l =
    l.places.items ++ flat_map (λ session. map place_of session.subscriptions) l.rest
    ≡ flat_map (λ session. map place_of session.subscriptions) l.sessions

abbrev pub decreases-loop-session : goal.decreases-loop-session
decreases-loop-session l = length l.rest
