-- Records whose waiting copies say nothing but their topics, all of them or all but a few (MQTT 5.0, 3.3).
use Rattle.std.specs.Prelude.{◌≡◌, ℕ, false, ◌&&◌, nat_eq, List, map}
use Rattle.std.specs.List.{AllByRecursion}
use Rattle.mqtt_flow.specs.inbound.Identifiers.{is_among}
use Rattle.mqtt_records.specs.messages.Content.{CopyContent}
use Rattle.mqtt_records.specs.messages.Queue.{CopyRow}
use Rattle.mqtt_records.specs.messages.Slim.{slim}
use Rattle.mqtt_records.specs.declared.state.session.Session.{Session}
use Rattle.mqtt_records.specs.declared.state.records.Records.{Records}

-- the row of a session says nothing but its topic, unless the session has this birth and the row stands at one of these places
abbrev pub IsSlimBut : ℕ → List ℕ → Session → CopyRow → Type 0
IsSlimBut birth places s e = nat_eq s.birth birth && is_among e.place places ≡ false → slim e ≡ e

-- so it is of each row
abbrev pub AreSlimBut : ℕ → List ℕ → Records → Type 0
AreSlimBut birth places r = AllByRecursion (λ (s : Session). AllByRecursion (IsSlimBut birth places s) s.queue) r.sessions

-- where those copies stand of which this is told
abbrev pub places_of : List CopyContent → List ℕ
places_of contents = map (λ (c : CopyContent). c.place) contents
