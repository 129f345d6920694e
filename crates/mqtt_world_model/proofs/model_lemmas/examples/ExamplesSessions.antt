-- Worked runs of ends whose session is resumed after a restart, or is a new one (MQTT 5.0, 3.1.2.4, 3.2.2.1.1, 4.3.3,
-- 4.4).
use Rattle.std.proofs.Common.{◌≡◌, true, false, List, [], ◌∷◌, ◌++◌, refl}
use Rattle.std.specs.Str.{is_utf8, chars}
use Rattle.std.proofs.Math.Utf8.{encode}
use Rattle.mqtt_base.specs.Values.{varint}
use Rattle.mqtt_rules.proofs.step_lemmas.examples.Play.{usual}
use Rattle.mqtt_world_model.specs.model.World.{Event, publisher, publish, to_end, ask, break, restart, to_broker, start}
use Rattle.mqtt_world_model.specs.model.Run.{accepted_over}
use Rattle.mqtt_world_model.proofs.model_lemmas.examples.Scripts.{turns, p1, r1, draft, joins, subscribes, exchange, round, pumped, comes_to}

-- ---- a restart in mid-handshake: the copy whose PUBREC was taken goes on by its PUBREL (4.4)

abbrev resumed : List Event
resumed = joins r1 false ++ to_end r1 ∷ ask (to_broker r1) ∷ []

-- a restart in the middle of a handshake
pub a_restart_keeps_a_handshake : comes_to (pumped ++ ask (to_broker r1) ∷ restart ∷ resumed)
    ≡ record { handed = 1 ∷ []; queue = 0; messages = 1; done = 0; publications = 1; sessions = 2 }
unfolding varint is_utf8 chars encode
a_restart_keeps_a_handshake = refl

-- ---- Session Present 0: identifiers and messages of the session that ended are forgotten (3.1.2.4, 3.2.2.1.1)

-- r1 keeps identifier 1, and its next session has a copy with that identifier too
abbrev anew : List Event
anew =
    pumped ++ ask (break r1) ∷ joins r1 true ++ (subscribes r1 ++ (to_end p1 ∷ exchange p1 ++ (publish p1 draft ∷ ask (to_broker p1) ∷ round r1
    ++ round r1)))

-- a new session hands a copy over again, as another one
pub a_new_session_keeps_no_identifier : comes_to anew ≡ record { handed = 1 ∷ 2 ∷ []; queue = 0; messages = 2; done = 1; publications = 2; sessions = 2 }
unfolding varint is_utf8 chars encode
a_new_session_keeps_no_identifier = refl

abbrev forgotten : List Event
forgotten = publisher p1 ∷ joins p1 false ++ (publish p1 draft ∷ ask (to_broker p1) ∷ ask (break p1) ∷ joins p1 true ++ exchange p1)

-- what was forgotten does not come again
pub a_forgotten_message_is_not_resent : accepted_over p1 usual (turns forgotten) start ≡ 0 ∷ []
unfolding varint is_utf8 chars encode
a_forgotten_message_is_not_resent = refl

-- a message from before the first CONNECT goes out with its CONNACK, whose Session Present is 0
pub an_early_message_goes_out : comes_to (publisher p1 ∷ publish p1 draft ∷ joins p1 false ++ (exchange p1 ++ exchange p1))
    ≡ record { handed = []; queue = 0; messages = 1; done = 1; publications = 1; sessions = 1 }
unfolding varint is_utf8 chars encode
an_early_message_goes_out = refl
