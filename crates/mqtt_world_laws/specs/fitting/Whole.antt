-- Receivers whose copies fit with the whole topic on their line, and whose pumps go by whole topics (MQTT 5.0, 3.1.2.11.4, 3.3.2.3.4).
use Rattle.std.specs.Prelude.{◌≡◌, ℕ, List, Some}
use Rattle.mqtt_records.specs.declared.state.session.Session.{Session}
use Rattle.mqtt_rules.specs.step.State.{Line, line_at, session_at}
use Rattle.mqtt_rules.specs.whole.Whole.{FitsWhole, GoesByWhole}
use Rattle.mqtt_world_model.specs.model.Ends.{Receiver}
use Rattle.mqtt_world_model.specs.model.World.{World, receiver_named}

-- ---- of the line that a receiver has, and the session that is connected on it

abbrev pub OnItsLine : List ℕ → World → (Line → Session → Type 0) → Type 0
OnItsLine client w P = (r : Receiver) (n birth : ℕ) (l : Line) (s : Session) → receiver_named client w ≡ Some r → r.line.number ≡ Some n
    → line_at n w.broker ≡ Some l → l.session ≡ Some birth → session_at birth w.broker.records ≡ Some s → P l s

abbrev pub ItsCopiesFit : List ℕ → World → Type 0
ItsCopiesFit client w = OnItsLine client w FitsWhole

abbrev pub ItsPumpsAreWhole : List ℕ → World → Type 0
ItsPumpsAreWhole client w = OnItsLine client w GoesByWhole
