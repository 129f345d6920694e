-- What a receiver was handed by the end of a run: of each copy that ended as taken, and of each publication (MQTT 5.0, 4.3.2, 4.3.3).
use Rattle.std.specs.Prelude.{◌≡◌, ℕ, All, List}
use Rattle.mqtt_base.specs.declared.session.Ending.TheVariants.{Taken}
use Rattle.mqtt_world_model.specs.model.Ends.{Receiver}
use Rattle.mqtt_world_model.specs.model.Laws.{CarriesOn, WasTaken}
use Rattle.mqtt_world_model.specs.model.Run.{Acceptance, End}

-- a copy of this client that ended as taken was handed over: of QoS 2 once, of QoS 1 at least once
abbrev pub WasHanded : List ℕ → Receiver → End → Type 0
WasHanded client r e = e.client ≡ client → e.by ≡ Taken → WasTaken e.qos e.copy r

-- what it has read of the copies of a publication carries what that does
abbrev pub CarriesEach : Receiver → Acceptance → Type 0
CarriesEach r a = All (CarriesOn a) r.ledger × All (CarriesOn a) r.once
