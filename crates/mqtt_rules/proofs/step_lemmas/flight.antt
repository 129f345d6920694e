-- The packet identifiers in flight in a session are distinct (MQTT 5.0, 2.2.1).
pub mod FlightPump
pub mod FlightQueue
pub mod FlightRecords
pub mod FlightRows
pub mod FlightStep
pub mod SizedRows
