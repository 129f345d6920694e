-- A publisher's CONNECT, and the broker's restarts (MQTT 5.0, 3.1.2.4, 4.1).
pub mod AnyConnect
pub mod CleanConnects
pub mod Connects
pub mod EmptyRestarts
pub mod FirstConnects
pub mod LateConnects
pub mod Restarts
