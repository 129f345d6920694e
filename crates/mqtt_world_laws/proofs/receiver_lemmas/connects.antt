-- A receiver's CONNECT, by which its session begins, goes on or is renewed; and the broker's restarts (MQTT 5.0, 3.1.2.4, 4.1).
pub mod Beginning
pub mod Greetings
pub mod LateBeginning
pub mod LateCalls
pub mod LateResuming
pub mod OwnConnects
pub mod OwnRefusals
pub mod Refusals
pub mod Renewing
pub mod Restarting
pub mod Resuming
pub mod Stopping
