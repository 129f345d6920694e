-- Lemmas on the inbound handshake and its hop.
pub mod Acknowledged
pub mod BrokerReads
pub mod Came
pub mod Fates
pub mod ForGood
pub mod Heard
pub mod Lines
pub mod Messages
pub mod OpenLists
pub mod Places
pub mod PublisherReads
pub mod Runs
pub mod Sends
pub mod Stages
pub mod WorkedRuns
