-- Deeds, acts and steps of brokers that are alike.
pub mod Pairs
pub mod SameForms
pub mod States
pub mod Wires
pub mod Acts
pub mod Queues
pub mod Closing
pub mod Inputs
pub mod Connecting
pub mod Subscribing
pub mod Calls
pub mod Steps
pub mod SlimRows
pub mod Examples
