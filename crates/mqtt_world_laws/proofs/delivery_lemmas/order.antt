-- Copies come, stand and are handed over in one order (MQTT 5.0, 4.6).
pub mod Among
pub mod Coming
pub mod FirstHanded
pub mod FirstReads
pub mod Growing
pub mod HopReads
pub mod QueueEntering
pub mod QueueGrowth
pub mod QueueOrder
pub mod WholeOrder
