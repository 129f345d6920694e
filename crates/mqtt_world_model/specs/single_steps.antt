-- Events of several steps, as events of one step each.
pub mod Unrolled
pub mod Taken
pub mod Sound
