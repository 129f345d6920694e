pub mod Ended
pub mod Willed
pub mod Settled
pub mod Closed
pub mod LineClosed
pub mod Ticked
