pub mod closing
pub mod connecting
pub mod clock
pub mod subscribing
pub mod calls
