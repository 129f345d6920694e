-- Where a receiver is, through every event that others bring about.
pub mod Around
pub mod Asked
pub mod Asking
pub mod Clients
pub mod Comings
pub mod Joining
pub mod Like
pub mod Losses
pub mod Outside
pub mod Restarts
pub mod Runs
pub mod Standings
pub mod Stops
pub mod Strangers
pub mod Ticks
