-- What goes out, enters and is granted, traced to what clients asked for.
pub mod Called
pub mod Traces
pub mod Turning
pub mod Pumping
pub mod Subscribing
pub mod EachCall
pub mod Steps
pub mod Once
pub mod Waiting
pub mod Runs
pub mod Examples
