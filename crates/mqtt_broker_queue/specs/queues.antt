pub mod Queues
pub mod Turning
pub mod Fitting
pub mod Answering
pub mod Entering
