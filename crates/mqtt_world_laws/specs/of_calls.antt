-- Any calls of a broker and openings of what it stored, whoever calls.
pub mod Again
pub mod Calls
pub mod Delivery
