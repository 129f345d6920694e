-- Payloads of waiting copies, and others in their place.
pub mod Payloads
