pub mod Leads
pub mod Shortened
