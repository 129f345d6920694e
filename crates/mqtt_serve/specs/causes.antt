pub mod Causes
pub mod Reports
