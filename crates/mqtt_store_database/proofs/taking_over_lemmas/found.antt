-- What a load of schema 1 finds is what the database keeps.
pub mod Alike
pub mod Found
pub mod Kept
