-- The rows of tables, and what finds them.
pub mod Edited
pub mod Five
pub mod Kept
pub mod Keys
pub mod Numbers
pub mod Single
pub mod Tables
