pub mod Digested
pub mod OtherChanges
pub mod FilledRows
pub mod Making
pub mod Examples
