-- All tables after each change.
pub mod Both
pub mod Edited
pub mod PutCopy
pub mod SetCopy
pub mod RemovedCopy
pub mod EndedSession
pub mod Retained
pub mod Rest
pub mod First
pub mod Numbers
pub mod Asked
pub mod Dropped
pub mod Tables
