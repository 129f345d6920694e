-- What is so of any table, of the five with which each schema begins, and of the items that rows of both say.
pub mod Exact
pub mod First
pub mod Lines
pub mod Same
pub mod Sent
pub mod Table
pub mod Traverse
