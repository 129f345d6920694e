-- What statements come to over one table: their texts, their rows, and the shape that they leave.
pub mod Commands
pub mod First
pub mod Fresh
pub mod Numbers
pub mod Parts
pub mod Rows
pub mod Second
pub mod Spared
pub mod Whole
