pub mod Large
pub mod WholeForms
pub mod WholePumps
