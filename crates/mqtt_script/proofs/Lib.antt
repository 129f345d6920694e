-- What a line is read as, and what it is the line of.
pub mod Askings
pub mod Cases
pub mod Events
pub mod Meanings
pub mod Numbers
