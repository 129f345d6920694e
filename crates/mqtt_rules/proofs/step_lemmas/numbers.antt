-- Births, numbers and places: each given is the next one.
pub mod Copies
pub mod Counters
pub mod NumberBirths
pub mod NumberCopies
pub mod NumberFacts
pub mod NumberOrder
pub mod NumberPlaces
pub mod NumberSteps
