-- Many ends, and packets under way from them and to them.
pub mod Many
pub mod Fronts
pub mod Read
pub mod Told
