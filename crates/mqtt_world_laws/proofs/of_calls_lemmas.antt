-- Over any calls of a broker and openings of what it stored: what each keeps, all keep.
pub mod Events
pub mod Entering
pub mod Ending
pub mod Sending
pub mod Keeping
pub mod Repeating
pub mod Leaving
pub mod Examples
