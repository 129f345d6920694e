-- The copies of a receiver's session: what enters, what goes out and what is handed over.
pub mod Apart
pub mod Entering
pub mod Follows
pub mod Handed
pub mod Known
pub mod Marks
pub mod Numbers
pub mod Pumps
pub mod QueueLengths
pub mod Renumbering
pub mod Sending
pub mod Turns
pub mod UnderWay
pub mod Unsent
