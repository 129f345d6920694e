-- Where a publisher is: its session and its lines.
pub mod Breaks
pub mod Doings
pub mod HopStands
pub mod Joins
pub mod Mine
pub mod OwnSeats
pub mod Owned
pub mod Places
pub mod Projected
pub mod Seats
pub mod Seeing
pub mod Sends
