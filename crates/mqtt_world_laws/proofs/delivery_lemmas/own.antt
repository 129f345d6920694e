-- Where a receiver is, as the broker reads its own packets and sends what waits for it.
pub mod Fronts
pub mod Greetings
pub mod Heard
pub mod LateConnects
pub mod OldReplies
pub mod OwnConnects
pub mod Pumping
pub mod Reading
pub mod Replies
pub mod Sizes
pub mod Taking
pub mod Wishes
