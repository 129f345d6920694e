-- What each INSERT leaves.
pub mod PutOpen
pub mod PutSession
pub mod PutSubscription
pub mod PutWill
pub mod Replace
