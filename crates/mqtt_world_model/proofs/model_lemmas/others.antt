-- What others do leaves a publisher's session and lines alone.
pub mod Elsewhere
pub mod Far
pub mod FarActs
pub mod Frame
pub mod Lists
pub mod Nameless
pub mod Names
pub mod Quiet
pub mod Rows
pub mod Untouched
