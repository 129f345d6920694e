-- From a message of a publisher to what a receiver has of it.
pub mod Published
