-- From the order in which a publisher publishes to the order in which its receivers are handed its messages.
pub mod Ordered
pub mod FirstReads
