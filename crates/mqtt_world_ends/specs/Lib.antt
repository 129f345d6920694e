pub mod strangers
pub mod handshakes
pub mod peers
