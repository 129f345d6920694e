pub mod strangers_lemmas
pub mod handshakes_lemmas
pub mod peers_lemmas
