pub mod parts_lemmas
pub mod connect_lemmas
pub mod subscribe_lemmas
pub mod codec_lemmas
pub mod stream_lemmas
