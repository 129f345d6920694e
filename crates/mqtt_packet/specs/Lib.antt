pub mod parts
pub mod connect
pub mod subscribe
pub mod codec
pub mod stream
