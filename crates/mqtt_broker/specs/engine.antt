pub mod Serving
pub mod Piece
pub mod Asking
pub mod Cut
pub mod Opening
pub mod Framers
pub mod Looks
