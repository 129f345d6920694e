pub mod script_laws
pub mod script_drains
pub mod reopening
pub mod clients
pub mod scene
pub mod world
