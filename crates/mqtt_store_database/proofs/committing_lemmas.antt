pub mod Catalog
pub mod Contents
pub mod Kept
pub mod Known
pub mod Settled
pub mod Spelled
pub mod Further
