pub mod Lists
pub mod Said
pub mod Neighbours
pub mod Listed
pub mod Shared
pub mod Nothing
