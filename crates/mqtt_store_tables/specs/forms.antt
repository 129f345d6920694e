pub mod Tables
pub mod Forms
pub mod Creation
pub mod Asking
pub mod Settled
