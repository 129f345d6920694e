pub mod step
pub mod alike
pub mod filling
pub mod telling
pub mod fitting
pub mod whole
pub mod granting
pub mod spelling
