-- Why copies end: each end as it came, and its cause.
pub mod Endings
pub mod Causes
