-- Lines are unique, and a session is on one exactly while it is connected.
pub mod LineActs
pub mod LineLaw
pub mod LinePrepared
pub mod LineRows
pub mod LineSteps
pub mod LineUnits
