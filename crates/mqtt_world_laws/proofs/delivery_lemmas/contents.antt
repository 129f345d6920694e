-- What is read carries what was published (MQTT 5.0, 3.3.2, 3.3.3).
pub mod ContentRuns
pub mod Contents
pub mod Holdings
pub mod QueueContents
pub mod Saying
pub mod Telling
pub mod WayBodies
pub mod WayTags
