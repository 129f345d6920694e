-- A copy ends as taken only if its receiver has read it (MQTT 5.0, 4.3.2, 4.3.3).
pub mod Acknowledged
pub mod Acknowledging
pub mod EndsTaken
pub mod HandedEnds
pub mod Plain
