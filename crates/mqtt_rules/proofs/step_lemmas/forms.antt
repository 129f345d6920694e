-- The forms in which a PUBLISH goes out (MQTT 5.0, 3.1.2.11.4, 3.3.2.3.4).
pub mod FormBlocks
pub mod FormSizes
pub mod PlainForm
