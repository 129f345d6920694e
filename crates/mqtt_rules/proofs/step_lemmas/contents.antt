-- What is stored and sent keeps the laws of its packet (MQTT 5.0, 3.3.2.3, 3.1.3.2).
pub mod ContentCopies
pub mod ContentLaw
pub mod ContentPackets
pub mod ContentRows
pub mod CopySizes
pub mod LawfulContents
pub mod PassedContents
pub mod SayableRows
pub mod SentContents
pub mod SpelledContents
