-- The text of the viewer, and of the report on the vectors.
pub mod JsonPacket
pub mod JsonValues
pub mod PacketText
pub mod PropertyText
pub mod Vectors
pub mod View
pub mod Viewing
