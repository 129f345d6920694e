pub mod ConnectFlags
pub mod Connect
