-- The keys that gateway and book hold: 01's rules over them, and how the gateway stores them.
pub mod Keys
pub mod Stored
pub mod Helpers
