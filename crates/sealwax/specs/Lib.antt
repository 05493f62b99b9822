-- What the program does with the gateway.
pub mod Calls
