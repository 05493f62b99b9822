-- Laws that belong to no one function; other crates cite them.
pub mod Lengths
pub mod Moves
pub mod Steps
