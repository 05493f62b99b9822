-- Laws that belong to no one function; other crates cite them.
pub mod Booleans
pub mod Writes
pub mod Matches
pub mod Info
pub mod Numbers
pub mod Agreeing
