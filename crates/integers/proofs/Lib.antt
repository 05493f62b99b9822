-- Laws that belong to no one function; other crates cite them.
pub mod Values
pub mod Stated
pub mod Agreeing
