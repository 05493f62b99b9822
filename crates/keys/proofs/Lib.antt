-- Laws that belong to no one function; other crates cite them.
pub mod Arrays
pub mod Stored
pub mod Parsed
pub mod Reading
pub mod Named
pub mod Views
