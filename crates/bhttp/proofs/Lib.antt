-- Laws that belong to no one function; other crates cite them.
pub mod Told
pub mod Reading
pub mod FirstFault
pub mod Whole
pub mod Edges
