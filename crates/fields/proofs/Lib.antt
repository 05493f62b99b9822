-- Laws that belong to no one function; other crates cite those that are `pub`.
pub mod Table
pub mod Readings
pub mod Sections
pub mod FirstFault
pub mod Walking
pub mod Places
