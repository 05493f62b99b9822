-- Laws that belong to no one function; other crates cite them.
pub mod Places
pub mod Deciding
pub mod Results
