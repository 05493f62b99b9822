-- Laws that belong to no one function; other crates cite them.
pub mod Rows
pub mod Stated
pub mod Answers
