-- Laws that belong to no one function; other crates cite them.
pub mod LayoutLaws
pub mod Parsing
pub mod Standing
pub mod Walk
pub mod Keys
pub mod Faults
pub mod Edges
