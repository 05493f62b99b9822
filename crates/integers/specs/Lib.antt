-- What the crate's contracts cite.
pub mod Integers
pub mod Stated
