-- What the crate's contracts cite: the parts that every known-length message ends with, and the request.
pub mod Contents
pub mod Request
pub mod Answers
pub mod Stated
pub mod Edges
