-- 01, "Client side": choose, head and split, and their bounds.
pub mod Choose
pub mod Head
pub mod Split
pub mod Edges
pub mod Helpers
