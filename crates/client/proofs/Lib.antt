-- Laws that belong to no one function.
pub mod Parts
pub mod Fronts
pub mod Pairs
pub mod Choosing
pub mod Edges
