-- How many bytes the exported structs take.
pub mod Sizes
