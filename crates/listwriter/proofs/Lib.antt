-- Laws that belong to no one function.
pub mod FlatFields
pub mod Cutting
pub mod ReadAfterWrite
pub mod WriteAfterRead
pub mod Edges
pub mod FieldsWalk
pub mod Writing
pub mod Words
pub mod Faults
