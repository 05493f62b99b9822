-- What the crate's contracts cite: octet classes, parts behind their length, fields and the sections that are made of them, and the field reader.
pub mod Octets
pub mod Parts
pub mod Fields
pub mod Reader
