-- What the crate's contracts cite: tests, refusals, reads and writes of bytes, first matches, and RFC 9458's fixed texts.
pub mod Tests
pub mod Bytes
pub mod Refusals
pub mod Reasons
pub mod Search
pub mod Texts
pub mod Hex
pub mod Exporter
pub mod Helpers
