-- 01, "Key list", and 02, A1 and A2: the layout read into configurations, the answers of check and key reader, what the key reader hands
-- back, what stands at the place of a refusal, the starred edges of lists, and A1 and A2 at their bounds.
pub mod Layout
pub mod Answers
pub mod Stated
pub mod Before
pub mod Faults
pub mod Edges
pub mod Helpers
