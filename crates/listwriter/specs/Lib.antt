-- 01, "List writer", and 02, A2: what it writes, that the layout's reader undoes it, and what of a list that was read is not written.
pub mod Writer
pub mod Stated
pub mod Edges
pub mod Helpers
