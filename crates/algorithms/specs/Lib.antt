-- 01, "Algorithm sizes": the table, the sizes that belong to each algorithm, and what 01's table says of them.
pub mod Table
pub mod Sizes
pub mod Stated
