-- The proofs of the theorems. One call:
pub mod Edges
pub mod Numbers
pub mod Refusing
pub mod Placing
pub mod Protecting
pub mod Admitting
pub mod Accepting
-- the gateway against the book:
pub mod Passing
pub mod Table
pub mod KeyCounts
pub mod Sound
pub mod Refining
pub mod Refinement
pub mod Engines
pub mod Admission
-- tickets over every history:
pub mod Tickets
pub mod Lifecycle
pub mod Storing
pub mod Retiring
-- counts and tickets:
pub mod Counting
pub mod Counts
-- moving calls on the book:
pub mod Pending
pub mod Accepted
pub mod Swap
pub mod Runs
pub mod Pulling
pub mod Chosen
pub mod Moving
pub mod Demand3
-- client and gateway, and key lists with skipped configurations:
pub mod Agreement
pub mod Skipping
