-- 01's book, and what holds of a call, of every list of calls, of client and gateway, and of key lists with skipped configurations: each theorem is stated here and proved in proofs/.
pub mod Book
pub mod History
pub mod OneCall
pub mod Counts
pub mod Lifecycle
pub mod Retirement
pub mod Demand3
pub mod Engines
pub mod Storage
pub mod Agreement
pub mod Skipping
pub mod Edges
