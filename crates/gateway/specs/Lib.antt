-- 01's gateway: cap, last ticket and keys with the rules of admission and of retirement, and the report; the calls; what a gateway holds, how
-- it is stored, and what each call does.
pub mod Registry
pub mod Calls
pub mod View
pub mod Engines
pub mod Gateway
pub mod Helpers
