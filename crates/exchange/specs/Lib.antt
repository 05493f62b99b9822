-- 01, "An exchange, step by step": the exchange, and the calls on its ticket.
pub mod Exchange
pub mod Steps
pub mod Moved
