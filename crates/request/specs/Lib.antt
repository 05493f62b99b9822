-- 01, "Layouts", the request.
pub mod Request
pub mod Helpers
