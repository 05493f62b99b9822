-- What hosts get of the libraries' answers: each as a struct that begins with its outcome.
pub mod Outcome
pub mod Calls
pub mod Client
pub mod Messages
