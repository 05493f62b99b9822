-- The laws of the program's proofs.
mod Lending
