pub mod Unsat
