-- What the tables of powers of α and of logarithms promise.
pub mod Logs
