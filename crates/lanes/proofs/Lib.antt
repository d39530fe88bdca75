-- The laws of lanes, and what the code does a turn at a time and a choice at a time.
pub mod Laws
pub mod Loops
pub mod Choices
