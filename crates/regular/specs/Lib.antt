-- Elimination at all places at once, and what the filter promises.
pub mod Pivots
pub mod Promises
