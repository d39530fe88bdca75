-- The laws of refusals, the ladder from verdicts to a promise, and the theorem that a promise allows one result.
pub mod Numbered
pub mod Laws
pub mod Ladder
pub mod Answers
pub mod Theorems
