-- What a character adds to ten power sums.
pub mod Terms
