-- The laws of starts, of recordings and of false starts, the turns of the code, listing by one pattern of errors, the ways out of listing and reading, where a word was changed, and the theorems; those of the marks stand in the folder of `marks`, and those of a pattern's counts in that of `pattern`.
pub mod Placing
pub mod Recording
pub mod Alone
pub mod Those
pub mod FalseStarts
pub mod Starts
pub mod Filtering
pub mod Loops
pub mod OnePattern
pub mod Deciding
pub mod Ways
pub mod Changed
pub mod Theorems
