-- Decimal numbers and lines of text, and what a writer of them leaves in a lent buffer.
pub mod Text
pub mod Writing
