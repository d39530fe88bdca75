-- The values of characters, a character and a part at a time.
pub mod Steps
