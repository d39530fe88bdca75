-- Sheets: what they are and how rounds read them, damage to them, and what the inner functions promise.
pub mod Sheet
pub mod Damage
pub mod Inside
