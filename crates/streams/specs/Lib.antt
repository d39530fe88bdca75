-- What a number is in hexadecimal digits.
pub mod Hex
