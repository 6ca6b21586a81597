pub mod Digits
pub mod Names
pub mod Pieces
pub mod Lexing
pub mod Counting
pub mod Law
pub mod Apart
