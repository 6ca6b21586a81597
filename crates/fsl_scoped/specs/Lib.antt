pub mod Values
pub mod Assertions
pub mod Own
pub mod Statements
pub mod Procedures
pub mod Arguments
