pub mod Judged
pub mod Procedures
pub mod Shared
