pub mod Judged
pub mod Supported
