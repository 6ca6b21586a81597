pub mod Fits
pub mod Kind
pub mod Numbers
pub mod Went
