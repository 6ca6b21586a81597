pub mod Ground
pub mod Safety
pub mod Sources
pub mod Tables
pub mod Banks
pub mod Cells
pub mod Deals
pub mod Gaining
