pub mod Faults
pub mod Known
pub mod Nodes
pub mod Table
