pub mod Laws
pub mod Stances
pub mod Walks
