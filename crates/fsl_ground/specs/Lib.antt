pub mod Ground
pub mod Changes
pub mod Laws
