pub mod Accesses
pub mod Fences
pub mod Loading
pub mod Located
pub mod Location
pub mod Permissions
pub mod Pieces
pub mod Storing
