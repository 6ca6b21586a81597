pub mod Carried
pub mod Exact
pub mod Needs
pub mod Fitting
pub mod Laws
