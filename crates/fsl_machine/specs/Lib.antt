pub mod Orders
pub mod History
pub mod Serial
pub mod States
pub mod Steps
pub mod Turn
pub mod Machine
