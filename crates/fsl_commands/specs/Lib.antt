pub mod Answer
pub mod Changes
pub mod Check
pub mod Command
pub mod Loading
pub mod Run
pub mod Top
pub mod Unread
