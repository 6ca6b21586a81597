pub mod Executions
pub mod Counted
pub mod Alone
pub mod Taking
