pub mod Atomics
pub mod Calls
pub mod Changes
pub mod Laws
pub mod Parts
pub mod Results
pub mod Threads
