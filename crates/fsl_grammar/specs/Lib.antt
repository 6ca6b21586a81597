pub mod Heads
pub mod Levels
pub mod ReadAssertions
pub mod ReadDeclarations
pub mod ReadExpressions
pub mod ReadGroups
pub mod ReadStatements
pub mod Readers
