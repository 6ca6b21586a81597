pub mod SpelledExpressions
pub mod SpelledAssertions
pub mod SpelledStatements
pub mod Spelling
pub mod Nesting
pub mod Printing
