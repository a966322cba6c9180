pub mod Firsts
pub mod KnownNames
pub mod Walks
pub mod StmtTests
pub mod DeclSearch
pub mod WholeSpec
