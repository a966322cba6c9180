pub mod Answer
pub mod Decls
pub mod Least
pub mod Parts
pub mod Stmts
pub mod Whole
