pub mod Kinds
pub mod Lex
