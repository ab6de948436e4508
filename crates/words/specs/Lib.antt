-- Value words, integers and type words: definitions, and apart from them the laws that hold of them.
pub mod Value
pub mod Integer
pub mod Types
pub mod IntegerLaws
pub mod TypeLaws
