-- Laws of a node that is too deep.
pub mod Beyond
