-- Laws of nodes and bodies.
pub mod Laws
