-- Laws of the rules' definitions, which a reader need not believe: the checker does.
pub mod Maps
pub mod Trees
pub mod Postorder
pub mod Sites
pub mod Classes
pub mod Values
pub mod Heap
pub mod Tags
pub mod Frames
