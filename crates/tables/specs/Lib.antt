-- Laws, which a reader need not believe: the checker does.
pub mod Laws
