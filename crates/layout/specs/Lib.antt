-- What the layout check's promise says.
pub mod Promise
-- Laws, which a reader need not believe: the checker does.
pub mod Laws
