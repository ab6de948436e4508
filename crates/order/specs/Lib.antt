-- Rules, the order in which they are asked, and the first breach.
pub mod Rules
-- Laws, which a reader need not believe: the checker does.
pub mod Scan
pub mod Lowest
