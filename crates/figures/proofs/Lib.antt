pub mod Agreement
pub mod FirstBreach
pub mod Laid
pub mod Bodies
pub mod Accepted
