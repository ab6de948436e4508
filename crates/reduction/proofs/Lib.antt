pub mod Agreement
pub mod RunLaws
pub mod Remembering
