-- The room of a run, and a turn of the machine.
pub mod Tags
pub mod Room
pub mod Stack
pub mod Turn
pub mod Leads
-- Laws.
pub mod TagLaws
pub mod RoomLaws
pub mod Enter
pub mod Armed
pub mod Nodes
pub mod Back
pub mod Unwind
pub mod Calls
pub mod LeadsLaws
