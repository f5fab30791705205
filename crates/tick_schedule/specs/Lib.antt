pub mod Timetable
pub mod Points
pub mod HeapOrder
pub mod Cost
pub mod Pending
