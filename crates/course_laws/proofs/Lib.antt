pub mod Goods
mod RunEnds
mod FirstBad
pub mod OwnCalls
pub mod Triples
mod LastSteps
mod BoundSets
mod Once
mod RoundCalls
mod CallsOnce
mod ArmedClocks
mod UpdateMarks
mod UpdateTables
mod UpdatesNeeded
mod Sorts
mod UpdatesAlong
mod OneWay
pub mod Unsaved
mod StatesLeft
mod StatesKept
