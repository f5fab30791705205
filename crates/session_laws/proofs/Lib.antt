mod Told
mod ToldStates
mod ToldRests
mod ToldWell
