mod Blocks
mod ByNumber
mod SystemPorts
mod SystemSound
mod DrawnSound
mod Making
mod TalkCounts
