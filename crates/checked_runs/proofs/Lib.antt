mod Checking
mod Later
mod SameFiles
mod OneRun
mod TwoParts
mod BuiltIns
