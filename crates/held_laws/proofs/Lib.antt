mod Asking
mod BuiltIns
