mod ListLemmas
mod FlatLemmas
mod ReachLemmas
mod BindLemmas
