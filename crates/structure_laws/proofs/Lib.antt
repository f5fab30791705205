mod Order
mod NamedLemmas
mod NestedLemmas
