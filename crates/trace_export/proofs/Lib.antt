mod FieldLemmas
mod RowLemmas
