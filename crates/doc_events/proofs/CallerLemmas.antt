-- The lemmas of this crate that others may cite.
pub use Rattle.doc_events.proofs.Steps.{early, ended, moved, slice_fault, slice_left, step_place, step_text, whole_text}
pub use Rattle.doc_events.proofs.Told.{no_document, refused_fault, refused_fits}
