-- The lemmas of this crate that others may cite.
pub use Rattle.trace_reading.proofs.ListLemmas.{heads, tails, unsome}
pub use Rattle.trace_reading.proofs.LineLemmas.{one_cut}
pub use Rattle.trace_reading.proofs.TextLemmas.{is_header_line, is_port_line, lacks_not}
pub use Rattle.trace_reading.proofs.TableLemmas.{more_ports, more_named}
pub use Rattle.trace_reading.proofs.WalkLemmas.{more_text, more_walk}
pub use Rattle.trace_reading.proofs.TraceLemmas.{header_fault, line_fault, whole_text, Read}
