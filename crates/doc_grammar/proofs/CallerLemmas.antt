-- The lemmas of this crate that others may cite.
pub use Rattle.doc_grammar.proofs.Encoded.{document_utf8}
pub use Rattle.doc_grammar.proofs.Judging.{end_document, end_fault, judged_fault, one_tree}
pub use Rattle.doc_grammar.proofs.Lift.{strip}
pub use Rattle.doc_grammar.proofs.OneFault.{one_fault}
pub use Rattle.doc_grammar.proofs.Prefix.{lead_lead}
pub use Rattle.doc_grammar.proofs.Sizes.{Takes, past, past_char, past_comment, past_declaration, past_end, past_instruction, past_reference, past_section, size, size_cons, value_size}
