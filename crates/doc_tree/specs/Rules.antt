-- The rules of the profile, which a file may break, and their numbers.
use Rattle.std.specs.Prelude.{ℕ}
use Rattle.doc_grammar.specs.declared.reasons.Rule as grammar
use Rattle.doc_grammar.specs.declared.reasons.Rule.TheVariants.{NotUtf8, Malformed, Doctype, TooDeep, AttributeTwice}
use Rattle.doc_tree.specs.declared.rule.Rule.{Rule}
use Rattle.doc_tree.specs.declared.rule.Rule.TheVariants.{Document, Description, System, Nesting, Flattening, Loop, SavesNoState, TooManyPorts, Parameters, CannotBeHeld}
use Rattle.doc_tree.specs.declared.rule.DescriptionRule.{DescriptionRule}
use Rattle.doc_tree.specs.declared.rule.DescriptionRule.TheVariants as d
use Rattle.doc_tree.specs.declared.rule.SystemRule.{SystemRule}
use Rattle.doc_tree.specs.declared.rule.SystemRule.TheVariants as s
use Rattle.doc_tree.specs.declared.rule.NestingRule.{NestingRule}
use Rattle.doc_tree.specs.declared.rule.NestingRule.TheVariants as n
use Rattle.doc_tree.specs.declared.rule.FlatteningRule.{FlatteningRule}
use Rattle.doc_tree.specs.declared.rule.FlatteningRule.TheVariants as f
use Rattle.doc_tree.specs.declared.rule.ParameterRule.{ParameterRule}
use Rattle.doc_tree.specs.declared.rule.ParameterRule.TheVariants as p

-- of documents: the text is one of the subset of XML 1.0
abbrev pub document_number : grammar.Rule → ℕ
document_number NotUtf8 = 1
document_number Malformed = 2
document_number Doctype = 3
document_number TooDeep = 4
document_number AttributeTwice = 5

-- of model descriptions (FMI 3.0, 2.4: modelDescription.xml)
abbrev pub description_number : DescriptionRule → ℕ
description_number d.RootName = 10
description_number d.Version = 11
description_number d.NoCoSimulation = 12
description_number d.Absent = 13
description_number d.Misread = 14
description_number d.ReferenceTwice = 15
description_number d.NameTwice = 16
description_number d.NoInterval = 17
description_number d.ClockCausality = 18
description_number d.Uneven = 19
description_number d.NoClock = 20
description_number d.NoVariable = 21
description_number d.SerializesUnsaved = 22
description_number d.LeftOut = 23
description_number d.ClockWithoutEvents = 24

-- of system structure descriptions (SSP 1.0: SystemStructure.ssd)
abbrev pub system_number : SystemRule → ℕ
system_number s.Structure = 30
system_number s.ElementTwice = 31
system_number s.OtherType = 32
system_number s.NoSource = 33
system_number s.ModelExchange = 34
system_number s.Incomplete = 35
system_number s.Transformation = 36
system_number s.NoEnd = 37
system_number s.WrongEnd = 38
system_number s.TooManyComponents = 48

-- of documents that stand in one another (SSP 1.0: Component; type)
abbrev pub nesting_number : NestingRule → ℕ
nesting_number n.NoInnerConnector = 39
nesting_number n.TooDeep = 59

-- of connectors and connections together with the variables that they name (SSP 1.0, 5.3.3)
abbrev pub flattening_number : FlatteningRule → ℕ
flattening_number f.NoSuchVariable = 40
flattening_number f.OtherCausality = 41
flattening_number f.OtherClass = 42
flattening_number f.EndTwice = 43
flattening_number f.TooWide = 44
flattening_number f.FedClock = 45
flattening_number f.OtherChange = 58

-- of sets of parameter values and of their mappings (SSP 1.0: SSV and SSM)
abbrev pub parameter_number : ParameterRule → ℕ
parameter_number p.Structure = 50
parameter_number p.Incomplete = 51
parameter_number p.OtherClass = 52
parameter_number p.OutOfRange = 53
parameter_number p.Transformation = 54
parameter_number p.NoMapEntry = 55
parameter_number p.NamesTwo = 56

-- of all
abbrev pub number : Rule → ℕ
number (Document rule) = document_number rule
number (Description rule) = description_number rule
number (System rule) = system_number rule
number (Nesting rule) = nesting_number rule
number (Flattening rule) = flattening_number rule
number Loop = 46
number SavesNoState = 47
number TooManyPorts = 49
number (Parameters rule) = parameter_number rule
number CannotBeHeld = 57
