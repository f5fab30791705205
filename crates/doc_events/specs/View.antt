-- What the reader's states stand for.
use Rattle.std.specs.Prelude.{◌≡◌, ℕ, List, [], ◌∷◌, ◌==◌, map, reverse, drop, length, if◌then◌else◌, Result, Ok, Err, ⊤, codes, Bool, true, false}
use Rattle.std.specs.Str.{encode_utf8_all}
use Prim.Native.Char.{code}
use Rattle.std.specs.declared.vec.Vec.{Vec}
use Rattle.std.specs.declared.alloc.Global.{Global}
use Rattle.doc_grammar.specs.Grammar.{begin, close}
use Rattle.doc_grammar.specs.Grammar as g
use Rattle.doc_grammar.specs.Machine as m
use Rattle.doc_grammar.specs.declared.reasons.Why.TheVariants.{Twice}
use Rattle.doc_events.specs.declared.state.Place.{Place}
use Rattle.doc_events.specs.declared.state.Place.TheVariants.{Before, Within}
use Rattle.doc_events.specs.declared.state.Quote.{Quote}
use Rattle.doc_events.specs.declared.state.Quote.TheVariants.{Double, Single}
use Rattle.doc_events.specs.declared.state.Part.{Part}
use Rattle.doc_events.specs.declared.state.Part.TheVariants.{Version, Encoding, Standalone}
use Rattle.doc_events.specs.declared.state.Saying.{Saying}
use Rattle.doc_events.specs.declared.state.Saying.TheVariants.{OnePointZero, Utf8, Yes, No}
use Rattle.doc_events.specs.declared.state.Base.{Base}
use Rattle.doc_events.specs.declared.state.Base.TheVariants.{Ten, Sixteen}
use Rattle.doc_events.specs.declared.state.Hole.{Hole}
use Rattle.doc_events.specs.declared.state.Hole.TheVariants.{InText, InValue}
use Rattle.doc_events.specs.declared.state.Tail.{Tail}
use Rattle.doc_events.specs.declared.state.Tail.TheVariants.{Semicolon, T, Ot, S}
use Rattle.doc_events.specs.declared.state.Tail.TheVariants as tail
use Rattle.doc_events.specs.declared.state.State.{State}
use Rattle.doc_events.specs.declared.state.State.TheVariants as s
use Rattle.doc_events.specs.declared.state.Reader.{Reader}
use Rattle.doc_events.specs.declared.state.Token.{Token}
use Rattle.doc_events.specs.declared.state.Token.TheVariants.{Nothing, Begin, Empty, End}
use Rattle.doc_events.specs.declared.state.Stop.{Stop}
use Rattle.doc_events.specs.declared.state.Stop.TheVariants.{Dead, Memory}

abbrev pub name_of : Vec ℕ Global → List ℕ
name_of v = v.items

abbrev pub names_of : List (Vec ℕ Global) → List (List ℕ)
names_of vs = reverse (map name_of vs)

abbrev pub place_of : Place → m.Place
place_of Before = m.before
place_of (Within v) = m.within (names_of v.items)

abbrev pub quote_of : Quote → g.Quote
quote_of Double = g.with_double
quote_of Single = g.with_single

abbrev pub part_of : Part → g.Part
part_of Version = g.version
part_of Encoding = g.encoding
part_of Standalone = g.standalone

abbrev pub saying_part : Saying → g.Part
saying_part OnePointZero = g.version
saying_part Utf8 = g.encoding
saying_part Yes = g.standalone
saying_part No = g.standalone

abbrev pub saying_text : Saying → List ℕ
saying_text OnePointZero = codes "1.0"
saying_text Utf8 = codes "utf-8"
saying_text Yes = codes "yes"
saying_text No = codes "no"

abbrev pub base_of : Base → g.Base
base_of Ten = g.ten
base_of Sixteen = g.sixteen

-- the names of the elements that are open there
abbrev pub stack_of : Place → List (List ℕ)
stack_of p = m.stack (place_of p)

abbrev pub hole_of : Hole → Reader → m.Hole
hole_of InText r = m.in_text r.name.items (stack_of r.place)
hole_of (InValue q) r =
    m.in_value (place_of r.place) r.name.items r.attributes r.attribute.items (quote_of q)
    r.value.items

abbrev pub tail_of : Tail → List ℕ
tail_of tail.Nothing = []
tail_of Semicolon = codes ";"
tail_of T = codes "t;"
tail_of Ot = codes "ot;"
tail_of S = codes "s;"

-- in a word of the declaration, where these characters are to come
abbrev pub setting_name_from : g.Part → List ℕ → m.State
setting_name_from part [] = m.after_setting_name part
setting_name_from part (t ∷ todo) = m.setting_name part t todo

-- in a value of the declaration
abbrev pub setting_value_from : g.Part → g.Quote → List ℕ → m.State
setting_value_from part q [] = m.setting_value_end part q
setting_value_from part q (t ∷ todo) = m.setting_value part q t todo

-- in the beginning of a CDATA section
abbrev pub cdata_start_from : List ℕ → List (List ℕ) → List ℕ → m.State
cdata_start_from n ns [] = m.cdata_section n ns
cdata_start_from n ns (t ∷ todo) = m.cdata_start n ns t todo

abbrev pub cdata : List ℕ
cdata = codes "CDATA["

-- what a state stands for, with the names and values that the reader has
abbrev pub state_in : State → Reader → m.State
state_in s.Start r = m.start
state_in s.AfterByteOrderMark r = m.after_byte_order_mark
state_in s.DocumentTagOpen r = m.document_tag_open
state_in s.DocumentProcessingInstruction r = m.document_processing_instruction
state_in s.DocumentInstructionTarget r = m.document_instruction_target r.name.items
state_in s.BeforeVersion r = m.before_version
state_in (s.AfterSetting part) r = m.after_setting (part_of part)
state_in (s.BetweenSettings part) r = m.between_settings (part_of part)
state_in (s.SettingName part k) r =
    setting_name_from (part_of part) (drop k (g.word (part_of part)))
state_in (s.AfterSettingName part) r = m.after_setting_name (part_of part)
state_in (s.BeforeSettingValue part) r = m.before_setting_value (part_of part)
state_in (s.StandaloneValue q) r = m.standalone_value (quote_of q)
state_in (s.SettingValue w q k) r =
    setting_value_from (saying_part w) (quote_of q) (drop k (saying_text w))
state_in s.DeclarationEnd r = m.declaration_end
state_in s.Content r = m.content (place_of r.place)
state_in s.TagOpen r = m.tag_open (place_of r.place)
state_in s.MarkupDeclaration r = m.markup_declaration (place_of r.place)
state_in s.CommentStart r = m.comment_start (place_of r.place)
state_in s.Comment r = m.comment (place_of r.place)
state_in s.CommentDash r = m.comment_dash (place_of r.place)
state_in s.CommentEnd r = m.comment_end (place_of r.place)
state_in s.ProcessingInstruction r = m.processing_instruction (place_of r.place)
state_in s.InstructionTarget r = m.instruction_target (place_of r.place) r.name.items
state_in s.InstructionTargetEnd r = m.instruction_target_end (place_of r.place)
state_in s.InstructionText r = m.instruction_text (place_of r.place)
state_in s.InstructionEnd r = m.instruction_end (place_of r.place)
state_in (s.CdataStart k) r = cdata_start_from r.name.items (stack_of r.place) (drop k cdata)
state_in s.CdataSection r = m.cdata_section r.name.items (stack_of r.place)
state_in s.CdataSectionBracket r = m.cdata_section_bracket r.name.items (stack_of r.place)
state_in s.CdataSectionEnd r = m.cdata_section_end r.name.items (stack_of r.place)
state_in s.TagName r = m.tag_name (place_of r.place) r.name.items
state_in s.BeforeAttributeName r =
    m.before_attribute_name (place_of r.place) r.name.items r.attributes
state_in s.AttributeName r =
    m.attribute_name (place_of r.place) r.name.items r.attributes r.attribute.items
state_in s.AfterAttributeName r =
    m.after_attribute_name (place_of r.place) r.name.items r.attributes r.attribute.items
state_in s.BeforeAttributeValue r =
    m.before_attribute_value (place_of r.place) r.name.items r.attributes r.attribute.items
state_in (s.AttributeValue q b) r =
    m.attribute_value (place_of r.place) r.name.items r.attributes r.attribute.items (quote_of q)
    r.value.items b
state_in s.AfterAttributeValue r =
    m.after_attribute_value (place_of r.place) r.name.items r.attributes
state_in s.SelfClosingStartTag r =
    m.self_closing_start_tag (place_of r.place) r.name.items r.attributes
state_in (s.EndTagName k) r = m.end_tag_name (stack_of r.place) (drop k r.name.items)
state_in s.AfterEndTagName r = m.after_end_tag_name (stack_of r.place)
state_in (s.Reference h) r = m.reference (hole_of h r)
state_in (s.ReferenceA h) r = m.reference_a (hole_of h r)
state_in (s.NamedReference h code t rest) r =
    m.named_reference (hole_of h r) code t (tail_of rest)
state_in (s.NumericReference h) r = m.numeric_reference (hole_of h r)
state_in (s.HexadecimalReference h) r = m.hexadecimal_reference (hole_of h r)
state_in (s.ReferenceDigits h base n) r = m.reference_digits (hole_of h r) (base_of base) n

-- the machine's state in which the reader is
abbrev pub state_of : Reader → m.State
state_of r = state_in r.state r

-- the name and the attributes of the tag that was read last
abbrev pub tag_name : Reader → List ℕ
tag_name r = r.name.items

abbrev pub tag_attributes : Reader → List g.Pair
tag_attributes r = r.attributes

-- what a character completed that led to this reader
abbrev pub events_at : Token → Reader → List g.Event
events_at Nothing r = []
events_at Begin r = begin (tag_name r) (tag_attributes r) ∷ []
events_at Empty r = begin (tag_name r) (tag_attributes r) ∷ close ∷ []
events_at End r = close ∷ []

-- where an attribute's name ends that its tag may not have already
abbrev pub unless_twice : List g.Pair → List ℕ → m.State → m.Step
unless_twice xs x s =
    if g.has xs x then m.dead (Twice (length (encode_utf8_all x))) else m.go s

-- what a step of the machine came to, where it tells an error
abbrev pub Stops : m.Step → Stop → Type 0
Stops w (Dead y) = w ≡ m.dead y
Stops w Memory = ⊤

-- a step of the machine that emits nothing was taken, to this state of the reader
abbrev pub StepTaken : m.Step → Result State Stop → Reader → Type 0
StepTaken w (Ok t) r = w ≡ m.go (state_in t r)
StepTaken w (Err e) r = Stops w e

abbrev pub Took : m.Step → State → Token → Reader → Type 0
Took (m.dead w) t k r = ⊥
Took (m.go s) t k r = (s ≡ state_in t r) × (events_at k r ≡ [])
Took (m.emit s es) t k r = (s ≡ state_in t r) × (es ≡ events_at k r)

-- a step that completes nothing
abbrev pub quieted : Result State Stop → Result (State × Token) Stop
quieted (Ok t) = Ok (t, Nothing)
quieted (Err e) = Err e

-- a step of the machine was taken, to this state of the reader
abbrev pub Moves : m.Step → Result (State × Token) Stop → Reader → Type 0
Moves w (Ok p) r = Took w p.0 p.1 r
Moves w (Err e) r = Stops w e

-- the reader took a step of the machine
abbrev pub Takes : m.Step → Result Token Stop → Reader → Type 0
Takes w (Ok k) r = Took w r.state k r
Takes w (Err e) r = Stops w e

-- the reader took a step that completes nothing, or is as it was
abbrev pub TakesPlain : m.Step → Reader → Reader → Bool → Type 0
TakesPlain w old new true = w ≡ m.go (state_of new)
TakesPlain w old new false = new ≡ old

-- the character after which a line feed counts for nothing in a value
abbrev pub is_return : ℕ → Bool
is_return c = c == code "\r"
