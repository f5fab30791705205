-- What may follow in each state, by the grammar.
use Rattle.std.proofs.Common.{◌≡◌, ℕ, Bool, true, false, List, [], ◌∷◌, ◌++◌, length, map, ◌⊎◌, Option}
use Rattle.doc_grammar.specs.Characters.{class, names, IsSpace, AllOf, is_char}
use Rattle.doc_grammar.specs.Grammar.{Limits, clashes, Quote, quote_char, Part, version, encoding, standalone, word, fold_for, IsSettingValue, Setting, print_maybe, IsMaybe, Base, AllNumerals, with_digits, Reference, print_reference, IsReference, code_of, Piece, print_value, IsValue, value_of, Attr, print_named, print_attrs, Pair, attr_of, IsAttr, IsAttrs, IsComment, IsFree, IsSection, is_xml, Content, print, IsContent, IsMisc, Event, begin, close, events, Body, Unmarked, Document}
use Rattle.doc_grammar.specs.declared.characters.Class.TheVariants.{Blank}
use Rattle.doc_grammar.specs.Machine.{Place, before, within, Hole, in_text, in_value, State, start, after_byte_order_mark, document_tag_open, document_processing_instruction, document_instruction_target, before_version, after_setting, between_settings, setting_name, after_setting_name, before_setting_value, standalone_value, setting_value, setting_value_end, declaration_end, content, tag_open, markup_declaration, comment_start, comment, comment_dash, comment_end, processing_instruction, instruction_target, instruction_target_end, instruction_text, instruction_end, cdata_start, cdata_section, cdata_section_bracket, cdata_section_end, tag_name, before_attribute_name, attribute_name, after_attribute_name, before_attribute_value, attribute_value, after_attribute_value, self_closing_start_tag, end_tag_name, after_end_tag_name, reference, reference_a, named_reference, numeric_reference, hexadecimal_reference, reference_digits, stack}

module _ (l : Limits) where
  abbrev pub After : List (List ℕ) → List ℕ → List Event → Type 0
  After [] text out = (c : Content) × IsMisc c × (text ≡ print c []) × (out ≡ events c [])
  After (n ∷ ns) text out =
      (c : Content) × (gap : List ℕ) × (rest : List ℕ) × (more : List Event)
      × IsContent l (length (n ∷ ns)) c × IsSpace gap × (text ≡ print c (60 ∷ 47 ∷ (n ++ (gap ++ 62 ∷ rest))))
      × (out ≡ events c (close ∷ more)) × After ns rest more

  abbrev pub RestContent : Place → List ℕ → List Event → Type 0
  RestContent before text out = Body l text out
  RestContent (within ns) text out = After ns text out

  -- the end of a tag
  abbrev pub Ends : Place → List ℕ → List Pair → List ℕ → List Event → Type 0
  Ends p n xs text out =
      ((rest : List ℕ) × (more : List Event) × (text ≡ 62 ∷ rest) × (out ≡ begin n xs ∷ more) × After (n ∷ stack p) rest more)
      ⊎ ((rest : List ℕ) × (more : List Event) × (text ≡ 47 ∷ 62 ∷ rest) × (out ≡ begin n xs ∷ close ∷ more) × After (stack p) rest more)

  -- after a name or a value in a tag
  abbrev pub RestTag : Place → List ℕ → List Pair → List ℕ → List Event → Type 0
  RestTag p n xs text out =
      (ys : List Attr) × (gap : List ℕ) × (k : List ℕ) × IsAttrs l xs ys × IsSpace gap
      × (text ≡ print_attrs ys (gap ++ k)) × Ends p n (xs ++ map attr_of ys) k out

  -- after the white space in a tag
  abbrev pub Bare : Place → List ℕ → List Pair → List ℕ → List Event → Type 0
  Bare p n xs text out =
      Ends p n xs text out
      ⊎ ((a : Attr) × (k : List ℕ) × IsAttr l xs a × (text ≡ print_named a k) × RestTag p n (xs ++ attr_of a ∷ []) k out)

  abbrev pub InTag : Place → List ℕ → List Pair → List ℕ → List Event → Type 0
  InTag p n xs text out = (sp : List ℕ) × (k : List ℕ) × IsSpace sp × (text ≡ sp ++ k) × Bare p n xs k out

  abbrev pub InValue : Place → List ℕ → List Pair → List ℕ → Quote → List ℕ → Bool → List ℕ → List Event → Type 0
  InValue p n xs x q v r text out =
      (ps : List Piece) × (k : List ℕ) × IsValue q ps × (text ≡ print_value ps (quote_char q ∷ k))
      × RestTag p n (xs ++ (x, v ++ value_of r ps) ∷ []) k out

  abbrev pub BeforeAttributeValue : Place → List ℕ → List Pair → List ℕ → List ℕ → List Event → Type 0
  BeforeAttributeValue p n xs x text out =
      (right : List ℕ) × (q : Quote) × (k : List ℕ) × IsSpace right × (text ≡ right ++ quote_char q ∷ k) × InValue p n xs x q [] false k out

  abbrev pub AfterAttributeName : Place → List ℕ → List Pair → List ℕ → List ℕ → List Event → Type 0
  AfterAttributeName p n xs x text out =
      (left : List ℕ) × (k : List ℕ) × IsSpace left × (text ≡ left ++ 61 ∷ k) × BeforeAttributeValue p n xs x k out

  abbrev pub InAttributeName : Place → List ℕ → List Pair → List ℕ → List ℕ → List Event → Type 0
  InAttributeName p n xs x text out =
      (rest : List ℕ) × (k : List ℕ) × AllOf names rest × (text ≡ rest ++ k) × (clashes l xs (x ++ rest) ≡ false) × AfterAttributeName p n xs (x ++ rest) k out

  abbrev pub InName : Place → List ℕ → List ℕ → List Event → Type 0
  InName p n text out =
      (rest : List ℕ) × (k : List ℕ) × AllOf names rest × (text ≡ rest ++ k) × RestTag p (n ++ rest) [] k out

  abbrev pub InEndTagName : List (List ℕ) → List ℕ → List ℕ → List Event → Type 0
  InEndTagName ns todo text out =
      (gap : List ℕ) × (rest : List ℕ) × (more : List Event) × IsSpace gap × (text ≡ todo ++ (gap ++ 62 ∷ rest))
      × (out ≡ close ∷ more) × After ns rest more

  abbrev pub InComment : Place → List ℕ → List Event → Type 0
  InComment p text out = (t : List ℕ) × (k : List ℕ) × IsComment t × (text ≡ t ++ 45 ∷ 45 ∷ 62 ∷ k) × RestContent p k out

  -- in the text of an instruction
  abbrev pub InInstruction : Place → List ℕ → List Event → Type 0
  InInstruction p text out =
      (t : List ℕ) × (k : List ℕ) × IsFree (63 ∷ 62 ∷ []) t × (text ≡ t ++ 63 ∷ 62 ∷ k) × RestContent p k out

  -- after the target of an instruction
  abbrev pub AfterTarget : Place → List ℕ → List Event → Type 0
  AfterTarget p text out =
      ((k : List ℕ) × (text ≡ 63 ∷ 62 ∷ k) × RestContent p k out)
      ⊎ ((c : ℕ) × (k : List ℕ) × (class c ≡ Blank) × (text ≡ c ∷ k) × InInstruction p k out)

  -- in the target of an instruction
  abbrev pub InTarget : Place → List ℕ → List ℕ → List Event → Type 0
  InTarget p n text out =
      (rest : List ℕ) × (k : List ℕ) × AllOf names rest × (text ≡ rest ++ k) × (is_xml (n ++ rest) ≡ false) × AfterTarget p k out

  abbrev pub InSection : List ℕ → List (List ℕ) → List ℕ → List Event → Type 0
  InSection n ns text out =
      (t : List ℕ) × (k : List ℕ) × IsSection t × (text ≡ t ++ 93 ∷ 93 ∷ 62 ∷ k) × After (n ∷ ns) k out

  -- after a reference
  abbrev pub AfterReference : Hole → ℕ → List ℕ → List Event → Type 0
  AfterReference (in_text n ns) code text out = After (n ∷ ns) text out
  AfterReference (in_value p n xs x q v) code text out = InValue p n xs x q (v ++ code ∷ []) false text out

  -- from a reference on
  abbrev pub RestHole : Hole → List ℕ → List Event → Type 0
  RestHole h text out = (r : Reference) × (k : List ℕ) × IsReference r × (text ≡ 38 ∷ print_reference r k) × AfterReference h (code_of r) k out

  abbrev pub InReferenceDigits : Hole → Base → ℕ → List ℕ → List Event → Type 0
  InReferenceDigits h base n text out =
      (ds : List ℕ) × (k : List ℕ) × AllNumerals base ds × (is_char (with_digits base n ds) ≡ true) × (text ≡ ds ++ 59 ∷ k)
      × AfterReference h (with_digits base n ds) k out

  -- ---- the declaration

  -- the end of the declaration
  abbrev pub BeforeDeclarationEnd : List ℕ → List Event → Type 0
  BeforeDeclarationEnd text out = (gap : List ℕ) × (k : List ℕ) × IsSpace gap × (text ≡ gap ++ 63 ∷ 62 ∷ k) × Body l k out

  abbrev pub WithStandalone : List ℕ → List Event → Type 0
  WithStandalone text out =
      (s : Option Setting) × (k : List ℕ) × IsMaybe standalone s × (text ≡ print_maybe standalone s k) × BeforeDeclarationEnd k out

  -- after a part
  abbrev pub AfterSetting : Part → List ℕ → List Event → Type 0
  AfterSetting version text out =
      (s : Option Setting) × (k : List ℕ) × IsMaybe encoding s × (text ≡ print_maybe encoding s k) × WithStandalone k out
  AfterSetting encoding text out = WithStandalone text out
  AfterSetting standalone text out = BeforeDeclarationEnd text out

  -- in the value of a part, where the characters to come read so
  abbrev pub InSettingValue : Part → Quote → List ℕ → List ℕ → List Event → Type 0
  InSettingValue part q todo text out =
      (v : List ℕ) × (k : List ℕ) × (map (fold_for part) v ≡ map (fold_for part) todo) × (text ≡ v ++ quote_char q ∷ k) × AfterSetting part k out

  -- after the quote that opens the value
  abbrev pub AtSettingValue : Part → Quote → List ℕ → List Event → Type 0
  AtSettingValue part q text out =
      (v : List ℕ) × (k : List ℕ) × IsSettingValue part (map (fold_for part) v) × (text ≡ v ++ quote_char q ∷ k) × AfterSetting part k out

  abbrev pub BeforeSettingValue : Part → List ℕ → List Event → Type 0
  BeforeSettingValue part text out =
      (right : List ℕ) × (q : Quote) × (k : List ℕ) × IsSpace right × (text ≡ right ++ quote_char q ∷ k) × AtSettingValue part q k out

  abbrev pub AfterSettingName : Part → List ℕ → List Event → Type 0
  AfterSettingName part text out =
      (left : List ℕ) × (k : List ℕ) × IsSpace left × (text ≡ left ++ 61 ∷ k) × BeforeSettingValue part k out

  -- a part from its word on
  abbrev pub InSettingName : Part → List ℕ → List ℕ → List Event → Type 0
  InSettingName part todo text out = (k : List ℕ) × (text ≡ todo ++ k) × AfterSettingName part k out

  -- after white space before a part
  abbrev pub Next : Part → List ℕ → List Event → Type 0
  Next part text out = (sp : List ℕ) × (k : List ℕ) × IsSpace sp × (text ≡ sp ++ k) × InSettingName part (word part) k out

  -- after white space after a part
  abbrev pub BetweenSettings : Part → List ℕ → List Event → Type 0
  BetweenSettings version text out = Next encoding text out ⊎ (Next standalone text out ⊎ BeforeDeclarationEnd text out)
  BetweenSettings encoding text out = Next standalone text out ⊎ BeforeDeclarationEnd text out
  BetweenSettings standalone text out = BeforeDeclarationEnd text out

  abbrev pub Rest : State → List ℕ → List Event → Type 0
  Rest start text out = Document l text out
  Rest after_byte_order_mark text out = Unmarked l text out
  Rest document_tag_open text out = Unmarked l (60 ∷ text) out
  Rest document_processing_instruction text out = Unmarked l (60 ∷ 63 ∷ text) out
  Rest (document_instruction_target n) text out = InTarget before n text out ⊎ ((rest : List ℕ) × (b : ℕ) × (k : List ℕ) × (n ++ rest ≡ 120 ∷ 109 ∷ 108 ∷ []) × (text ≡ rest ++ b ∷ k) × (class b ≡ Blank) × Next version k out)
  Rest before_version text out = Next version text out
  Rest (after_setting part) text out = AfterSetting part text out
  Rest (between_settings part) text out = BetweenSettings part text out
  Rest (setting_name part t todo) text out = InSettingName part (t ∷ todo) text out
  Rest (after_setting_name part) text out = AfterSettingName part text out
  Rest (before_setting_value part) text out = BeforeSettingValue part text out
  Rest (standalone_value q) text out = AtSettingValue standalone q text out
  Rest (setting_value part q t todo) text out = InSettingValue part q (t ∷ todo) text out
  Rest (setting_value_end part q) text out = InSettingValue part q [] text out
  Rest declaration_end text out = (k : List ℕ) × (text ≡ 62 ∷ k) × Body l k out
  Rest (content p) text out = RestContent p text out
  Rest (tag_open p) text out = RestContent p (60 ∷ text) out
  Rest (markup_declaration p) text out = RestContent p (60 ∷ 33 ∷ text) out
  Rest (comment_start p) text out = RestContent p (60 ∷ 33 ∷ 45 ∷ text) out
  Rest (comment p) text out = InComment p text out
  Rest (comment_dash p) text out = InComment p (45 ∷ text) out
  Rest (comment_end p) text out = InComment p (45 ∷ 45 ∷ text) out
  Rest (processing_instruction p) text out = RestContent p (60 ∷ 63 ∷ text) out
  Rest (instruction_target p n) text out = InTarget p n text out
  Rest (instruction_target_end p) text out = (k : List ℕ) × (text ≡ 62 ∷ k) × RestContent p k out
  Rest (instruction_text p) text out = InInstruction p text out
  Rest (instruction_end p) text out = InInstruction p (63 ∷ text) out
  Rest (cdata_start n ns t todo) text out = (k : List ℕ) × (text ≡ t ∷ (todo ++ k)) × InSection n ns k out
  Rest (cdata_section n ns) text out = InSection n ns text out
  Rest (cdata_section_bracket n ns) text out = InSection n ns (93 ∷ text) out
  Rest (cdata_section_end n ns) text out = InSection n ns (93 ∷ 93 ∷ text) out
  Rest (tag_name p n) text out = InName p n text out
  Rest (before_attribute_name p n xs) text out = InTag p n xs text out
  Rest (attribute_name p n xs x) text out = InAttributeName p n xs x text out
  Rest (after_attribute_name p n xs x) text out = AfterAttributeName p n xs x text out
  Rest (before_attribute_value p n xs x) text out = BeforeAttributeValue p n xs x text out
  Rest (attribute_value p n xs x q v r) text out = InValue p n xs x q v r text out
  Rest (after_attribute_value p n xs) text out = RestTag p n xs text out
  Rest (self_closing_start_tag p n xs) text out = Ends p n xs (47 ∷ text) out
  Rest (end_tag_name ns todo) text out = InEndTagName ns todo text out
  Rest (after_end_tag_name ns) text out = InEndTagName ns [] text out
  Rest (reference h) text out = RestHole h (38 ∷ text) out
  Rest (reference_a h) text out = RestHole h (38 ∷ 97 ∷ text) out
  Rest (named_reference h code t todo) text out = (k : List ℕ) × (text ≡ t ∷ (todo ++ k)) × AfterReference h code k out
  Rest (numeric_reference h) text out = RestHole h (38 ∷ 35 ∷ text) out
  Rest (hexadecimal_reference h) text out = RestHole h (38 ∷ 35 ∷ 120 ∷ text) out
  Rest (reference_digits h base n) text out = InReferenceDigits h base n text out
