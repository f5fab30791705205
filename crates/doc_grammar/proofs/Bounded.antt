-- No name and no value of a document is longer than the document: what a reference names has at most four bytes in UTF-8, and the reference has at least four; any other character of a value is one of the text, or a space in its place.
use Rattle.std.proofs.Common.{ℕ, ◌+◌, ◌≤◌, Bool, true, false, if◌then◌else◌, List, [], ◌∷◌, ◌++◌, length, map, Option, Some, None, inl, inr, sym, ap, subst, arith}
use Rattle.std.proofs.lemmas.List.Elements.{All-nil, All-cons, All-append, All-head, All-tail, All-map}
use Rattle.std.specs.Prelude.{All}
use Rattle.std.specs.Str.{encode_utf8_all}
use Rattle.doc_grammar.specs.Grammar.{strict, quote_char, Piece, print_value, value_of, Attr, print_attr, print_attrs, attr_of, Pair, Tag, print_tag, Content, done, char, reference, comment, instruction, section, empty, element, print, Event, Body, Unmarked, Document}
use Rattle.doc_grammar.specs.Nodes.{is_prefixed, local_name, is_kept, kept_if, kept, Node, nodes_of, Denotes, tag_node, count, nodes_under}
use Rattle.doc_grammar.specs.Laws.{PairWithin, NodeWithin}
use Rattle.doc_grammar.proofs.Built.{ordered}
use Rattle.doc_grammar.proofs.Sizes.{size, size_cons, size_append, Takes, past_char, past, past_reference, value_size, past_end, past_comment, past_instruction, past_section, past_declaration}

whole : (text : List ℕ) → Takes (size text) text
whole text = record { bytes = omega arith }

prefix : (x text : List ℕ) → Takes (size x) (x ++ text)
prefix x text = record { bytes = omega (arith, size_append x text) }

at_most : {k n : ℕ} {text : List ℕ} → Takes k text → size text ≤ n → k ≤ n
at_most h le = omega (arith, h.bytes, le)

-- ---- references and values

value_takes : (ps : List Piece) (text : List ℕ) → Takes (size (value_of false ps)) (print_value ps text)
value_takes ps text = record { bytes = omega (arith, value_size false ps text) }

past_value : (ps : List Piece) {n : ℕ} {text : List ℕ} → Takes n text → Takes n (print_value ps text)
past_value ps {n} {text} h = record { bytes = omega (arith, value_size false ps text, h.bytes) }

-- ---- tags

past_attr : (a : Attr) {n : ℕ} {text : List ℕ} → Takes n text → Takes n (print_attr a text)
past_attr a h =
    past_char a.first (past a.before (past a.name (past a.left (past_char 61 (past a.right (past_char (quote_char a.quote) (past_value a.value (past_char (quote_char a.quote) h))))))))

past_attrs : (xs : List Attr) {n : ℕ} {text : List ℕ} → Takes n text → Takes n (print_attrs xs text)
past_attrs [] h = h
past_attrs (a ∷ xs) h = past_attr a (past_attrs xs h)

past_tag : (t : Tag) {n : ℕ} {text : List ℕ} → Takes n text → Takes n (print_tag t text)
past_tag t h = past t.name (past_attrs t.attrs (past t.gap h))

-- characters whose bytes are at most so many
abbrev TextsWithin : ℕ → Pair → Type 0
TextsWithin most p = (size p.0 ≤ most) × (size p.1 ≤ most)

attr_within : (most : ℕ) (a : Attr) (text : List ℕ) → size (print_attr a text) ≤ most → TextsWithin most (attr_of a)
attr_within most a text h =
    let name : Takes (size a.name) (print_attr a text) = past_char a.first (past a.before (prefix a.name _)) in
    let value : Takes (size (value_of false a.value)) (print_attr a text) =
    past_char a.first (past a.before (past a.name (past a.left (past_char 61 (past a.right (past_char (quote_char a.quote) (value_takes a.value _))))))) in
    (at_most name h, at_most value h)

attrs_within : (most : ℕ) (xs : List Attr) (text : List ℕ) → size (print_attrs xs text) ≤ most → All (λ a. TextsWithin most (attr_of a)) xs
attrs_within most [] text h = All-nil (λ a. TextsWithin most (attr_of a))
attrs_within most (a ∷ xs) text h =
    let rest : Takes (size (print_attrs xs text)) (print_attrs (a ∷ xs) text) = past_attr a (whole (print_attrs xs text)) in
    All-cons (λ a. TextsWithin most (attr_of a)) a xs (attr_within most a (print_attrs xs text) h) (attrs_within most xs text (at_most rest h))

local_cases : (prefixed : Bool) (c : ℕ) (name : List ℕ) → size (local_name name) ≤ size name → size (if prefixed then local_name name else c ∷ name) ≤ size (c ∷ name)
local_cases true c name h = omega (arith, h, size_cons c name)
local_cases false c name h = omega arith

local_size : (name : List ℕ) → size (local_name name) ≤ size name
local_size [] = omega arith
local_size (c ∷ name) = local_cases (is_prefixed (c ∷ name)) c name (local_size name)

kept_cases : (most : ℕ) (keep : Bool) (p : Pair) (ps : List Pair) → TextsWithin most p → All (PairWithin most) ps → All (PairWithin most) (kept_if keep p ps)
kept_cases most true p ps h k = All-cons (PairWithin most) (encode_utf8_all p.0, encode_utf8_all p.1) ps h k
kept_cases most false p ps h k = k

kept_within : (most : ℕ) (ps : List Pair) → All (TextsWithin most) ps → All (PairWithin most) (kept ps)
kept_within most [] h = All-nil (PairWithin most)
kept_within most (p ∷ ps) h =
    kept_cases most (is_kept p.0) p (kept ps) (All-head (TextsWithin most) p ps h) (kept_within most ps (All-tail (TextsWithin most) p ps h))

tag_within : (most : ℕ) (t : Tag) (text : List ℕ) (parent : Option ℕ) → size (print_tag t text) ≤ most → NodeWithin most (tag_node t parent)
tag_within most t text parent h =
    let name = at_most (prefix t.name (print_attrs t.attrs (t.gap ++ text))) h in
    let attrs = past t.name (whole (print_attrs t.attrs (t.gap ++ text))) in
    (omega (arith, local_size t.name, name), kept_within most (map attr_of t.attrs) (All-map (TextsWithin most) attr_of t.attrs (attrs_within most t.attrs (t.gap ++ text) (at_most attrs h))))

-- ---- content

past_content : (c : Content) {n : ℕ} {text : List ℕ} → Takes n text → Takes n (print c text)
past_content done h = h
past_content (char b c) h = past_char b (past_content c h)
past_content (reference r c) h = past_reference r (past_content c h)
past_content (comment t c) h = past_comment t (past_content c h)
past_content (instruction target t c) h = past_instruction target t (past_content c h)
past_content (section t c) h = past_section t (past_content c h)
past_content (empty t c) h = past_char 60 (past_tag t (past_char 47 (past_char 62 (past_content c h))))
past_content (element t kids gap c) h =
    past_char 60 (past_tag t (past_char 62 (past_content kids (past_end t gap (past_content c h)))))

under_within : (most : ℕ) (c : Content) (text : List ℕ) (parent : Option ℕ) (n : ℕ) → size (print c text) ≤ most → All (NodeWithin most) (nodes_under c parent n)
under_within most done text parent n h = All-nil (NodeWithin most)
under_within most (char b c) text parent n h = under_within most c text parent n (at_most (past_char b (whole (print c text))) h)
under_within most (reference r c) text parent n h =
    under_within most c text parent n (at_most (past_reference r (whole (print c text))) h)
under_within most (comment t c) text parent n h =
    under_within most c text parent n (at_most (past_comment t (whole (print c text))) h)
under_within most (instruction target t c) text parent n h =
    under_within most c text parent n (at_most (past_instruction target t (whole (print c text))) h)
under_within most (section t c) text parent n h =
    under_within most c text parent n (at_most (past_section t (whole (print c text))) h)
under_within most (empty t c) text parent n h =
    let after = 47 ∷ 62 ∷ print c text in
    let tag = at_most (past_char 60 (whole (print_tag t after))) h in
    let rest = at_most (past_char 60 (past_tag t (past_char 47 (past_char 62 (whole (print c text)))))) h in
    All-cons (NodeWithin most) (tag_node t parent) (nodes_under c parent (n + 1)) (tag_within most t after parent tag) (under_within most c text parent (n + 1) rest)
under_within most (element t kids gap c) text parent n h =
    let closing = 60 ∷ 47 ∷ (t.name ++ (gap ++ 62 ∷ print c text)) in
    let after = 62 ∷ print kids closing in
    let tag = at_most (past_char 60 (whole (print_tag t after))) h in
    let inside = at_most (past_char 60 (past_tag t (past_char 62 (whole (print kids closing))))) h in
    let rest = at_most (past_char 60 (past_tag t (past_char 62 (past_content kids (past_end t gap (whole (print c text))))))) h in
    let below = nodes_under kids (Some n) (n + 1) in
    let others = nodes_under c parent (n + 1 + count kids) in
    All-cons (NodeWithin most) (tag_node t parent) (below ++ others) (tag_within most t after parent tag) (All-append (NodeWithin most) below others (under_within most kids closing (Some n) (n + 1) inside) (under_within most c text parent (n + 1 + count kids) rest))

-- ---- documents

body_within : (most : ℕ) (text : List ℕ) (tree : List Event) → Body strict text tree → size text ≤ most → All (NodeWithin most) (nodes_of tree)
body_within most text tree (c, h, e, f) le =
    let nodes = under_within most c [] None 0 (subst (λ y. size y ≤ most) e le) in
    subst (λ y. All (NodeWithin most) (nodes_of y)) (sym f) (subst (All (NodeWithin most)) (sym (ordered c)) nodes)

unmarked_within : (most : ℕ) (text : List ℕ) (tree : List Event) → Unmarked strict text tree → size text ≤ most → All (NodeWithin most) (nodes_of tree)
unmarked_within most text tree (inl b) le = body_within most text tree b le
unmarked_within most text tree (inr (d, rest, h, e, b)) le =
    body_within most rest tree b (at_most (past_declaration d (whole rest)) (subst (λ y. size y ≤ most) e le))

document_within : (most : ℕ) (text : List ℕ) (tree : List Event) → Document strict text tree → size text ≤ most → All (NodeWithin most) (nodes_of tree)
document_within most text tree (inl u) le = unmarked_within most text tree u le
document_within most text tree (inr (rest, e, u)) le =
    unmarked_within most rest tree u (at_most (past_char 65279 (whole rest)) (subst (λ y. size y ≤ most) e le))

pub bounded : (bytes : List ℕ) (nodes : List Node) → Denotes bytes nodes → All (NodeWithin (length bytes)) nodes
bounded bytes nodes (tree, (text, e, d), f) =
    subst (All (NodeWithin (length bytes))) (sym f) (document_within (length bytes) text tree d (omega (arith, ap length e)))
